-- What a run prints, where the bytes that the reader has left are known: their listing, behind what the writer holds.
use Rattle.std.specs.Prelude.{List, ℕ, Option, IfSome}
use Rattle.std.specs.Io.KnownBytes.{Appends}
use Rattle.grammar.specs.Listing.{Lists}

abbrev pub Printed : Option (List ℕ) → Option (List ℕ) → Option (List ℕ) → Type 0
Printed input old new = IfSome input (λ xs. (out : List ℕ) × Lists xs out × Appends old new out)
