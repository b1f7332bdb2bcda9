-- The forms of a line: a line is a command if it is spelled exactly so, and bad if it spells none.
use Rattle.std.specs.Prelude.{◌≡◌, List, ◌∷◌, ◌++◌, ℕ, ◌≤◌, ◌<◌, length, get_or}
use Rattle.grammar.specs.Text.{ascii, field, fields}

-- `open f W D c ..`, `close f`, `report`
pub data Command : Type 0 where
  opening : (f W D : ℕ) (channels : List ℕ) → Command
  closing : (f : ℕ) → Command
  reporting : Command

-- "one space between fields, decimals .. without leading zeros"
unfoldable pub spelled : Command → List ℕ
spelled (opening f W D channels) = ascii "open" ++ fields (f ∷ W ∷ D ∷ channels)
spelled (closing f) = ascii "close" ++ field f
spelled reporting = ascii "report"

-- "decimals up to 65535", "0 to 16 channels"
pub record Few (numbers : List ℕ) : Type 0 where
  pub small : (i : ℕ) → i < length numbers → get_or numbers i 0 ≤ 65535

unfoldable pub Formed : Command → Type 0
Formed (opening f W D channels) = Few (f ∷ W ∷ D ∷ channels) × (length channels ≤ 16)
Formed (closing f) = f ≤ 65535
Formed reporting = Unit {0}

-- the line is a command
pub record Reads (line : List ℕ) (c : Command) : Type 0 where
  pub formed : Formed c
  pub spelled : line ≡ spelled c

-- the line is none
pub record Bad (line : List ℕ) : Type 0 where
  pub none : (c : Command) → ¬ Reads line c
