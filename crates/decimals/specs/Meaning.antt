-- What the functions that read numbers promise.
use Rattle.std.specs.Prelude.{◌≡◌, Option, MatchOption, List, ◌++◌, ℕ, ◌≤◌, ◌<◌, length}
use Rattle.std.specs.Borrow.{Bor}
use Rattle.grammar.specs.Text.{decimal, fields}
use Rattle.grammar.specs.Commands.{Few}
use Rattle.grammar.specs.Decimals.{leading}

-- the text begins with a number up to 65535, and no digit follows it
pub record NumberAt (text : List ℕ) (v : ℕ) (rest : List ℕ) : Type 0 where
  pub small : v ≤ 65535
  pub on : length rest < length text
  pub split : text ≡ decimal v ++ rest
  pub stop : leading rest ≡ 10

-- it begins with no number up to 65535
pub record NoNumber (text : List ℕ) : Type 0 where
  pub none : (n : ℕ) (rest : List ℕ) → n ≤ 65535 → leading rest ≡ 10 → text ≡ decimal n ++ rest → ⊥

abbrev pub Numbered : List ℕ → Option (ℕ × Bor (List ℕ)) → Type 0
Numbered text r = MatchOption r (NoNumber text) (λ n. NumberAt text n.0 n.1.now)

-- the text is nothing but fields, at most 19
pub record FieldsAt (text numbers : List ℕ) : Type 0 where
  pub most : length numbers ≤ 19
  pub few : Few numbers
  pub spelled : text ≡ fields numbers

-- it is something else
pub record NoFields (text : List ℕ) : Type 0 where
  pub none : (ns : List ℕ) → Few ns → length ns ≤ 19 → text ≡ fields ns → ⊥

abbrev pub Split : List ℕ → Option (Bor (List ℕ)) → Type 0
Split text r = MatchOption r (NoFields text) (λ ns. FieldsAt text ns.now)
