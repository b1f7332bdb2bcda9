-- How C is told an answer: a number, 0 for a yes, and the values of a yes in the array that C lent; a no leaves the array.
use Rattle.std.specs.Prelude.{◌≡◌, List, [], ◌∷◌, ℕ, Result, Ok, Err}
use Rattle.rules.specs.declared.Totals.{Totals}
use Rattle.rules.specs.declared.Grant.{Grant}
use Rattle.rules.specs.declared.Refusal.{Refusal}
use Rattle.rules.specs.Numbers.{number}

-- the values of a yes, or a refusal: the number k is returned, and the array is v before and v' after
abbrev pub Told : Result (List ℕ) Refusal → ℕ → List ℕ → List ℕ → Type 0
Told (Ok xs) k v v' = (k ≡ 0) × (v' ≡ xs)
Told (Err q) k v v' = (k ≡ number q) × (v' ≡ v)

-- ---- the values of each answer

-- slots, their number, words
abbrev pub of_granted : Result Grant Refusal → Result (List ℕ) Refusal
of_granted (Ok g) = Ok (g.slots ∷ g.count ∷ g.words.0 ∷ [])
of_granted (Err q) = Err q

-- how many cells were cleared
abbrev pub of_cleared : Result ℕ Refusal → Result (List ℕ) Refusal
of_cleared (Ok k) = Ok (k ∷ [])
of_cleared (Err q) = Err q

-- free, held
abbrev pub of_reported : Result Totals Refusal → Result (List ℕ) Refusal
of_reported (Ok c) = Ok (c.free ∷ c.held ∷ [])
of_reported (Err q) = Err q

-- ---- a call: the answer that was promised is told

pub record Answered {A : Type 0} (Promised : A → Type 0) (said : A → Result (List ℕ) Refusal) (k : ℕ) (v v' : List ℕ) : Type 0 where
  pub answer : A
  pub promised : Promised answer
  pub told : Told (said answer) k v v'
