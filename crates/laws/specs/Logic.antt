-- Small facts about tests and orders that every other file needs.
use Rattle.std.specs.Prelude.{◌≡◌, refl, Bool, true, false, ◌&&◌, ◌⊎◌, ℕ, ◌≤◌, ◌<◌}
use Rattle.std.proofs.Common.{sym, ◌∙◌, true≢false, inl, inr, arith}
use Rattle.std.proofs.Math.Decide.{dec_le}
use Rattle.rules.specs.Tells.{Tells}

pub not_both : {r : Bool} → r ≡ true → r ≡ false → ⊥
not_both p q = true≢false (sym p ∙ q)

pub tells_yes : {P : Type 0} → P → Tells true P
tells_yes p = record { yes = λ _. p; no = λ q _. not_both refl q }

pub tells_no : {P : Type 0} → ¬ P → Tells false P
tells_no p = record { yes = λ q. absurd (not_both q refl); no = λ _. p }

-- two tests of one fact say the same
pub tells_unique : {P : Type 0} (a b : Bool) → Tells a P → Tells b P → a ≡ b
tells_unique true true p q = refl
tells_unique true false p q = absurd (q.no refl (p.yes refl))
tells_unique false true p q = absurd (p.no refl (q.yes refl))
tells_unique false false p q = refl

-- a test that is not true is false
pub not_true_false : (b : Bool) → ¬ (b ≡ true) → b ≡ false
not_true_false true h = absurd (h refl)
not_true_false false h = refl

-- and one that is not false is true
pub not_false_true : (b : Bool) → ¬ (b ≡ false) → b ≡ true
not_false_true true h = refl
not_false_true false h = absurd (h refl)

-- a conjunction, taken apart
pub and_true : (a b : Bool) → (a && b) ≡ true → (a ≡ true) × (b ≡ true)
and_true true b e = (refl, e)
and_true false b e = absurd (not_both e refl)

pub le_or_lt : (m n : ℕ) → (m ≤ n) ⊎ (n < m)
le_or_lt m n = go (dec_le m n)
  where
    go : Dec (m ≤ n) → (m ≤ n) ⊎ (n < m)
    go (yes h) = inl h
    go (no h) = inr (omega arith)
