-- What C is told, case by case, and the row by whether it has a cell.
use Rattle.std.specs.Prelude.{◌≡◌, refl, List, [], ◌∷◌, ◌⊎◌, ℕ, ◌*◌, ◌≤◌, ◌<◌, length, drop, Result, Ok, Err}
use Rattle.std.proofs.Common.{ap, subst, ◌∙◌, inr, arith, length-drop, length-take-le}
use Rattle.std.proofs.Math.Logic.{inl}
use Rattle.rules.specs.declared.Wheel.{Wheel}
use Rattle.rules.specs.declared.Totals.{Totals}
use Rattle.rules.specs.declared.Refusal.{Refusal}
use Rattle.rules.specs.Paths.{chip_of}
use Rattle.rules.specs.Numbers.{number}
use Rattle.rules.specs.Promises.{Reports, HasRow, Row}
use Rattle.laws.specs.Logic.{le_or_lt}
use Rattle.bytes_calls.specs.OverBytes.{ReportsBytes}
use Rattle.face.specs.Calls.{Agreeing, Rowing}

-- ---- agreement

module _ (w : Wheel) (t b : List ℕ) (a : Result Totals Refusal) (reports : ReportsBytes (chip_of w t) t b a) where
  pub agree_yes : (c : Totals) → a ≡ Ok c → Agreeing w t b 0
  unfolding Agreeing Reports
  agree_yes c e = inl (refl, (subst (ReportsBytes (chip_of w t) t b) e reports).0)

  pub agree_no : (q : Refusal) (k : ℕ) → a ≡ Err q → k ≡ number q → Agreeing w t b k
  unfolding Agreeing Reports
  agree_no q k e same = rw same (inr (subst (ReportsBytes (chip_of w t) t b) e reports))

-- ---- the row

module _ (w : Wheel) (t : List ℕ) (c : ℕ) (part : List ℕ) (told : Row (chip_of w t) t c part) (k : ℕ) (k-is : k ≡ length part) where
  row_long : HasRow (chip_of w t) t c → k ≡ w.n
  row_long a =
      k-is ∙ ap length (told.good a)
      ∙ length-take-le w.n (drop (64 * c) t) (omega (arith, length-drop (64 * c) t, a.tabled.long, a.inside, a.legal.n64))

  row_some : ¬ (k ≡ 0) → ¬ (¬ HasRow (chip_of w t) t c)
  row_some some never = some (k-is ∙ ap length (told.bad never))

  pub row_none : k ≡ 0 → (v : List ℕ) → Rowing w t c 1 v v
  row_none e v = record { good = λ a. absurd (omega (arith, row_long a, a.legal.n1)); bad = λ _. (refl, refl) }

  pub row_inside : ¬ (k ≡ 0) → c < 64
  row_inside some = go (le_or_lt 64 c)
    where
      go : (64 ≤ c) ⊎ (c < 64) → c < 64
      go (inl l) = absurd (row_some some (λ a. omega (arith, a.inside, a.tabled.c64)))
      go (inr l) = l

  pub row_there : ¬ (k ≡ 0) → (v : List ℕ) → Rowing w t c 0 v (64 * c ∷ k ∷ [])
  row_there some v =
      record { good = λ a. (refl, ap (λ x. 64 * c ∷ x ∷ []) (row_long a)); bad = λ never. absurd (row_some some never) }
