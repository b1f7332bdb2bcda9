-- The four lines with which every call begins, one behind the other.
use Rattle.std.specs.Prelude.{Option, None, Some}
use Rattle.std.specs.Option.{ok_or}
use Rattle.std.proofs.Common.{◌≡◌, ◌⊎◌, inl, inr, false, is_some, List, ℕ, ◌≤◌, ◌<◌, refl, arith}
use Rattle.rules.specs.declared.Refusal.TheVariants.{Disagree}
use Rattle.rules.specs.Wheels.{Legal}
use Rattle.rules.specs.Paths.{Chip}
use Rattle.rules.specs.Numbers.{Line, Passes}
use Rattle.rules.specs.Orders.{Tabled, Listed, checked}
use Rattle.laws.specs.Logic.{not_both}
use Rattle.laws.specs.Refusals.{before, first, more, none_before}
use Rattle.decide.specs.Decisions.{Gates}

abbrev pub order : Chip → List ℕ → ℕ → Option ℕ → List Line
order chip t n held = checked chip t n (is_some held ≡ false)

-- the lines passed before each number
module _ (chip : Chip) (t : List ℕ) (n : ℕ) (held : Option ℕ) (legal : Legal chip.wheel) where
  pub p2 : Passes (before (order chip t n held) 2)
  p2 = more (order chip t n held) 1 none_before (λ no. no legal)

  pub p3 : Tabled chip.channels t → Passes (before (order chip t n held) 3)
  p3 tabled = more (order chip t n held) 2 p2 (λ no. no tabled)

  pub p4 : Tabled chip.channels t → Listed n → Passes (before (order chip t n held) 4)
  p4 tabled listed = more (order chip t n held) 3 (p3 tabled) (λ no. no listed)

-- the last of the four hands on what is held
pub held_told : (chip : Chip) (t : List ℕ) (n : ℕ) (held : Option ℕ) → Passes (before (order chip t n held) 4) → Gates chip t n held (ok_or held Disagree)
unfolding Gates
held_told chip t n None p = first (order chip t n None) 4 p refl
held_told chip t n (Some k) p = (more (order chip t n (Some k)) 4 p (λ e. not_both refl e), refl)

-- a number that is not from 1 to m is 0 or above m
pub outside : {k m : ℕ} → (k < 1) ⊎ (1 ≤ k × m < k) → (k ≡ 0) ⊎ (m < k)
outside (inl below) = inl (omega (arith, below))
outside (inr above) = inr above.1
