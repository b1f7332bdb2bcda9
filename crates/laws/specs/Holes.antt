-- Rule 3 seen from a slot that is not chosen: from there, too, the next chosen slot is near, and it is a start. So a set that
-- keeps the gap rule has a start soon after every slot that it cannot have.
use Rattle.std.specs.Prelude.{◌≡◌, refl, Bool, true, false, ◌⊎◌}
use Rattle.std.proofs.Math.Path.{sym, ap}
use Rattle.std.proofs.Common.{◌∙◌, inl, inr, add-suc, add-zero}
use Rattle.std.proofs.Math.Bool.{not}
use Prim.Native.Nat.{ℕ, zero, suc, ◌+◌, ◌-◌, ◌≤◌, ◌<◌}
use native.Mathlib.Omega.{arith}
use Rattle.std.proofs.lemmas.Bool.{not-true, not-false}
use Rattle.rules.specs.declared.Wheel.{Wheel}
use Rattle.rules.specs.Sets.{stretch}
use Rattle.rules.specs.Wheels.{Legal, chosen, start, gap}
use Rattle.laws.specs.Logic.{not_both, le_or_lt}
use Rattle.laws.specs.Counting.{stretch_each, stretch_end}
use Rattle.laws.specs.Turns.{chosen_turn, gap_turn, start_turn, start_of, distance, distance_below, distance_same}
use Rattle.laws.specs.Gaps.{gap_over, gap_most, near_turn}

module _ (w : Wheel) (legal : Legal w) (y L s : ℕ) (at : chosen w.n y s ≡ true)
    (near : (i : ℕ) → i < w.n → chosen w.n y i ≡ true → gap w.n y i ≤ L) where
  -- a slot that is not chosen is one nearer to the next chosen one than the slot before it
  gap_before : (d : ℕ) → suc d < w.n → chosen w.n y (s + suc d) ≡ false → gap w.n y (s + d) ≡ suc (gap w.n y (s + suc d))
  gap_before d h o =
      let m = w.n - suc (suc d) in
      let e : suc (suc (s + d)) + m ≡ s + w.n = omega arith in
      rw (add-suc s d)
      (gap_over w.n y (s + d) m (omega arith) (rw (add-suc s d) at o) (ap (chosen w.n y) e ∙ chosen_turn w.n y s ∙ at))

  -- from every slot the next chosen one is at most L away
  pub all_near : (d : ℕ) → d < w.n → gap w.n y (s + d) ≤ L
  all_near zero h = near_turn w.n y legal.n1 L near (s + 0) (ap (chosen w.n y) (add-zero s) ∙ at)
  all_near (suc d) h = go (chosen w.n y (s + suc d)) refl (all_near d (omega arith))
    where
      go : (b : Bool) → chosen w.n y (s + suc d) ≡ b → gap w.n y (s + d) ≤ L → gap w.n y (s + suc d) ≤ L
      go true o q = near_turn w.n y legal.n1 L near (s + suc d) o
      go false o q = omega (arith, gap_before d h o)

  module _ (z : ℕ) (hole : chosen w.n y z ≡ false) where
    -- and from one that is not chosen one less, even of a lone slot's N
    gap_after : (suc (gap w.n y z) ≤ L) × (suc (gap w.n y z) ≤ w.n)
    gap_after = go (distance w.n s z) (distance_below w.n s z legal.n1)
        (distance_same (chosen w.n y) w.n (chosen_turn w.n y) legal.n1 s z)
        (distance_same (gap w.n y) w.n (gap_turn w.n y) legal.n1 s z)
      where
        go : (d : ℕ) → d < w.n → chosen w.n y (s + d) ≡ chosen w.n y z → gap w.n y (s + d) ≡ gap w.n y z
            → (suc (gap w.n y z) ≤ L) × (suc (gap w.n y z) ≤ w.n)
        go zero h e g = absurd (not_both (ap (chosen w.n y) (add-zero s) ∙ at) (e ∙ hole))
        go (suc d) h e g =
            let one = gap_before d h (e ∙ hole) in
            (omega (arith, all_near d (omega arith)), omega (arith, gap_most w.n y legal.n1 (s + d)))

    -- how many more slots after z are not chosen
    abbrev more : ℕ
    more = stretch (λ j. not (chosen w.n y j)) (suc z) (w.n - 1)

    last_clear : chosen w.n y (z + more) ≡ false
    last_clear = go more refl
      where
        go : (r : ℕ) → more ≡ r → chosen w.n y (z + r) ≡ false
        go zero e = ap (chosen w.n y) (add-zero z) ∙ hole
        go (suc r) e =
            ap (chosen w.n y) (omega arith)
            ∙ not-true _ (stretch_each (λ j. not (chosen w.n y j)) (w.n - 1) (suc z) r (omega arith))

    start_there : start w.n y (suc z + more) ≡ true
    unfolding gap
    start_there =
        let (Near-by, inside) = gap_after in
        let last : suc z + more + (w.n - 1) ≡ z + more + w.n = omega arith in
        start_of w.n y (suc z + more)
        (not-false _ (stretch_end (λ j. not (chosen w.n y j)) (w.n - 1) (suc z) (omega arith)))
        (ap (chosen w.n y) last ∙ chosen_turn w.n y (z + more) ∙ last_clear)

    pub start_after : z < w.n → (u : ℕ) × (u < w.n) × (u < z + L) × (start w.n y u ≡ true)
    unfolding gap
    start_after h = go (le_or_lt w.n (suc z + more))
      where
        go : (w.n ≤ suc z + more) ⊎ (suc z + more < w.n) → (u : ℕ) × (u < w.n) × (u < z + L) × (start w.n y u ≡ true)
        go (inr l) = (suc z + more, l, omega (arith, gap_after.0), start_there)
        go (inl l) =
            let u = suc z + more - w.n in
            let turn : u + w.n ≡ suc z + more = omega arith in
            (u, omega (arith, gap_after.1), omega (arith, gap_after.0), sym (start_turn w.n y u) ∙ ap (start w.n y) turn ∙ start_there)
