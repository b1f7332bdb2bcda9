-- Rule 3: the gap after a slot is the distance to the next chosen one, it is at most N, and it is the
-- same from whichever slot the wheel is read.
use Rattle.std.specs.Prelude.{◌≡◌, Bool}
use Rattle.std.proofs.Math.Path.{refl, ap}
use Rattle.std.proofs.Common.{◌∙◌, subst, zero-add}
use Rattle.std.proofs.Math.Bool.{true, false, not, cond}
use Prim.Native.Nat.{ℕ, suc, ◌+◌, ◌-◌, ◌≤◌, ◌<◌}
use native.Mathlib.Omega.{arith}
use Rattle.rules.specs.Sets.{stretch}
use Rattle.rules.specs.Wheels.{chosen, gap, gap_at, largest_gap}
use Rattle.laws.specs.Search.{most_le, most_above}
use Rattle.laws.specs.Counting.{stretch_yes, stretch_le, stretch_fuel}
use Rattle.laws.specs.Turns.{chosen_turn, gap_turn, distance, distance_below, distance_same}

module _ (N x : ℕ) where
  -- slot i is not chosen
  abbrev clear : ℕ → Bool
  clear i = not (chosen N x i)

  pub gap_most : 1 ≤ N → (i : ℕ) → gap N x i ≤ N
  unfolding gap
  gap_most n1 i = omega (arith, stretch_le clear (N - 1) (suc i))

  -- over a slot that is not chosen the way to the next chosen one is one slot less
  pub gap_over : (i m : ℕ) → suc m < N → chosen N x (suc i) ≡ false → chosen N x (suc (suc i) + m) ≡ true → gap N x i ≡ suc (gap N x (suc i))
  unfolding gap
  gap_over i m h e o =
      let n : suc (N - 2) ≡ N - 1 = omega arith in
      omega (
        arith,
        ap (stretch clear (suc i)) n,
        stretch_yes clear (suc i) (N - 2) (ap not e),
        stretch_fuel clear m (suc (suc i)) (N - 2) (ap not o) (omega arith),
        stretch_fuel clear m (suc (suc i)) (N - 1) (ap not o) (omega arith),
      )

  module _ (n1 : 1 ≤ N) (L : ℕ) where
    -- the gap rule for the slots at distances below N from s is the gap rule for all
    pub near_back : (s : ℕ) → ((d : ℕ) → d < N → chosen N x (s + d) ≡ true → gap N x (s + d) ≤ L)
        → (i : ℕ) → chosen N x i ≡ true → gap N x i ≤ L
    near_back s near i o =
        subst (λ g. g ≤ L) (distance_same (gap N x) N (gap_turn N x) n1 s i)
        (near (distance N s i) (distance_below N s i n1) (distance_same (chosen N x) N (chosen_turn N x) n1 s i ∙ o))

    -- and so is the gap rule for the slots below N
    pub near_turn : ((i : ℕ) → i < N → chosen N x i ≡ true → gap N x i ≤ L) → (i : ℕ) → chosen N x i ≡ true → gap N x i ≤ L
    near_turn near = near_back 0 λ d h. rw (zero-add d) (near d h)

  -- rule 5's gaps of at most L, and the largest gap
  module _ (L : ℕ) where
    pub largest_near : largest_gap N x ≤ L → (i : ℕ) → i < N → chosen N x i ≡ true → gap N x i ≤ L
    unfolding largest_gap gap_at
    largest_near h i l o = omega (arith, rw o at (most_above (gap_at N x) N i l))

    pub near_largest : ((i : ℕ) → i < N → chosen N x i ≡ true → gap N x i ≤ L) → largest_gap N x ≤ L
    unfolding largest_gap gap_at
    near_largest near = most_le (gap_at N x) N L λ i l. go i (chosen N x i) (near i l)
      where
        go : (i : ℕ) (b : Bool) → (b ≡ true → gap N x i ≤ L) → cond b (gap N x i) 0 ≤ L
        go i true g = g refl
        go i false g = omega arith
