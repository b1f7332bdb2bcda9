-- The gap rule of a set, read from one of its slots: no gap exceeds L if and only if the flags after that slot are a choice
-- of the linear problem, the gap over the wrap included.
use Rattle.std.specs.Prelude.{◌≡◌, Bool, List, ◌∷◌, ◌⊎◌}
use Rattle.std.proofs.Common.{sym, ◌∙◌, subst, ⊎_elim, arith, add-suc, eq-or-lt_of_le, refl, ap, true, false, not, inl, inr, ℕ, zero, suc, ◌+◌, ◌-◌, ◌≤◌, ◌<◌}
use Rattle.rules.specs.Sets.{stretch}
use Rattle.rules.specs.Wheels.{chosen, gap}
use Rattle.laws.specs.Logic.{not_both}
use Rattle.laws.specs.Counting.{stretch_yes, stretch_no, stretch_fuel}
use Rattle.laws.specs.Turns.{chosen_turn}
use Rattle.laws.specs.Reading.{flags}
use Rattle.line.specs.Values.{Pick, done, take, skip}

-- a choice, taken apart
pick_parts : (L g : ℕ) (f x : Bool) (fs xs : List Bool) → Pick L g (f ∷ fs) (x ∷ xs)
    → ((x ≡ true) × (f ≡ true) × Pick L 1 fs xs) ⊎ ((x ≡ false) × (g < L) × Pick L (suc g) fs xs)
pick_parts L g f x fs xs (take p) = inl (refl, refl, p)
pick_parts L g f x fs xs (skip h p) = inr (refl, h, p)

-- slot i is not chosen
abbrev pub clear : ℕ → ℕ → ℕ → Bool
clear N x i = not (chosen N x i)

module _ (N x L s : ℕ) (f : ℕ → Bool) (at : chosen N x s ≡ true) where
  -- the slot at distance d from s is chosen
  abbrev pub far : ℕ → Bool
  far d = chosen N x (s + d)

  gap_far : (d m : ℕ) → suc d + m ≡ N → gap N x (s + d) ≡ suc (stretch (clear N x) (s + suc d) m)
  unfolding gap
  gap_far d m e =
      let closed : chosen N x (s + suc d + m) ≡ true = ap (chosen N x) (omega arith) ∙ chosen_turn N x s ∙ at in
      ap suc (ap (λ i. stretch (clear N x) i (N - 1)) (sym (add-suc s d)) ∙ stretch_fuel (clear N x) m (s + suc d) (N - 1) (ap not closed) (omega arith))

  -- m positions from d on, the last chosen slot being g back
  pub pick_of : ((i : ℕ) → chosen N x i ≡ true → gap N x i ≤ L) → ((d : ℕ) → d < N → far d ≡ true → f d ≡ true)
      → (m d g : ℕ) → d + m ≡ N → g + stretch (clear N x) (s + d) m ≤ L → Pick L g (flags f d m) (flags far d m)
  unfolding flags
  pick_of near sub zero d g e h = done {g = g} (omega arith)
  pick_of near sub (suc m) d g e h =
      go (far d) (f d) refl refl (λ q. pick_of near sub m (suc d) 1 (omega arith) q) (λ q. pick_of near sub m (suc d) (suc g) (omega arith) q)
    where
      go : (c o : Bool) → far d ≡ c → f d ≡ o
          → (1 + stretch (clear N x) (s + suc d) m ≤ L → Pick L 1 (flags f (suc d) m) (flags far (suc d) m))
          → (suc g + stretch (clear N x) (s + suc d) m ≤ L → Pick L (suc g) (flags f (suc d) m) (flags far (suc d) m))
          → Pick L g (o ∷ flags f (suc d) m) (c ∷ flags far (suc d) m)
      go true true cd fd a b = take {g = g} (a (omega (arith, near (s + d) cd, gap_far d m (omega arith))))
      go true false cd fd a b = absurd (not_both (sub d (omega arith) cd) fd)
      go false o cd fd a b =
          let q : g + suc (stretch (clear N x) (s + suc d) m) ≤ L = rw (add-suc s d, ← stretch_yes (clear N x) (s + d) m (ap not cd)) h in
          skip {g = g} (omega arith) (b (omega arith))

  -- the next chosen slot is near, and every slot from d on that is chosen is open and has its next one near
  pub record Near (d g m : ℕ) : Type 0 where
    pub first : g + stretch (clear N x) (s + d) m ≤ L
    pub rest : (e : ℕ) → d ≤ e → e < N → far e ≡ true → (gap N x (s + e) ≤ L) × (f e ≡ true)

  near_step : (m d g : ℕ) → d + suc m ≡ N → g ≤ L
      → ((far d ≡ true) × (f d ≡ true) × Near (suc d) 1 m) ⊎ ((far d ≡ false) × Near (suc d) (suc g) m) → Near d g (suc m)
  near_step m d g e h (inl z) =
      record {
        first = omega (arith, stretch_no (clear N x) (s + d) (suc m) (ap not z.0));
        rest = λ i a b c. go i b c (eq-or-lt_of_le a);
      }
    where
      go : (i : ℕ) → i < N → far i ≡ true → (d ≡ i) ⊎ (d < i) → (gap N x (s + i) ≤ L) × (f i ≡ true)
      go i b c (inl q) = subst (λ n. (gap N x (s + n) ≤ L) × (f n ≡ true)) q (omega (arith, z.2.first, gap_far d m (omega arith)), z.1)
      go i b c (inr q) = z.2.rest i q b c
  near_step m d g e h (inr z) =
      record {
        first =
            omega (
              arith,
              stretch_yes (clear N x) (s + d) m (ap not z.0),
              ap (λ i. stretch (clear N x) i m) (add-suc s d),
              z.1.first,
            );
        rest = λ i a b c. go i b c (eq-or-lt_of_le a);
      }
    where
      go : (i : ℕ) → i < N → far i ≡ true → (d ≡ i) ⊎ (d < i) → (gap N x (s + i) ≤ L) × (f i ≡ true)
      go i b c (inl q) = absurd (not_both c (subst (λ n. far n ≡ false) q z.0))
      go i b c (inr q) = z.1.rest i q b c

  pub near_of : 1 ≤ L → (m d g : ℕ) → d + m ≡ N → g ≤ L → Pick L g (flags f d m) (flags far d m) → Near d g m
  unfolding flags stretch
  near_of l1 zero d g e h p = record { first = omega arith; rest = λ i a b c. absurd (omega arith) }
  near_of l1 (suc m) d g e h p =
      near_step m d g e h
      (⊎_elim
      (λ z. inl (z.0, z.1, near_of l1 m (suc d) 1 (omega arith) l1 z.2))
      (λ z. inr (z.0, near_of l1 m (suc d) (suc g) (omega arith) z.1 z.2))
      (pick_parts L g (f d) (far d) (flags f (suc d) m) (flags far (suc d) m) p))
