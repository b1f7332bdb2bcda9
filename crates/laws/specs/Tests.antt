-- The rules of selection as tests that compute: for a small wheel an answer can be checked against every set of slots.
-- Each test comes with the law that a yes gives the fact.
use Rattle.std.specs.Prelude.{◌≡◌, refl, Bool, true, false, not, ◌&&◌, ◌||◌, List, [], ◌∷◌, ◌⊎◌, ℕ, ◌^◌, ◌<◌, eqb, ltb, leb}
use Rattle.std.proofs.Common.{subst, inl, inr, eqb-true, ltb-true, leb-true, le-leb}
use Rattle.rules.specs.declared.Wheel.{Wheel}
use Rattle.rules.specs.Sets.{has, all, Within, Below}
use Rattle.rules.specs.Wheels.{Legal, size, words, largest_gap}
use Rattle.rules.specs.Best.{Meets, smallest_start, distances, Before, here, later, Better, fewer, more, sooner, closer, Best}
use Rattle.laws.specs.Logic.{not_both, and_true}
use Rattle.laws.specs.Search.{all_each, all_yes}
use Rattle.laws.specs.Sets.{below_of, below_small, below_shift, within_below}
use Rattle.laws.specs.Gaps.{near_largest}
use Rattle.laws.specs.Answers.{whole_meets}

or_cases : (a b : Bool) → (a || b) ≡ true → (a ≡ true) ⊎ (b ≡ true)
or_cases true b e = inl refl
or_cases false b e = inr e

-- ---- a legal wheel

unfoldable pub is_legal : Wheel → Bool
is_legal w =
    leb 1 w.n && (leb w.n 64 && (leb 2 w.s.0 && (leb w.s.0 64 && (ltb w.h.0 w.s.0 && (leb 1 w.p && leb w.p 64)))))

pub is_legal_lem : (w : Wheel) → is_legal w ≡ true → Legal w
unfolding is_legal
is_legal_lem w e =
    let a = and_true _ _ e in
    let b = and_true _ _ a.1 in
    let c = and_true _ _ b.1 in
    let d = and_true _ _ c.1 in
    let f = and_true _ _ d.1 in
    let g = and_true _ _ f.1 in
    record {
      n1 = leb-true _ _ a.0;
      n64 = leb-true _ _ b.0;
      s2 = leb-true _ _ c.0;
      s64 = leb-true _ _ d.0;
      h = ltb-true _ _ f.0;
      p1 = leb-true _ _ g.0;
      p64 = leb-true _ _ g.1;
    }

-- ---- among the free slots

-- every slot of x below n is free
unfoldable pub is_within : ℕ → ℕ → ℕ → Bool
is_within n free x = all (λ s. not (has x s) || has free s) n

is_within_lem : (n free x : ℕ) → Below n x → is_within n free x ≡ true → Within free x
unfolding is_within
is_within_lem n free x b e =
    record { among = λ s o. go (has x s) (has free s) o (all_each (λ s. not (has x s) || has free s) n s (b.below s o) e) }
  where
    go : (a f : Bool) → a ≡ true → (not a || f) ≡ true → f ≡ true
    go true f o q = q
    go false f o q = absurd (not_both o refl)

within_is : (n free x : ℕ) → Within free x → is_within n free x ≡ true
unfolding is_within
within_is n free x w = all_yes (λ s. not (has x s) || has free s) n λ s h. go (has x s) (has free s) (w.among s)
  where
    go : (a f : Bool) → (a ≡ true → f ≡ true) → (not a || f) ≡ true
    go true f g = g refl
    go false f g = refl

-- ---- meeting a demand

unfoldable pub is_meeting : Wheel → ℕ → ℕ → ℕ → Bool
is_meeting w W L x = leb W (words w x) && leb (largest_gap w.n x) L

is_meeting_lem : (w : Wheel) → Legal w → (W L x : ℕ) → is_meeting w W L x ≡ true → Meets w W L x
unfolding is_meeting
is_meeting_lem w legal W L x e =
    let a = and_true _ _ e in
    whole_meets w legal x W L (leb-true _ _ a.0) (leb-true _ _ a.1)

meeting_is : (w : Wheel) (W L x : ℕ) → Meets w W L x → is_meeting w W L x ≡ true
unfolding is_meeting
meeting_is w W L x m = rw (le-leb _ _ m.delivers) (le-leb _ _ (near_largest w.n x L m.near))

-- ---- rule 6

unfoldable pub is_before : List ℕ → List ℕ → Bool
is_before [] vs = false
is_before (u ∷ us) [] = false
is_before (u ∷ us) (v ∷ vs) = ltb u v || (eqb u v && is_before us vs)

is_before_lem : (us vs : List ℕ) → is_before us vs ≡ true → Before us vs
unfolding is_before
is_before_lem [] vs e = absurd (not_both e refl)
is_before_lem (u ∷ us) [] e = absurd (not_both e refl)
is_before_lem (u ∷ us) (v ∷ vs) e = go (or_cases _ _ e) (λ q. is_before_lem us vs q)
  where
    go : (ltb u v ≡ true) ⊎ ((eqb u v && is_before us vs) ≡ true) → (is_before us vs ≡ true → Before us vs) → Before (u ∷ us) (v ∷ vs)
    go (inl l) ih = here (ltb-true u v l)
    go (inr q) ih =
        let a = and_true _ _ q in
        subst (λ z. Before (u ∷ us) (z ∷ vs)) (eqb-true u v a.0) (later (ih a.1))

unfoldable pub is_better : Wheel → ℕ → ℕ → Bool
is_better w x y =
    ltb (size w.n x) (size w.n y)
    || (eqb (size w.n x) (size w.n y)
    && (ltb (words w y) (words w x)
    || (eqb (words w x) (words w y)
    && (ltb (smallest_start w.n x) (smallest_start w.n y)
    || (eqb (smallest_start w.n x) (smallest_start w.n y) && is_before (distances w.n x) (distances w.n y))))))

is_better_lem : (w : Wheel) (x y : ℕ) → is_better w x y ≡ true → Better w x y
unfolding is_better
is_better_lem w x y e = by_size (or_cases _ _ e)
  where
    by_start : size w.n x ≡ size w.n y → words w x ≡ words w y
        → (ltb (smallest_start w.n x) (smallest_start w.n y) ≡ true)
        ⊎ ((eqb (smallest_start w.n x) (smallest_start w.n y) && is_before (distances w.n x) (distances w.n y)) ≡ true) → Better w x y
    by_start a b (inl l) = sooner a b (ltb-true _ _ l)
    by_start a b (inr q) = let c = and_true _ _ q in closer a b (eqb-true _ _ c.0) (is_before_lem _ _ c.1)

    by_words : size w.n x ≡ size w.n y
        → (ltb (words w y) (words w x) ≡ true)
        ⊎ ((eqb (words w x) (words w y)
        && (ltb (smallest_start w.n x) (smallest_start w.n y)
        || (eqb (smallest_start w.n x) (smallest_start w.n y) && is_before (distances w.n x) (distances w.n y)))) ≡ true) → Better w x y
    by_words a (inl l) = more a (ltb-true _ _ l)
    by_words a (inr q) = let c = and_true _ _ q in by_start a (eqb-true _ _ c.0) (or_cases _ _ c.1)

    by_size : (ltb (size w.n x) (size w.n y) ≡ true)
        ⊎ ((eqb (size w.n x) (size w.n y)
        && (ltb (words w y) (words w x)
        || (eqb (words w x) (words w y)
        && (ltb (smallest_start w.n x) (smallest_start w.n y)
        || (eqb (smallest_start w.n x) (smallest_start w.n y) && is_before (distances w.n x) (distances w.n y)))))) ≡ true) → Better w x y
    by_size (inl l) = fewer (ltb-true _ _ l)
    by_size (inr q) = let c = and_true _ _ q in by_words (eqb-true _ _ c.0) (or_cases _ _ c.1)

-- the set y is no rival of x: it is not free, misses the demand, is x, or is worse
unfoldable pub is_beaten : Wheel → ℕ → ℕ → ℕ → ℕ → ℕ → Bool
is_beaten w free W L x y = not (is_within w.n free y && is_meeting w W L y) || (eqb x y || is_better w x y)

-- x is the best set, by a look at every set of the wheel
unfoldable pub is_best : Wheel → ℕ → ℕ → ℕ → ℕ → Bool
is_best w free W L x =
    (ltb x (2 ^ w.n) && (is_within w.n free x && is_meeting w W L x)) && all (is_beaten w free W L x) (2 ^ w.n)

pub is_best_lem : (w : Wheel) → Legal w → (free W L x : ℕ) → Below w.n free → is_best w free W L x ≡ true → Best w free W L x
unfolding is_best is_beaten
is_best_lem w legal free W L x fits e =
    let a = and_true _ _ e in
    let b = and_true _ _ a.0 in
    let c = and_true _ _ b.1 in
    record {
      within = is_within_lem w.n free x (below_of x w.n (ltb-true _ _ b.0)) c.0;
      meets = is_meeting_lem w legal W L x c.1;
      best = λ y within meets.
          let small : y < 2 ^ w.n = below_small y w.n (below_shift y w.n (within_below fits within)) in
          beaten y (is_within w.n free y) (is_meeting w W L y) (within_is w.n free y within) (meeting_is w W L y meets)
          (all_each (is_beaten w free W L x) (2 ^ w.n) y small a.1);
    }
  where
    beaten : (y : ℕ) (i m : Bool) → i ≡ true → m ≡ true → (not (i && m) || (eqb x y || is_better w x y)) ≡ true → (x ≡ y) ⊎ Better w x y
    beaten y true true p q e = go (or_cases _ _ e)
      where
        go : (eqb x y ≡ true) ⊎ (is_better w x y ≡ true) → (x ≡ y) ⊎ Better w x y
        go (inl s) = inl (eqb-true x y s)
        go (inr b) = inr (is_better_lem w x y b)
    beaten y true false p q e = absurd (not_both q refl)
    beaten y false m p q e = absurd (not_both p refl)
