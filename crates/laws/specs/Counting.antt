-- Sums, lists and stretches: one place more, from another place, round a wheel of n places.
use Rattle.std.specs.Prelude.{◌≡◌, Bool, length}
use Rattle.std.proofs.Math.Path.{refl, sym, ap}
use Rattle.std.proofs.Common.{◌∙◌, add-suc, suc-add, add-zero, zero-add, add-one}
use Rattle.std.proofs.Math.Bool.{true, false, cond}
use Prim.Native.Nat.{ℕ, zero, suc, ◌+◌, ◌-◌, ◌≤◌, ◌<◌}
use native.Mathlib.Omega.{arith}
use Rattle.std.proofs.Math.Decide.{dec_le}
use Rattle.rules.specs.Sets.{all, sum, stretch, list_of}
use Rattle.laws.specs.Logic.{not_both}
use Rattle.laws.specs.Search.{all_each, all_yes}

-- ---- sums

pub sum_last : (f : ℕ → ℕ) (i m : ℕ) → sum f i (suc m) ≡ sum f i m + f (i + m)
unfolding sum
sum_last f i zero = rw (add-zero i) (omega arith)
sum_last f i (suc m) = rw (add-suc i m, ← suc-add i m) (omega (arith, sum_last f (suc i) m))

-- one place more, as loops count it
pub sum_more : (f : ℕ → ℕ) (m : ℕ) → sum f 0 (m + 1) ≡ sum f 0 m + f m
sum_more f m = rw add-one (sum_last f 0 m ∙ ap (λ k. sum f 0 m + f k) (zero-add m))

-- a whole turn is the same from every place
pub sum_turn : (f : ℕ → ℕ) (n : ℕ) → ((i : ℕ) → f (i + n) ≡ f i) → (s : ℕ) → sum f s n ≡ sum f 0 n
unfolding sum
sum_turn f n e zero = refl
sum_turn f n e (suc s) = omega (arith, sum_last f s n, e s, sum_turn f n e s)

-- a sum that is not 0 has a part that is not 0
pub sum_some : (f : ℕ → ℕ) (i m : ℕ) → 1 ≤ sum f i m → (d : ℕ) × (d < m) × (1 ≤ f (i + d))
unfolding sum
sum_some f i zero h = absurd (omega arith)
sum_some f i (suc m) h = go (dec_le 1 (f i)) (sum_some f (suc i) m)
  where
    go : Dec (1 ≤ f i) → (1 ≤ sum f (suc i) m → (d : ℕ) × (d < m) × (1 ≤ f (suc i + d))) → (d : ℕ) × (d < suc m) × (1 ≤ f (i + d))
    go (yes l) ih = (0, omega arith, rw (add-zero i) l)
    go (no l) ih = let (d, k, q) = ih (omega arith) in (suc d, omega arith, rw (add-suc i d, ← suc-add i d) q)

-- as many ones at most as there are places
pub ones_most : (f : ℕ → Bool) (m i : ℕ) → sum (λ j. cond (f j) 1 0) i m ≤ m
unfolding sum
ones_most f zero i = omega arith
ones_most f (suc m) i = go (f i) (ones_most f m (suc i))
  where
    go : (b : Bool) → sum (λ j. cond (f j) 1 0) (suc i) m ≤ m → cond b 1 0 + sum (λ j. cond (f j) 1 0) (suc i) m ≤ suc m
    go true h = omega arith
    go false h = omega arith

-- ---- lists

pub list_length : (f : ℕ → ℕ) (m i : ℕ) → length (list_of f i m) ≡ m
unfolding list_of
list_length f zero i = refl
list_length f (suc m) i = ap suc (list_length f m (suc i))

-- ---- stretches

module _ (f : ℕ → Bool) where
  pub stretch_yes : (i m : ℕ) → f i ≡ true → stretch f i (suc m) ≡ suc (stretch f (suc i) m)
  unfolding stretch
  stretch_yes i m e = rw e

  pub stretch_no : (i m : ℕ) → f i ≡ false → stretch f i m ≡ 0
  unfolding stretch
  stretch_no i zero e = refl
  stretch_no i (suc m) e = rw e

  pub stretch_le : (m i : ℕ) → stretch f i m ≤ m
  unfolding stretch
  stretch_le zero i = omega arith
  stretch_le (suc m) i = go (f i) (stretch_le m (suc i))
    where
      go : (b : Bool) → stretch f (suc i) m ≤ m → cond b (suc (stretch f (suc i) m)) 0 ≤ suc m
      go true h = omega arith
      go false h = omega arith

  -- the next place, counted either way
  shifted : (i m : ℕ) (b : Bool) → f (i + suc m) ≡ b → f (suc i + m) ≡ b
  shifted i m b e = ap f (suc-add i m ∙ sym (add-suc i m)) ∙ e

  -- a stretch ends where f does not hold
  pub stretch_stops : (m i n : ℕ) → f (i + m) ≡ false → stretch f i n ≤ m
  unfolding stretch
  stretch_stops m i zero e = omega arith
  stretch_stops zero i (suc n) e = rw (sym (ap f (add-zero i)) ∙ e) (omega arith)
  stretch_stops (suc m) i (suc n) e = go (f i) (stretch_stops m (suc i) n (shifted i m false e))
    where
      go : (b : Bool) → stretch f (suc i) n ≤ m → cond b (suc (stretch f (suc i) n)) 0 ≤ suc m
      go true h = omega arith
      go false h = omega arith

  -- how far one looks makes no difference past such a place
  pub stretch_fuel : (m i n : ℕ) → f (i + m) ≡ false → m ≤ n → stretch f i n ≡ stretch f i m
  unfolding stretch
  stretch_fuel zero i zero e h = refl
  stretch_fuel zero i (suc n) e h = rw (sym (ap f (add-zero i)) ∙ e)
  stretch_fuel (suc m) i zero e h = absurd (omega arith)
  stretch_fuel (suc m) i (suc n) e h =
      ap (λ v. cond (f i) (suc v) 0) (stretch_fuel m (suc i) n (shifted i m false e) (omega arith))

  -- f holds at each place of a stretch
  pub stretch_each : (m i d : ℕ) → d < stretch f i m → f (i + d) ≡ true
  unfolding stretch
  stretch_each zero i d h = absurd (omega arith)
  stretch_each (suc m) i d h = go (f i) refl d h (λ k q. stretch_each m (suc i) k q)
    where
      go : (b : Bool) → f i ≡ b → (d : ℕ) → d < cond b (suc (stretch f (suc i) m)) 0
          → ((k : ℕ) → k < stretch f (suc i) m → f (suc i + k) ≡ true) → f (i + d) ≡ true
      go false o d h ih = absurd (omega arith)
      go true o zero h ih = ap f (add-zero i) ∙ o
      go true o (suc d) h ih = ap f (add-suc i d ∙ sym (suc-add i d)) ∙ ih d (omega arith)

  -- a stretch that is shorter than it could be ends where f does not hold
  pub stretch_end : (m i : ℕ) → stretch f i m < m → f (i + stretch f i m) ≡ false
  unfolding stretch
  stretch_end zero i h = absurd (omega arith)
  stretch_end (suc m) i h = go (f i) refl h (λ q. stretch_end m (suc i) q)
    where
      go : (b : Bool) → f i ≡ b → cond b (suc (stretch f (suc i) m)) 0 < suc m
          → (stretch f (suc i) m < m → f (suc i + stretch f (suc i) m) ≡ false) → f (i + cond b (suc (stretch f (suc i) m)) 0) ≡ false
      go true e q ih = ap f (add-suc i _ ∙ sym (suc-add i _)) ∙ ih (omega arith)
      go false e q ih = ap f (add-zero i) ∙ e

  -- f holds at d places, and then not or no further: that is the stretch
  pub stretch_is : (m i d : ℕ) → d ≤ m → ((k : ℕ) → k < d → f (i + k) ≡ true) → (d < m → f (i + d) ≡ false) → stretch f i m ≡ d
  unfolding stretch
  stretch_is zero i d h a e = omega arith
  stretch_is (suc m) i zero h a e = rw (sym (ap f (add-zero i)) ∙ e (omega arith))
  stretch_is (suc m) i (suc d) h a e =
      rw (sym (ap f (add-zero i)) ∙ a 0 (omega arith))
      (ap suc (stretch_is m (suc i) d (omega arith) (λ k l. shifted i k true (a (suc k) (omega arith))) (λ l. shifted i d false (e (omega arith)))))

  -- a turn makes no difference
  pub stretch_turn : (n : ℕ) → ((i : ℕ) → f (i + n) ≡ f i) → (i m : ℕ) → stretch f (i + n) m ≡ stretch f i m
  unfolding stretch
  stretch_turn n e i zero = refl
  stretch_turn n e i (suc m) = rw (e i) (ap (λ v. cond (f i) (suc v) 0) (ap (λ j. stretch f j m) (sym (suc-add i n)) ∙ stretch_turn n e (suc i) m))

-- A walk along a stretch T: `count` places are behind, and the rest of the stretch begins at place j.
module _ (f : ℕ → Bool) (limit count j T : ℕ) (walked : count + stretch f j (limit - count) ≡ T) where
  pub walk_on : count < limit → f j ≡ true → count + 1 + stretch f (j + 1) (limit - (count + 1)) ≡ T
  walk_on h e =
      let one_less : limit - count ≡ suc (limit - (count + 1)) = omega arith in
      rw (add-one j) (omega (arith, walked, ap (stretch f j) one_less, stretch_yes f j (limit - (count + 1)) e))

  pub walk_stop : f j ≡ false → count ≡ T
  walk_stop e = omega (arith, walked, stretch_no f j (limit - count) e)

  pub walk_end : limit ≤ count → count ≡ T
  walk_end h = omega (arith, walked, stretch_le f (limit - count) j)

-- what holds at more places has the longer stretch
pub stretch_more : (f g : ℕ → Bool) → ((i : ℕ) → f i ≡ true → g i ≡ true) → (m i : ℕ) → stretch f i m ≤ stretch g i m
unfolding stretch
stretch_more f g e zero i = omega arith
stretch_more f g e (suc m) i = go (f i) (g i) (e i) (stretch_more f g e m (suc i))
  where
    go : (a b : Bool) → (a ≡ true → b ≡ true) → stretch f (suc i) m ≤ stretch g (suc i) m
        → cond a (suc (stretch f (suc i) m)) 0 ≤ cond b (suc (stretch g (suc i) m)) 0
    go true true e h = omega arith
    go true false e h = absurd (not_both (e refl) refl)
    go false b e h = omega arith

-- a stretch over all m places
pub stretch_all : (f : ℕ → Bool) (m : ℕ) → stretch f 0 m ≡ m → all f m ≡ true
stretch_all f m e = all_yes f m λ i h. ap f (sym (zero-add i)) ∙ stretch_each f m 0 i (omega arith)

pub all_stretch : (f : ℕ → Bool) (m : ℕ) → all f m ≡ true → stretch f 0 m ≡ m
all_stretch f m e =
    stretch_is f m 0 m (omega arith) (λ k h. ap f (zero-add k) ∙ all_each f m k h e) (λ h. absurd (omega arith))
