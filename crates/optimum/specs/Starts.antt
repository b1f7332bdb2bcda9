-- The smallest start, and the flags of a set read from a start: their number, their places, and which of two comes first.
use Rattle.std.specs.Prelude.{◌≡◌, refl, Bool, true, false, cond, List, [], ◌∷◌, ◌⊎◌, ℕ, zero, suc, ◌+◌, ◌-◌, ◌≤◌, ◌<◌}
use Rattle.std.proofs.Common.{sym, ◌∙◌, inl, inr, arith, add-suc, suc-add, add-zero, zero-add, ap, not}
use borrow.Author.Tests.{not-true, not-false}
use Rattle.rules.specs.declared.Wheel.{Wheel}
use Rattle.rules.specs.Sets.{has, places, Below}
use Rattle.rules.specs.Wheels.{chosen, size, full, start, words}
use Rattle.rules.specs.Best.{smallest_start, Before, here, later}
use Rattle.laws.specs.Logic.{le_or_lt}
use Rattle.laws.specs.Search.{all_each}
use Rattle.laws.specs.Counting.{stretch_stops, stretch_end, stretch_each}
use Rattle.laws.specs.Sets.{same_set, below_not}
use Rattle.laws.specs.Turns.{chosen_turn, chosen_below, distance, distance_below, distance_same}
use Rattle.laws.specs.Reading.{flags, count}
use Rattle.laws.specs.Runs.{size_read}
use Rattle.laws.specs.Whole.{some_start}
use Rattle.line.specs.Values.{First, end, both}
use Rattle.line.specs.Values as line

-- ---- the smallest start

module _ (N x : ℕ) where
  pub before_smallest : (i : ℕ) → i < smallest_start N x → start N x i ≡ false
  unfolding smallest_start
  before_smallest i h = not-true (start N x i) (ap (λ j. not (start N x j)) (sym (zero-add i)) ∙ stretch_each (λ j. not (start N x j)) N 0 i h)

  smallest_is : (i : ℕ) → i < N → start N x i ≡ true → (start N x (smallest_start N x) ≡ true) × (smallest_start N x < N)
  unfolding smallest_start
  smallest_is i h e =
      let low = stretch_stops (λ j. not (start N x j)) i 0 N (ap (λ j. not (start N x j)) (zero-add i) ∙ ap not e) in
      let stop = stretch_end (λ j. not (start N x j)) N 0 (omega arith) in
      (ap (start N x) (sym (zero-add _)) ∙ not-false (start N x _) stop, omega arith)

-- a set that delivers words and is not the full wheel has one
pub has_smallest : (w : Wheel) (x : ℕ) → full w.n x ≡ false → 1 ≤ words w x
    → (start w.n x (smallest_start w.n x) ≡ true) × (smallest_start w.n x < w.n)
has_smallest w x e h = let (s, l, q) = some_start w x e h in smallest_is w.n x s l q

-- ---- flags at a distance from a start

flags_shift : (f : ℕ → Bool) (s d m : ℕ) → flags f (s + d) m ≡ flags (λ i. f (s + i)) d m
unfolding flags
flags_shift f s d zero = refl
flags_shift f s d (suc m) = ap (λ v. f (s + d) ∷ v) (ap (λ i. flags f i m) (sym (add-suc s d)) ∙ flags_shift f s (suc d) m)

-- the flags of the set x, by their distance from slot s
abbrev pub from : ℕ → ℕ → ℕ → List Bool
from N x s = flags (λ d. chosen N x (s + d)) 0 N

pub from_flags : (N x s : ℕ) → flags (chosen N x) s N ≡ from N x s
from_flags N x s = ap (λ i. flags (chosen N x) i N) (sym (add-zero s)) ∙ flags_shift (chosen N x) s 0 N

pub size_from_start : (N x s : ℕ) → size N x ≡ count (from N x s)
size_from_start N x s = size_read N x s ∙ ap count (from_flags N x s)

-- ---- how many slots there are

count_most : (f : ℕ → Bool) (i m : ℕ) → count (flags f i m) ≤ m
unfolding flags count
count_most f i zero = omega arith
count_most f i (suc m) = go (f i) (count_most f (suc i) m)
  where
    go : (b : Bool) → count (flags f (suc i) m) ≤ m → count (b ∷ flags f (suc i) m) ≤ suc m
    go true h = omega arith
    go false h = omega arith

-- fewer than all flags are set where one is not
count_less : (f : ℕ → Bool) (m i d : ℕ) → d < m → f (i + d) ≡ false → count (flags f i m) < m
unfolding flags count
count_less f zero i d h e = absurd (omega arith)
count_less f (suc m) i zero h e = rw (ap f (sym (add-zero i)) ∙ e) (omega (arith, count_most f (suc i) m))
count_less f (suc m) i (suc d) h e = go (f i) (count_less f m (suc i) d (omega arith) (ap f (suc-add i d ∙ sym (add-suc i d)) ∙ e))
  where
    go : (b : Bool) → count (flags f (suc i) m) < m → count (b ∷ flags f (suc i) m) < suc m
    go true h = omega arith
    go false h = omega arith

count_all : (f : ℕ → Bool) (m i : ℕ) → ((d : ℕ) → d < m → f (i + d) ≡ true) → count (flags f i m) ≡ m
unfolding flags count
count_all f zero i a = refl
count_all f (suc m) i a =
    rw (ap f (sym (add-zero i)) ∙ a 0 (omega arith))
    (ap suc (count_all f m (suc i) (λ d h. ap f (suc-add i d ∙ sym (add-suc i d)) ∙ a (suc d) (omega arith))))

module _ (N x : ℕ) where
  pub size_full : full N x ≡ true → size N x ≡ N
  unfolding full
  size_full e = size_read N x 0 ∙ count_all (chosen N x) N 0 (λ d h. ap (chosen N x) (zero-add d) ∙ all_each (chosen N x) N d h e)

  pub size_less : (s : ℕ) → 1 ≤ N → chosen N x (s + (N - 1)) ≡ false → size N x < N
  size_less s n1 e =
      rw (size_from_start N x s)
      (count_less (λ d. chosen N x (s + d)) N 0 (N - 1) (omega arith) (ap (λ n. chosen N x (s + n)) (zero-add (N - 1)) ∙ e))

-- ---- two sets whose flags from one slot are the same are the same

flags_each : (f g : ℕ → Bool) (m i : ℕ) → flags f i m ≡ flags g i m → (d : ℕ) → d < m → f (i + d) ≡ g (i + d)
unfolding flags
flags_each f g zero i e d h = absurd (omega arith)
flags_each f g (suc m) i e zero h = rw (add-zero i) (cc)
flags_each f g (suc m) i e (suc d) h =
    let tails : flags f (suc i) m ≡ flags g (suc i) m = cc in
    rw (add-suc i d, ← suc-add i d) (flags_each f g m (suc i) tails d (omega arith))

pub same_from : (N x y s : ℕ) → 1 ≤ N → Below N x → Below N y → from N x s ≡ from N y s → x ≡ y
same_from N x y s n1 bx by e = same_set x y λ i. go i (le_or_lt N i)
  where
    at : (i : ℕ) → chosen N x (s + distance N s i) ≡ chosen N y (s + distance N s i)
    at i =
        rw (← zero-add (distance N s i))
        (flags_each (λ d. chosen N x (s + d)) (λ d. chosen N y (s + d)) N 0 e (distance N s i) (distance_below N s i n1))

    go : (i : ℕ) → (N ≤ i) ⊎ (i < N) → has x i ≡ has y i
    go i (inl h) = below_not x N bx i h ∙ sym (below_not y N by i h)
    go i (inr h) =
        sym (chosen_below N x i h) ∙ sym (distance_same (chosen N x) N (chosen_turn N x) n1 s i) ∙ at i
        ∙ distance_same (chosen N y) N (chosen_turn N y) n1 s i ∙ chosen_below N y i h

-- ---- of two choices, the first has the distances that come first

-- the places of the flags that are set, the first at d
unfoldable spots : ℕ → List Bool → List ℕ
spots d [] = []
spots d (true ∷ xs) = d ∷ spots (suc d) xs
spots d (false ∷ xs) = spots (suc d) xs

places_read : (f : ℕ → Bool) (i m : ℕ) → places f i m ≡ spots i (flags f i m)
unfolding places spots flags
places_read f i zero = refl
places_read f i (suc m) = go (f i) (places_read f (suc i) m)
  where
    go : (b : Bool) → places f (suc i) m ≡ spots (suc i) (flags f (suc i) m)
        → cond b (i ∷ places f (suc i) m) (places f (suc i) m) ≡ spots i (b ∷ flags f (suc i) m)
    go true e = ap (λ l. i ∷ l) e
    go false e = e

spots_later : (d e : ℕ) (us : List ℕ) (ys : List Bool) → 1 ≤ count ys → d < e → Before (d ∷ us) (spots e ys)
unfolding count spots
spots_later d e us [] h k = absurd (omega arith)
spots_later d e us (true ∷ ys) h k = here k
spots_later d e us (false ∷ ys) h k = spots_later d (suc e) us ys h (omega arith)

first_spots : {xs ys : List Bool} (d : ℕ) → First xs ys → count xs ≡ count ys → (xs ≡ ys) ⊎ Before (spots d xs) (spots d ys)
unfolding count spots
first_spots d end e = inl refl
first_spots d (both {x = x} {xs = xs} {ys = ys} p) e = go x e (first_spots (suc d) p (same x e))
  where
    same : (o : Bool) → count (o ∷ xs) ≡ count (o ∷ ys) → count xs ≡ count ys
    same true c = omega arith
    same false c = c

    go : (o : Bool) → count (o ∷ xs) ≡ count (o ∷ ys) → (xs ≡ ys) ⊎ Before (spots (suc d) xs) (spots (suc d) ys)
        → (o ∷ xs ≡ o ∷ ys) ⊎ Before (spots d (o ∷ xs)) (spots d (o ∷ ys))
    go true c (inl q) = inl (ap (λ l. true ∷ l) q)
    go true c (inr q) = inr (later q)
    go false c (inl q) = inl (ap (λ l. false ∷ l) q)
    go false c (inr q) = inr q
first_spots d (line.here {xs = xs} {ys = ys}) e = inr (spots_later d (suc d) (spots (suc d) xs) ys (omega arith) (omega arith))

pub first_before : (f g : ℕ → Bool) (m : ℕ) → First (flags f 0 m) (flags g 0 m) → count (flags f 0 m) ≡ count (flags g 0 m)
    → (flags f 0 m ≡ flags g 0 m) ⊎ Before (places f 0 m) (places g 0 m)
first_before f g m p e = rw (places_read f 0 m, places_read g 0 m) (first_spots 0 p e)
