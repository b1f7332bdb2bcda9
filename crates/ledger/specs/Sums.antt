-- Sums over the places below m: place by place, part by part, in another order, and how often a place is hit.
use Rattle.std.specs.Prelude.{◌≡◌, refl, Bool, true, false, ◌||◌, cond, ◌⊎◌, ℕ, zero, suc, ◌+◌, ◌-◌, ◌*◌, ◌≤◌, ◌<◌, eqb}
use Rattle.std.proofs.Common.{sym, ap, ◌∙◌, inl, inr, arith, add-suc, add-zero, eq-or-lt_of_le, mul-suc, mul-zero, add-one, eqb-true, ne_eqb}
use Rattle.std.proofs.lemmas.Bool.{eqb-false}
use Rattle.rules.specs.Sets.{any, sum}
use Rattle.laws.specs.Logic.{not_both, not_true_false}
use Rattle.laws.specs.Search.{any_no}
use Rattle.laws.specs.Counting.{sum_more}

-- 1 for yes, 0 for no
abbrev pub bit : Bool → ℕ
bit b = cond b 1 0

none : (f : ℕ → ℕ) → sum f 0 0 ≡ 0
unfolding sum
none f = refl

one_more : (f : ℕ → ℕ) (m : ℕ) → sum f 0 (suc m) ≡ sum f 0 m + f m
one_more f m = rw (← add-one m) (sum_more f m)

-- ---- place by place

pub sum_each : (f g : ℕ → ℕ) (m : ℕ) → ((i : ℕ) → i < m → f i ≡ g i) → sum f 0 m ≡ sum g 0 m
sum_each f g zero h = none f ∙ sym (none g)
sum_each f g (suc m) h = omega (arith, one_more f m, one_more g m, sum_each f g m (λ i l. h i (omega arith)), h m (omega arith))

pub sum_le : (f g : ℕ → ℕ) (m : ℕ) → ((i : ℕ) → i < m → f i ≤ g i) → sum f 0 m ≤ sum g 0 m
sum_le f g zero h = omega (arith, none f)
sum_le f g (suc m) h = omega (arith, one_more f m, one_more g m, sum_le f g m (λ i l. h i (omega arith)), h m (omega arith))

-- no part is larger and the sums are the same: so is each part
pub sum_tight : (f g : ℕ → ℕ) (m : ℕ) → ((i : ℕ) → i < m → f i ≤ g i) → sum f 0 m ≡ sum g 0 m → (i : ℕ) → i < m → f i ≡ g i
sum_tight f g zero h e i l = absurd (omega arith)
sum_tight f g (suc m) h e i l = go (eq-or-lt_of_le l) (sum_tight f g m below)
  where
    below : (i : ℕ) → i < m → f i ≤ g i
    below i l = h i (omega arith)

    go : (suc i ≡ suc m) ⊎ (suc i < suc m) → (sum f 0 m ≡ sum g 0 m → (i : ℕ) → i < m → f i ≡ g i) → f i ≡ g i
    go (inl s) ih =
        let at : i ≡ m = omega arith in
        rw at (omega (arith, e, one_more f m, one_more g m, sum_le f g m below, h m (omega arith)))
    go (inr s) ih = ih (omega (arith, e, one_more f m, one_more g m, sum_le f g m below, h m (omega arith))) i (omega arith)

pub sum_const : (a m : ℕ) → sum (λ i. a) 0 m ≡ a * m
sum_const a zero = omega (arith, none (λ i. a), mul-zero a)
sum_const a (suc m) = omega (arith, one_more (λ i. a) m, sum_const a m, mul-suc a m)

pub sum_zero : (f : ℕ → ℕ) (m : ℕ) → ((i : ℕ) → i < m → f i ≡ 0) → sum f 0 m ≡ 0
sum_zero f m h = sum_each f (λ i. 0) m h ∙ omega (arith, sum_const 0 m)

-- ---- part by part

pub sum_join : (f : ℕ → ℕ) (a b : ℕ) → sum f 0 (a + b) ≡ sum f 0 a + sum (λ i. f (a + i)) 0 b
sum_join f a zero = rw (add-zero a) (omega (arith, none (λ i. f (a + i))))
sum_join f a (suc b) =
    rw (add-suc a b) (omega (arith, one_more f (a + b), one_more (λ i. f (a + i)) b, sum_join f a b))

-- what is 0 from a on need not be added
pub sum_cut : (f : ℕ → ℕ) (a m : ℕ) → a ≤ m → ((i : ℕ) → a ≤ i → f i ≡ 0) → sum f 0 m ≡ sum f 0 a
sum_cut f a m h zeros =
    let e : m ≡ a + (m - a) = omega arith in
    rw e (omega (arith, sum_join f a (m - a), sum_zero (λ i. f (a + i)) (m - a) (λ i l. zeros (a + i) (omega arith))))

-- rows of 64
pub sum_rows : (f : ℕ → ℕ) (m : ℕ) → sum f 0 (64 * m) ≡ sum (λ c. sum (λ j. f (64 * c + j)) 0 64) 0 m
sum_rows f zero = none f ∙ sym (none _)
sum_rows f (suc m) =
    let e : 64 * suc m ≡ 64 * m + 64 = omega arith in
    ap (sum f 0) e
    ∙ sum_join f (64 * m) 64
    ∙ ap (λ a. a + sum (λ j. f (64 * m + j)) 0 64) (sum_rows f m)
    ∙ sym (one_more (λ c. sum (λ j. f (64 * c + j)) 0 64) m)

-- ---- in another order

pub sum_add : (f g : ℕ → ℕ) (m : ℕ) → sum (λ i. f i + g i) 0 m ≡ sum f 0 m + sum g 0 m
sum_add f g zero = omega (arith, none (λ i. f i + g i), none f, none g)
sum_add f g (suc m) = omega (arith, one_more (λ i. f i + g i) m, one_more f m, one_more g m, sum_add f g m)

pub sum_swap : (h : ℕ → ℕ → ℕ) (m n : ℕ) → sum (λ i. sum (h i) 0 n) 0 m ≡ sum (λ j. sum (λ i. h i j) 0 m) 0 n
sum_swap h zero n = none _ ∙ sym (sum_zero _ n (λ j l. none _))
sum_swap h (suc m) n =
    one_more (λ i. sum (h i) 0 n) m
    ∙ ap (λ a. a + sum (h m) 0 n) (sum_swap h m n)
    ∙ sym (sum_add (λ j. sum (λ i. h i j) 0 m) (h m) n)
    ∙ sum_each _ _ n (λ j l. sym (one_more (λ i. h i j) m))

-- ---- how often a place is hit

-- a value below m is hit once
pub sum_hit : (v m a : ℕ) → v < m → sum (λ i. cond (eqb v i) a 0) 0 m ≡ a
sum_hit v zero a h = absurd (omega arith)
sum_hit v (suc m) a h = go (eqb v m) refl (λ l. sum_hit v m a l)
  where
    go : (b : Bool) → eqb v m ≡ b → (v < m → sum (λ i. cond (eqb v i) a 0) 0 m ≡ a) → sum (λ i. cond (eqb v i) a 0) 0 (suc m) ≡ a
    go true e ih =
        let s : v ≡ m = eqb-true v m e in
        let before = sum_zero (λ i. cond (eqb v i) a 0) m (λ i l. ap (λ b. cond b a 0) (ne_eqb v i (λ (q : v ≡ i). omega arith))) in
        omega (arith, one_more (λ i. cond (eqb v i) a 0) m, before, ap (λ b. cond b a 0) e)
    go false e ih =
        let s : ¬ (v ≡ m) = eqb-false v m e in
        omega (arith, one_more (λ i. cond (eqb v i) a 0) m, ih (omega arith), ap (λ b. cond b a 0) e)

-- f holds at no two places below m
pub record Lone (f : ℕ → Bool) (m : ℕ) : Type 0 where
  pub same : (i k : ℕ) → i < k → k < m → f i ≡ true → f k ≡ true → ⊥

-- then it holds at one place or at none
pub any_sum : (f : ℕ → Bool) (m : ℕ) → Lone f m → bit (any f m) ≡ sum (λ i. bit (f i)) 0 m
unfolding any
any_sum f zero lone = sym (none _)
any_sum f (suc m) lone =
    go (any f m) (f m) refl refl (any_sum f m (record { same = λ i k h g. lone.same i k h (omega arith) }))
    ∙ sym (one_more (λ i. bit (f i)) m)
  where
    go : (b d : Bool) → any f m ≡ b → f m ≡ d → bit b ≡ sum (λ i. bit (f i)) 0 m → bit (b || d) ≡ sum (λ i. bit (f i)) 0 m + bit d
    go true true p q e =
        absurd (not_both p (any_no f m λ i h. not_true_false (f i) (λ o. lone.same i m h (omega arith) o q)))
    go true false p q e = omega (arith, e)
    go false true p q e = omega (arith, e)
    go false false p q e = omega (arith, e)
