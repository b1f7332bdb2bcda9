-- Sets of slots as numbers: the bits of a set decide it, and a set whose slots are all below n is a number below 2 ^ n.
use Rattle.std.specs.Prelude.{◌≡◌, refl, Bool, true, false, cond, ◌⊎◌, ℕ, zero, suc, ◌+◌, ◌*◌, ◌/◌, ◌%◌, ◌^◌, ◌≤◌, ◌<◌, eqb}
use Rattle.std.proofs.Common.{sym, ap, ◌∙◌, true≢false, inl, inr, arith, div-one, add-suc, suc-add, add-zero, lt_of_lt_of_le, div-add-mod', mod-lt, one-add, shr-shr, pow_mono, pow_pos}
use Rattle.std.proofs.Math.Nat.{zero-div, div-eq_of_lt}
use Rattle.rules.specs.Sets.{has, set_of, Below, Within}
use Rattle.laws.specs.Logic.{le_or_lt, not_both, not_true_false}

pub has_zero : (x : ℕ) → has x 0 ≡ eqb (x % 2) 1
unfolding has
has_zero x = rw (div-one x)

pub has_suc : (x i : ℕ) → has x (suc i) ≡ has (x / 2) i
unfolding has
has_suc x i = ap (λ n. eqb (n % 2) 1) (ap (λ k. x / 2 ^ k) (sym (one-add i)) ∙ sym (shr-shr x 1 i))

pub has_none : (i : ℕ) → has 0 i ≡ false
unfolding has
has_none i = rw (zero-div (2 ^ i))

-- ---- the set of the places at which f holds

low_bit : (b : Bool) (y : ℕ) → has (cond b 1 0 + 2 * y) 0 ≡ b
low_bit true y =
    let e : (1 + 2 * y) % 2 ≡ 1 = omega arith in
    has_zero (1 + 2 * y) ∙ rw e
low_bit false y =
    let e : (0 + 2 * y) % 2 ≡ 0 = omega arith in
    has_zero (0 + 2 * y) ∙ rw e

high_bits : (b : Bool) (y j : ℕ) → has (cond b 1 0 + 2 * y) (suc j) ≡ has y j
high_bits true y j =
    let e : (1 + 2 * y) / 2 ≡ y = omega arith in
    has_suc (1 + 2 * y) j ∙ rw e
high_bits false y j =
    let e : (0 + 2 * y) / 2 ≡ y = omega arith in
    has_suc (0 + 2 * y) j ∙ rw e

pub has_set : (f : ℕ → Bool) (m i j : ℕ) → j < m → has (set_of f i m) j ≡ f (i + j)
unfolding set_of
has_set f zero i j h = absurd (omega arith)
has_set f (suc m) i zero h = low_bit (f i) (set_of f (suc i) m) ∙ ap f (sym (add-zero i))
has_set f (suc m) i (suc j) h =
    high_bits (f i) (set_of f (suc i) m) j ∙ has_set f m (suc i) j (omega arith) ∙ ap f (suc-add i j ∙ sym (add-suc i j))

pub has_set_over : (f : ℕ → Bool) (m i j : ℕ) → m ≤ j → has (set_of f i m) j ≡ false
unfolding set_of
has_set_over f zero i j h = has_none j
has_set_over f (suc m) i zero h = absurd (omega arith)
has_set_over f (suc m) i (suc j) h = high_bits (f i) (set_of f (suc i) m) j ∙ has_set_over f m (suc i) j (omega arith)

-- ---- two sets with the same slots are the same number

same_bit : (a b : ℕ) → a < 2 → b < 2 → eqb a 1 ≡ eqb b 1 → a ≡ b
same_bit zero zero h k e = refl
same_bit zero (suc zero) h k e = absurd (true≢false (sym e))
same_bit (suc zero) zero h k e = absurd (true≢false e)
same_bit (suc zero) (suc zero) h k e = refl
same_bit (suc (suc a)) b h k e = absurd (omega arith)
same_bit zero (suc (suc b)) h k e = absurd (omega arith)
same_bit (suc zero) (suc (suc b)) h k e = absurd (omega arith)

same_up_to : (n x y : ℕ) → x ≤ n → y ≤ n → ((i : ℕ) → has x i ≡ has y i) → x ≡ y
same_up_to zero x y h k e = omega arith
same_up_to (suc n) x y h k e =
    omega (
      arith,
      same_up_to n (x / 2) (y / 2) (omega arith) (omega arith) (λ i. sym (has_suc x i) ∙ e (suc i) ∙ has_suc y i),
      same_bit (x % 2) (y % 2) (omega arith) (omega arith) (sym (has_zero x) ∙ e 0 ∙ has_zero y),
    )

pub same_set : (x y : ℕ) → ((i : ℕ) → has x i ≡ has y i) → x ≡ y
same_set x y e = same_up_to (x + y) x y (omega arith) (omega arith) e

-- ---- slots below n

pub below_of : (x n : ℕ) → x < 2 ^ n → Below n x
unfolding has
below_of x n h = record { below = λ i e. go i e (le_or_lt n i) }
  where
    go : (i : ℕ) → eqb (x / 2 ^ i % 2) 1 ≡ true → (n ≤ i) ⊎ (i < n) → i < n
    go i e (inr l) = l
    go i e (inl l) = absurd (true≢false (sym e ∙ ap (λ v. eqb (v % 2) 1) (div-eq_of_lt (lt_of_lt_of_le h (pow_mono l)))))

pub below_not : (x n : ℕ) → Below n x → (i : ℕ) → n ≤ i → has x i ≡ false
below_not x n b i h = not_true_false (has x i) λ e. let l : i < n = b.below i e in omega arith

pub set_below : (f : ℕ → Bool) (i m : ℕ) → Below m (set_of f i m)
set_below f i m = record { below = λ s e. go s e (le_or_lt m s) }
  where
    go : (s : ℕ) → has (set_of f i m) s ≡ true → (m ≤ s) ⊎ (s < m) → s < m
    go s e (inl l) = absurd (not_both e (has_set_over f m i s l))
    go s e (inr l) = l

pub below_shift : (x n : ℕ) → Below n x → x / 2 ^ n ≡ 0
unfolding has
below_shift x n b =
    same_set (x / 2 ^ n) 0 λ i. ap (λ v. eqb (v % 2) 1) (shr-shr x n i) ∙ below_not x n b (n + i) (omega arith) ∙ sym (has_none i)

pub below_small : (x n : ℕ) → x / 2 ^ n ≡ 0 → x < 2 ^ n
below_small x n e = omega (arith, div-add-mod' x (2 ^ n), ap (λ v. v * 2 ^ n) e, mod-lt x (pow_pos n))

pub within_self : (x : ℕ) → Within x x
within_self x = record { among = λ i e. e }

pub within_below : {n free x : ℕ} → Below n free → Within free x → Below n x
within_below b w = record { below = λ i e. b.below i (w.among i e) }
