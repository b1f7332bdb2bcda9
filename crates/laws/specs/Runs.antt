-- Rule 2 read in a line: the words of a set are those of its flags, read from any slot after one that
-- is not chosen, and from any slot at all of the full wheel. A run gains slot by slot what the flags
-- gain, so by induction the sum over the starts and the reading of the flags go on together.
use Rattle.std.specs.Prelude.{◌≡◌, Bool, ◌&&◌, List, ◌∷◌}
use Rattle.std.proofs.Math.Path.{refl, sym, ap}
use Rattle.std.proofs.Common.{◌∙◌, subst, arith}
use Rattle.std.proofs.Math.Bool.{true, false, not, cond}
use Prim.Native.Nat.{ℕ, zero, suc, ◌+◌, ◌-◌, ◌*◌, ◌/◌, ◌%◌, ◌≤◌, ◌<◌}
use Rattle.std.proofs.Math.Nat.{add-suc, suc-add, add-zero, zero-add, zero-mod, suc-mod, mod-lt, div-add-mod', mul-le-mul, mul-le-mul_left, mul-le-mul_right}
use Rattle.std.proofs.Math.Arith.{digits_div}
use Rattle.rules.specs.declared.Wheel.{Wheel}
use Rattle.rules.specs.Sets.{sum, stretch}
use Rattle.rules.specs.Wheels.{Legal, chosen, size, full, start, run, ceil, run_words, words_at, words}
use Rattle.laws.specs.Search.{all_each, all_no, all_find}
use Rattle.laws.specs.Counting.{stretch_yes, stretch_no, stretch_fuel}
use Rattle.laws.specs.Turns.{chosen_turn, chosen_mod, size_from, runs_from}
use Rattle.laws.specs.Reading.{flags, count, count_flags, gain, next, line_words}

-- the words of flags of a wheel, the first at phase r
abbrev pub line : Wheel → ℕ → List Bool → ℕ
line w r xs = line_words w.s.0 w.h.0 w.p r xs

-- the number of chosen slots, read from anywhere
pub size_read : (N x s : ℕ) → size N x ≡ count (flags (chosen N x) s N)
size_read N x s = size_from N x s ∙ sym (count_flags (chosen N x) s N)

-- ---- the full wheel, and where another can be cut

module _ (N x : ℕ) (n1 : 1 ≤ N) where
  pub full_each : full N x ≡ true → (i : ℕ) → chosen N x i ≡ true
  unfolding full
  full_each e i = sym (chosen_mod N x i) ∙ all_each (chosen N x) N (i % N) (mod-lt i n1) e

  pub not_full : (s : ℕ) → chosen N x s ≡ false → full N x ≡ false
  unfolding full
  not_full s e = all_no (chosen N x) N (s % N) (mod-lt s n1) (chosen_mod N x s ∙ e)

  before_suc : (i : ℕ) → chosen N x (suc i + (N - 1)) ≡ chosen N x i
  before_suc i =
      let e : suc i + (N - 1) ≡ i + N = omega arith in
      ap (chosen N x) e ∙ chosen_turn N x i

  -- a slot after one that is not chosen
  pub cut : full N x ≡ false → (s : ℕ) × (chosen N x (s + (N - 1)) ≡ false)
  unfolding full
  cut e =
      let (j, l, o) = all_find (chosen N x) N e in
      (suc j, before_suc j ∙ o)

-- ---- one slot more in a run

module _ (P q : ℕ) (p1 : 1 ≤ P) where
  ceil_suc : ceil (suc q) P ≡ suc (q / P)
  unfolding ceil
  ceil_suc =
      let e : suc q + (P - 1) ≡ suc (q / P) * P + q % P = omega (arith, div-add-mod' q P) in
      ap (λ n. n / P) e ∙ digits_div (suc (q / P)) (mod-lt q p1)

  ceil_first : q % P ≡ 0 → ceil q P ≡ q / P
  unfolding ceil
  ceil_first z =
      let e : q + (P - 1) ≡ q / P * P + (P - 1) = omega (arith, div-add-mod' q P) in
      ap (λ n. n / P) e ∙ digits_div (q / P) (omega arith)

  ceil_later : 0 < q % P → ceil q P ≡ suc (q / P)
  unfolding ceil
  ceil_later z =
      let e : q + (P - 1) ≡ suc (q / P) * P + (q % P - 1) = omega (arith, div-add-mod' q P) in
      ap (λ n. n / P) e ∙ digits_div (suc (q / P)) (omega (arith, mod-lt q p1))

  div_le : q / P + q % P ≤ q
  div_le = omega (arith, div-add-mod' q P, mul-le-mul_left (q / P) p1)

  one_more : (S H r : ℕ) → H ≤ S → q % P ≡ r → suc q * S - ceil (suc q) P * H ≡ q * S - ceil q P * H + gain S H r
  unfolding gain
  one_more S H zero l e = rw (ceil_suc, ceil_first e) (omega (arith, mul-le-mul_right S div_le, mul-le-mul_left (q / P) l))
  one_more S H (suc r) l e =
      let t : suc (q / P) * H ≤ q * S = mul-le-mul (omega (arith, div_le)) l in
      rw (ceil_suc, ceil_later (omega arith)) (omega arith)

pub run_words_zero : (w : Wheel) → run_words w 0 ≡ 0
unfolding run_words
run_words_zero w = omega arith

module _ (w : Wheel) (legal : Legal w) where
  pub run_words_suc : (q : ℕ) → run_words w (suc q) ≡ run_words w q + gain w.s.0 w.h.0 (q % w.p)
  unfolding run_words
  run_words_suc q = one_more w.p q legal.p1 w.s.0 w.h.0 (q % w.p) (omega (arith, legal.h)) refl

  run_words_one : run_words w 1 ≡ gain w.s.0 w.h.0 0
  run_words_one = rw (← zero-mod w.p) (omega (arith, run_words_suc 0, run_words_zero w))

-- ---- a reading that ends at a slot that is not chosen

-- what is shown of m + 1 slots from i on, the last of them not chosen: the slot before i is either
-- the last of q chosen ones, or not chosen
record Reads (w : Wheel) (x m : ℕ) : Type 0 where
  inside : (i q : ℕ) → chosen w.n x (i + m) ≡ false → chosen w.n x (i + (w.n - 1)) ≡ true
      → run_words w q + line w (q % w.p) (flags (chosen w.n x) i (suc m))
      ≡ run_words w (q + stretch (chosen w.n x) i m) + sum (words_at w x) i (suc m)
  outside : (i : ℕ) → chosen w.n x (i + m) ≡ false → chosen w.n x (i + (w.n - 1)) ≡ false
      → line w 0 (flags (chosen w.n x) i (suc m)) ≡ sum (words_at w x) i (suc m)

module _ (w : Wheel) (legal : Legal w) (x : ℕ) where
  -- slot i is chosen; the slot before slot i is chosen
  abbrev on : ℕ → Bool
  on i = chosen w.n x i

  abbrev before : ℕ → Bool
  before i = on (i + (w.n - 1))

  later : (i m : ℕ) → on (i + suc m) ≡ false → on (suc i + m) ≡ false
  later i m e = ap on (suc-add i m ∙ sym (add-suc i m)) ∙ e

  -- the three ways in which a slot is a start or not
  not_chosen : (i : ℕ) → on i ≡ false → words_at w x i ≡ 0
  unfolding words_at start
  not_chosen i e = rw e

  in_run : (i : ℕ) → before i ≡ true → words_at w x i ≡ 0
  unfolding words_at start
  in_run i b = rw b (go (on i))
    where
      go : (o : Bool) → cond (o && not true) (run_words w (run w.n x i)) 0 ≡ 0
      go true = refl
      go false = refl

  starts : (i m : ℕ) → m ≤ w.n → on (i + m) ≡ false → on i ≡ true → before i ≡ false → words_at w x i ≡ run_words w (stretch on i m)
  unfolding words_at start run
  starts i m h e o b = rw (b, o) (ap (run_words w) (stretch_fuel on m i w.n e h))

  run_on : (m i q : ℕ) → Reads w x m → on (i + suc m) ≡ false → on i ≡ true
      → run_words w (suc q) + line w (suc q % w.p) (flags on (suc i) (suc m)) ≡ run_words w (q + stretch on i (suc m)) + sum (words_at w x) (suc i) (suc m)
  run_on m i q c e o =
      rw (stretch_yes on i m o, add-suc, ← suc-add q) (c.inside (suc i) (suc q) (later i m e) (before_suc w.n x legal.n1 i ∙ o))

  step_inside : (m i q : ℕ) (o : Bool) → Reads w x m → on (i + suc m) ≡ false → before i ≡ true → on i ≡ o
      → run_words w q + line w (q % w.p) (o ∷ flags on (suc i) (suc m))
      ≡ run_words w (q + stretch on i (suc m)) + (words_at w x i + sum (words_at w x) (suc i) (suc m))
  unfolding line_words next
  step_inside m i q true c e b o =
      rw (in_run i b, ← suc-mod q w.p) (omega (arith, run_on m i q c e o, run_words_suc w legal q))
  step_inside m i q false c e b o =
      rw (not_chosen i o, stretch_no on i (suc m) o, add-zero q) (omega (arith, c.outside (suc i) (later i m e) (before_suc w.n x legal.n1 i ∙ o)))

  step_outside : (m i : ℕ) (o : Bool) → Reads w x m → suc m ≤ w.n → on (i + suc m) ≡ false → before i ≡ false → on i ≡ o
      → line w 0 (o ∷ flags on (suc i) (suc m)) ≡ words_at w x i + sum (words_at w x) (suc i) (suc m)
  unfolding line_words next
  step_outside m i true c h e b o =
      omega (arith, starts i (suc m) h e o b, rw (zero-add (stretch on i (suc m))) at (run_on m i 0 c e o), run_words_one w legal)
  step_outside m i false c h e b o = omega (arith, not_chosen i o, c.outside (suc i) (later i m e) (before_suc w.n x legal.n1 i ∙ o))

  reads : (m : ℕ) → suc m ≤ w.n → Reads w x m
  unfolding flags sum words_at start line_words stretch
  reads zero h =
      record {
        inside = λ i q e b. rw (sym (ap on (add-zero i)) ∙ e) (rw (add-zero q) refl);
        outside = λ i e b. rw (sym (ap on (add-zero i)) ∙ e);
      }
  reads (suc m) h =
      let c = reads m (omega arith) in
      record { inside = λ i q e b. step_inside m i q (on i) c e b refl; outside = λ i e b. step_outside m i (on i) c (omega arith) e b refl }

  -- the words are the same from every slot after one that is not chosen
  pub words_read : (s : ℕ) → on (s + (w.n - 1)) ≡ false → words w x ≡ line w 0 (flags on s w.n)
  words_read s e =
      let n : suc (w.n - 1) ≡ w.n = omega (arith, legal.n1) in
      runs_from w x (not_full w.n x legal.n1 (s + (w.n - 1)) e) s
      ∙ sym (subst (λ k. line w 0 (flags on s k) ≡ sum (words_at w x) s k) n ((reads (w.n - 1) (omega arith)).outside s e e))

  -- ---- a reading of the full wheel, which is one run of N slots

  one_run : ((i : ℕ) → on i ≡ true) → (m i q : ℕ) → run_words w q + line w (q % w.p) (flags on i m) ≡ run_words w (q + m)
  unfolding flags line_words next
  one_run a zero i q = rw (add-zero q) (omega arith)
  one_run a (suc m) i q =
      rw (a i, add-suc q m, ← suc-add q m, ← suc-mod q w.p) (omega (arith, one_run a m (suc i) (suc q), run_words_suc w legal q))

  pub full_words : full w.n x ≡ true → (s : ℕ) → words w x ≡ line w 0 (flags on s w.n)
  unfolding words
  full_words e s =
      rw e (omega (arith, rw (zero-mod w.p, zero-add w.n) at (one_run (full_each w.n x legal.n1 e) w.n s 0), run_words_zero w))
