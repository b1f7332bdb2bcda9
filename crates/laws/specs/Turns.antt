-- The wheel reads the same from every slot: N slots further on nothing has changed, so that a sum
-- over a whole turn may begin anywhere and every slot lies at a distance below N from any other.
use Rattle.std.specs.Prelude.{◌≡◌, ◌&&◌, cond}
use Rattle.std.proofs.Math.Path.{refl, sym, ap}
use Rattle.std.proofs.Common.{◌∙◌, suc-add, mod-eq_of_lt, mod-lt}
use Rattle.std.proofs.Math.Bool.{Bool, true, false, not}
use Prim.Native.Nat.{ℕ, zero, suc, ◌+◌, ◌-◌, ◌*◌, ◌/◌, ◌%◌, ◌≤◌, ◌<◌}
use native.Mathlib.Omega.{arith}
use Rattle.std.proofs.Math.Nat.{add-mod_right, div-add-mod', mod-mod, mul-le-mul_left}
use Rattle.rules.specs.declared.Wheel.{Wheel}
use Rattle.rules.specs.Sets.{has, sum, stretch}
use Rattle.rules.specs.Wheels.{chosen, size, full, start, run, words_at, words, gap}
use Rattle.laws.specs.Logic.{not_both}
use Rattle.laws.specs.Counting.{sum_turn, stretch_turn}

-- ---- one turn

module _ (N x : ℕ) where
  pub chosen_turn : (i : ℕ) → chosen N x (i + N) ≡ chosen N x i
  unfolding chosen
  chosen_turn i = rw (add-mod_right i N)

  pub chosen_mod : (i : ℕ) → chosen N x (i % N) ≡ chosen N x i
  unfolding chosen
  chosen_mod i = rw (mod-mod i N)

  pub chosen_below : (i : ℕ) → i < N → chosen N x i ≡ has x i
  unfolding chosen
  chosen_below i h = rw (mod-eq_of_lt h)

  pub start_turn : (i : ℕ) → start N x (i + N) ≡ start N x i
  unfolding start
  start_turn i =
      let e : i + N + (N - 1) ≡ i + (N - 1) + N = omega arith in
      rw (e, chosen_turn (i + (N - 1)), chosen_turn i)

  pub run_turn : (i : ℕ) → run N x (i + N) ≡ run N x i
  unfolding run
  run_turn i = stretch_turn (chosen N x) N chosen_turn i N

  pub gap_turn : (i : ℕ) → gap N x (i + N) ≡ gap N x i
  unfolding gap
  gap_turn i =
      let f : ℕ → Bool = λ j. not (chosen N x j) in
      ap suc (ap (λ j. stretch f j (N - 1)) (sym (suc-add i N)) ∙ stretch_turn f N (λ j. ap not (chosen_turn j)) (suc i) (N - 1))

  pub size_from : (s : ℕ) → size N x ≡ sum (λ i. cond (chosen N x i) 1 0) s N
  unfolding size
  size_from s = sym (sum_turn _ N (λ i. rw (chosen_turn i)) s)

  -- a start, taken apart and put together
  pub start_both : (i : ℕ) → start N x i ≡ true → (chosen N x i ≡ true) × (chosen N x (i + (N - 1)) ≡ false)
  unfolding start
  start_both i e = go (chosen N x i) (chosen N x (i + (N - 1))) e
    where
      go : (a b : Bool) → a && not b ≡ true → (a ≡ true) × (b ≡ false)
      go true false e = (refl, refl)
      go true true e = absurd (not_both refl (sym e))
      go false b e = absurd (not_both refl (sym e))

  pub start_of : (i : ℕ) → chosen N x i ≡ true → chosen N x (i + (N - 1)) ≡ false → start N x i ≡ true
  unfolding start
  start_of i a b = rw (a, b)

-- rule 2's sum over the runs, from any slot on
pub runs_from : (w : Wheel) (x : ℕ) → full w.n x ≡ false → (s : ℕ) → words w x ≡ sum (words_at w x) s w.n
unfolding words words_at
runs_from w x e s = rw e (sym (sum_turn _ w.n (λ i. rw (start_turn w.n x i, run_turn w.n x i)) s))

-- ---- any slot from any other

-- how far slot i lies from slot s, going forward round a wheel of n slots
unfoldable pub distance : ℕ → ℕ → ℕ → ℕ
distance n s i = (i + s * n - s) % n

pub distance_below : (n s i : ℕ) → 1 ≤ n → distance n s i < n
unfolding distance
distance_below n s i h = mod-lt (i + s * n - s) h

module _ {A : Type 0} (f : ℕ → A) (n : ℕ) (turn : (i : ℕ) → f (i + n) ≡ f i) where
  turns : (k i : ℕ) → f (i + k * n) ≡ f i
  turns zero i = ap f (omega arith)
  turns (suc k) i = ap f (omega arith) ∙ turn (i + k * n) ∙ turns k i

  -- what a turn does not change is the same at slot i and at its distance from s
  pub distance_same : 1 ≤ n → (s i : ℕ) → f (s + distance n s i) ≡ f i
  unfolding distance
  distance_same h s i =
      let k = i + s * n - s in
      let e : s + k % n + k / n * n ≡ i + s * n = omega (arith, div-add-mod' k n, mul-le-mul_left s h) in
      sym (turns (k / n) (s + k % n)) ∙ ap f e ∙ turns s i
