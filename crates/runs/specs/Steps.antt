-- What the steps of the measures compute, one slot at a time.
use Rattle.std.specs.Prelude.{◌≡◌, refl, Bool, true, false, not, cond, eqb, ◌⊎◌, ℕ, zero, suc, min, ◌+◌, ◌-◌, ◌*◌, ◌/◌, ◌%◌, ◌^◌, ◌≤◌, ◌<◌}
use Rattle.std.specs.Int.{bit_at, bit_not, w64}
use Rattle.std.proofs.Common.{sym, ap, ◌∙◌, inl, inr, arith, mod-eq_of_lt, mod-lt, add-one}
use Rattle.std.proofs.Math.Nat.{mod_self, mod-add-mod, div-eq_of_lt-le}
use Rattle.std.proofs.lemmas.Grind.{div_ceil_times}
use Rattle.std.proofs.lemmas.Nat.Bits.{bit_at_not, bit_at-lt}
use Rattle.rules.specs.declared.Wheel.{Wheel}
use Rattle.rules.specs.Sets.{has, stretch}
use Rattle.rules.specs.Wheels.{Legal, ceil, chosen, start, run, run_words, words_at}
use Rattle.laws.specs.Logic.{le_or_lt}
use Rattle.laws.specs.Counting.{stretch_le, stretch_turn}
use Rattle.laws.specs.Turns.{chosen_turn}
use Rattle.laws.specs.Bounds.{run_words_most}

-- a slot and the one after it, round the wheel
pub first_turn : (on n : ℕ) → on < n → on ≡ on % n
first_turn on n h = sym (mod-eq_of_lt h)

pub second_turn : (i n : ℕ) → i < n → n ≤ i + 1 → 0 ≡ (i + 1) % n
second_turn i n l h =
    let e : i + 1 ≡ n = omega arith in
    sym (ap (λ k. k % n) e ∙ mod_self n)

pub next_turn : (on n slot next : ℕ) → slot ≡ on % n → next ≡ (slot + 1) % n → next ≡ (on + 1) % n
next_turn on n slot next e f = f ∙ ap (λ s. (s + 1) % n) e ∙ mod-add-mod on n 1

-- the test of a slot is the test of the place that it is counted from
pub tested : (n x on slot : ℕ) (r : Bool) → slot ≡ on % n → r ≡ has x slot → chosen n x on ≡ r
unfolding chosen
tested n x on slot r e q = sym (q ∙ ap (has x) e)

-- a slot is in the complement of a word exactly if it is not in the word
pub has_not : (x i : ℕ) → x < 2 ^ 64 → i < 64 → has (bit_not w64 x) i ≡ not (has x i)
unfolding has
has_not x i h l = turned (bit_at x i) (bit_at (bit_not w64 x) i) (bit_at-lt x i) (bit_at_not w64 x i h l)
  where
    turned : (a b : ℕ) → a < 2 → b ≡ 1 - a → eqb b 1 ≡ not (eqb a 1)
    turned zero b h e = rw e refl
    turned (suc zero) b h e = rw e refl
    turned (suc (suc a)) b h e = absurd (omega arith)

-- a stretch of the complement is one of slots that are not chosen
module _ (N x : ℕ) (fits : x < 2 ^ 64) (n1 : 1 ≤ N) (n64 : N ≤ 64) where
  chosen_not : (i : ℕ) → chosen N (bit_not w64 x) i ≡ not (chosen N x i)
  unfolding chosen
  chosen_not i = has_not x (i % N) fits (omega (arith, mod-lt i n1))

  pub stretch_not : (i m : ℕ) → stretch (chosen N (bit_not w64 x)) i m ≡ stretch (λ j. not (chosen N x j)) i m
  unfolding stretch
  stretch_not i zero = refl
  stretch_not i (suc m) = rw (chosen_not i) (ap (λ v. cond (not (chosen N x i)) (suc v) 0) (stretch_not (suc i) m))

-- slot j is chosen, or not chosen, as wanted
unfoldable pub as_wanted : ℕ → ℕ → Bool → ℕ → Bool
as_wanted N x wanted j = cond wanted (chosen N x j) (not (chosen N x j))

-- a stretch that begins at the slot after i
pub stretch_after : (N x i m : ℕ) (wanted : Bool) → i < N → stretch (as_wanted N x wanted) ((i + 1) % N) m ≡ stretch (as_wanted N x wanted) (suc i) m
unfolding as_wanted
stretch_after N x i m wanted h = go (le_or_lt N (i + 1))
  where
    turn : (j : ℕ) → as_wanted N x wanted (j + N) ≡ as_wanted N x wanted j
    turn j = rw (chosen_turn N x j)

    go : (N ≤ i + 1) ⊎ (i + 1 < N) → stretch (as_wanted N x wanted) ((i + 1) % N) m ≡ stretch (as_wanted N x wanted) (suc i) m
    go (inr l) = rw (mod-eq_of_lt l, add-one i)
    go (inl l) =
        let e : i + 1 ≡ N = omega arith in
        let wrapped : (i + 1) % N ≡ 0 = ap (λ k. k % N) e ∙ mod_self N in
        let last : suc i ≡ 0 + N = omega arith in
        rw (wrapped, last) (sym (stretch_turn (as_wanted N x wanted) N turn 0 m))

-- the stretch of slots that are not chosen behind slot i, from the complement
pub gap_stretch : (N x i m q : ℕ) → x < 2 ^ 64 → i < N → N ≤ 64 → q ≡ (i + 1) % N
    → stretch (chosen N (bit_not w64 x)) q m ≡ stretch (λ j. not (chosen N x j)) (suc i) m
unfolding as_wanted
gap_stretch N x i m q fits h few e =
    ap (λ j. stretch (chosen N (bit_not w64 x)) j m) e ∙ stretch_after N (bit_not w64 x) i m true h ∙ stretch_not N x fits (omega arith) few (suc i) m

-- rule 2 rounds up as `div_ceil` does
pub rounded_up : (q P : ℕ) → 1 ≤ P → q / P + min 1 (q % P) ≡ ceil q P
unfolding ceil
rounded_up q P h =
    let t : (q ≤ (q / P + min 1 (q % P)) * P) × ((q / P + min 1 (q % P)) * P < q + P) = div_ceil_times q P h in
    sym (div-eq_of_lt-le P (omega arith) (omega arith))

pub words_at_most : (w : Wheel) → Legal w → (x i : ℕ) → words_at w x i ≤ 4096
unfolding words_at run
words_at_most w legal x i = go (start w.n x i)
  where
    go : (b : Bool) → cond b (run_words w (run w.n x i)) 0 ≤ 4096
    go true = run_words_most w legal (run w.n x i) (omega (arith, stretch_le (chosen w.n x) w.n i, legal.n64))
    go false = omega arith
