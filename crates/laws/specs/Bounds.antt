-- How large a set and the parts of rule 2 can be. A run has no more headers than slots, so its headers never outweigh its words;
-- and no slot delivers more than S words, so a set delivers at most N times S.
use Rattle.std.specs.Prelude.{◌≡◌, refl, Bool, true, false, ◌∷◌, ℕ, zero, suc, ◌+◌, ◌-◌, ◌*◌, ◌≤◌, ◌<◌}
use Rattle.std.proofs.Common.{arith, mul-le-mul, mul-le-mul_right, mul-suc, suc-mul, one-mul}
use Rattle.std.proofs.Math.Nat.{div-eq_of_lt, div-le_of_le-mul}
use Rattle.rules.specs.declared.Wheel.{Wheel}
use Rattle.rules.specs.Wheels.{Legal, chosen, size, full, ceil, run_words, words}
use Rattle.laws.specs.Counting.{ones_most}
use Rattle.laws.specs.Reading.{flags, gain, next, line_words}
use Rattle.laws.specs.Runs.{cut, words_read, full_words}

pub size_most : (N x : ℕ) → size N x ≤ N
unfolding size
size_most N x = ones_most (chosen N x) N 0

-- ---- a run

pub ceil_most : (q P : ℕ) → 1 ≤ P → ceil q P ≤ q
unfolding ceil
ceil_most zero P h = let e : 0 + (P - 1) < P = omega arith in omega (arith, div-eq_of_lt e)
ceil_most (suc q) P h = div-le_of_le-mul P (omega (arith, mul-suc P q, mul-le-mul_right q h, one-mul q))

module _ (w : Wheel) (legal : Legal w) (q : ℕ) (q64 : q ≤ 64) where
  pub headers_most : ceil q w.p * w.h.0 ≤ q * w.s.0
  headers_most = mul-le-mul (ceil_most q w.p legal.p1) (omega (arith, legal.h))

  pub run_most : q * w.s.0 ≤ 4096
  run_most = mul-le-mul q64 legal.s64

  pub run_words_most : run_words w q ≤ 4096
  unfolding run_words
  run_words_most = omega (arith, run_most)

-- ---- a set

pub gain_most : (S H r : ℕ) → gain S H r ≤ S
unfolding gain
gain_most S H zero = omega arith
gain_most S H (suc r) = omega arith

line_most : (S H P : ℕ) (f : ℕ → Bool) (m i r : ℕ) → line_words S H P r (flags f i m) ≤ m * S
unfolding flags line_words
line_most S H P f zero i r = omega arith
line_most S H P f (suc m) i r = go (f i) (line_most S H P f m (suc i) (next P r)) (line_most S H P f m (suc i) 0)
  where
    go : (b : Bool) → line_words S H P (next P r) (flags f (suc i) m) ≤ m * S → line_words S H P 0 (flags f (suc i) m) ≤ m * S
        → line_words S H P r (b ∷ flags f (suc i) m) ≤ suc m * S
    go true a b = omega (arith, gain_most S H r, suc-mul m S)
    go false a b = omega (arith, suc-mul m S)

pub words_most : (w : Wheel) → Legal w → (x : ℕ) → words w x ≤ w.n * w.s.0
words_most w legal x = go (full w.n x) refl
  where
    read : (s : ℕ) → line_words w.s.0 w.h.0 w.p 0 (flags (chosen w.n x) s w.n) ≤ w.n * w.s.0
    read s = line_most w.s.0 w.h.0 w.p (chosen w.n x) w.n s 0

    go : (b : Bool) → full w.n x ≡ b → words w x ≤ w.n * w.s.0
    go true e = omega (arith, full_words w legal x e 0, read 0)
    go false e = let (s, o) = cut w.n x legal.n1 e in omega (arith, words_read w legal x s o, read s)

pub words_small : (w : Wheel) → Legal w → (x : ℕ) → words w x ≤ 4096
words_small w legal x = omega (arith, words_most w legal x, run_most w legal w.n legal.n64)
