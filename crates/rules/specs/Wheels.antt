-- The wheel and what a set of its slots delivers: the ranges, rule 2 and rule 3.
-- Slots are counted round the wheel: slot i is slot i mod N, so that no rule names the wrap.
use Rattle.std.specs.Prelude.{◌≡◌, Bool, not, ◌&&◌, cond, ℕ, suc, ◌+◌, ◌-◌, ◌*◌, ◌/◌, ◌%◌, ◌≤◌, ◌<◌}
use Rattle.rules.specs.declared.Wheel.{Wheel}
use Rattle.rules.specs.Sets.{has, all, sum, most, stretch}

-- "N slots (1 to 64), S words in a slot (2 to 64), H header words (0 to S - 1) and a header period P in slots (1 to 64)"
pub record Legal (w : Wheel) : Type 0 where
  pub n1 : 1 ≤ w.n
  pub n64 : w.n ≤ 64
  pub s2 : 2 ≤ w.s.0
  pub s64 : w.s.0 ≤ 64
  pub h : w.h.0 < w.s.0
  pub p1 : 1 ≤ w.p
  pub p64 : w.p ≤ 64

-- what a measure of a set promises: the value that the rules give, and 0 for a wheel outside its ranges
pub record Measured (w : Wheel) (value r : ℕ) : Type 0 where
  pub good : Legal w → r ≡ value
  pub bad : ¬ Legal w → r ≡ 0

-- slot i, counted round the wheel, is chosen
unfoldable pub chosen : ℕ → ℕ → ℕ → Bool
chosen N x i = has x (i % N)

-- how many slots are chosen
unfoldable pub size : ℕ → ℕ → ℕ
size N x = sum (λ i. cond (chosen N x i) 1 0) 0 N

-- all N are chosen
unfoldable pub full : ℕ → ℕ → Bool
full N x = all (chosen N x) N

-- rule 6: "a start is a chosen slot whose predecessor round the wheel isn't chosen"
unfoldable pub start : ℕ → ℕ → ℕ → Bool
start N x i = chosen N x i && not (chosen N x (i + (N - 1)))

-- rule 2: "a run is a longest stretch of chosen slots going round the wheel"; its length, from its start
unfoldable pub run : ℕ → ℕ → ℕ → ℕ
run N x i = stretch (chosen N x) i N

-- q / P, rounded up
unfoldable pub ceil : ℕ → ℕ → ℕ
ceil q P = (q + (P - 1)) / P

-- rule 2: "a run of q slots delivers q × S - ceil(q / P) × H words"
unfoldable pub run_words : Wheel → ℕ → ℕ
run_words w q = q * w.s.0 - ceil q w.p * w.h.0

-- the words of the run that starts at slot i; 0 where none does
unfoldable pub words_at : Wheel → ℕ → ℕ → ℕ
words_at w x i = cond (start w.n x i) (run_words w (run w.n x i)) 0

-- rule 2: "if all N are chosen, they deliver N × S - ceil(N / P) × H. A set delivers the sum over its runs"
unfoldable pub words : Wheel → ℕ → ℕ
words w x = cond (full w.n x) (run_words w w.n) (sum (words_at w x) 0 w.n)

-- rule 3: "the gap after a chosen slot is the distance forward to the next chosen one; a lone slot's gap is N"
unfoldable pub gap : ℕ → ℕ → ℕ → ℕ
gap N x i = suc (stretch (λ j. not (chosen N x j)) (suc i) (N - 1))

-- the gap after slot i if it is chosen, 0 if not
unfoldable pub gap_at : ℕ → ℕ → ℕ → ℕ
gap_at N x i = cond (chosen N x i) (gap N x i) 0

-- the largest gap after a chosen slot; 0 for the empty set
unfoldable pub largest_gap : ℕ → ℕ → ℕ
largest_gap N x = most (gap_at N x) N
