-- The whole of the free slots does at least as well as any part of them: it delivers no fewer words,
-- since both can be read from a slot where the larger set is cut, and its gaps are no larger, since
-- from every slot the next chosen one comes no later.
use Rattle.std.specs.Prelude.{◌≡◌, refl, Bool, false, cond, ℕ, suc, ◌+◌, ◌-◌, ◌%◌, ◌≤◌, ◌<◌}
use Rattle.std.proofs.Math.Path.{ap}
use Rattle.std.proofs.Math.Bool.{true, not}
use Rattle.std.proofs.Common.{arith, zero-add}
use Rattle.std.proofs.lemmas.Bool.{not-true}
use Rattle.rules.specs.declared.Wheel.{Wheel}
use Rattle.rules.specs.Sets.{Within}
use Rattle.rules.specs.Wheels.{Legal, chosen, full, start, run, run_words, words_at, words, gap}
use Rattle.laws.specs.Logic.{not_both, not_true_false}
use Rattle.laws.specs.Counting.{sum_some, stretch_more}
use Rattle.laws.specs.Turns.{start_both, runs_from}
use Rattle.laws.specs.Reading.{flags, sub_flags, words_mono}
use Rattle.laws.specs.Runs.{line, words_read, cut, full_each, full_words}
use Rattle.laws.specs.Gaps.{near_back}
use Rattle.laws.specs.Holes.{all_near}

-- ---- a set that delivers words has a slot

-- a set that delivers words and is not the full wheel has a start
pub some_start : (w : Wheel) (y : ℕ) → full w.n y ≡ false → 1 ≤ words w y → (s : ℕ) × (s < w.n) × (start w.n y s ≡ true)
unfolding words_at
some_start w y e h =
    let (s, l, q) = sum_some (words_at w y) 0 w.n (rw (runs_from w y e 0) at h) in
    (s, l, go (start w.n y s) (run_words w (run w.n y s)) (rw (zero-add s) at q))
  where
    go : (b : Bool) (v : ℕ) → 1 ≤ cond b v 0 → b ≡ true
    go true v q = refl
    go false v q = absurd (omega arith)

pub some_slot : (w : Wheel) → Legal w → (y : ℕ) → 1 ≤ words w y → (s : ℕ) × (s < w.n) × (chosen w.n y s ≡ true)
some_slot w legal y h = go (full w.n y) refl
  where
    go : (b : Bool) → full w.n y ≡ b → (s : ℕ) × (s < w.n) × (chosen w.n y s ≡ true)
    go true e = (0, legal.n1, full_each w.n y legal.n1 e 0)
    go false e = let (s, l, q) = some_start w y e h in (s, l, (start_both w.n y s q).0)

-- ---- a part and the whole

module _ (w : Wheel) (legal : Legal w) (F y : ℕ) (within : Within F y) where
  chosen_within : (i : ℕ) → chosen w.n y i ≡ true → chosen w.n F i ≡ true
  unfolding chosen
  chosen_within i e = within.among (i % w.n) e

  clear_within : (i : ℕ) → chosen w.n F i ≡ false → chosen w.n y i ≡ false
  clear_within i e = not_true_false _ λ o. not_both (chosen_within i o) e

  read_both : (s : ℕ) → line w 0 (flags (chosen w.n y) s w.n) ≤ line w 0 (flags (chosen w.n F) s w.n)
  read_both s = words_mono w.s.0 w.h.0 w.p legal.p1 (omega (arith, legal.h)) (sub_flags _ _ chosen_within s w.n)

  pub words_within : words w y ≤ words w F
  words_within = go (full w.n F) refl (full w.n y) refl
    where
      go : (a : Bool) → full w.n F ≡ a → (b : Bool) → full w.n y ≡ b → words w y ≤ words w F
      go true e true d = omega (arith, full_words w legal F e 0, full_words w legal y d 0, read_both 0)
      go true e false d =
          let (s, c) = cut w.n y legal.n1 d in
          omega (arith, words_read w legal y s c, full_words w legal F e s, read_both s)
      go false e b d =
          let (s, c) = cut w.n F legal.n1 e in
          omega (arith, words_read w legal y s (clear_within _ c), words_read w legal F s c, read_both s)

  gap_within : (i : ℕ) → gap w.n F i ≤ gap w.n y i
  unfolding gap
  gap_within i =
      let clear : (j : ℕ) → not (chosen w.n F j) ≡ true → not (chosen w.n y j) ≡ true =
      λ j e. ap not (clear_within j (not-true (chosen w.n F j) e)) in
      omega (arith, stretch_more _ _ clear (w.n - 1) (suc i))

  pub near_within : (L s : ℕ) → chosen w.n y s ≡ true → ((i : ℕ) → i < w.n → chosen w.n y i ≡ true → gap w.n y i ≤ L)
      → (i : ℕ) → i < w.n → chosen w.n F i ≡ true → gap w.n F i ≤ L
  near_within L s at near i h =
      near_back w.n F legal.n1 L s (λ d k o. omega (arith, gap_within (s + d), all_near w legal y L s at near d k)) i
