-- The bench examples P1 to P10 of document 01, proved of the rules: one table, one computed test, one law.
use Rattle.std.specs.Prelude.{◌≡◌, refl, Bool, true, ◌&&◌, List, [], ◌∷◌, ◌++◌, ℕ, ◌+◌, ◌^◌, ◌≤◌, eqb, ltb, leb, length, get_or, Result, Ok, Err}
use Rattle.std.proofs.Math.Logic.{inl, inr}
use Rattle.std.proofs.Common.{arith}
use borrow.Author.Tests.{eqb-true, ltb-true, leb-true}
use Rattle.rules.specs.declared.Refusal.{Refusal}
use Rattle.rules.specs.declared.Grant.{Grant}
use Rattle.rules.specs.declared.Wheel.{Wheel}
use Rattle.rules.specs.declared.Refusal.TheVariants.{TooMuch, TooFar}
use Rattle.rules.specs.Sets.{Below, has, set_of, any, all, sum, most, stretch, places, list_of}
use Rattle.rules.specs.Wheels.{Legal, chosen, size, full, start, run, ceil, run_words, words_at, words, gap, gap_at, largest_gap}
use Rattle.rules.specs.Best.{smallest_start, distances}
use Rattle.rules.specs.Paths.{chip_of, cell, shift, travel, allowed, seen, usable, free, free_slots}
use Rattle.rules.specs.Numbers.{Refuses, Passes}
use Rattle.rules.specs.Promises.{Selects}
use Rattle.laws.specs.Logic.{and_true}
use Rattle.laws.specs.Sets.{below_of}
use Rattle.laws.specs.Answers.{thirteen, not_thirteen, fourteen}
use Rattle.laws.specs.Tests.{is_legal, is_legal_lem, is_within, is_meeting, is_before, is_better, is_beaten, is_best, is_best_lem}

-- the set of these slots
slots : List ℕ → ℕ
slots [] = 0
slots (s ∷ rest) = 2 ^ s + slots rest

-- a table of these rows, each filled up with zeros to 64 cells
table : List (List ℕ) → List ℕ
table [] = []
table (row ∷ rest) = list_of (λ j. get_or row j 0) 0 64 ++ table rest

-- "N 8, S 3, H 1, P 3 unless said"
abbrev wheel : ℕ → Wheel
wheel N = record { n = N; s = record { 0 = 3 }; h = record { 0 = 1 }; p = 3 }

-- the largest allowed gap on a path of one channel with deadline D
one_channel : ℕ → ℕ
one_channel D = allowed (chip_of (wheel 8) (table ([] ∷ []))) (0 ∷ []) 1 D

-- what a selection comes to: slots with their number and words, 13, or 14
data Outcome : Type 0 where
  best : ℕ → ℕ → ℕ → Outcome
  too_much : Outcome
  too_far : Outcome

answer : Outcome → Result Grant Refusal
answer (best x count v) = Ok (record { slots = x; count = count; words = record { 0 = v } })
answer too_much = Err TooMuch
answer too_far = Err TooFar

data Example : Type 0 where
  frees : (N : ℕ) (rows : List (List ℕ)) (path : List ℕ) (set : ℕ) → Example
  delivers : (N set v : ℕ) → Example
  gaps : (N set g : ℕ) → Example
  selects : (N free W D : ℕ) → Outcome → Example

-- what the rules say of an example
Holds : Example → Type 0
Holds (frees N rows path set) = free_slots (chip_of (wheel N) (table rows)) (table rows) path (length path) ≡ set
Holds (delivers N set v) = words (wheel N) set ≡ v
Holds (gaps N set g) = largest_gap N set ≡ g
Holds (selects N free W D o) = Selects (wheel N) free W (one_channel D) (answer o)

-- the same as a test that computes
outcome : Wheel → ℕ → ℕ → ℕ → Outcome → Bool
outcome w free W L (best x count v) = is_best w free W L x && (eqb count (size w.n x) && eqb v (words w x))
outcome w free W L too_much = ltb (words w free) W
outcome w free W L too_far = leb W (words w free) && ltb L (largest_gap w.n free)

test : Example → Bool
test (frees N rows path set) = eqb (free_slots (chip_of (wheel N) (table rows)) (table rows) path (length path)) set
test (delivers N set v) = eqb (words (wheel N) set) v
test (gaps N set g) = eqb (largest_gap N set) g
test (selects N free W D o) =
    (is_legal (wheel N) && ltb free (2 ^ N)) && ((leb 1 W && leb 1 (one_channel D)) && outcome (wheel N) free W (one_channel D) o)

-- ---- a test that says yes gives the example

module _ (w : Wheel) (free W L : ℕ) (legal : Legal w) (fits : Below w.n free) (w1 : 1 ≤ W) (l1 : 1 ≤ L) where
  passes : ¬ (W ≡ 0) × ¬ (L ≡ 0)
  passes = (λ e. omega arith, λ e. omega arith)

  outcome_holds : (o : Outcome) → outcome w free W L o ≡ true → Selects w free W L (answer o)
  unfolding outcome answer Selects Refuses Passes
  outcome_holds (best x count v) e =
      let a = and_true _ _ e in
      let b = and_true _ _ a.1 in
      let g = is_best_lem w legal free W L x fits a.0 in (
        (
          λ n. n legal,
          (
            λ n. n fits,
            (
              passes.0,
              (
                passes.1,
                (λ n. n.none x g.within g.meets.delivers, (λ n. n.none x g.within g.meets, tt)),
              ),
            ),
          ),
        ),
        record { best = g; count = eqb-true _ _ b.0; words = eqb-true _ _ b.1 },
      )
  outcome_holds too_much e =
      inr (λ n. n legal, inr (λ n. n fits, inr (passes.0, inr (passes.1, inl (thirteen w legal free W (ltb-true _ _ e), refl)))))
  outcome_holds too_far e =
      let a = and_true _ _ e in
      let d = leb-true _ _ a.0 in
      inr (
        λ n. n legal,
        inr (
          λ n. n fits,
          inr
              (passes.0, inr (passes.1, inr (not_thirteen w legal free W d, inl (fourteen w legal free W L w1 d (ltb-true _ _ a.1), refl)))),
        ),
      )

holds : (e : Example) → test e ≡ true → Holds e
unfolding test Holds
holds (frees N rows path set) e = eqb-true _ _ e
holds (delivers N set v) e = eqb-true _ _ e
holds (gaps N set g) e = eqb-true _ _ e
holds (selects N free W D o) e =
    let a = and_true _ _ e in
    let b = and_true _ _ a.0 in
    let c = and_true _ _ a.1 in
    let d = and_true _ _ c.0 in
    outcome_holds (wheel N) free W (one_channel D) (is_legal_lem (wheel N) b.0) (below_of free N (ltb-true _ _ b.1))
    (leb-true _ _ d.0) (leb-true _ _ d.1) o c.1

-- ---- the table

Each : List Example → Type 0
Each [] = Unit {0}
Each (e ∷ rest) = Holds e × Each rest

tests : List Example → Bool
tests [] = true
tests (e ∷ rest) = test e && tests rest

each_holds : (examples : List Example) → tests examples ≡ true → Each examples
unfolding Each tests
each_holds [] e = tt
each_holds (x ∷ rest) e = let a = and_true (test x) (tests rest) e in (holds x a.0, each_holds rest a.1)

-- P1 to P10, in document 01's order
examples : List Example
examples =
    frees 5 ((1 ∷ 1 ∷ []) ∷ (2 ∷ 1 ∷ 1 ∷ []) ∷ (0 ∷ 2 ∷ 1 ∷ 1 ∷ []) ∷ []) (0 ∷ 1 ∷ 2 ∷ []) (slots (2 ∷ 3 ∷ []))
    ∷ delivers 8 (slots (0 ∷ 1 ∷ 2 ∷ [])) 8
    ∷ delivers 8 (slots (0 ∷ 1 ∷ 2 ∷ 3 ∷ [])) 10
    ∷ delivers 8 (slots (7 ∷ 0 ∷ 1 ∷ [])) 8
    ∷ delivers 8 (slots (0 ∷ 2 ∷ 4 ∷ [])) 6
    ∷ delivers 8 255 21
    ∷ delivers 1 (slots (0 ∷ [])) 2
    ∷ gaps 8 (slots (3 ∷ [])) 8
    ∷ gaps 8 (slots (0 ∷ 4 ∷ [])) 4
    ∷ gaps 8 (slots (7 ∷ 0 ∷ [])) 7
    ∷ selects 8 (slots (0 ∷ 2 ∷ 4 ∷ 5 ∷ 6 ∷ [])) 8 9 (best (slots (4 ∷ 5 ∷ 6 ∷ [])) 3 8)
    ∷ selects 8 (slots (0 ∷ 3 ∷ 4 ∷ [])) 3 9 (best (slots (3 ∷ 4 ∷ [])) 2 5)
    ∷ selects 8 (slots (0 ∷ 3 ∷ 4 ∷ 7 ∷ [])) 5 9 (best (slots (3 ∷ 4 ∷ [])) 2 5)
    ∷ selects 8 (slots (1 ∷ 5 ∷ [])) 4 5 (best (slots (1 ∷ 5 ∷ [])) 2 4)
    ∷ selects 8 (slots (1 ∷ 5 ∷ [])) 4 4 too_far
    ∷ selects 8 255 21 9 (best 255 8 21)
    ∷ selects 8 255 22 9 too_much
    ∷ []

bench : Each examples
unfolding examples tests test slots table one_channel outcome allowed travel is_legal is_best is_beaten is_within is_meeting is_better is_before
    free_slots free usable seen shift cell words full words_at start run run_words ceil chosen has size
    largest_gap gap_at gap smallest_start distances places all any sum most stretch set_of list_of
bench = each_holds examples refl
