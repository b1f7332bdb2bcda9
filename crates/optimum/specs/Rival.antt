-- A set of free slots that keeps the gap rule is a choice of the line at each of its starts, with its size and its words.
-- So it is worth no more there than the line's value.
use Rattle.std.specs.Prelude.{◌≡◌, Bool, List, ◌∷◌, ◌⊎◌}
use Rattle.std.proofs.Common.{◌∙◌, inl, inr, add-zero, eq-or-lt_of_le, add-one, ap, true, ℕ, suc, ◌+◌, ◌-◌, ◌%◌, ◌≤◌, ◌<◌, arith}
use Rattle.rules.specs.Sets.{Within}
use Rattle.rules.specs.Wheels.{chosen, start, size, words, gap}
use Rattle.laws.specs.Logic.{not_both}
use Rattle.laws.specs.Turns.{start_both}
use Rattle.laws.specs.Reading.{flags, count, line_words}
use Rattle.laws.specs.Runs.{line, words_read}
use Rattle.laws.specs.Gaps.{near_turn}
use Rattle.line.specs.declared.Task.{Task}
use Rattle.line.specs.Values.{N, L, took, raised_le, Pick, slot_words, phase, taking, worth_bounds}
use Rattle.line.specs.Packets.{opens, opens_before, ahead, head}
use Rattle.line.specs.Tables.{Sound}
use Rattle.optimum.specs.Starts.{from, from_flags, size_from_start}
use Rattle.optimum.specs.Cut.{pick_of}

module _ (t : Task) (good : Sound t) (y s : ℕ) (st : start (N t) y s ≡ true) where
  -- the flags of y after its start
  abbrev pub others : List Bool
  others = flags (λ d. chosen (N t) y (s + d)) 1 (N t - 1)

  at : chosen (N t) y s ≡ true
  at = (start_both (N t) y s st).0

  pub from_start : from (N t) y s ≡ true ∷ others
  unfolding flags
  from_start =
      let n : N t ≡ suc (N t - 1) = omega (arith, good.legal.n1) in
      ap (flags (λ d. chosen (N t) y (s + d)) 0) n ∙ ap (λ b. b ∷ others) (ap (chosen (N t) y) (add-zero s) ∙ at)

  pub size_others : size (N t) y ≡ suc (count others)
  unfolding count
  size_others = size_from_start (N t) y s ∙ ap count from_start

  pub words_others : words t.wheel y ≡ slot_words t 0 + line t.wheel (phase t 0) others
  unfolding line_words
  words_others =
      words_read t.wheel good.legal y s (start_both (N t) y s st).1 ∙ ap (line t.wheel 0) (from_flags (N t) y s ∙ from_start)

  module _ (within : Within t.free y) (near : (i : ℕ) → i < N t → chosen (N t) y i ≡ true → gap (N t) y i ≤ L t) where
    opened : (d : ℕ) → d < N t → chosen (N t) y (s + d) ≡ true → opens t s d ≡ true
    unfolding chosen
    opened d h o = go (eq-or-lt_of_le h)
      where
        go : (suc d ≡ N t) ⊎ (suc d < N t) → opens t s d ≡ true
        go (inl e) =
            let last : s + d ≡ s + (N t - 1) = omega arith in
            absurd (not_both o (ap (chosen (N t) y) last ∙ (start_both (N t) y s st).1))
        go (inr l) = opens_before t s d (omega arith) ∙ within.among ((s + d) % N t) o

    pub rival : Pick (L t) 1 (ahead t s 1) others
    unfolding gap
    rival =
        let all = near_turn (N t) y good.legal.n1 (L t) near in
        pick_of (N t) y (L t) s (opens t s) at all opened (N t - 1) 1 1 (omega (arith, good.legal.n1)) (rw (add-one s) (omega (arith, all s at)))

    pub rival_worth : suc (words t.wheel y) ≤ head t s 0 (size (N t) y)
    unfolding head taking took
    rival_worth =
        let open0 : opens t s 0 ≡ true = opened 0 (omega (arith, good.two)) (ap (chosen (N t) y) (add-zero s) ∙ at) in
        rw (size_others, words_others, open0) (raised_le (slot_words t 0) _ (worth_bounds t (phase t 0) rival))
