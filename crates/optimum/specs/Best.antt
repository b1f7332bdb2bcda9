-- From the values of the lines to the best set. The start and the number of slots are optimal if no start does with fewer
-- slots, none does better with as many, and none before it does as well. The greedy choice there is then the best set:
-- a rival with as many slots, as many words and the same smallest start is a choice of the same line, so greedy comes first.
use Rattle.std.specs.Prelude.{◌≡◌, refl, Bool, true, false, List, ◌∷◌, ◌⊎◌}
use Rattle.std.proofs.Common.{◌∙◌, subst₂, arith, sym, ap, subst, inl, inr, ⊎_elim, ℕ, suc, pred, ◌+◌, ◌-◌, ◌≤◌, ◌<◌}
use Rattle.rules.specs.Sets.{Within, places}
use Rattle.rules.specs.Wheels.{chosen, start, size, full, words, gap}
use Rattle.rules.specs.Best.{Meets, Best, Better, fewer, more, sooner, closer, Before, smallest_start, distances}
use Rattle.laws.specs.Logic.{le_or_lt, not_both}
use Rattle.laws.specs.Sets.{within_below}
use Rattle.laws.specs.Turns.{start_both}
use Rattle.laws.specs.Reading.{count}
use Rattle.laws.specs.Runs.{line, not_full}
use Rattle.line.specs.declared.Task.{Task}
use Rattle.line.specs.Values.{N, L, raised, slot_words, phase, worth, greedy, greedy_first, Attains, First, both}
use Rattle.line.specs.Packets.{opens, ahead, head}
use Rattle.line.specs.Tables.{Sound}
use Rattle.line.specs.Choice.{begun}
use Rattle.line.specs.Rebuild.{greedy_set}
use Rattle.optimum.specs.Starts.{before_smallest, has_smallest, from, size_full, size_less, same_from, first_before}
use Rattle.optimum.specs.Rival.{others, from_start, size_others, words_others, rival, rival_worth}
use Rattle.optimum.specs.Made.{greedy_made, made_others}
use Rattle.optimum.specs.Value as value

-- k slots at the start s, worth v words, are optimal
pub record Optimum (t : Task) (s k v : ℕ) : Type 0 where
  pub within : s < N t
  pub value : head t s 0 k ≡ suc v
  pub enough : t.words.0 ≤ v
  pub fewest : (j u : ℕ) → j < k → u < N t → head t u 0 j ≤ t.words.0
  pub most : (u : ℕ) → u < N t → head t u 0 k ≤ suc v
  pub earliest : (u : ℕ) → u < s → head t u 0 k ≤ v

module _ (t : Task) (good : Sound t) (s k v : ℕ) (o : Optimum t s k v) where
  -- the choice at the start, and the set that is granted
  parts : (opens t s 0 ≡ true) × (k ≡ suc (pred k)) × (raised (slot_words t 0) (worth t (ahead t s 1) 1 (phase t 0) (pred k)) ≡ suc v)
  parts = value.parts t good s k v o.within o.value

  abbrev rest_words : (u : ℕ) × (worth t (ahead t s 1) 1 (phase t 0) (pred k) ≡ suc u) × (slot_words t 0 + u ≡ v)
  rest_words = value.rest_words t good s k v o.within o.value

  abbrev pick : List Bool
  pick = value.pick t good s k v o.within o.value

  attains : Attains t 1 (ahead t s 1) (phase t 0) (pred k) rest_words.0 pick
  attains = value.attains t good s k v o.within o.value

  abbrev R : ℕ
  R = value.R t good s k v o.within o.value

  R-within : Within t.free R
  R-within = value.R-within t good s k v o.within o.value

  R-start : start (N t) R s ≡ true
  R-start = value.R-start t good s k v o.within o.value

  R-size : size (N t) R ≡ k
  R-size = value.R-size t good s k v o.within o.value

  R-words : words t.wheel R ≡ v
  R-words = value.R-words t good s k v o.within o.value

  R-near : (i : ℕ) → i < N t → chosen (N t) R i ≡ true → gap (N t) R i ≤ L t
  R-near = value.R-near t good s k v o.within o.value

  R-smallest : smallest_start (N t) R ≡ s
  R-smallest =
      let not-all = not_full (N t) R good.legal.n1 (s + (N t - 1)) (start_both (N t) R s R-start).1 in
      let (st, h) = has_smallest t.wheel R not-all (omega (arith, R-words, o.enough, good.some)) in
      go (le_or_lt s (smallest_start (N t) R)) (le_or_lt (smallest_start (N t) R) s) st h
    where
      go : (s ≤ smallest_start (N t) R) ⊎ (smallest_start (N t) R < s) → (smallest_start (N t) R ≤ s) ⊎ (s < smallest_start (N t) R)
          → start (N t) R (smallest_start (N t) R) ≡ true → smallest_start (N t) R < N t → smallest_start (N t) R ≡ s
      go (inl a) (inl b) st h = omega arith
      go (inl a) (inr b) st h = absurd (not_both R-start (before_smallest (N t) R s b))
      go (inr a) b st h =
          absurd (omega (
            arith,
            rw (R-size, R-words) at (rival_worth t good R (smallest_start (N t) R) st R-within R-near),
            o.earliest (smallest_start (N t) R) a,
          ))

  R-from : from (N t) R s ≡ true ∷ pick
  R-from =
      from_start t good R s R-start ∙ ap (λ l. true ∷ l) (made_others t good s o.within parts.0 pick attains.pick)

  -- a rival with as many slots, as many words and the same smallest start
  tie : (y : ℕ) → Within t.free y → Meets t.wheel t.words.0 (L t) y → start (N t) y s ≡ true → smallest_start (N t) y ≡ s
      → size (N t) y ≡ k → words t.wheel y ≡ v → (R ≡ y) ⊎ Better t.wheel R y
  unfolding count distances
  tie y yin ym st sm sk wv =
      let tl = others t good y s st in
      let from-y = from_start t good y s st in
      let ct : count tl ≡ pred k = omega (arith, size_others t good y s st, parts.1) in
      let wt : line t.wheel (phase t 0) tl ≡ rest_words.0 = omega (arith, words_others t good y s st, rest_words.2) in
      let first : First pick tl =
      subst (λ j. First (greedy t (ahead t s 1) 1 (phase t 0) j) tl) ct
      (greedy_first t (phase t 0) (rival t good y s st yin ym.near)
      (ap suc wt ∙ sym rest_words.1 ∙ ap (λ j. worth t (ahead t s 1) 1 (phase t 0) j) (sym ct))) in
      ⊎_elim
      (λ q. inl (same_from (N t) R y s good.legal.n1 (within_below good.fit R-within) (within_below good.fit yin) q))
      (λ b. inr (closer (R-size ∙ sym sk) (R-words ∙ sym wv) (R-smallest ∙ sym sm)
      (subst₂ (λ i j. Before (places (λ d. chosen (N t) R (i + d)) 0 (N t)) (places (λ d. chosen (N t) y (j + d)) 0 (N t))) (sym R-smallest) (sym sm) b)))
      (first_before (λ d. chosen (N t) R (s + d)) (λ d. chosen (N t) y (s + d)) (N t)
      (subst₂ First (sym R-from) (sym from-y) (both {x = true} first))
      (ap count R-from ∙ ap suc (attains.ones ∙ sym ct) ∙ sym (ap count from-y)))

  beats : (y : ℕ) → Within t.free y → Meets t.wheel t.words.0 (L t) y → (b : Bool) → full (N t) y ≡ b → (R ≡ y) ⊎ Better t.wheel R y
  beats y yin ym true e = inr (fewer (rw (size_full (N t) y e) (size_less (N t) R s good.legal.n1 (start_both (N t) R s R-start).1)))
  beats y yin ym false e =
      let (st, un) = has_smallest t.wheel y e (omega (arith, ym.delivers, good.some)) in
      go st un (rival_worth t good y (smallest_start (N t) y) st yin ym.near)
      (le_or_lt k (size (N t) y)) (le_or_lt (size (N t) y) k) (le_or_lt v (words t.wheel y))
      (le_or_lt s (smallest_start (N t) y)) (le_or_lt (smallest_start (N t) y) s)
    where
      last : start (N t) y (smallest_start (N t) y) ≡ true → (s ≤ smallest_start (N t) y) ⊎ (smallest_start (N t) y < s)
          → (smallest_start (N t) y ≤ s) ⊎ (s < smallest_start (N t) y) → size (N t) y ≡ k → words t.wheel y ≡ v
          → suc v ≤ head t (smallest_start (N t) y) 0 k → (R ≡ y) ⊎ Better t.wheel R y
      last st (inr d) f sk wv rk = absurd (omega (arith, o.earliest (smallest_start (N t) y) d))
      last st (inl d) (inr f) sk wv rk = inr (sooner (R-size ∙ sym sk) (R-words ∙ sym wv) (omega (arith, R-smallest)))
      last st (inl d) (inl f) sk wv rk =
          let sm : smallest_start (N t) y ≡ s = omega arith in
          tie y yin ym (subst (λ j. start (N t) y j ≡ true) sm st) sm sk wv

      go : start (N t) y (smallest_start (N t) y) ≡ true → smallest_start (N t) y < N t
          → suc (words t.wheel y) ≤ head t (smallest_start (N t) y) 0 (size (N t) y)
          → (k ≤ size (N t) y) ⊎ (size (N t) y < k) → (size (N t) y ≤ k) ⊎ (k < size (N t) y) → (v ≤ words t.wheel y) ⊎ (words t.wheel y < v)
          → (s ≤ smallest_start (N t) y) ⊎ (smallest_start (N t) y < s) → (smallest_start (N t) y ≤ s) ⊎ (s < smallest_start (N t) y)
          → (R ≡ y) ⊎ Better t.wheel R y
      go st un rv (inr a) b c d f = absurd (omega (arith, o.fewest (size (N t) y) (smallest_start (N t) y) a un, ym.delivers))
      go st un rv (inl a) (inr b) c d f = inr (fewer (omega (arith, R-size)))
      go st un rv (inl a) (inl b) (inr c) d f = inr (more (omega (arith, R-size)) (omega (arith, R-words)))
      go st un rv (inl a) (inl b) (inl c) d f =
          let sk : size (N t) y ≡ k = omega arith in
          let rk = rw sk at rv in
          let wv : words t.wheel y ≡ v = omega (arith, o.most (smallest_start (N t) y) un) in
          last st d f sk wv (omega arith)

  R-greedy : greedy_set t s k ≡ R
  unfolding begun
  R-greedy = greedy_made t good s o.within k

  pub greedy_best : Best t.wheel t.free t.words.0 (L t) (greedy_set t s k)
  greedy_best =
      rw R-greedy
      (record {
        within = R-within;
        meets = record { delivers = rw R-words o.enough; near = R-near };
        best = λ y yin ym. beats y yin ym (full (N t) y) refl;
      })

  pub greedy_size : size (N t) (greedy_set t s k) ≡ k
  greedy_size = rw R-greedy R-size

  pub greedy_words : words t.wheel (greedy_set t s k) ≡ v
  greedy_words = rw R-greedy R-words
