-- The value of a line is that of a set: the greedy choice attains it, and its slots are a set of free slots that keeps the
-- gap rule, starts at the line's start, and has the number of slots and the words of the value.
use Rattle.std.specs.Prelude.{◌≡◌, refl, Bool, true, false, List, ◌∷◌, ℕ, zero, suc, pred, ◌+◌, ◌≤◌, ◌<◌}
use Rattle.std.proofs.Common.{sym, ap, ◌∙◌, arith}
use Rattle.rules.specs.Sets.{Within}
use Rattle.rules.specs.Wheels.{chosen, start, size, words, gap}
use Rattle.line.specs.declared.Task.{Task}
use Rattle.line.specs.Values.{N, L, took, raised, raised_parts, slot_words, phase, worth, taking, greedy, greedy_attains, Attains}
use Rattle.line.specs.Packets.{opens, ahead, head}
use Rattle.line.specs.Tables.{Sound}
use Rattle.optimum.specs.Made.{made, made_within, made_start, made_size, made_words, made_near}

took_parts : (b : Bool) (k a z v : ℕ) → took b k a z ≡ suc v → (b ≡ true) × (k ≡ suc (pred k)) × (raised a z ≡ suc v)
unfolding took
took_parts true (suc k) a z v e = (refl, refl, e)
took_parts true zero a z v e = absurd (omega arith)
took_parts false k a z v e = absurd (omega arith)

module _ (t : Task) (good : Sound t) (s k v : ℕ) (within : s < N t) (value : head t s 0 k ≡ suc v) where
  -- what the slots after the start are worth
  abbrev pub rest_worth : ℕ
  rest_worth = worth t (ahead t s 1) 1 (phase t 0) (pred k)

  pub parts : (opens t s 0 ≡ true) × (k ≡ suc (pred k)) × (raised (slot_words t 0) rest_worth ≡ suc v)
  unfolding head taking
  parts = took_parts (opens t s 0) k (slot_words t 0) rest_worth v value

  pub rest_words : (u : ℕ) × (rest_worth ≡ suc u) × (slot_words t 0 + u ≡ v)
  rest_words = raised_parts (slot_words t 0) rest_worth v parts.2

  -- the greedy choice after the start
  abbrev pub pick : List Bool
  pick = greedy t (ahead t s 1) 1 (phase t 0) (pred k)

  pub attains : Attains t 1 (ahead t s 1) (phase t 0) (pred k) rest_words.0 pick
  attains = greedy_attains t (ahead t s 1) 1 (phase t 0) (pred k) rest_words.0 rest_words.1

  -- its set
  abbrev pub R : ℕ
  R = made (N t) s (true ∷ pick)

  pub R-within : Within t.free R
  R-within = made_within t good s within parts.0 pick attains.pick

  pub R-start : start (N t) R s ≡ true
  R-start = made_start t good s within parts.0 pick attains.pick

  pub R-size : size (N t) R ≡ k
  R-size = made_size t good s within parts.0 pick attains.pick ∙ ap suc attains.ones ∙ sym parts.1

  pub R-words : words t.wheel R ≡ v
  R-words =
      made_words t good s within parts.0 pick attains.pick ∙ ap (λ n. slot_words t 0 + n) attains.value ∙ rest_words.2

  pub R-near : (i : ℕ) → i < N t → chosen (N t) R i ≡ true → gap (N t) R i ≤ L t
  R-near = made_near t good s within parts.0 pick attains.pick
