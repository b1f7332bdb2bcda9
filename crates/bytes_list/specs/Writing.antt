-- A record's numbers, one after the other, and what the bytes are while they are written.
use Rattle.std.specs.Prelude.{◌≡◌, refl, List, ◌⊎◌, ℕ, suc, ◌+◌, ◌-◌, ◌*◌, ◌/◌, ◌%◌, ◌≤◌, ◌<◌, get_or, length, set}
use Rattle.std.proofs.Common.{ap, ◌∙◌, inl, inr, arith, eq-or-lt_of_le, length-set, get_or-set_same, get_or-set_other, lt-ltb, le-ltb, eq-eqb, ne_eqb}
use Rattle.rules.specs.declared.Demand.{Demand}
use Rattle.rules.specs.declared.State.{State}
use Rattle.rules.specs.declared.State.TheVariants.{Closed, Open}
use Rattle.rules.specs.declared.Record.{Record}
use Rattle.bytes_list.specs.Layout.{state_number, slots_number, number_of, Written}

-- ---- a state's numbers

pub closed_number : (s : State) (j : ℕ) → s ≡ Closed → 0 ≡ state_number s j
unfolding state_number
closed_number s j e = rw e

module _ (s : State) (d : Demand) (e : s ≡ Open d) (j : ℕ) where
  pub open_number : j ≡ 0 → 1 ≡ state_number s j
  unfolding state_number
  open_number z = rw (e, eq-eqb j 0 z)

  pub words_number : ¬ (j ≡ 0) → j ≡ 1 → d.words.0 ≡ state_number s j
  unfolding state_number
  words_number n z = rw (e, ne_eqb j 0 n, eq-eqb j 1 z)

  pub deadline_number : ¬ (j ≡ 0) → ¬ (j ≡ 1) → d.deadline ≡ state_number s j
  unfolding state_number
  deadline_number n m = rw (e, ne_eqb j 0 n, ne_eqb j 1 m)

-- ---- a record's numbers

module _ (r : Record) (j : ℕ) where
  pub number_state : j < 3 → state_number r.state j ≡ number_of r j
  unfolding number_of
  number_state h = rw (lt-ltb j 3 h)

  pub number_len : 3 ≤ j → j < 4 → r.path.len ≡ number_of r j
  unfolding number_of
  number_len l h = rw (le-ltb j 3 l, lt-ltb j 4 h)

  pub number_path : 4 ≤ j → j < 20 → get_or r.path.entries (j - 4) 0 ≡ number_of r j
  unfolding number_of
  number_path l h = rw (le-ltb j 3 (omega arith), le-ltb j 4 l, lt-ltb j 20 h)

  pub number_slots : 20 ≤ j → j < 24 → slots_number r.slots (j - 20) ≡ number_of r j
  unfolding number_of
  number_slots l h = rw (le-ltb j 3 (omega arith), le-ltb j 4 (omega arith), le-ltb j 20 l, lt-ltb j 24 h)

  pub number_rest : 24 ≤ j → 0 ≡ number_of r j
  unfolding number_of
  number_rest l = rw (le-ltb j 3 (omega arith), le-ltb j 4 (omega arith), le-ltb j 20 (omega arith), le-ltb j 24 l)

-- ---- the bytes, with the numbers below j written

pub record Filled (old : List ℕ) (at : ℕ) (r : Record) (j : ℕ) (new : List ℕ) : Type 0 where
  pub long : length new ≡ length old
  pub low : (i : ℕ) → i < j → get_or new (at + 2 * i) 0 ≡ number_of r i % 256
  pub high : (i : ℕ) → i < j → get_or new (at + 2 * i + 1) 0 ≡ number_of r i / 256
  pub before : (k : ℕ) → k < at → get_or new k 0 ≡ get_or old k 0
  pub after : (k : ℕ) → at + 2 * j ≤ k → get_or new k 0 ≡ get_or old k 0

module _ (old : List ℕ) (at : ℕ) (r : Record) where
  pub filled_none : Filled old at r 0 old
  filled_none =
      record { long = refl; low = λ i h. absurd (omega arith); high = λ i h. absurd (omega arith); before = λ k h. refl; after = λ k h. refl }

  module _ (j : ℕ) (b : List ℕ) (filled : Filled old at r j b) where
    pub filled_more : j < 32 → at + 64 ≤ length old → (p v : ℕ) → p ≡ at + 2 * j → v ≡ number_of r j
        → Filled old at r (j + 1) (set (set b p (v % 256)) (p + 1) (v / 256))
    filled_more h room p v p-is v-is =
        record {
          long = simp length-set filled.long;
          low = λ i l. low_at i (eq-or-lt_of_le l);
          high = λ i l. high_at i (eq-or-lt_of_le l);
          before = λ k l. apart k (λ e. omega arith) (λ e. omega arith) ∙ filled.before k l;
          after = λ k l. apart k (λ e. omega arith) (λ e. omega arith) ∙ filled.after k (omega arith);
        }
      where
        long : length b ≡ length old
        long = filled.long

        apart : (k : ℕ) → ¬ (k ≡ p) → ¬ (k ≡ p + 1) → get_or (set (set b p (v % 256)) (p + 1) (v / 256)) k 0 ≡ get_or b k 0
        apart k m n = get_or-set_other (set b p (v % 256)) (p + 1) k (v / 256) 0 n ∙ get_or-set_other b p k (v % 256) 0 m

        low_here : get_or (set (set b p (v % 256)) (p + 1) (v / 256)) p 0 ≡ number_of r j % 256
        low_here =
            get_or-set_other (set b p (v % 256)) (p + 1) p (v / 256) 0 (λ e. omega arith)
            ∙ get_or-set_same b p (v % 256) 0 (omega (arith, filled.long)) ∙ ap (λ u. u % 256) v-is

        high_here : get_or (set (set b p (v % 256)) (p + 1) (v / 256)) (p + 1) 0 ≡ number_of r j / 256
        high_here =
            get_or-set_same (set b p (v % 256)) (p + 1) (v / 256) 0 (simp length-set (omega (arith, filled.long))) ∙ ap (λ u. u / 256) v-is

        low_at : (i : ℕ) → (suc i ≡ j + 1) ⊎ (suc i < j + 1) → get_or (set (set b p (v % 256)) (p + 1) (v / 256)) (at + 2 * i) 0 ≡ number_of r i % 256
        low_at i (inl e) = let i-is : i ≡ j = omega arith in rw (i-is, ← p-is) low_here
        low_at i (inr l) = apart (at + 2 * i) (λ e. omega arith) (λ e. omega arith) ∙ filled.low i (omega arith)

        high_at : (i : ℕ) → (suc i ≡ j + 1) ⊎ (suc i < j + 1)
            → get_or (set (set b p (v % 256)) (p + 1) (v / 256)) (at + 2 * i + 1) 0 ≡ number_of r i / 256
        high_at i (inl e) = let i-is : i ≡ j = omega arith in rw (i-is, ← p-is) high_here
        high_at i (inr l) = apart (at + 2 * i + 1) (λ e. omega arith) (λ e. omega arith) ∙ filled.high i (omega arith)

    pub filled_all : j ≡ 32 → Written old at r b
    filled_all e =
        record {
          long = filled.long;
          low = λ i h. filled.low i (omega arith);
          high = λ i h. filled.high i (omega arith);
          before = filled.before;
          after = λ k h. filled.after k (omega arith);
        }
