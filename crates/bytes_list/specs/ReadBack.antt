-- A record that was written reads back as itself, and the other records stay: the list afterwards is the list with the
-- record in its place. Bytes that are no record agree with no table.
use Rattle.std.specs.Prelude.{◌≡◌, refl, Bool, true, false, ◌&&◌, cond, List, ◌⊎◌, ℕ, zero, suc, ◌+◌, ◌-◌, ◌*◌, ◌/◌, ◌%◌, ◌≤◌, ◌<◌, get_or, length, set, take, drop, eqb}
use Rattle.std.proofs.Common.{sym, ap, subst, ◌∙◌, inl, inr, arith, div-one, add_assoc, add-suc, suc-add, add-zero, zero-add, length-set, ext_get_or, get_or-set_same, get_or-set_other, get_or-take, get_or-drop}
use Rattle.std.proofs.Math.Nat.{div-div-eq-div-mul}
use Rattle.rules.specs.declared.State.{State}
use Rattle.rules.specs.declared.State.TheVariants.{Closed, Open}
use Rattle.rules.specs.declared.Record.{Record}
use Rattle.rules.specs.Sets.{all, list_of}
use Rattle.rules.specs.Paths.{Chip}
use Rattle.rules.specs.Flows.{none, flow, Own, Agree}
use Rattle.laws.specs.Logic.{le_or_lt}
use Rattle.laws.specs.Counting.{list_length}
use Rattle.bytes_list.specs.Layout.{count_of, number_at, numbers_at, known_state, is_zero, formed, asks, state_from, path_from, slots_from, record_from, decoded, records, list_in, state_number, slots_number, number_of, Written}
use Rattle.bytes_list.specs.Reading.{list_is, list_at, made}
use Rattle.bytes_list.specs.Writing.{number_path}

-- ---- records with the same numbers

all_same : (f g : ℕ → Bool) (m : ℕ) → ((i : ℕ) → i < m → f i ≡ g i) → all f m ≡ all g m
unfolding all
all_same f g zero h = refl
all_same f g (suc m) h = rw (all_same f g m (λ i l. h i (omega arith)), h m (omega arith))

module _ (g h : ℕ → ℕ) (same : (j : ℕ) → j < 32 → g j ≡ h j) where
  formed_same : formed g ≡ formed h
  unfolding formed known_state is_zero
  formed_same =
      rw (same 0 (omega arith), same 1 (omega arith), same 2 (omega arith))
      (ap (λ b. known_state h && b) (all_same (is_zero g) (is_zero h) 8 λ i l. ap (λ v. eqb v 0) (same (24 + i) (omega arith))))

  state_same : state_from g ≡ state_from h
  unfolding state_from
  state_same = rw (formed_same, same 0 (omega arith), same 1 (omega arith), same 2 (omega arith))

  path_same : path_from g ≡ path_from h
  unfolding path_from
  path_same =
      list_is (λ i. h (4 + i)) 16 (list_of (λ i. g (4 + i)) 0 16) (list_length (λ i. g (4 + i)) 16 0) λ i l.
      list_at (λ k. g (4 + k)) 16 0 i l ∙ ap (λ k. g (4 + k)) (zero-add i) ∙ same (4 + i) (omega arith)

  slots_same : slots_from g ≡ slots_from h
  unfolding slots_from
  slots_same = rw (same 20 (omega arith), same 21 (omega arith), same 22 (omega arith), same 23 (omega arith))

  record_same : record_from g ≡ record_from h
  record_same = made h (state_from g) (path_from g) (g 3) (slots_from g) state_same path_same (same 3 (omega arith)) slots_same

-- ---- a record that is read from its own 64 bytes

module _ (b part : List ℕ) (at : ℕ) (cut : part ≡ take (at + 64 - at) (drop at b)) where
  byte_part : (i : ℕ) → i < 64 → get_or part i 0 ≡ get_or b (at + i) 0
  byte_part i h = rw cut (get_or-take (at + 64 - at) (drop at b) i 0 (omega arith) ∙ get_or-drop at b i 0)

  number_part : (j : ℕ) → j < 32 → number_at part 0 j ≡ number_at b at j
  unfolding number_at
  number_part j h =
      let low : get_or part (0 + 2 * j) 0 ≡ get_or b (at + 2 * j) 0 = rw zero-add (byte_part (2 * j) (omega arith)) in
      let high : get_or part (0 + 2 * j + 1) 0 ≡ get_or b (at + 2 * j + 1) 0 = rw (zero-add, add_assoc) (byte_part (2 * j + 1) (omega arith)) in
      rw (low, high)

  pub formed_part : formed (numbers_at part 0) ≡ formed (numbers_at b at)
  formed_part = formed_same (numbers_at part 0) (numbers_at b at) number_part

  pub decoded_part : record_from (numbers_at part 0) ≡ decoded b at
  unfolding decoded
  decoded_part = record_same (numbers_at part 0) (numbers_at b at) number_part

-- ---- a record's own numbers

four : (x : ℕ) → x < 18446744073709551616
    → x % 65536 + 65536 * (x / 65536 % 65536 + 65536 * (x / 4294967296 % 65536 + 65536 * (x / 281474976710656 % 65536))) ≡ x
four x h =
    let two : x / 65536 / 65536 ≡ x / 4294967296 = div-div-eq-div-mul x 65536 65536 in
    let three : x / 4294967296 / 65536 ≡ x / 281474976710656 = div-div-eq-div-mul x 4294967296 65536 in
    let few : x / 281474976710656 < 65536 = omega arith in
    let last : x / 281474976710656 % 65536 ≡ x / 281474976710656 = omega (arith, few) in
    let upper : x / 4294967296 % 65536 + 65536 * (x / 281474976710656) ≡ x / 4294967296 = omega (arith, three) in
    let middle : x / 65536 % 65536 + 65536 * (x / 4294967296) ≡ x / 65536 = omega (arith, two) in
    let all : x % 65536 + 65536 * (x / 65536) ≡ x = omega arith in
    rw (last, upper, middle, all)

module _ (p : List ℕ) (m x : ℕ) where
  self_state : (s : State) → state_from (number_of (record { state = s; path = record { entries = p; len = m }; slots = x })) ≡ s
  unfolding state_from formed known_state is_zero all number_of state_number
  self_state Closed = refl
  self_state (Open d) = refl

  self_path : (s : State) → length p ≡ 16 → path_from (number_of (record { state = s; path = record { entries = p; len = m }; slots = x })) ≡ p
  unfolding path_from
  self_path s long =
      let r : Record = record { state = s; path = record { entries = p; len = m }; slots = x } in
      sym
      (list_is (λ i. number_of r (4 + i)) 16 p long λ i h.
      let e : 4 + i - 4 ≡ i = omega arith in
      sym (ap (λ k. get_or p k 0) e) ∙ number_path r (4 + i) (omega arith) (omega arith))

  self_slots : (s : State) → x < 18446744073709551616 → slots_from (number_of (record { state = s; path = record { entries = p; len = m }; slots = x })) ≡ x
  unfolding slots_from number_of slots_number
  self_slots s h =
      ap (λ v. v % 65536 + 65536 * (x / 65536 % 65536 + 65536 * (x / 4294967296 % 65536 + 65536 * (x / 281474976710656 % 65536)))) (div-one x) ∙ four x h

  self_len : (s : State) → number_of (record { state = s; path = record { entries = p; len = m }; slots = x }) 3 ≡ m
  unfolding number_of
  self_len s = refl

record_self : (r : Record) → length r.path.entries ≡ 16 → r.slots < 18446744073709551616 → record_from (number_of r) ≡ r
record_self r long small =
    sym
    (made (number_of r) r.state r.path.entries r.path.len r.slots
    (sym (self_state r.path.entries r.path.len r.slots r.state))
    (sym (self_path r.path.entries r.path.len r.slots r.state long))
    (sym (self_len r.path.entries r.path.len r.slots r.state))
    (sym (self_slots r.path.entries r.path.len r.slots r.state small)))

-- ---- written, and read

module _ (b : List ℕ) (at : ℕ) (r : Record) (b' : List ℕ) (written : Written b at r b') where
  pub read_back : length r.path.entries ≡ 16 → r.slots < 18446744073709551616 → decoded b' at ≡ r
  unfolding decoded number_at
  read_back long small =
      record_same (numbers_at b' at) (number_of r) (λ j h. omega (arith, written.low j h, written.high j h)) ∙ record_self r long small

  pub read_apart : (k : ℕ) → (k + 64 ≤ at) ⊎ (at + 64 ≤ k) → decoded b' k ≡ decoded b k
  unfolding decoded number_at
  read_apart k (inl l) =
      record_same (numbers_at b' k) (numbers_at b k)
      λ j h. rw (written.before (k + 2 * j) (omega arith), written.before (k + 2 * j + 1) (omega arith))
  read_apart k (inr l) =
      record_same (numbers_at b' k) (numbers_at b k)
      λ j h. rw (written.after (k + 2 * j) (omega arith), written.after (k + 2 * j + 1) (omega arith))

-- ---- the list

records_length : (b : List ℕ) (m i : ℕ) → length (records b i m) ≡ m
unfolding records
records_length b zero i = refl
records_length b (suc m) i = ap suc (records_length b m (suc i))

records_at : (b : List ℕ) (m i f : ℕ) → f < m → flow (records b i m) f ≡ decoded b (64 * (i + f))
unfolding records
records_at b zero i f h = absurd (omega arith)
records_at b (suc m) i zero h = ap (λ k. decoded b (64 * k)) (sym (add-zero i))
records_at b (suc m) i (suc f) h = records_at b m (suc i) f (omega arith) ∙ ap (λ k. decoded b (64 * k)) (suc-add i f ∙ sym (add-suc i f))

-- there are 64 bytes for each record
pub count_room : (b : List ℕ) → 64 * count_of b ≤ length b
unfolding count_of
count_room b = go (eqb (length b % 64) 0)
  where
    go : (e : Bool) → 64 * cond e (length b / 64) 0 ≤ length b
    go true = omega arith
    go false = omega arith

pub flow_decoded : (b : List ℕ) (f : ℕ) → f < count_of b → flow (list_in b) f ≡ decoded b (64 * f)
unfolding list_in
flow_decoded b f h = records_at b (count_of b) 0 f h ∙ ap (λ k. decoded b (64 * k)) (zero-add f)

pub count_same : (b b' : List ℕ) → length b' ≡ length b → count_of b' ≡ count_of b
unfolding count_of
count_same b b' e = rw e

-- the list afterwards is the list with r in its place
pub list_written : (b : List ℕ) (i : ℕ) (r : Record) (b' : List ℕ) → Written b (64 * i) r b' → i < count_of b
    → length r.path.entries ≡ 16 → r.slots < 18446744073709551616 → list_in b' ≡ set (list_in b) i r
unfolding list_in
list_written b i r b' written h long small =
    ap (λ n. records b' 0 n) (count_same b b' written.long) ∙
    ext_get_or none (records b' 0 n) (set (records b 0 n) i r)
    (records_length b' n 0 ∙ sym (simp length-set (records_length b n 0)))
    λ k l. at k (omega (arith, records_length b' n 0)) (le_or_lt i k) (le_or_lt k i)
  where
    n : ℕ
    n = count_of b

    reads : (k : ℕ) → k < n → get_or (records b' 0 n) k none ≡ decoded b' (64 * k)
    reads k l = records_at b' n 0 k l ∙ ap (λ j. decoded b' (64 * j)) (zero-add k)

    stays : (k : ℕ) → k < n → ¬ (k ≡ i) → decoded b' (64 * k) ≡ decoded b (64 * k) → get_or (records b' 0 n) k none ≡ get_or (set (records b 0 n) i r) k none
    stays k l apart e =
        reads k l ∙ e ∙ sym (records_at b n 0 k l ∙ ap (λ j. decoded b (64 * j)) (zero-add k))
        ∙ sym (get_or-set_other (records b 0 n) i k r none apart)

    at : (k : ℕ) → k < n → (i ≤ k) ⊎ (k < i) → (k ≤ i) ⊎ (i < k) → get_or (records b' 0 n) k none ≡ get_or (set (records b 0 n) i r) k none
    at k l (inr a) c = stays k l (λ e. omega arith) (read_apart b (64 * i) r b' written (64 * k) (inl (omega arith)))
    at k l (inl a) (inr c) = stays k l (λ e. omega arith) (read_apart b (64 * i) r b' written (64 * k) (inr (omega arith)))
    at k l (inl a) (inl c) =
        let here : k ≡ i = omega arith in
        rw here
        (reads i h ∙ read_back b (64 * i) r b' written long small
        ∙ sym (get_or-set_same (records b 0 n) i r none (omega (arith, records_length b n 0))))

-- bytes that are no record agree with no table
pub unformed_disagrees : (chip : Chip) (t b : List ℕ) (f : ℕ) → f < count_of b → formed (numbers_at b (64 * f)) ≡ false → ¬ Agree chip t (count_of b) (list_in b)
unfolding decoded state_from Own
unformed_disagrees chip t b f h e agree =
    let state : (flow (list_in b) f).state ≡ Open (asks 0 0) = ap (λ r. r.state) (flow_decoded b f h) ∙ rw e in
    let own : Own chip (Open (asks 0 0)) (flow (list_in b) f) = subst (λ s. Own chip s (flow (list_in b) f)) state (agree.own f h) in
    omega (arith, own.words)
