-- Above 65,535 a number acts as 65,535, and that changes no answer: a wheel with such an S or H is not legal either way; no
-- set delivers so many words; and no gap is longer than N, so that a limit above N restricts nothing.
use Rattle.std.specs.Prelude.{◌≡◌, List, [], ◌∷◌, ◌⊎◌, ℕ, ◌-◌, ◌*◌, ◌≤◌, ◌<◌, min, Result, Ok, Err}
use Rattle.std.proofs.Common.{sym, subst, inl, inr, arith}
use Rattle.rules.specs.declared.Refusal.{Refusal}
use Rattle.rules.specs.declared.Yes.{Yes}
use Rattle.rules.specs.declared.Totals.{Totals}
use Rattle.rules.specs.declared.Wheel.{Wheel}
use Rattle.rules.specs.declared.Call.{Call}
use Rattle.rules.specs.declared.Demand.{Demand}
use Rattle.rules.specs.declared.Grant.{Grant}
use Rattle.rules.specs.Wheels.{Legal}
use Rattle.rules.specs.Best.{Meets}
use Rattle.rules.specs.Paths.{Chip, chip_of, travel, allowed, free_slots}
use Rattle.rules.specs.Numbers.{Line, line, Refuses, Passes}
use Rattle.rules.specs.Orders.{NoneDelivers, NoneMeets, room_lines, select_order, checked, path_lines, flow_lines, opening, closing, open_order}
use Rattle.rules.specs.Promises.{Grants, Selects, of_opened, of_cleared, Reports, Row, open_record}
use Rattle.laws.specs.Logic.{le_or_lt}
use Rattle.laws.specs.Bounds.{words_small}
use Rattle.laws.specs.Gaps.{gap_most}
use Rattle.laws.specs.Decided.{legal_decided}
use Rattle.laws.specs.Refusals.{passed, Alike, alike_line, alike_given, alike_self, alike_then, refuses_alike, passes_alike}
use Rattle.ledger.specs.Lines.{stable, checked_ready}
use Rattle.bytes_list.specs.Layout.{count_of, list_in, asks, Written}
use Rattle.bytes_calls.specs.OverBytes.{PerformsBytes, OpensBytes, ClosesBytes, ReportsBytes}
use Rattle.face.specs.Calls.{wheel_of, OpensGiven}

-- ---- the wheel

-- an order that begins with 1 refuses every wheel that is not legal with 1
refused_first : (v w : Wheel) → ¬ Legal v → ¬ Legal w → (rest rest' : List Line) (k : ℕ) → Refuses (line 1 (¬ Legal v) ∷ rest) k
    → Refuses (line 1 (¬ Legal w) ∷ rest') k
unfolding Refuses
refused_first v w nv nw rest rest' k (inl p) = inl (nw, p.1)
refused_first v w nv nw rest rest' k (inr p) = absurd (p.0 nv)

module _ (n s h p : ℕ) where
  abbrev given : Wheel
  given = wheel_of n s h p

  abbrev short : Wheel
  short = wheel_of n (min s 65535) (min h 65535) p

  legal_given : Legal short → Legal given
  legal_given l =
      record {
        n1 = l.n1;
        n64 = l.n64;
        s2 = omega (arith, l.s2);
        s64 = omega (arith, l.s64);
        h = omega (arith, l.h, l.s64);
        p1 = l.p1;
        p64 = l.p64;
      }

  legal_same : Legal given → short ≡ given
  legal_same l =
      let words : min s 65535 ≡ s = omega (arith, l.s64) in
      let header : min h 65535 ≡ h = omega (arith, l.s64, l.h) in
      λ i. wheel_of n (words i) (header i) p

  -- what holds of the one wheel holds of the other, if it does so where neither is legal
  either : (P : Wheel → Type 0) → (¬ Legal short → ¬ Legal given → P short → P given) → P short → P given
  either P bad held = go (legal_decided given)
    where
      go : Dec (Legal given) → P given
      go (yes l) = subst P (legal_same l) held
      go (no l) = bad (λ q. l (legal_given q)) l held

  selects_wheel : (free W L : ℕ) (a : Result Grant Refusal) → Selects short free W L a → Selects given free W L a
  unfolding Selects Passes
  selects_wheel free W L a = either (λ w. Selects w free W L a) (bad a)
    where
      bad : (a : Result Grant Refusal) → ¬ Legal short → ¬ Legal given → Selects short free W L a → Selects given free W L a
      bad (Ok g) ns ng q = absurd (q.0.0 ns)
      bad (Err r) ns ng q = refused_first short given ns ng _ _ _ q

  row_wheel : (t : List ℕ) (c : ℕ) (part : List ℕ) → Row (chip_of short t) t c part → Row (chip_of given t) t c part
  row_wheel t c part =
      either (λ w. Row (chip_of w t) t c part) λ ns ng q.
      record { good = λ a. absurd (ng a.legal); bad = λ _. q.bad (λ a. ns a.legal) }

  module _ (t b : List ℕ) where
    reports_wheel : (a : Result Totals Refusal) → Reports (chip_of short t) t (count_of b) (list_in b) a → Reports (chip_of given t) t (count_of b) (list_in b) a
    unfolding Reports Passes
    reports_wheel a = either (λ w. Reports (chip_of w t) t (count_of b) (list_in b) a) (bad a)
      where
        bad : (a : Result Totals Refusal) → ¬ Legal short → ¬ Legal given → Reports (chip_of short t) t (count_of b) (list_in b) a
            → Reports (chip_of given t) t (count_of b) (list_in b) a
        bad (Ok c) ns ng q = absurd (q.0.0 ns)
        bad (Err r) ns ng q = refused_first short given ns ng _ _ _ q

    performs_wheel : (call : Call) (t' b' : List ℕ) (a : Result Yes Refusal) → PerformsBytes (chip_of short t) t b call t' b' a
        → PerformsBytes (chip_of given t) t b call t' b' a
    unfolding Passes
    performs_wheel call t' b' a = either (λ w. PerformsBytes (chip_of w t) t b call t' b' a) (bad a)
      where
        bad : (a : Result Yes Refusal) → ¬ Legal short → ¬ Legal given → PerformsBytes (chip_of short t) t b call t' b' a
            → PerformsBytes (chip_of given t) t b call t' b' a
        bad (Ok y) ns ng q = absurd (q.answers.0.0 ns)
        bad (Err r) ns ng q =
            record { answers = (refused_first short given ns ng _ _ _ q.answers.0, q.answers.1, q.answers.2); list = q.list }

-- ---- words and limits, on a legal wheel

module _ (w : Wheel) (legal : Legal w) where
  -- limits that are the same up to N
  module _ (W L M : ℕ) (same : min L w.n ≡ min M w.n) where
    meets_same : (x : ℕ) → Meets w W L x → Meets w W M x
    meets_same x m = record { delivers = m.delivers; near = λ i l o. omega (arith, m.near i l o, gap_most w.n x legal.n1 i) }

  none_same : (free W L M : ℕ) → min L w.n ≡ min M w.n → NoneMeets w free W L → NoneMeets w free W M
  none_same free W L M same q =
      record {
        set = q.set;
        within = q.within;
        delivers = q.delivers;
        none = λ x within m. q.none x within (meets_same W M L (sym same) x m);
      }

  grants_same : (free W L M : ℕ) → min L w.n ≡ min M w.n → (g : Grant) → Grants w free W L g → Grants w free W M g
  grants_same free W L M same g q =
      record {
        best = record {
          within = q.best.within;
          meets = meets_same W L M same g.slots q.best.meets;
          best = λ y within m. q.best.best y within (meets_same W M L (sym same) y m);
        };
        count = q.count;
        words = q.words;
      }

  -- no set delivers more than 4,096 words
  too_much : (free W : ℕ) → 4096 < W → NoneDelivers w free W
  too_much free W h = record { none = λ x _ d. omega (arith, words_small w legal x) }

  words_same : (free W : ℕ) → ¬ NoneDelivers w free (min W 65535) → min W 65535 ≡ W
  words_same free W some = go (le_or_lt W 65535)
    where
      go : (W ≤ 65535) ⊎ (65535 < W) → min W 65535 ≡ W
      go (inl l) = omega arith
      go (inr l) = absurd (some (too_much free (min W 65535) (omega arith)))

  room_alike : (free W L M : ℕ) → min L w.n ≡ min M w.n → Alike (room_lines w free (min W 65535) L) (room_lines w free W M)
  room_alike free W L M same = go (le_or_lt W 65535)
    where
      few : min W 65535 ≡ W → Alike (room_lines w free (min W 65535) L) (room_lines w free W M)
      few e =
          rw e
          (alike_line (line 13 (NoneDelivers w free W)) _ _ λ _.
          alike_given 14 _ _ [] [] (none_same free W L M same) (none_same free W M L (sym same)) λ _. alike_self [])

      go : (W ≤ 65535) ⊎ (65535 < W) → Alike (room_lines w free (min W 65535) L) (room_lines w free W M)
      go (inl l) = few (omega arith)
      go (inr l) =
          let none : NoneDelivers w free (min W 65535) = too_much free (min W 65535) (omega arith) in
          alike_given 13 _ _ _ _ (λ _. too_much free W (omega arith)) (λ _. none) λ some. absurd (some none)

-- ---- bare selection

module _ (w : Wheel) (free W L : ℕ) where
  limit_same : Legal w → min (min L 65535) w.n ≡ min L w.n
  limit_same legal = omega (arith, legal.n64)

  select_alike : Alike (select_order w free (min W 65535) (min L 65535)) (select_order w free W L)
  select_alike =
      alike_line (line 1 (¬ Legal w)) _ _ λ not-bad.
      let legal = stable (legal_decided w) not-bad in
      alike_line _ _ _ λ _.
      alike_given 11 _ _ _ _ (λ e. omega arith) (λ e. omega arith) λ _.
      alike_given 12 _ _ _ _ (λ e. omega arith) (λ e. omega arith) λ _.
      room_alike w legal free W (min L 65535) L (limit_same legal)

  selects_wide : (a : Result Grant Refusal) → Selects w free (min W 65535) (min L 65535) a → Selects w free W L a
  unfolding Selects
  selects_wide (Ok g) q =
      let order = select_order w free (min W 65535) (min L 65535) in
      let legal = stable (legal_decided w) (passed order 1 q.0) in
      let words = words_same w legal free W (passed order 13 q.0) in (
        passes_alike _ _ select_alike q.0,
        grants_same w legal free W (min L 65535) L (limit_same legal) g (subst (λ k. Grants w free k (min L 65535) g) words q.1),
      )
  selects_wide (Err r) q = refuses_alike _ _ _ select_alike q

-- ---- opening

-- a path takes at most 16 slots
travel_short : (chip : Chip) (path : List ℕ) (m : ℕ) → m ≤ 16 → travel chip path m ≤ 16
unfolding travel
travel_short chip path m h = h

module _ (chip : Chip) (t b path : List ℕ) (m f W D : ℕ) where
  abbrev d : Demand
  d = asks (min W 65535) (min D 65535)

  abbrev order : List Line
  order = open_order chip t (count_of b) (list_in b) path m f d

  fits : ¬ ((m ≡ 0) ⊎ (16 < m)) → m ≤ 16
  fits h = go (le_or_lt m 16)
    where
      go : (m ≤ 16) ⊎ (16 < m) → m ≤ 16
      go (inl l) = l
      go (inr l) = absurd (h (inr l))

  allowed_same : Legal chip.wheel → m ≤ 16 → min (allowed chip path m (min D 65535)) chip.wheel.n ≡ min (allowed chip path m D) chip.wheel.n
  unfolding allowed
  allowed_same legal h = omega (arith, legal.n64, travel_short chip path m h)

  open_alike : Alike order (open_order chip t (count_of b) (list_in b) path m f (asks W D))
  open_alike =
      alike_then (checked chip t (count_of b) _) _ (checked chip t (count_of b) _) _ (alike_self _) λ ready.
      alike_then (path_lines chip path m) _ (path_lines chip path m) _ (alike_self _) λ way.
      alike_then (flow_lines (count_of b) f) _ (flow_lines (count_of b) f) _ (alike_self _) λ _.
      let legal = (checked_ready chip t (count_of b) _ ready).legal in
      let short = fits (passed (path_lines chip path m) 5 way) in
      alike_line _ _ _ λ _.
      alike_given 11 _ _ _ _ (λ e. omega arith) (λ e. omega arith) λ _.
      alike_given 12 _ _ _ _ (λ e. omega (arith, travel_short chip path m short)) (λ e. omega (arith, travel_short chip path m short)) λ _.
      room_alike chip.wheel legal (free_slots chip t path m) W (allowed chip path m (min D 65535)) (allowed chip path m D) (allowed_same legal short)

  opens_wide : (t' b' : List ℕ) (a : Result Grant Refusal) → OpensBytes chip t b path m f d t' b' a → OpensGiven chip t b path m f W D t' b' a
  opens_wide t' b' (Ok g) q =
      let legal = stable (legal_decided chip.wheel) (passed order 1 q.answers.0) in
      let short = fits (passed order 5 q.answers.0) in
      let words = words_same chip.wheel legal (free_slots chip t path m) W (passed order 13 q.answers.0) in
      record {
        passes = passes_alike _ _ open_alike q.answers.0;
        grants =
            grants_same chip.wheel legal (free_slots chip t path m) W _ _ (allowed_same legal short) g
            (subst (λ k. Grants chip.wheel (free_slots chip t path m) k (allowed chip path m (min D 65535)) g) words q.answers.1);
        table = q.answers.2;
        list = subst (λ k. Written b (64 * (f - 1)) (open_record path m g.slots (asks k (min D 65535))) b') words q.list;
      }
  opens_wide t' b' (Err r) q =
      record { refuses = refuses_alike _ _ _ open_alike q.answers.0; table = q.answers.1; list = q.list }

-- ---- each call, v being the wheel that the library was asked with

module _ (n s h p : ℕ) (v : Wheel) (asked : v ≡ wheel_of n (min s 65535) (min h 65535) p) where
  pub select_given : (free W L k l : ℕ) → k ≡ min W 65535 → l ≡ min L 65535 → (a : Result Grant Refusal) → Selects v free k l a
      → Selects (wheel_of n s h p) free W L a
  select_given free W L k l words limit a q =
      selects_wide (wheel_of n s h p) free W L a (selects_wheel n s h p free (min W 65535) (min L 65535) a (rw (← asked, ← words, ← limit) q))

  pub row_given : (t : List ℕ) (c : ℕ) (part : List ℕ) → Row (chip_of v t) t c part → Row (chip_of (wheel_of n s h p) t) t c part
  row_given t c part q = row_wheel n s h p t c part (subst (λ w. Row (chip_of w t) t c part) asked q)

  module _ (t b : List ℕ) where
    pub report_given : (a : Result Totals Refusal) → ReportsBytes (chip_of v t) t b a → ReportsBytes (chip_of (wheel_of n s h p) t) t b a
    report_given a q = reports_wheel n s h p t b a (subst (λ w. ReportsBytes (chip_of w t) t b a) asked q)

    module _ (t' b' : List ℕ) where
      performs_given : (call : Call) (a : Result Yes Refusal) → PerformsBytes (chip_of v t) t b call t' b' a
          → PerformsBytes (chip_of (wheel_of n s h p) t) t b call t' b' a
      performs_given call a q = performs_wheel n s h p t b call t' b' a (subst (λ w. PerformsBytes (chip_of w t) t b call t' b' a) asked q)

      pub close_given : (f : ℕ) (a : Result ℕ Refusal) → ClosesBytes (chip_of v t) t b f t' b' a → ClosesBytes (chip_of (wheel_of n s h p) t) t b f t' b' a
      close_given f a q = performs_given (closing f) (of_cleared a) q

      pub open_given : (path : List ℕ) (m f W D k l : ℕ) → k ≡ min W 65535 → l ≡ min D 65535 → (a : Result Grant Refusal)
          → OpensBytes (chip_of v t) t b path m f (asks k l) t' b' a → OpensGiven (chip_of (wheel_of n s h p) t) t b path m f W D t' b' a
      open_given path m f W D k l words deadline a q =
          opens_wide (chip_of (wheel_of n s h p) t) t b path m f W D t' b' a
          (performs_given (opening path m f (asks (min W 65535) (min D 65535))) (of_opened a) (rw (← words, ← deadline) q))
