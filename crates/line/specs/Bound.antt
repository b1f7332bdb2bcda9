-- A bound that needs no table. Every header brings at most P slots, the first one no more than the free run at the start,
-- and every header but the first is needed for a gap of at most L; so k slots pay at least a certain number of headers and
-- cannot deliver more than what these leave. Starts that cannot win are passed over by this bound.
use Rattle.std.specs.Prelude.{◌≡◌, refl, Bool, cond, ◌⊎◌, length, true, false, List, [], ◌∷◌, ℕ, zero, suc, ◌+◌, ◌-◌, ◌*◌, ◌/◌, ◌%◌, ◌≤◌, ◌<◌, min}
use Rattle.std.proofs.Common.{◌∙◌, inl, inr, mul-le-mul_right, div-lt_iff_lt-mul, ap, arith, mod-lt}
use Rattle.rules.specs.Sets.{stretch}
use Rattle.std.proofs.lemmas.Grind.{div_ceil_times}
use Rattle.laws.specs.Logic.{le_or_lt}
use Rattle.laws.specs.Counting.{stretch_stops}
use Rattle.laws.specs.Reading.{flags, count, gain, next, next_case, line_words}
use Rattle.laws.specs.Runs.{line}
use Rattle.line.specs.declared.Task.{Task}
use Rattle.line.specs.Values.{N, S, H, P, L, raised_parts, took, Pick, done, take, skip, slot_words, phase, worth, taking, greedy, greedy_attains}
use Rattle.line.specs.Packets.{ahead, opens, flags_length, head}
use Rattle.line.specs.Tables.{Sound, FreeRun}

-- ---- headers of a choice

-- a header is paid at phase 0
unfoldable fee : ℕ → ℕ
fee zero = 1
fee (suc r) = 0

unfoldable headers : ℕ → ℕ → List Bool → ℕ
headers P r [] = 0
headers P r (true ∷ xs) = fee r + headers P (next P r) xs
headers P r (false ∷ xs) = headers P 0 xs

-- the slots that the packet under way still has room for
unfoldable room : ℕ → ℕ → ℕ
room P zero = 0
room P (suc r) = P - suc r

-- how many flags are set before the first that is not
unfoldable leading : List Bool → ℕ
leading [] = 0
leading (true ∷ fs) = suc (leading fs)
leading (false ∷ fs) = 0

leading_flags : (f : ℕ → Bool) (i m : ℕ) → leading (flags f i m) ≡ stretch f i m
unfolding leading flags stretch
leading_flags f i zero = refl
leading_flags f i (suc m) = go (f i) (leading_flags f (suc i) m)
  where
    go : (b : Bool) → leading (flags f (suc i) m) ≡ stretch f (suc i) m → leading (b ∷ flags f (suc i) m) ≡ cond b (suc (stretch f (suc i) m)) 0
    go true e = ap suc e
    go false e = refl

fee_zero : fee 0 ≡ 1
unfolding fee
fee_zero = refl

room_zero : (P : ℕ) → room P 0 ≡ 0
unfolding room
room_zero P = refl

fee_gain : (S H r : ℕ) → H ≤ S → gain S H r + fee r * H ≡ S
unfolding gain fee
fee_gain S H zero h = omega arith
fee_gain S H (suc r) h = omega arith

-- a slot of the packet under way leaves room for one less
room_next : (P r : ℕ) → r < P → (fee r ≡ 1) ⊎ ((fee r ≡ 0) × (suc (room P (next P r)) ≤ room P r))
unfolding room fee
room_next P zero h = inl refl
room_next P (suc r) h = inr (refl, go (next_case P (suc r) h))
  where
    go : ((suc (suc r) ≡ P) × (next P (suc r) ≡ 0)) ⊎ ((suc (suc r) < P) × (next P (suc r) ≡ suc (suc r))) → suc (room P (next P (suc r))) ≤ P - suc r
    go (inl (a, b)) = rw b (omega arith)
    go (inr (a, b)) = rw b (omega arith)

room_most : (P r : ℕ) → 1 ≤ P → suc (room P r) ≤ P
unfolding room
room_most P zero h = omega arith
room_most P (suc r) h = omega arith

module _ (S H P : ℕ) (hs : H ≤ S) (p1 : 1 ≤ P) where
  words_paid : (xs : List Bool) (r : ℕ) → line_words S H P r xs + headers P r xs * H ≡ count xs * S
  unfolding line_words headers count
  words_paid [] r = omega arith
  words_paid (true ∷ xs) r = omega (arith, words_paid xs (next P r), fee_gain S H r hs)
  words_paid (false ∷ xs) r = words_paid xs 0

  phase_below : (r : ℕ) → next P r < P
  unfolding next
  phase_below r = mod-lt (suc r) p1

  -- a header for every P slots, but for those that the packet under way and the free run still allow
  slots_paid : {L g : ℕ} {fs xs : List Bool} (r : ℕ) → r < P → Pick L g fs xs → count xs ≤ headers P r xs * P + min (room P r) (leading fs)
  unfolding headers count leading
  slots_paid r h (done l) = omega arith
  slots_paid r h (take {fs = fs} {xs = xs} p) =
      go (room_next P r h) (slots_paid (next P r) (phase_below r) p)
    where
      go : (fee r ≡ 1) ⊎ ((fee r ≡ 0) × (suc (room P (next P r)) ≤ room P r))
          → count xs ≤ headers P (next P r) xs * P + min (room P (next P r)) (leading fs)
          → suc (count xs) ≤ (fee r + headers P (next P r) xs) * P + min (room P r) (suc (leading fs))
      go (inl e) ih = rw e (omega (arith, room_most P (next P r) p1))
      go (inr (e, l)) ih = rw e (omega arith)
  slots_paid r h (skip l p) = omega (arith, slots_paid 0 p1 p, room_zero P)

-- each header allows a gap
gaps_paid : (P L : ℕ) → 1 ≤ L → {g : ℕ} {fs xs : List Bool} (r : ℕ) → Pick L g fs xs → g ≤ L → (r ≡ 0) ⊎ (g ≡ 1)
    → length fs + g ≤ count xs + L + headers P r xs * (L - 1)
unfolding headers count fee
gaps_paid P L l1 r (done h) a z = omega arith
gaps_paid P L l1 r (take {g = g} {fs = fs} {xs = xs} p) a z = go r z (gaps_paid P L l1 (next P r) p l1 (inr refl))
  where
    go : (r : ℕ) → (r ≡ 0) ⊎ (g ≡ 1) → length fs + 1 ≤ count xs + L + headers P (next P r) xs * (L - 1)
        → suc (length fs) + g ≤ suc (count xs) + L + (fee r + headers P (next P r) xs) * (L - 1)
    go zero z ih = omega (arith, fee_zero)
    go (suc r) (inl e) ih = absurd (omega arith)
    go (suc r) (inr e) ih = omega arith
gaps_paid P L l1 r (skip p h) a z = omega (arith, gaps_paid P L l1 0 h (omega arith) (inl refl))

-- ---- what k slots deliver

-- v words with c headers, where the first packet has at most f slots
pub record Paid (t : Task) (f k v : ℕ) : Type 0 where
  pub c : ℕ
  pub words : v + c * H t ≡ k * S t
  pub slots : k + (P t - f) ≤ c * P t
  pub gaps : N t ≤ k + c * (L t - 1)

module _ (t : Task) (good : Sound t) where
  hs : H t ≤ S t
  hs = omega (arith, good.legal.h)

  paid_pick : (fs xs : List Bool) → N t ≡ suc (length fs) → Pick (L t) 1 fs xs
      → Paid t (suc (leading fs)) (suc (count xs)) (slot_words t 0 + line t.wheel (phase t 0) xs)
  unfolding fee
  paid_pick fs xs e p =
      let p1 = good.legal.p1 in
      record {
        c = suc (headers (P t) (phase t 0) xs);
        words = omega (arith, words_paid (S t) (H t) (P t) hs p1 xs (phase t 0), fee_gain (S t) (H t) 0 hs, fee_zero);
        slots =
            omega (
              arith,
              slots_paid (S t) (H t) (P t) hs p1 (phase t 0) (phase_below (S t) (H t) (P t) hs p1 0) p,
              room_most (P t) (phase t 0) p1,
            );
        gaps = omega (arith, gaps_paid (P t) (L t) good.l1 (phase t 0) p good.l1 (inr refl));
      }

  paid_taking : (f : Bool) (fs : List Bool) (k v : ℕ) → N t ≡ suc (length fs) → taking t f fs 0 k ≡ suc v → Paid t (suc (leading fs)) k v
  unfolding taking took
  paid_taking false fs k v n e = absurd (omega arith)
  paid_taking true fs zero v n e = absurd (omega arith)
  paid_taking true fs (suc k) v n e =
      let (u, d, q) = raised_parts (slot_words t 0) (worth t fs 1 (phase t 0) k) v e in
      let a = greedy_attains t fs 1 (phase t 0) k u d in
      let z = paid_pick fs (greedy t fs 1 (phase t 0) k) n a.pick in
      record {
        c = z.c;
        words = omega (arith, z.words, a.value, ap (λ i. suc i * S t) a.ones);
        slots = omega (arith, z.slots, a.ones);
        gaps = omega (arith, z.gaps, a.ones);
      }

  paid_head : (s k v : ℕ) → head t s 0 k ≡ suc v → Paid t (suc (leading (ahead t s 1))) k v
  unfolding head
  paid_head s k v e =
      paid_taking (opens t s 0) (ahead t s 1) k v (omega (arith, flags_length (opens t s) 1 (N t - 1), good.legal.n1)) e

  pub paid_more : {f g k v : ℕ} → P t - g ≤ P t - f → Paid t f k v → Paid t g k v
  paid_more h z = record { c = z.c; words = z.words; slots = omega (arith, z.slots); gaps = z.gaps }

  -- at any start
  pub paid_any : (s k v : ℕ) → head t s 0 k ≡ suc v → Paid t (P t) k v
  paid_any s k v e = paid_more (omega arith) (paid_head s k v e)

  -- at a start where f slots are free
  pub paid_run : (s f k v : ℕ) → 1 ≤ f → FreeRun t s 0 f → head t s 0 k ≡ suc v → Paid t f k v
  paid_run s f k v f1 run e =
      let i : 1 + (f - 1) ≡ 0 + f = omega arith in
      let stop = stretch_stops (opens t s) (f - 1) 1 (N t - 1) (ap (opens t s) i ∙ run.stop) in
      paid_more (omega (arith, leading_flags (opens t s) 1 (N t - 1))) (paid_head s k v e)

-- with a limit of 1 only the full wheel will do
pub none_paid : (t : Task) → Sound t → {f k v : ℕ} → (L t < 2) × (k < N t) → Paid t f k v → ⊥
none_paid t good (l, h) z =
    let one : L t ≡ 1 = omega (arith, good.l1) in
    let none : z.c * (L t - 1) ≡ z.c * (1 - 1) = ap (λ i. z.c * (i - 1)) one in
    omega (arith, none, z.gaps)

-- at least c headers are paid: so much is left at most
pub most_left : (t : Task) (f k c : ℕ) → ((d : ℕ) → k + (P t - f) ≤ d * P t → N t ≤ k + d * (L t - 1) → c ≤ d) → (v : ℕ) → Paid t f k v
    → v + c * H t ≤ k * S t
most_left t f k c h v z =
    let m : c * H t ≤ z.c * H t = mul-le-mul_right (H t) (h z.c z.slots z.gaps) in
    omega (arith, z.words)

-- a / b, rounded up, is the least c with a ≤ c * b
pub ceil_least : (a b c r : ℕ) → r ≡ a / b + min 1 (a % b) → 1 ≤ b → a ≤ c * b → r ≤ c
ceil_least a b c r e h l = go (le_or_lt r c)
  where
    go : (r ≤ c) ⊎ (c < r) → r ≤ c
    go (inl d) = d
    go (inr d) =
        let more : (c + 1) * b ≤ r * b = mul-le-mul_right b (omega arith) in
        omega (arith, div_ceil_times a b h, ap (λ i. i * b) e)

-- and so is the quotient as rule 2 writes it
pub ceil_least_sum : (a b : ℕ) → 1 ≤ b → (c : ℕ) → a ≤ c * b → (a + b - 1) / b ≤ c
ceil_least_sum a b h c e =
    let q : a + b - 1 < suc c * b = omega arith in
    let r = (div-lt_iff_lt-mul {k = b} {x = a + b - 1} {y = suc c} h).1 q in
    omega arith
