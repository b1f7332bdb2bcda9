-- The linear problem by packets. At a start the wheel is a line of N positions of which the last stays shut; a run of chosen
-- slots is a sequence of packets of at most P slots with a header each. So a best choice is known from two tables: `head`,
-- where a packet begins at a position, and `tail`, where a run has ended just before one.
use Rattle.std.specs.Prelude.{◌≡◌, Bool, true, false, ◌&&◌, ◌⊎◌, leb, ltb, refl, List, [], ◌∷◌, ℕ, zero, suc, pred, ◌+◌, ◌-◌, ◌*◌, ◌%◌, ◌≤◌, ◌<◌, max, length}
use Rattle.std.proofs.Common.{◌∙◌, inl, inr, sym, ap, ap₂, arith, mod-eq_of_lt, mul-le-mul_right, add-one, lt-ltb, le-ltb}
use Rattle.std.proofs.Math.Nat.{mod_self, max-eq_left, max-eq_right, max_comm}
use Rattle.std.proofs.lemmas.Bool.{lt-leb}
use Rattle.rules.specs.Wheels.{chosen}
use Rattle.laws.specs.Logic.{not_both, le_or_lt}
use Rattle.laws.specs.Reading.{flags, gain, next}
use Rattle.laws.specs.Bounds.{gain_most}
use Rattle.line.specs.declared.Task.{Task}
use Rattle.line.specs.Values.{N, S, H, P, L, or_none, raised, took, at_end, slot_words, phase, worth, worth_cons, worth_most, taking, skipping, took_most, or_none_most}

-- at position d from the start s: free, and not the slot before s
unfoldable pub opens : Task → ℕ → ℕ → Bool
opens t s d = ltb (d + 1) (N t) && chosen (N t) t.free (s + d)

pub opens_before : (t : Task) (s d : ℕ) → d + 1 < N t → opens t s d ≡ chosen (N t) t.free (s + d)
unfolding opens
opens_before t s d h = rw (lt-ltb (d + 1) (N t) h)

pub opens_last : (t : Task) (s d : ℕ) → N t ≤ d + 1 → opens t s d ≡ false
unfolding opens
opens_last t s d h = rw (le-ltb (d + 1) (N t) h)

-- the words of a packet of q slots
abbrev pub packet_words : Task → ℕ → ℕ
packet_words t q = q * S t - H t

pub flags_length : (f : ℕ → Bool) (i m : ℕ) → length (flags f i m) ≡ m
unfolding flags
flags_length f i zero = refl
flags_length f i (suc m) = ap suc (flags_length f (suc i) m)

pub gain_later : (S H r : ℕ) → (r ≡ 0 → ⊥) → S ≡ gain S H r
unfolding gain
gain_later S H zero e = absurd (e refl)
gain_later S H (suc r) e = refl

-- ---- on raised, took and max

raised_mono : (a x y : ℕ) → x ≤ y → raised a x ≤ raised a y
unfolding raised
raised_mono a zero y h = omega arith
raised_mono a (suc x) zero h = absurd (omega arith)
raised_mono a (suc x) (suc y) h = omega arith

raised_max : (a x y : ℕ) → raised a (max x y) ≡ max (raised a x) (raised a y)
raised_max a x y = go (le_or_lt x y)
  where
    go : (x ≤ y) ⊎ (y < x) → raised a (max x y) ≡ max (raised a x) (raised a y)
    go (inl h) = rw (max-eq_right {n = x} {m = y} h) (omega (arith, raised_mono a x y h))
    go (inr h) = rw (max-eq_left {n = x} {m = y} (omega arith)) (omega (arith, raised_mono a y x (omega arith)))

pub raised_twice : (a b v : ℕ) → raised a (raised b v) ≡ raised (a + b) v
unfolding raised
raised_twice a b zero = refl
raised_twice a b (suc v) = omega arith

pub took_some : (f : Bool) (k a v : ℕ) → f ≡ true → 1 ≤ k → took f k a v ≡ raised a v
unfolding took
took_some true (suc k) a v e h = refl
took_some true zero a v e h = absurd (omega arith)
took_some false k a v e h = absurd (not_both e refl)

pub took_shut : (f : Bool) (k a v : ℕ) → f ≡ false → took f k a v ≡ 0
unfolding took
took_shut false k a v e = refl
took_shut true k a v e = absurd (not_both refl e)

pub took_zero : (f : Bool) (k a v : ℕ) → k ≡ 0 → took f k a v ≡ 0
unfolding took
took_zero false k a v e = refl
took_zero true zero a v e = refl
took_zero true (suc k) a v e = absurd (omega arith)

or_none_zero : (b : Bool) (v : ℕ) → v ≡ 0 → or_none b v ≡ 0
unfolding or_none
or_none_zero true v e = e
or_none_zero false v e = refl

or_none_false : (b : Bool) (v : ℕ) → b ≡ false → or_none b v ≡ 0
unfolding or_none
or_none_false false v e = refl
or_none_false true v e = absurd (not_both refl e)

module _ (t : Task) where
  worth_nil : (g r k : ℕ) → worth t [] g r (suc k) ≡ 0
  unfolding worth at_end
  worth_nil g r k = refl

  worth_empty : (g r k : ℕ) → 1 ≤ k → worth t [] g r k ≡ 0
  worth_empty g r zero h = absurd (omega arith)
  worth_empty g r (suc k) h = worth_nil g r k

  skip_none : (fs : List Bool) (g k : ℕ) → L t ≤ g → skipping t fs g k ≡ 0
  unfolding skipping or_none
  skip_none fs g k h = rw (le-ltb g (L t) h)

module _ (t : Task) (s : ℕ) where
  -- the flags from d on
  abbrev pub ahead : ℕ → List Bool
  ahead d = flags (opens t s) d (N t - d)

  -- k slots from p on, where a packet begins at p
  unfoldable pub head : ℕ → ℕ → ℕ
  head p k = taking t (opens t s p) (ahead (p + 1)) 0 k

  -- k slots after e, which is taken, where e + 1 is not
  unfoldable pub tail : ℕ → ℕ → ℕ
  tail e k = skipping t (ahead (e + 2)) 1 k

  pub ahead_cons : (d : ℕ) → d < N t → ahead d ≡ opens t s d ∷ ahead (d + 1)
  unfolding flags
  ahead_cons d h =
      let e : N t - d ≡ suc (N t - suc d) = omega arith in
      rw (e, add-one d)

  ahead_end : (d : ℕ) → N t ≤ d → ahead d ≡ []
  unfolding flags
  ahead_end d h =
      let e : N t - d ≡ 0 = omega arith in
      rw e

  -- any state, by its first slot
  worth_at : (d g r k : ℕ) → d < N t → worth t (ahead d) g r k ≡ max (taking t (opens t s d) (ahead (d + 1)) r k) (skipping t (ahead (d + 1)) g k)
  worth_at d g r k h = rw (ahead_cons d h) (worth_cons t (opens t s d) (ahead (d + 1)) g r k)

  -- ---- the tail: a maximum of heads

  -- what is still open where the slots from e + 1 to p - 1 are left out
  unfoldable pub reach : ℕ → ℕ → ℕ → ℕ
  reach e p k = skipping t (ahead p) (p - suc e) k

  pub reach_first : (e k : ℕ) → tail e k ≡ reach e (e + 2) k
  unfolding tail reach
  reach_first e k =
      let q : e + 2 - suc e ≡ 1 = omega arith in
      rw q

  skip_some : (fs : List Bool) (g k : ℕ) → g < L t → skipping t fs g k ≡ worth t fs (suc g) 0 k
  unfolding skipping or_none
  skip_some fs g k h = rw (lt-ltb g (L t) h)

  pub reach_step : (e p k : ℕ) → e < p → p < N t → p ≤ e + L t → reach e p k ≡ max (head p k) (reach e (p + 1) k)
  unfolding reach head
  reach_step e p k a b c =
      let q : p + 1 - suc e ≡ suc (p - suc e) = omega arith in
      rw q (skip_some (ahead p) (p - suc e) k (omega arith) ∙ worth_at p (suc (p - suc e)) 0 k b)

  pub reach_cut : (e p k : ℕ) → e + L t < p → reach e p k ≡ 0
  unfolding reach skipping or_none
  reach_cut e p k a = rw (le-ltb (p - suc e) (L t) (omega arith))

  pub head_shut : (p k : ℕ) → opens t s p ≡ false → head p k ≡ 0
  unfolding head taking
  head_shut p k e = took_shut (opens t s p) k _ _ e

  pub head_zero : (p k : ℕ) → k ≡ 0 → head p k ≡ 0
  unfolding head taking
  head_zero p k e = took_zero (opens t s p) k _ _ e

  skip_zero : (fs : List Bool) (g k : ℕ) → worth t fs (suc g) 0 k ≡ 0 → skipping t fs g k ≡ 0
  unfolding skipping
  skip_zero fs g k e = go (ltb g (L t)) e
    where
      go : (b : Bool) → worth t fs (suc g) 0 k ≡ 0 → or_none b (worth t fs (suc g) 0 k) ≡ 0
      go b e = or_none_zero b _ e

  worth_none : (d g r k : ℕ) → N t ≤ d → 1 ≤ k → worth t (ahead d) g r k ≡ 0
  worth_none d g r zero h m = absurd (omega arith)
  worth_none d g r (suc k) h m = rw (ahead_end d h) (worth_nil t g r k)

  -- past the last open slot nothing is left
  pub reach_end : (e p k : ℕ) → N t ≤ p + 1 → 1 ≤ k → reach e p k ≡ 0
  unfolding reach head
  reach_end e p k h m = skip_zero (ahead p) (p - suc e) k (go (le_or_lt (N t) p))
    where
      go : (N t ≤ p) ⊎ (p < N t) → worth t (ahead p) (suc (p - suc e)) 0 k ≡ 0
      go (inl a) = worth_none p _ 0 k a m
      go (inr a) =
          omega (
            arith,
            worth_at p (suc (p - suc e)) 0 k a,
            head_shut p k (opens_last t s p h),
            skip_zero (ahead (p + 1)) (suc (p - suc e)) k (worth_none (p + 1) _ 0 k h m),
          )

  -- no slot left to take: the gap over the end decides
  worth_done : (fs : List Bool) (g r : ℕ) → worth t fs g r 0 ≡ or_none (leb (g + length fs) (L t)) 1
  unfolding worth took at_end or_none
  worth_done [] g r =
      let q : g + 0 ≡ g = omega arith in
      rw q
  worth_done (f ∷ fs) g r = go (le_or_lt (L t) g) (worth_done fs (suc g) 0)
    where
      go : (L t ≤ g) ⊎ (g < L t) → worth t fs (suc g) 0 0 ≡ or_none (leb (suc g + length fs) (L t)) 1
          → max (took f 0 (slot_words t r) (worth t fs 1 (phase t r) 0))
          (or_none (ltb g (L t)) (worth t fs (suc g) 0 0)) ≡ or_none (leb (g + suc (length fs)) (L t)) 1
      go (inl a) ih =
          rw (le-ltb g (L t) a, lt-leb (g + suc (length fs)) (L t) (omega arith))
          (omega (arith, took_zero f 0 (slot_words t r) (worth t fs 1 (phase t r) 0) refl))
      go (inr a) ih =
          let q : suc g + length fs ≡ g + suc (length fs) = omega arith in
          rw (lt-ltb g (L t) a) (omega (arith, took_zero f 0 (slot_words t r) (worth t fs 1 (phase t r) 0) refl, rw q at ih))

  pub tail_done : (e : ℕ) → e + 2 ≤ N t → tail e 0 ≡ or_none (leb (N t - e) (L t)) 1
  unfolding tail
  tail_done e h = go (le_or_lt (L t) 1)
    where
      go : (L t ≤ 1) ⊎ (1 < L t) → skipping t (ahead (e + 2)) 1 0 ≡ or_none (leb (N t - e) (L t)) 1
      go (inl a) = skip_none t (ahead (e + 2)) 1 0 a ∙ sym (or_none_false (leb (N t - e) (L t)) 1 (lt-leb (N t - e) (L t) (omega arith)))
      go (inr a) =
          let q : 2 + length (ahead (e + 2)) ≡ N t - e = omega (arith, flags_length (opens t s) (e + 2) (N t - (e + 2))) in
          skip_some (ahead (e + 2)) 1 0 a ∙ worth_done (ahead (e + 2)) 2 0 ∙ ap (λ m. or_none (leb m (L t)) 1) q

  -- ---- where the limit cuts nothing, the gap so far does not matter
  worth_gap : (fs : List Bool) (g k : ℕ) → g + length fs ≤ L t → 1 ≤ k → worth t fs g 0 k ≡ worth t fs (suc g) 0 k
  unfolding worth or_none
  worth_gap [] g zero h m = absurd (omega arith)
  worth_gap [] g (suc k) h m = worth_nil t g 0 k ∙ sym (worth_nil t (suc g) 0 k)
  worth_gap (f ∷ fs) g k h m =
      ap (λ v. max (took f k (slot_words t 0) (worth t fs 1 (phase t 0) (pred k))) v) (go (le_or_lt (L t) (suc g)) fs h (λ a. worth_gap fs (suc g) k a m))
    where
      go : (L t ≤ suc g) ⊎ (suc g < L t) → (fs : List Bool) → g + length (f ∷ fs) ≤ L t
          → (suc g + length fs ≤ L t → worth t fs (suc g) 0 k ≡ worth t fs (suc (suc g)) 0 k)
          → or_none (ltb g (L t)) (worth t fs (suc g) 0 k) ≡ or_none (ltb (suc g) (L t)) (worth t fs (suc (suc g)) 0 k)
      go (inr a) fs h ih = rw (lt-ltb g (L t) (omega arith), lt-ltb (suc g) (L t) a) (ih (omega arith))
      go (inl a) [] h ih =
          or_none_zero (ltb g (L t)) _ (worth_empty t (suc g) 0 k m) ∙ sym (or_none_zero (ltb (suc g) (L t)) _ (worth_empty t (suc (suc g)) 0 k m))
      go (inl a) (x ∷ fs) h ih = absurd (omega arith)

  pub tail_far : (e k : ℕ) → e + 3 ≤ N t → N t ≤ e + L t + 1 → 2 < L t → 1 ≤ k → tail e k ≡ max (head (e + 2) k) (tail (e + 1) k)
  unfolding tail head
  tail_far e k h c l m =
      let a : e + 2 + 1 ≡ e + 3 = omega arith in
      let b : e + 1 + 2 ≡ e + 3 = omega arith in
      skip_some (ahead (e + 2)) 1 k (omega arith) ∙ worth_at (e + 2) 2 0 k (omega arith)
      ∙ ap (max (taking t (opens t s (e + 2)) (ahead (e + 2 + 1)) 0 k))
      (rw (a, b)
      (skip_some (ahead (e + 3)) 2 k l
      ∙ sym (worth_gap (ahead (e + 3)) 2 k (omega (arith, flags_length (opens t s) (e + 3) (N t - (e + 3)))) m)
      ∙ sym (skip_some (ahead (e + 3)) 1 k (omega arith))))

  -- ---- the head: a packet of 1 to P slots

  -- q slots of the packet that begins at p are taken, and k - q are to be taken from p + q on
  unfoldable pub mid : ℕ → ℕ → ℕ → ℕ
  mid p k q = raised (packet_words t q) (worth t (ahead (p + q)) 1 (q % P t) (k - q))

  pub mid_first : (p k : ℕ) → opens t s p ≡ true → 1 ≤ k → head p k ≡ mid p k 1
  unfolding head mid taking gain next
  mid_first p k e h =
      let a : 1 * S t - H t ≡ S t - (H t) = omega arith in
      let b : k - 1 ≡ pred k = omega arith in
      rw (a, b) (took_some (opens t s p) k (S t - H t) _ e h)

  -- the packet ends after q slots, or goes on
  pub mid_step : (p k q : ℕ) → H t ≤ S t → 1 ≤ q → q < P t → p + q < N t → q < k → opens t s (p + q) ≡ true
      → mid p k q ≡ max (raised (packet_words t q) (tail (p + q - 1) (k - q))) (mid p k (q + 1))
  unfolding mid tail taking next
  mid_step p k q hs h a b c e =
      let i : p + q - 1 + 2 ≡ p + q + 1 = omega arith in
      let j : k - (q + 1) ≡ pred (k - q) = omega arith in
      let l : p + (q + 1) ≡ p + q + 1 = omega arith in
      let m : (q + 1) * S t - H t ≡ q * S t - H t + (S t) = omega (arith, mul-le-mul_right (S t) h) in
      rw (i, j, l, m, mod-eq_of_lt a)
      (ap (raised (packet_words t q)) (worth_at (p + q) 1 q (k - q) b ∙ max_comm _ _
      ∙ ap (max (skipping t (ahead (p + q + 1)) 1 (k - q)))
      (took_some (opens t s (p + q)) (k - q) (slot_words t q) _ e (omega arith)
      ∙ ap₂ (λ g r. raised g (worth t (ahead (p + q + 1)) 1 r (pred (k - q))))
      (sym (gain_later (S t) (H t) q λ z. omega arith)) (ap (λ i. i % P t) (sym (add-one q)))))
      ∙ raised_max (packet_words t q) _ _
      ∙ ap (max (raised (packet_words t q) (skipping t (ahead (p + q + 1)) 1 (k - q)))) (raised_twice (packet_words t q) (S t) _))

  -- the packet ends here: the next slot is shut, or no slot is left to take
  pub mid_stop : (p k q : ℕ) → 1 ≤ q → p + q < N t → (opens t s (p + q) ≡ false) ⊎ (k ≡ q)
      → mid p k q ≡ raised (packet_words t q) (tail (p + q - 1) (k - q))
  unfolding mid tail taking
  mid_stop p k q h b z =
      let i : p + q - 1 + 2 ≡ p + q + 1 = omega arith in
      rw i (ap (raised (packet_words t q)) (worth_at (p + q) 1 (q % P t) (k - q) b ∙ go z))
    where
      go : (opens t s (p + q) ≡ false) ⊎ (k ≡ q)
          → max (took (opens t s (p + q)) (k - q) (slot_words t (q % P t)) (worth t (ahead (p + q + 1)) 1 (phase t (q % P t)) (pred (k - q))))
          (skipping t (ahead (p + q + 1)) 1 (k - q))
          ≡ skipping t (ahead (p + q + 1)) 1 (k - q)
      go (inl e) =
          omega (arith, took_shut (opens t s (p + q)) (k - q) (slot_words t (q % P t)) (worth t (ahead (p + q + 1)) 1 (phase t (q % P t)) (pred (k - q))) e)
      go (inr e) =
          let none : k - q ≡ 0 = omega arith in
          omega (arith, took_zero (opens t s (p + q)) (k - q) (slot_words t (q % P t)) (worth t (ahead (p + q + 1)) 1 (phase t (q % P t)) (pred (k - q))) none)

  -- the packet is full: the next one begins, or the run ends
  pub mid_full : (p k : ℕ) → 1 ≤ P t → p + P t < N t
      → mid p k (P t) ≡ max (raised (packet_words t (P t)) (tail (p + P t - 1) (k - P t))) (raised (packet_words t (P t)) (head (p + P t) (k - P t)))
  unfolding mid tail head
  mid_full p k h b =
      let i : p + P t - 1 + 2 ≡ p + P t + 1 = omega arith in
      rw (i, mod_self (P t))
      (ap (raised (packet_words t (P t))) (worth_at (p + P t) 1 0 (k - P t) b ∙ max_comm _ _) ∙ raised_max (packet_words t (P t)) _ _)

  pub head_most : (p k : ℕ) → head p k ≤ suc (k * S t)
  unfolding head taking
  head_most p k =
      took_most (S t) (opens t s p) k (slot_words t 0) (worth t (ahead (p + 1)) 1 (phase t 0) (pred k))
      (gain_most (S t) (H t) 0) (worth_most t (ahead (p + 1)) 1 (phase t 0) (pred k))

  pub tail_most : (e k : ℕ) → tail e k ≤ suc (k * S t)
  unfolding tail skipping
  tail_most e k = omega (arith, or_none_most (ltb 1 (L t)) (worth t (ahead (e + 2)) 2 0 k), worth_most t (ahead (e + 2)) 2 0 k)
