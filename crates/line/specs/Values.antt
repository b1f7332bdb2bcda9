-- The linear problem: which of a line of free slots to choose, so that k are chosen, no gap exceeds the limit, and the
-- words are most. `worth` goes through the slots once and takes or skips each. A choice never comes to more than that,
-- and the greedy choice, which takes a slot wherever taking is as good as skipping, attains it and is the first that does.
use Rattle.std.specs.Prelude.{◌≡◌, Bool, leb, ltb, refl, true, false, List, [], ◌∷◌, ℕ, zero, suc, pred, ◌+◌, ◌*◌, ◌≤◌, ◌<◌, max, length}
use Rattle.std.proofs.Common.{◌∙◌, ltb-true, leb-true, leb-false, lt-ltb, le-leb, sym, ap, arith}
use Rattle.laws.specs.Logic.{not_both}
use Rattle.laws.specs.Reading.{count, gain, next, line_words}
use Rattle.laws.specs.Runs.{line}
use Rattle.laws.specs.Bounds.{gain_most}
use Rattle.line.specs.declared.Task.{Task}

-- the numbers of a task, by their letters
abbrev pub N : Task → ℕ
N t = t.wheel.n

abbrev pub S : Task → ℕ
S t = t.wheel.s.0

abbrev pub H : Task → ℕ
H t = t.wheel.h.0

abbrev pub P : Task → ℕ
P t = t.wheel.p

abbrev pub L : Task → ℕ
L t = t.limit

-- ---- values: the words plus one, and 0 for what cannot be

-- v where b holds, and 'impossible' where not
unfoldable pub or_none : Bool → ℕ → ℕ
or_none true v = v
or_none false v = 0

-- a more words on top of the value v
unfoldable pub raised : ℕ → ℕ → ℕ
raised a zero = 0
raised a (suc v) = suc (a + v)

-- taking a slot of a words, v being the value of the rest: it is free, and a slot is still to be taken
unfoldable pub took : Bool → ℕ → ℕ → ℕ → ℕ
took false k a v = 0
took true zero a v = 0
took true (suc k) a v = raised a v

-- the end of the line, where no slot may be left to take
unfoldable pub at_end : Bool → ℕ → ℕ
at_end b zero = or_none b 1
at_end b (suc k) = 0

pub raised_le : (a v : ℕ) {b : ℕ} → suc b ≤ v → suc (a + b) ≤ raised a v
unfolding raised
raised_le a zero h = omega arith
raised_le a (suc v) h = omega arith

pub raised_parts : (a w v : ℕ) → raised a w ≡ suc v → (u : ℕ) × (w ≡ suc u) × (a + u ≡ v)
unfolding raised
raised_parts a zero v e = absurd (omega arith)
raised_parts a (suc w) v e = (w, refl, omega arith)

raised_tight : (a v w : ℕ) → suc w ≤ v → raised a v ≤ suc (a + w) → suc w ≡ v
unfolding raised
raised_tight a zero w h l = absurd (omega arith)
raised_tight a (suc v) w h l = omega arith

pub raised_some : (a v : ℕ) → (v ≡ 0 → ⊥) → a + v ≡ raised a v
unfolding raised
raised_some a zero e = absurd (e refl)
raised_some a (suc v) e = omega arith

pub raised_none : (a v : ℕ) → v ≡ 0 → raised a v ≡ 0
unfolding raised
raised_none a zero e = refl
raised_none a (suc v) e = absurd (omega arith)

or_none_parts : (b : Bool) (w v : ℕ) → or_none b w ≡ suc v → (b ≡ true) × (w ≡ suc v)
unfolding or_none
or_none_parts true w v e = (refl, e)
or_none_parts false w v e = absurd (omega arith)

at_end_parts : (b : Bool) (k v : ℕ) → at_end b k ≡ suc v → (b ≡ true) × (k ≡ 0) × (v ≡ 0)
unfolding at_end or_none
at_end_parts true zero v e = (refl, refl, omega arith)
at_end_parts false zero v e = absurd (omega arith)
at_end_parts b (suc k) v e = absurd (omega arith)

-- whether to take, where taking is worth a and skipping b
unfoldable pub prefers : ℕ → ℕ → Bool
prefers zero b = false
prefers (suc a) b = leb b (suc a)

prefers_yes : (a b : ℕ) → prefers a b ≡ true → (0 < a) × (b ≤ a)
unfolding prefers
prefers_yes zero b e = absurd (not_both e refl)
prefers_yes (suc a) b e = (omega arith, leb-true b (suc a) e)

pub prefers_if : (a b : ℕ) → 0 < a → b ≤ a → prefers a b ≡ true
unfolding prefers
prefers_if zero b h l = absurd (omega arith)
prefers_if (suc a) b h l = le-leb b (suc a) l

prefers_no : (a b : ℕ) → prefers a b ≡ false → a ≤ b
unfolding prefers
prefers_no zero b e = omega arith
prefers_no (suc a) b e = omega (arith, leb-false b (suc a) e)

-- ---- how large a value can be

at_end_most : (b : Bool) (k : ℕ) → at_end b k ≤ 1
unfolding at_end or_none
at_end_most true zero = omega arith
at_end_most false zero = omega arith
at_end_most b (suc k) = omega arith

pub or_none_most : (b : Bool) (v : ℕ) → or_none b v ≤ v
unfolding or_none
or_none_most true v = omega arith
or_none_most false v = omega arith

pub took_most : (S : ℕ) (f : Bool) (k a v : ℕ) → a ≤ S → v ≤ suc (pred k * S) → took f k a v ≤ suc (k * S)
unfolding took raised
took_most S false k a v h m = omega arith
took_most S true zero a v h m = omega arith
took_most S true (suc k) a zero h m = omega arith
took_most S true (suc k) a (suc v) h m = omega arith

-- ---- choices

-- a choice xs of the free flags fs with no gap above L, where the last chosen slot lies g before the first of the list
pub data Pick (L : ℕ) : ℕ → List Bool → List Bool → Type 0 where
  done : {g : ℕ} → g ≤ L → Pick L g [] []
  take : {g : ℕ} {fs xs : List Bool} → Pick L 1 fs xs → Pick L g (true ∷ fs) (true ∷ xs)
  skip : {g : ℕ} {f : Bool} {fs xs : List Bool} → g < L → Pick L (suc g) fs xs → Pick L g (f ∷ fs) (false ∷ xs)

-- the first choice takes the slot at which the two differ first
pub data First : List Bool → List Bool → Type 0 where
  end : First [] []
  both : {x : Bool} {xs ys : List Bool} → First xs ys → First (x ∷ xs) (x ∷ ys)
  here : {xs ys : List Bool} → First (true ∷ xs) (false ∷ ys)

module _ (t : Task) where
  -- the words of a slot at phase r, and the phase after it
  abbrev pub slot_words : ℕ → ℕ
  slot_words r = gain (S t) (H t) r

  abbrev pub phase : ℕ → ℕ
  phase r = next (P t) r

  -- the value of the best choice of k slots from the free flags, the last chosen slot being g back, at phase r
  unfoldable pub worth : List Bool → ℕ → ℕ → ℕ → ℕ
  worth [] g r k = at_end (leb g (L t)) k
  worth (f ∷ fs) g r k =
      max (took f k (slot_words r) (worth fs 1 (phase r) (pred k))) (or_none (ltb g (L t)) (worth fs (suc g) 0 k))

  -- its two sides: taking the first slot, and skipping it
  unfoldable pub taking : Bool → List Bool → ℕ → ℕ → ℕ
  taking f fs r k = took f k (slot_words r) (worth fs 1 (phase r) (pred k))

  unfoldable pub skipping : List Bool → ℕ → ℕ → ℕ
  skipping fs g k = or_none (ltb g (L t)) (worth fs (suc g) 0 k)

  pub worth_cons : (f : Bool) (fs : List Bool) (g r k : ℕ) → worth (f ∷ fs) g r k ≡ max (taking f fs r k) (skipping fs g k)
  unfolding worth taking skipping
  worth_cons f fs g r k = refl

  -- no choice is worth more
  pub worth_bounds : {g : ℕ} {fs xs : List Bool} (r : ℕ) → Pick (L t) g fs xs → suc (line t.wheel r xs) ≤ worth fs g r (count xs)
  unfolding worth line_words count at_end took or_none
  worth_bounds {g} r (done h) = rw (le-leb g (L t) h) (omega arith)
  worth_bounds r (take {g = g} {fs = fs} {xs = xs} p) = omega (arith, raised_le (slot_words r) _ (worth_bounds (phase r) p))
  worth_bounds r (skip {g = g} h p) = rw (lt-ltb g (L t) h) (omega (arith, worth_bounds 0 p))

  pub worth_most : (fs : List Bool) (g r k : ℕ) → worth fs g r k ≤ suc (k * S t)
  unfolding worth
  worth_most [] g r k = omega (arith, at_end_most (leb g (L t)) k)
  worth_most (f ∷ fs) g r k =
      omega (
        arith,
        took_most (S t) f k (slot_words r) (worth fs 1 (phase r) (pred k)) (gain_most _ _ r) (worth_most fs 1 (phase r) (pred k)),
        or_none_most (ltb g (L t)) (worth fs (suc g) 0 k),
        worth_most fs (suc g) 0 k,
      )

  -- ---- the greedy choice: take where taking is as good

  unfoldable pub greedy : List Bool → ℕ → ℕ → ℕ → List Bool
  greedy [] g r k = []
  greedy (f ∷ fs) g r k =
      elim (prefers (taking f fs r k) (skipping fs g k))
      [ true ↦ true ∷ greedy fs 1 (phase r) (pred k) | false ↦ false ∷ greedy fs (suc g) 0 k ]

  pub greedy_take : (f : Bool) (fs : List Bool) (g r k : ℕ) → prefers (taking f fs r k) (skipping fs g k) ≡ true
      → greedy (f ∷ fs) g r k ≡ true ∷ greedy fs 1 (phase r) (pred k)
  unfolding greedy
  greedy_take f fs g r k e = rw (e, greedy)

  pub greedy_skip : (f : Bool) (fs : List Bool) (g r k : ℕ) → prefers (taking f fs r k) (skipping fs g k) ≡ false
      → greedy (f ∷ fs) g r k ≡ false ∷ greedy fs (suc g) 0 k
  unfolding greedy
  greedy_skip f fs g r k e = rw (e, greedy)

  pub greedy_length : (fs : List Bool) (g r k : ℕ) → length (greedy fs g r k) ≡ length fs
  unfolding greedy
  greedy_length [] g r k = refl
  greedy_length (f ∷ fs) g r k =
      go (prefers (taking f fs r k) (skipping fs g k)) (greedy_length fs 1 (phase r) (pred k)) (greedy_length fs (suc g) 0 k)
    where
      go : (b : Bool) → length (greedy fs 1 (phase r) (pred k)) ≡ length fs → length (greedy fs (suc g) 0 k) ≡ length fs
          → length {A = Bool} (elim b [ true ↦ true ∷ greedy fs 1 (phase r) (pred k) | false ↦ false ∷ greedy fs (suc g) 0 k ]) ≡ suc (length fs)
      go true a b = ap suc a
      go false a b = ap suc b

  -- the choice xs of k slots delivers v words
  pub record Attains (g : ℕ) (fs : List Bool) (r k v : ℕ) (xs : List Bool) : Type 0 where
    pub pick : Pick (L t) g fs xs
    pub ones : count xs ≡ k
    pub value : line t.wheel r xs ≡ v

  take_step : (f : Bool) (fs : List Bool) (g r k v : ℕ) (xs : List Bool)
      → ((u : ℕ) → worth fs 1 (phase r) (pred k) ≡ suc u → Attains 1 fs (phase r) (pred k) u xs)
      → taking f fs r k ≡ suc v → Attains g (f ∷ fs) r k v (true ∷ xs)
  unfolding taking took count line_words
  take_step false fs g r k v xs ih m = absurd (omega arith)
  take_step true fs g r zero v xs ih m = absurd (omega arith)
  take_step true fs g r (suc k) v xs ih m =
      let (u, e, d) = raised_parts (slot_words r) (worth fs 1 (phase r) k) v m in
      let h = ih u e in
      record { pick = take h.pick; ones = ap suc h.ones; value = omega (arith, h.value) }

  skip_step : (f : Bool) (fs : List Bool) (g r k v : ℕ) (xs : List Bool)
      → (worth fs (suc g) 0 k ≡ suc v → Attains (suc g) fs 0 k v xs)
      → skipping fs g k ≡ suc v → Attains g (f ∷ fs) r k v (false ∷ xs)
  unfolding skipping count line_words
  skip_step f fs g r k v xs ih m =
      let (l, e) = or_none_parts (ltb g (L t)) (worth fs (suc g) 0 k) v m in
      let h = ih e in
      record { pick = skip (ltb-true g (L t) l) h.pick; ones = h.ones; value = h.value }

  pub greedy_attains : (fs : List Bool) (g r k v : ℕ) → worth fs g r k ≡ suc v → Attains g fs r k v (greedy fs g r k)
  unfolding greedy worth count line_words
  greedy_attains [] g r k v e =
      let (l, z, w) = at_end_parts (leb g (L t)) k v e in
      record { pick = done (leb-true g (L t) l); ones = sym z; value = sym w }
  greedy_attains (f ∷ fs) g r k v e =
      go (prefers (taking f fs r k) (skipping fs g k)) refl
      (λ u d. greedy_attains fs 1 (phase r) (pred k) u d)
      (λ d. greedy_attains fs (suc g) 0 k v d)
    where
      go : (b : Bool) → prefers (taking f fs r k) (skipping fs g k) ≡ b
          → ((u : ℕ) → worth fs 1 (phase r) (pred k) ≡ suc u → Attains 1 fs (phase r) (pred k) u (greedy fs 1 (phase r) (pred k)))
          → (worth fs (suc g) 0 k ≡ suc v → Attains (suc g) fs 0 k v (greedy fs (suc g) 0 k))
          → Attains g (f ∷ fs) r k v (elim b [ true ↦ true ∷ greedy fs 1 (phase r) (pred k) | false ↦ false ∷ greedy fs (suc g) 0 k ])
      go true q ih ih2 = take_step f fs g r k v _ ih (omega (arith, prefers_yes _ _ q, worth_cons f fs g r k))
      go false q ih ih2 = skip_step f fs g r k v _ ih2 (omega (arith, prefers_no _ _ q, worth_cons f fs g r k))

  -- a best choice that takes: greedy takes, and the rest is best
  take_best : (fs xs : List Bool) (g r : ℕ) → suc (line t.wheel (phase r) xs) ≤ worth fs 1 (phase r) (count xs)
      → suc (slot_words r + line t.wheel (phase r) xs) ≡ worth (true ∷ fs) g r (suc (count xs))
      → (prefers (taking true fs r (suc (count xs))) (skipping fs g (suc (count xs))) ≡ true)
      × (suc (line t.wheel (phase r) xs) ≡ worth fs 1 (phase r) (count xs))
  unfolding taking took
  take_best fs xs g r h e =
      let b = raised_le (slot_words r) _ h in
      let m = e ∙ worth_cons true fs g r (suc (count xs)) in
      (prefers_if _ _ (omega arith) (omega arith), raised_tight (slot_words r) _ _ h (omega arith))

  skip_best : (f : Bool) (fs xs : List Bool) (g r : ℕ) → g < L t → suc (line t.wheel 0 xs) ≤ worth fs (suc g) 0 (count xs)
      → suc (line t.wheel 0 xs) ≡ worth (f ∷ fs) g r (count xs)
      → suc (line t.wheel 0 xs) ≡ worth fs (suc g) 0 (count xs)
  unfolding skipping or_none
  skip_best f fs xs g r l h e =
      let m = rw (lt-ltb g (L t) l) at (e ∙ worth_cons f fs g r (count xs)) in
      omega arith

  pub greedy_first : {g : ℕ} {fs ys : List Bool} (r : ℕ) → Pick (L t) g fs ys → suc (line t.wheel r ys) ≡ worth fs g r (count ys)
      → First (greedy fs g r (count ys)) ys
  unfolding greedy count line_words
  greedy_first r (done h) e = end
  greedy_first r (take {g = g} {fs = fs} {xs = xs} p) e =
      let (q, m) = take_best fs xs g r (worth_bounds (phase r) p) e in
      rw (q, greedy) (both (greedy_first (phase r) p m))
  greedy_first r (skip {g = g} {f = f} {fs = fs} {xs = xs} h p) e =
      go (prefers (taking f fs r (count xs)) (skipping fs g (count xs)))
      (greedy_first 0 p (skip_best f fs xs g r h (worth_bounds 0 p) e))
    where
      go : (b : Bool) → First (greedy fs (suc g) 0 (count xs)) xs
          → First (elim b [ true ↦ true ∷ greedy fs 1 (phase r) (pred (count xs)) | false ↦ false ∷ greedy fs (suc g) 0 (count xs) ]) (false ∷ xs)
      go true ih = here
      go false ih = both ih
