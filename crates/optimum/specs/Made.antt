-- The set of a choice: its slots are the start and those that the choice takes. It lies within the free slots, starts at
-- the start, keeps the gap rule, and has the size and the words of the choice.
use Rattle.std.specs.Prelude.{◌≡◌, Bool, false, ◌⊎◌, leb, length}
use Rattle.std.proofs.Common.{◌∙◌, inl, inr, add-suc, suc-add, add-zero, zero-add, mod-lt, pow-suc, lt_of_lt_of_le, add-one, one-add, pow_mono, le-leb, refl, sym, ap, ap₂, subst, true, cond, List, [], ◌∷◌, ℕ, zero, suc, pred, ◌+◌, ◌-◌, ◌*◌, ◌%◌, ◌^◌, ◌≤◌, ◌<◌, arith, mod-eq_of_lt, get_or}
use Rattle.std.proofs.Math.Nat.{mod-eq-sub-mod, add-mod_right}
use Rattle.std.proofs.lemmas.Bool.{lt-leb}
use Rattle.rules.specs.Sets.{has, set_of, sum, stretch, Within}
use Rattle.rules.specs.Wheels.{chosen, start, size, words, gap}
use Rattle.laws.specs.Logic.{le_or_lt, not_both}
use Rattle.laws.specs.Counting.{sum_turn}
use Rattle.laws.specs.Sets.{has_set, has_set_over}
use Rattle.laws.specs.Turns.{start_of}
use Rattle.laws.specs.Reading.{flags, count}
use Rattle.laws.specs.Runs.{line}
use Rattle.laws.specs.Gaps.{near_back}
use Rattle.line.specs.declared.Task.{Task}
use Rattle.line.specs.Values.{N, L, Pick, done, take, skip, slot_words, phase, greedy_length}
use Rattle.line.specs.Packets.{opens, opens_before, opens_last, ahead, flags_length}
use Rattle.line.specs.Tables.{Sound}
use Rattle.line.specs.Choice.{bits_of, begun}
use Rattle.line.specs.Rebuild.{greedy_set}
use Rattle.optimum.specs.Cut.{clear, Near, near_of}
use Rattle.optimum.specs.Rival.{size_others, words_others}

-- ---- a list of flags round the wheel

-- the flag of slot i, where the list begins at slot s of n
unfoldable pub slot_flag : ℕ → ℕ → List Bool → ℕ → Bool
slot_flag n s l i = cond (leb s i) (get_or l (i - s) false) (get_or l (i + n - s) false)

-- the set of the list
unfoldable pub made : ℕ → ℕ → List Bool → ℕ
made n s l = set_of (slot_flag n s l) 0 n

module _ (n s : ℕ) (sn : s < n) (l : List Bool) where
  flag_after : (d : ℕ) → slot_flag n s l (s + d) ≡ get_or l d false
  unfolding slot_flag
  flag_after d =
      let e : s + d - s ≡ d = omega arith in
      rw (le-leb s (s + d) (omega arith), e)

  flag_before : (d : ℕ) → d < n → n ≤ s + d → slot_flag n s l (s + d - n) ≡ get_or l d false
  unfolding slot_flag
  flag_before d h k =
      let e : s + d - n + n - s ≡ d = omega arith in
      rw (lt-leb s (s + d - n) (omega arith), e)

  flag_at : (d : ℕ) → d < n → slot_flag n s l ((s + d) % n) ≡ get_or l d false
  flag_at d h = go (le_or_lt n (s + d))
    where
      go : (n ≤ s + d) ⊎ (s + d < n) → slot_flag n s l ((s + d) % n) ≡ get_or l d false
      go (inr k) = ap (slot_flag n s l) (mod-eq_of_lt k) ∙ flag_after d
      go (inl k) =
          let m : s + d - n < n = omega arith in
          ap (slot_flag n s l) (mod-eq-sub-mod k ∙ mod-eq_of_lt m) ∙ flag_before d h k

  chosen_made : (d : ℕ) → d < n → chosen n (made n s l) (s + d) ≡ get_or l d false
  unfolding chosen made
  chosen_made d h =
      has_set (slot_flag n s l) n 0 ((s + d) % n) (mod-lt (s + d) (omega arith)) ∙ ap (slot_flag n s l) (zero-add ((s + d) % n)) ∙ flag_at d h

  -- a slot of the set lies at some distance below n
  made_at : (i : ℕ) → has (made n s l) i ≡ true → (d : ℕ) × (d < n) × ((s + d) % n ≡ i)
  unfolding made
  made_at i e = go (le_or_lt n i) (le_or_lt s i)
    where
      go : (n ≤ i) ⊎ (i < n) → (s ≤ i) ⊎ (i < s) → (d : ℕ) × (d < n) × ((s + d) % n ≡ i)
      go (inl k) q = absurd (not_both e (has_set_over (slot_flag n s l) n 0 i k))
      go (inr k) (inl q) =
          let c : s + (i - s) ≡ i = omega arith in
          (i - s, omega arith, ap (λ m. m % n) c ∙ mod-eq_of_lt k)
      go (inr k) (inr q) =
          let c : s + (i + n - s) ≡ i + n = omega arith in
          (i + n - s, omega arith, ap (λ m. m % n) c ∙ add-mod_right i n ∙ mod-eq_of_lt k)

-- ---- the sum of the bits is the set

set_sum : (f : ℕ → Bool) (i m : ℕ) → 2 ^ i * set_of f i m ≡ sum (λ j. cond (f j) (2 ^ j) 0) i m
unfolding set_of sum
set_sum f i zero = omega arith
set_sum f i (suc m) = go (f i) (set_sum f (suc i) m)
  where
    go : (b : Bool) → 2 ^ suc i * set_of f (suc i) m ≡ sum (λ j. cond (f j) (2 ^ j) 0) (suc i) m
        → 2 ^ i * (cond b 1 0 + 2 * set_of f (suc i) m) ≡ cond b (2 ^ i) 0 + sum (λ j. cond (f j) (2 ^ j) 0) (suc i) m
    go true e = omega (arith, ap (λ v. v * set_of f (suc i) m) (pow-suc 2 i))
    go false e = omega (arith, ap (λ v. v * set_of f (suc i) m) (pow-suc 2 i))

set_small : (f : ℕ → Bool) (i m : ℕ) → set_of f i m < 2 ^ m
unfolding set_of
set_small f i zero = omega arith
set_small f i (suc m) = go (f i) (set_small f (suc i) m)
  where
    go : (b : Bool) → set_of f (suc i) m < 2 ^ m → cond b 1 0 + 2 * set_of f (suc i) m < 2 ^ suc m
    go true h = omega (arith, pow-suc 2 m)
    go false h = omega (arith, pow-suc 2 m)

sum_near : (f g : ℕ → ℕ) (m i : ℕ) → ((j : ℕ) → i ≤ j → j < i + m → f j ≡ g j) → sum f i m ≡ sum g i m
unfolding sum
sum_near f g zero i e = refl
sum_near f g (suc m) i e = ap₂ ◌+◌ (e i (omega arith) (omega arith)) (sum_near f g m (suc i) (λ j a b. e j (omega arith) (omega arith)))

module _ (t : Task) (s : ℕ) (sn : s < N t) (all : List Bool) where
  -- what slot i brings
  unfoldable brings : ℕ → ℕ
  brings i = cond (slot_flag (N t) s all i) (2 ^ i) 0

  bits_sum : (l : List Bool) (d : ℕ) → d + length l ≤ N t → ((e : ℕ) → e < length l → get_or all (d + e) false ≡ get_or l e false)
      → bits_of t s d l ≡ sum (λ j. brings (j % N t)) (s + d) (length l)
  unfolding bits_of sum brings
  bits_sum [] d h e = refl
  bits_sum (b ∷ l) d h e =
      ap₂ ◌+◌
      (ap (λ v. cond v (2 ^ ((s + d) % N t)) 0)
      (sym (e 0 (omega arith)) ∙ ap (λ i. get_or all i false) (add-zero d) ∙ sym (flag_at (N t) s sn all d (omega arith))))
      (bits_sum l (suc d) (omega arith) (λ i k. ap (λ j. get_or all j false) (suc-add d i ∙ sym (add-suc d i)) ∙ e (suc i) (omega arith))
      ∙ ap (λ i. sum (λ j. brings (j % N t)) i (length l)) (add-suc s d))

  bits_made : length all ≡ N t → bits_of t s 0 all ≡ made (N t) s all
  unfolding made brings
  bits_made e =
      bits_sum all 0 (omega arith) (λ i h. ap (λ j. get_or all j false) (zero-add i))
      ∙ ap₂ (λ i m. sum (λ j. brings (j % N t)) i m) (add-zero s) e
      ∙ sum_turn (λ j. brings (j % N t)) (N t) (λ i. ap brings (add-mod_right i (N t))) s
      ∙ sum_near (λ j. brings (j % N t)) brings (N t) 0 (λ j a b. ap brings (mod-eq_of_lt (omega arith)))
      ∙ sym (set_sum (slot_flag (N t) s all) 0 (N t)) ∙ omega arith

  made_small : made (N t) s all < 2 ^ N t
  unfolding made
  made_small = set_small (slot_flag (N t) s all) 0 (N t)

module _ (t : Task) (good : Sound t) (s : ℕ) (sn : s < N t) (k : ℕ) where
  begun_length : length (begun t s 0 k) ≡ N t
  unfolding begun
  begun_length =
      omega (
        arith,
        greedy_length t (ahead t s 1) 1 (phase t 0) (pred k),
        flags_length (opens t s) 1 (N t - 1),
        good.legal.n1,
      )

  pub greedy_made : greedy_set t s k ≡ made (N t) s (begun t s 0 k)
  greedy_made = bits_made t s sn (begun t s 0 k) begun_length

  pub greedy_small : greedy_set t s k < 2 ^ 64
  greedy_small = rw greedy_made (lt_of_lt_of_le (made_small t s sn (begun t s 0 k)) (pow_mono good.legal.n64))

-- ---- the set of a choice

pick_length : {L g : ℕ} {fs xs : List Bool} → Pick L g fs xs → length xs ≡ length fs
pick_length (done h) = refl
pick_length (take p) = ap suc (pick_length p)
pick_length (skip h p) = ap suc (pick_length p)

flags_list : (f : ℕ → Bool) (l : List Bool) (i : ℕ) → ((d : ℕ) → d < length l → f (i + d) ≡ get_or l d false) → flags f i (length l) ≡ l
unfolding flags
flags_list f [] i e = refl
flags_list f (b ∷ l) i e =
    ap₂ (λ a c. a ∷ c) (ap f (sym (add-zero i)) ∙ e 0 (omega arith))
    (flags_list f l (suc i) (λ d h. ap f (suc-add i d ∙ sym (add-suc i d)) ∙ e (suc d) (omega arith)))

module _ (t : Task) (good : Sound t) (s : ℕ) (sn : s < N t) (free : opens t s 0 ≡ true) (xs : List Bool) (p : Pick (L t) 1 (ahead t s 1) xs) where
  abbrev X : ℕ
  X = made (N t) s (true ∷ xs)

  xs_length : length xs ≡ N t - 1
  xs_length = pick_length p ∙ flags_length (opens t s) 1 (N t - 1)

  made_on : chosen (N t) X s ≡ true
  made_on = ap (chosen (N t) X) (sym (add-zero s)) ∙ chosen_made (N t) s sn (true ∷ xs) 0 (omega arith)

  pub made_others : flags (λ d. chosen (N t) X (s + d)) 1 (N t - 1) ≡ xs
  made_others =
      subst (λ m. flags (λ d. chosen (N t) X (s + d)) 1 m ≡ xs) xs_length
      (flags_list (λ d. chosen (N t) X (s + d)) xs 1 λ d h.
      chosen_made (N t) s sn (true ∷ xs) (1 + d) (omega (arith, xs_length, good.legal.n1)) ∙ ap (λ n. get_or (true ∷ xs) n false) (one-add d))

  near : Near (N t) X (L t) s (opens t s) made_on 1 1 (N t - 1)
  near =
      near_of (N t) X (L t) s (opens t s) made_on good.l1 (N t - 1) 1 1 (omega (arith, good.legal.n1)) good.l1
      (subst (λ l. Pick (L t) 1 (ahead t s 1) l) (sym made_others) p)

  made_open : (d : ℕ) → d < N t → chosen (N t) X (s + d) ≡ true → opens t s d ≡ true
  made_open zero h o = free
  made_open (suc d) h o = (near.rest (suc d) (omega arith) h o).1

  -- an open slot is not the last one, and free
  open_free : (d : ℕ) → opens t s d ≡ true → (d + 1 < N t) × (chosen (N t) t.free (s + d) ≡ true)
  open_free d o = go (le_or_lt (N t) (d + 1))
    where
      go : (N t ≤ d + 1) ⊎ (d + 1 < N t) → (d + 1 < N t) × (chosen (N t) t.free (s + d) ≡ true)
      go (inl h) = absurd (not_both o (opens_last t s d h))
      go (inr h) = (h, sym (opens_before t s d h) ∙ o)

  pub made_within : Within t.free X
  unfolding chosen
  made_within =
      record {
        among = λ i e.
            let (d, h, q) = made_at (N t) s sn (true ∷ xs) i e in
            subst (λ j. has t.free j ≡ true) q (open_free d (made_open d h (ap (has X) q ∙ e))).1;
      }

  made_last : chosen (N t) X (s + (N t - 1)) ≡ false
  made_last = go (chosen (N t) X (s + (N t - 1))) refl
    where
      go : (b : Bool) → chosen (N t) X (s + (N t - 1)) ≡ b → b ≡ false
      go false e = refl
      go true e =
          let n1 = good.legal.n1 in
          absurd (omega (arith, (open_free (N t - 1) (made_open (N t - 1) (omega arith) e)).0))

  pub made_start : start (N t) X s ≡ true
  made_start = start_of (N t) X s made_on made_last

  pub made_size : size (N t) X ≡ suc (count xs)
  made_size = size_others t good X s made_start ∙ ap (λ l. suc (count l)) made_others

  pub made_words : words t.wheel X ≡ slot_words t 0 + line t.wheel (phase t 0) xs
  made_words = words_others t good X s made_start ∙ ap (λ l. slot_words t 0 + line t.wheel (phase t 0) l) made_others

  pub made_near : (i : ℕ) → i < N t → chosen (N t) X i ≡ true → gap (N t) X i ≤ L t
  unfolding gap
  made_near i h = near_back (N t) X good.legal.n1 (L t) s (λ d k o. go d k o) i
    where
      go : (d : ℕ) → d < N t → chosen (N t) X (s + d) ≡ true → suc (stretch (clear (N t) X) (suc (s + d)) (N t - 1)) ≤ L t
      go zero k o = rw (add-zero s) (omega (arith, near.first, ap (λ j. stretch (clear (N t) X) j (N t - 1)) (add-one s)))
      go (suc d) k o = (near.rest (suc d) (omega arith) k o).0
