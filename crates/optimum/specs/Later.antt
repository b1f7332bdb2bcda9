-- How many starts are enough. Where slot z is not free, every set that keeps the gap rule has a start before z + L; so a line
-- that is cut at a later start is worth no more than one that was cut before. Where all slots are free, the line is the same
-- at every start.
use Rattle.std.specs.Prelude.{◌≡◌, refl, Bool, true, false, ◌∷◌, ◌⊎◌, ℕ, zero, suc, ◌+◌, ◌-◌, ◌%◌, ◌≤◌, ◌<◌, min, Option}
use Rattle.std.proofs.Common.{sym, ap, ◌∙◌, subst, inl, inr, arith, zero-add, mod-lt, ap₂}
use Rattle.rules.specs.Sets.{has}
use Rattle.rules.specs.Wheels.{chosen}
use Rattle.laws.specs.Logic.{le_or_lt, not_both, not_true_false}
use Rattle.laws.specs.Turns.{chosen_below, start_both}
use Rattle.laws.specs.Reading.{flags}
use Rattle.laws.specs.Holes.{start_after}
use Rattle.line.specs.declared.Task.{Task}
use Rattle.line.specs.Values.{N, L, taking}
use Rattle.line.specs.Packets.{opens, opens_before, opens_last, head}
use Rattle.line.specs.Tables.{Sound, FreeRun}
use Rattle.optimum.specs.declared.Found.{Found}
use Rattle.optimum.specs.Rival.{rival_worth}
use Rattle.optimum.specs.Value.{R, R-within, R-start, R-size, R-words, R-near}
use Rattle.optimum.specs.Search.{Sofar, sofar_on}

-- the best of the starts below u is the best of all
pub record Enough (t : Task) (u : ℕ) : Type 0 where
  pub range : u ≤ N t
  pub all : (b : Option Found) → Sofar t u b → Sofar t (N t) b

-- it is where for every start there is one below u that is worth as much
covered : (t : Task) (u : ℕ) → u ≤ N t → ((v k : ℕ) → v < N t → (s : ℕ) × (s < u) × (head t v 0 k ≤ head t s 0 k)) → Enough t u
covered t u un same =
    record {
      range = un;
      all = λ b known.
          sofar_on b (N t) un known
          (λ j v h l. let (s, su, worth) = same v j l in omega (arith, known.fewest j s h su))
          (λ f e h v l. let (s, su, worth) = same v f.count l in omega (arith, h.most s su));
    }

-- ---- a slot that is not free

module _ (t : Task) (good : Sound t) (z : ℕ) (inside : z < N t) (hole : chosen (N t) t.free z ≡ false) where
  -- a set of free slots does not have slot z
  not_chosen : (v k x : ℕ) (vn : v < N t) (e : head t v 0 k ≡ suc x) → chosen (N t) (R t good v k x vn e) z ≡ false
  unfolding chosen
  not_chosen v k x vn e = not_true_false _ λ o. not_both ((R-within t good v k x vn e).among (z % N t) o) hole

  -- what a start is worth one before z + L is worth too
  earlier : (v k x : ℕ) → v < N t → head t v 0 k ≡ x → (s : ℕ) × (s < N t) × (s < z + L t) × (x ≤ head t s 0 k)
  earlier v k zero vn e = (0, omega arith, omega (arith, good.l1), omega arith)
  earlier v k (suc x) vn e =
      let within = R-within t good v k x vn e in
      let near = R-near t good v k x vn e in
      let on = (start_both (N t) (R t good v k x vn e) v (R-start t good v k x vn e)).0 in
      let (s, sn, soon, st) = start_after t.wheel good.legal (R t good v k x vn e) (L t) v on near z (not_chosen v k x vn e) inside in
      (s, sn, soon, rw (R-size t good v k x vn e, R-words t good v k x vn e) at (rival_worth t good (R t good v k x vn e) s st within near))

-- ---- all slots are free

flags_same : (f g : ℕ → Bool) → ((d : ℕ) → f d ≡ g d) → (i m : ℕ) → flags f i m ≡ flags g i m
unfolding flags
flags_same f g e i zero = refl
flags_same f g e i (suc m) = ap₂ (λ b l. b ∷ l) (e i) (flags_same f g e (suc i) m)

module _ (t : Task) (good : Sound t) (f : ℕ) (last : f + 1 ≡ N t) (run : FreeRun t 0 0 f) (free : has t.free f ≡ true) where
  all_has : (i : ℕ) → i < N t → has t.free i ≡ true
  all_has i h = go (le_or_lt f i)
    where
      go : (f ≤ i) ⊎ (i < f) → has t.free i ≡ true
      go (inl l) =
          let e : f ≡ i = omega arith in
          subst (λ j. has t.free j ≡ true) e free
      go (inr l) =
          let e : i ≡ 0 + (0 + i) = omega arith in
          sym (chosen_below (N t) t.free i h) ∙ ap (chosen (N t) t.free) e ∙ sym (opens_before t 0 (0 + i) (omega arith)) ∙ run.clear i l

  all_chosen : (i : ℕ) → chosen (N t) t.free i ≡ true
  unfolding chosen
  all_chosen i = all_has (i % N t) (mod-lt i good.legal.n1)

  opens_same : (s d : ℕ) → opens t s d ≡ opens t 0 d
  opens_same s d = go (le_or_lt (N t) (d + 1))
    where
      go : (N t ≤ d + 1) ⊎ (d + 1 < N t) → opens t s d ≡ opens t 0 d
      go (inl h) = opens_last t s d h ∙ sym (opens_last t 0 d h)
      go (inr h) = opens_before t s d h ∙ all_chosen (s + d) ∙ sym (opens_before t 0 d h ∙ all_chosen (0 + d))

  head_same : (s k : ℕ) → head t s 0 k ≡ head t 0 0 k
  unfolding head
  head_same s k =
      ap₂ (λ b l. taking t b l 0 k) (opens_same s 0) (flags_same (opens t s) (opens t 0) (opens_same s) (0 + 1) (N t - (0 + 1)))

-- ---- how many are enough, where f slots are free from slot 0 on

module _ (t : Task) (good : Sound t) (f : ℕ) (fn : 0 + f < N t) (run : FreeRun t 0 0 f) where
  pub enough_one : f + 1 ≡ N t → has t.free f ≡ true → Enough t 1
  enough_one last free =
      covered t 1 good.legal.n1 λ v k h. (0, omega arith, omega (arith, head_same t good f last run free v k))

  pub enough_before : Enough t (min (N t) (L t + f))
  enough_before = go (le_or_lt (N t) (L t + f))
    where
      go : (N t ≤ L t + f) ⊎ (L t + f < N t) → Enough t (min (N t) (L t + f))
      go (inl h) =
          let all : min (N t) (L t + f) ≡ N t = omega arith in
          rw all (record { range = omega arith; all = λ b known. known })
      go (inr h) =
          let hole : chosen (N t) t.free f ≡ false =
          ap (chosen (N t) t.free) (sym (zero-add f)) ∙ sym (opens_before t 0 f (omega (arith, good.l1)))
          ∙ ap (opens t 0) (sym (zero-add f)) ∙ run.stop in
          covered t (min (N t) (L t + f)) (omega arith) λ v k l.
          let (s, sn, soon, worth) = earlier t good f (omega arith) hole v k (head t v 0 k) l refl in
          (s, omega arith, worth)
