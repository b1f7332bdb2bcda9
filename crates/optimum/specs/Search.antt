-- The search over the starts. After the starts below u the best of them is known: no start does with fewer slots, none is
-- worth more with as many, and none before it is worth as much. A start whose bound says that it cannot win leaves that so.
use Rattle.std.specs.Prelude.{◌≡◌, refl, true, false, List, ◌⊎◌, ℕ, zero, suc, ◌+◌, ◌-◌, ◌*◌, ◌≤◌, ◌<◌, get_or, Option, Some, None, is_some}
use Rattle.std.proofs.Common.{sym, ap, ◌∙◌, subst, inl, inr, ⊎_elim, arith, below_more}
use Rattle.std.proofs.lemmas.Option.{same_Some}
use Rattle.laws.specs.Logic.{le_or_lt}
use Rattle.line.specs.declared.Task.{Task}
use Rattle.line.specs.Values.{N, P}
use Rattle.line.specs.Packets.{opens, head, head_shut, head_zero}
use Rattle.line.specs.Tables.{Sound, FreeRun}
use Rattle.line.specs.Rows.{Solved, solved_fewer}
use Rattle.line.specs.Rebuild.{greedy_set}
use Rattle.line.specs.Bound.{Paid, paid_more, paid_any, paid_run}
use Rattle.optimum.specs.declared.Found.{Found}

-- the best of the starts below u
pub record Holds (t : Task) (u : ℕ) (b : Found) : Type 0 where
  pub seen : b.start.0 < u
  pub few : b.count < N t
  pub some : 1 ≤ b.count
  pub over : t.words.0 < b.value
  pub worth : head t b.start.0 0 b.count ≡ b.value
  pub most : (v : ℕ) → v < u → head t v 0 b.count ≤ b.value
  pub first : (v : ℕ) → v < b.start.0 → head t v 0 b.count < b.value
  pub set : b.slots ≡ greedy_set t b.start.0 b.count

-- how many slots the best so far has; all of them while nothing is found
abbrev pub slots_of : Task → Option Found → ℕ
slots_of t None = N t
slots_of t (Some f) = f.count

-- how many slots a choice may have that does better
abbrev pub cap_of : Task → Option Found → ℕ
cap_of t None = N t - 1
cap_of t (Some f) = f.count

-- if something is found, it is the best of the starts below u
abbrev pub Known : Task → ℕ → Option Found → Type 0
Known t u None = Unit {0}
Known t u (Some f) = Holds t u f

-- what is known after the starts below u
pub record Sofar (t : Task) (u : ℕ) (b : Option Found) : Type 0 where
  pub fewest : (j v : ℕ) → j < slots_of t b → v < u → head t v 0 j ≤ t.words.0
  pub found : Known t u b

pub sofar_none : (t : Task) → Sofar t 0 None
sofar_none t = record { fewest = λ j v h l. absurd (omega arith); found = tt }

pub sofar_range : (t : Task) (u : ℕ) (b : Option Found) → Sofar t u b → slots_of t b ≤ N t
sofar_range t u None z = omega arith
sofar_range t u (Some f) z = omega (arith, z.found.few)

cap_slots : (t : Task) (b : Option Found) → cap_of t b ≤ slots_of t b
cap_slots t None = omega arith
cap_slots t (Some f) = omega arith

slots_cap : (t : Task) (b : Option Found) (j : ℕ) → j < slots_of t b → j ≤ cap_of t b
slots_cap t None j h = omega arith
slots_cap t (Some f) j h = omega arith

pub cap_range : (t : Task) (u : ℕ) (b : Option Found) → Sofar t u b → 1 ≤ N t → cap_of t b < N t
cap_range t u None z n1 = omega arith
cap_range t u (Some f) z n1 = z.found.few

-- what is known of the starts below u holds for more starts, where none of these does better
pub sofar_on : {t : Task} {u : ℕ} (b : Option Found) (w : ℕ) → u ≤ w → Sofar t u b
    → ((j v : ℕ) → j < slots_of t b → v < w → head t v 0 j ≤ t.words.0)
    → ((f : Found) → b ≡ Some f → Holds t u f → (v : ℕ) → v < w → head t v 0 f.count ≤ f.value) → Sofar t w b
sofar_on None w h z low top = record { fewest = low; found = tt }
sofar_on (Some b) w h z low top =
    let f = z.found in
    record {
      fewest = low;
      found = record {
        seen = omega (arith, f.seen);
        few = f.few;
        some = f.some;
        over = f.over;
        worth = f.worth;
        most = top _ refl f;
        first = f.first;
        set = f.set;
      };
    }

-- ---- bounds

-- fewer than k slots do not deliver the words, where the first packet has at most f
pub record Short (t : Task) (f k : ℕ) : Type 0 where
  pub less : (j : ℕ) → j < k → (v : ℕ) → Paid t f j v → v < t.words.0

pub short_none : (t : Task) (f : ℕ) → Short t f 0
short_none t f = record { less = λ j h. absurd (omega arith) }

pub short_more : (t : Task) (f k : ℕ) → Short t f k → ((v : ℕ) → Paid t f k v → v < t.words.0) → Short t f (k + 1)
short_more t f k z h = record { less = λ j l. below_more (λ j. (v : ℕ) → Paid t f j v → v < t.words.0) k z.less h j l }

pub short_fewer : (t : Task) (f k j : ℕ) → j ≤ k → Short t f k → Short t f j
short_fewer t f k j h z = record { less = λ i l. z.less i (omega arith) }

pub short_run : (t : Task) → Sound t → (f k : ℕ) → Short t (P t) k → Short t f k
short_run t good f k z = record { less = λ j h v p. z.less j h v (paid_more t good (omega arith) p) }

-- no start whose first packet has at most f slots does better than b
pub record Hopeless (t : Task) (f : ℕ) (b : Option Found) : Type 0 where
  pub short : Short t f (slots_of t b)
  pub top : (found : Found) → b ≡ Some found → (v : ℕ) → Paid t f found.count v → v < found.value

-- the fewest slots before `end` that the words do not rule out, if there are any
abbrev pub Fewest : Task → ℕ → ℕ → Option ℕ → Type 0
Fewest t f end None = Short t f end
Fewest t f end (Some k) = Short t f k

pub fewest_none : (t : Task) (f end : ℕ) (k : Option ℕ) → is_some k ≡ false → Fewest t f end k → Short t f end
fewest_none t f end None e z = z
fewest_none t f end (Some k) e z = absurd (cc)

pub hopeless_none : (t : Task) (f : ℕ) (b : Option Found) → b ≡ None → Short t f (N t) → Hopeless t f b
hopeless_none t f None e z = record { short = z; top = λ found q. absurd (cc) }
hopeless_none t f (Some b) e z = absurd (cc)

pub hopeless_some : (t : Task) (f : ℕ) (b : Option Found) (g : Found) → b ≡ Some g → Short t f g.count
    → ((v : ℕ) → Paid t f g.count v → v < g.value) → Hopeless t f b
hopeless_some t f None g e z top = absurd (cc)
hopeless_some t f (Some b) g e z top =
    let d = sym (same_Some b g e) in
    record {
      short = subst (λ b. Short t f b.count) d z;
      top = λ found q. subst (λ b. (v : ℕ) → Paid t f b.count v → v < b.value) (d ∙ same_Some b found q) top;
    }

-- the first entry of a row, up to that of `cap` slots, that is above a number of words, if there is one
abbrev pub FirstOver : List ℕ → ℕ → ℕ → Option ℕ → Type 0
FirstOver hd cap words None = (j : ℕ) → j ≤ cap → get_or hd j 0 ≤ words
FirstOver hd cap words (Some k) = (k ≤ cap) × ((j : ℕ) → j < k → get_or hd j 0 ≤ words) × (words < get_or hd k 0)

-- the least number of slots, up to `cap`, that is worth enough at start u, if there is one; so far the tables are right
abbrev pub Weighed : Task → ℕ → ℕ → List ℕ → List ℕ → Option ℕ → Type 0
Weighed t u cap hd tl None = FirstOver hd cap t.words.0 None × Solved t u cap hd tl
Weighed t u cap hd tl (Some k) = FirstOver hd cap t.words.0 (Some k) × Solved t u k hd tl

-- tables up to the cap do
pub weighed_all : (t : Task) (u cap : ℕ) (hd tl : List ℕ) (k : Option ℕ) → Solved t u cap hd tl → FirstOver hd cap t.words.0 k
    → Weighed t u cap hd tl k
weighed_all t u cap hd tl None solved first = (first, solved)
weighed_all t u cap hd tl (Some k) solved (range, low, enough) = ((range, low, enough), solved_fewer _ _ _ _ _ _ range solved)

-- tables up to `near` do if they hold such a number, or if `near` is the cap
pub weighed : (t : Task) (u cap near : ℕ) (hd tl : List ℕ) (k : Option ℕ) → near ≤ cap → Solved t u near hd tl
    → FirstOver hd near t.words.0 k → (is_some k ≡ true) ⊎ (near ≡ cap) → Weighed t u cap hd tl k
weighed t u cap near hd tl None nc solved first (inl e) = absurd (cc)
weighed t u cap near hd tl None nc solved first (inr e) =
    weighed_all t u cap hd tl None (subst (λ n. Solved t u n hd tl) e solved) (subst (λ n. FirstOver hd n t.words.0 None) e first)
weighed t u cap near hd tl (Some k) nc solved (range, low, enough) does =
    ((omega arith, low, enough), solved_fewer _ _ _ _ _ _ range solved)

-- k slots of the value v do better than b
abbrev pub Improves : Option Found → ℕ → ℕ → Type 0
Improves None k v = Unit {0}
Improves (Some f) k v = (k < f.count) ⊎ (f.value < v)

-- ---- one start more

module _ (t : Task) (good : Sound t) (u : ℕ) (b : Option Found) (z : Sofar t u b) where
  -- the start u brings nothing better
  sofar_same : ((j : ℕ) → j < slots_of t b → head t u 0 j ≤ t.words.0)
      → ((f : Found) → b ≡ Some f → Holds t u f → head t u 0 f.count ≤ f.value) → Sofar t (u + 1) b
  sofar_same low top =
      sofar_on b (u + 1) (omega arith) z
      (λ j v h l. below_more (λ v. head t v 0 j ≤ t.words.0) u (λ v m. z.fewest j v h m) (low j h) v l)
      (λ f e h. below_more (λ v. head t v 0 f.count ≤ f.value) u h.most (top f e h))

  pub start_shut : opens t u 0 ≡ false → Sofar t (u + 1) b
  start_shut e =
      sofar_same (λ j h. omega (arith, head_shut t u 0 j e)) (λ f q h. omega (arith, head_shut t u 0 f.count e))

  -- the start is passed over
  pub start_hopeless : (f : ℕ) → 1 ≤ f → FreeRun t u 0 f → Hopeless t f b → Sofar t (u + 1) b
  start_hopeless f f1 run lost =
      sofar_same (λ j h. low j h (head t u 0 j) refl) (λ g e h. top g e (head t u 0 g.count) refl)
    where
      low : (j : ℕ) → j < slots_of t b → (v : ℕ) → head t u 0 j ≡ v → v ≤ t.words.0
      low j h zero e = omega arith
      low j h (suc v) e = lost.short.less j h v (paid_run t good u f j v f1 run e)

      top : (g : Found) → b ≡ Some g → (v : ℕ) → head t u 0 g.count ≡ v → v ≤ g.value
      top g q zero e = omega arith
      top g q (suc v) e = lost.top g q v (paid_run t good u f g.count v f1 run e)

  -- all later starts are passed over
  pub all_hopeless : u ≤ N t → Hopeless t (P t) b → Sofar t (N t) b
  all_hopeless un lost =
      sofar_on b (N t) un z (λ j v h l. low j v h (head t v 0 j) refl) (λ g e h v l. top v g e (head t v 0 g.count) refl)
    where
      low : (j v : ℕ) → j < slots_of t b → (x : ℕ) → head t v 0 j ≡ x → x ≤ t.words.0
      low j v h zero e = omega arith
      low j v h (suc x) e = lost.short.less j h x (paid_any t good v j x e)

      top : (v : ℕ) (g : Found) → b ≡ Some g → (x : ℕ) → head t v 0 g.count ≡ x → x ≤ g.value
      top v g q zero e = omega arith
      top v g q (suc x) e = lost.top g q x (paid_any t good v g.count x e)

  -- ---- its tables say what it is worth

  module _ (cap : ℕ) (hd tl : List ℕ) (ec : cap ≡ cap_of t b) where
    row : (m : ℕ) → Solved t u m hd tl → (j : ℕ) → j ≤ m → get_or hd j 0 ≡ head t u 0 j
    row m solved j h =
        let e : 0 * 64 + j ≡ j = omega arith in
        ap (λ i. get_or hd i 0) (sym e) ∙ solved.heads.at 0 j (omega arith) (omega (arith, good.two)) h

    -- no number of slots up to the cap is worth enough
    pub start_none : Weighed t u cap hd tl None → Sofar t (u + 1) b
    start_none (low, solved) =
        sofar_same
        (λ j l. let h : j ≤ cap = omega (arith, slots_cap t b j l) in omega (arith, row cap solved j h, low j h))
        (λ f e h.
        let c : cap ≡ f.count = ec ∙ ap (cap_of t) e in
        omega (arith, row cap solved f.count (omega arith), low f.count (omega arith), h.over))

    module _ (k : ℕ) (w : Weighed t u cap hd tl (Some k)) where
      worth : get_or hd k 0 ≡ head t u 0 k
      worth = row k w.1 k (omega arith)

      poor : (j : ℕ) → j < k → head t u 0 j ≤ t.words.0
      poor j h = omega (arith, row k w.1 j (omega arith), w.0.1 j h)

      pub start_some : 1 ≤ k
      start_some = go k refl
        where
          go : (i : ℕ) → k ≡ i → 1 ≤ k
          go zero q = absurd (omega (arith, worth, w.0.2, head_zero t u 0 k q))
          go (suc i) q = omega arith

      -- as many slots as the best, and worth no more
      pub start_worse : ¬ Improves b k (get_or hd k 0) → Sofar t (u + 1) b
      start_worse = go b refl
        where
          go : (a : Option Found) → b ≡ a → ¬ Improves a k (get_or hd k 0) → Sofar t (u + 1) b
          go None e n = absurd (n tt)
          go (Some a) e n =
              let c : cap ≡ a.count = ec ∙ ap (cap_of t) e in
              let same : k ≡ a.count = ⊎_elim (λ l. omega (arith, w.0.0)) (λ l. absurd (n (inl l))) (le_or_lt a.count k) in
              let less : get_or hd k 0 ≤ a.value = ⊎_elim (λ l. l) (λ l. absurd (n (inr l))) (le_or_lt (get_or hd k 0) a.value) in
              sofar_same (λ j m. poor j (omega (arith, ap (slots_of t) e)))
              (λ f q h.
              let d : a ≡ f = same_Some a f (sym e ∙ q) in
              subst (λ f. head t u 0 f.count ≤ f.value) d (omega (arith, worth, ap (head t u 0) same)))

      -- fewer slots, or as many and worth more
      pub start_new : (new : Found) → Improves b k (get_or hd k 0)
          → new.count ≡ k → new.value ≡ get_or hd k 0 → new.start.0 ≡ u → new.slots ≡ greedy_set t u k → Sofar t (u + 1) (Some new)
      start_new new better ek ev es ex =
          record {
            fewest = λ j v l m.
                below_more (λ v. head t v 0 j ≤ t.words.0) u (λ v n. z.fewest j v (omega (arith, w.0.0, cap_slots t b)) n)
                (poor j (omega arith)) v m;
            found = record {
              seen = omega arith;
              few = omega (arith, w.0.0, cap_range t u b z (omega (arith, good.two)));
              some = omega (arith, start_some);
              over = omega (arith, w.0.2);
              worth = rw (es, ek) (sym worth ∙ sym ev);
              most = below_more (λ v. head t v 0 new.count ≤ new.value) u (λ v m. omega (arith, less v m)) (rw ek (omega (arith, worth)));
              first = λ v m. less v (omega arith);
              set = rw (es, ek) ex;
            };
          }
        where
          fewer : k < slots_of t b → (v : ℕ) → v < u → head t v 0 new.count < new.value
          fewer h v m = rw ek (omega (arith, w.0.2, z.fewest k v h m))

          less : (v : ℕ) → v < u → head t v 0 new.count < new.value
          less = go b refl better z.found
            where
              go : (a : Option Found) → b ≡ a → Improves a k (get_or hd k 0) → Known t u a → (v : ℕ) → v < u → head t v 0 new.count < new.value
              go None e i h =
                  let c : cap ≡ N t - 1 = ec ∙ ap (cap_of t) e in
                  fewer (omega (arith, w.0.0, good.two, ap (slots_of t) e))
              go (Some a) e i h = either (le_or_lt a.count k) i
                where
                  either : (a.count ≤ k) ⊎ (k < a.count) → (k < a.count) ⊎ (a.value < get_or hd k 0) → (v : ℕ) → v < u → head t v 0 new.count < new.value
                  either (inr l) i = fewer (omega (arith, ap (slots_of t) e))
                  either (inl l) (inl i) = absurd (omega arith)
                  either (inl l) (inr i) = λ v m.
                      let q : new.count ≡ a.count = omega (arith, w.0.0, ec ∙ ap (cap_of t) e) in
                      rw q (omega (arith, h.most v m))
