-- What the search over all starts answers. If it found a set, that one is best; if not, no set but the full wheel meets the
-- demand, so that the free slots are all slots, and best.
use Rattle.std.specs.Prelude.{◌≡◌, refl, Bool, true, false, ◌⊎◌, ℕ, ◌+◌, ◌-◌, ◌≤◌, ◌<◌, min, Some, None}
use Rattle.std.proofs.Common.{sym, ap, ◌∙◌, inl, inr, arith}
use Rattle.rules.specs.declared.Wheel.{Wheel}
use Rattle.rules.specs.declared.Grant.{Grant}
use Rattle.rules.specs.declared.Words.{Words}
use Rattle.rules.specs.Sets.{has, Within, Below}
use Rattle.rules.specs.Wheels.{Legal, chosen, size, full, words}
use Rattle.rules.specs.Best.{Meets, Best, smallest_start}
use Rattle.rules.specs.Promises.{Grants}
use Rattle.laws.specs.Logic.{le_or_lt, not_both}
use Rattle.laws.specs.Sets.{same_set, below_not, within_self, within_below}
use Rattle.laws.specs.Turns.{chosen_below, start_both}
use Rattle.laws.specs.Runs.{full_each}
use Rattle.laws.specs.Gaps.{gap_most}
use Rattle.line.specs.declared.Task.{Task}
use Rattle.line.specs.Asked.{Asked}
use Rattle.line.specs.Values.{N, L}
use Rattle.optimum.specs.declared.Found.{Found}
use Rattle.optimum.specs.Starts.{has_smallest, size_full, size_less}
use Rattle.optimum.specs.Rival.{rival_worth}
use Rattle.optimum.specs.Best.{Optimum, greedy_best, greedy_size, greedy_words}
use Rattle.optimum.specs.Search.{Sofar}

-- a demand that the free slots meet
pub record Meetable (w : Wheel) (free W L : ℕ) : Type 0 where
  pub legal : Legal w
  pub fit : Below w.n free
  pub some : 1 ≤ W
  pub l1 : 1 ≤ L
  pub meets : Meets w W L free

-- the search for one, with the limit cut at n, is sound
pub sound : (w : Wheel) (free : ℕ) (wanted : Words) (limit cut : ℕ) → cut ≡ min limit w.n → Meetable w free wanted.0 limit → 2 ≤ w.n
    → Asked w free wanted cut
sound w free wanted limit cut e a two =
    record {
      legal = a.legal;
      two = two;
      some = a.some;
      l1 = omega (arith, a.l1, a.legal.n1);
      l64 = omega (arith, a.legal.n64);
      fit = a.fit;
    }

-- ---- only the full wheel is left

module _ (w : Wheel) (free W L : ℕ) (a : Meetable w free W L) where
  full_same : (y : ℕ) → Within free y → full w.n free ≡ true → full w.n y ≡ true → free ≡ y
  full_same y yin f g = same_set free y λ i. go i (le_or_lt w.n i)
    where
      go : (i : ℕ) → (w.n ≤ i) ⊎ (i < w.n) → has free i ≡ has y i
      go i (inl h) = below_not free w.n a.fit i h ∙ sym (below_not y w.n (within_below a.fit yin) i h)
      go i (inr h) =
          sym (chosen_below w.n free i h) ∙ full_each w.n free a.legal.n1 f i
          ∙ sym (full_each w.n y a.legal.n1 g i) ∙ chosen_below w.n y i h

  whole_grants : ((y : ℕ) → Within free y → Meets w W L y → full w.n y ≡ true)
      → (g : Grant) → g.slots ≡ free → g.count ≡ w.n → g.words.0 ≡ words w free → Grants w free W L g
  whole_grants only g es ec ew =
      let all = only free (within_self free) a.meets in
      record {
        best = rw es (record { within = within_self free; meets = a.meets; best = λ y yin ym. inl (full_same y yin all (only y yin ym)) });
        count = ec ∙ sym (ap (size w.n) es ∙ size_full w.n free all);
        words = ew ∙ sym (ap (words w) es);
      }

  -- a wheel of one slot
  pub one_grants : w.n ≡ 1 → (g : Grant) → g.slots ≡ free → g.count ≡ w.n → g.words.0 ≡ words w free → Grants w free W L g
  one_grants n = whole_grants λ y yin ym. go y ym (full w.n y) refl
    where
      go : (y : ℕ) → Meets w W L y → (b : Bool) → full w.n y ≡ b → b ≡ true
      go y ym true e = refl
      go y ym false e =
          let (st, k) = has_smallest w y e (omega (arith, ym.delivers, a.some)) in
          let (on, off) = start_both w.n y (smallest_start w.n y) st in
          let same : smallest_start w.n y + (w.n - 1) ≡ smallest_start w.n y = omega arith in
          absurd (not_both on (ap (chosen w.n y) (sym same) ∙ off))

-- ---- an L above N restricts nothing

module _ (w : Wheel) (n1 : 1 ≤ w.n) (free W L : ℕ) where
  clip : (x : ℕ) → Meets w W L x → Meets w W (min L w.n) x
  clip x m = record { delivers = m.delivers; near = λ i k o. omega (arith, m.near i k o, gap_most w.n x n1 i) }

  unclip : (x : ℕ) → Meets w W (min L w.n) x → Meets w W L x
  unclip x m = record { delivers = m.delivers; near = λ i k o. omega (arith, m.near i k o) }

  best_clip : (x : ℕ) → Best w free W (min L w.n) x → Best w free W L x
  best_clip x b = record { within = b.within; meets = unclip x b.meets; best = λ y yin ym. b.best y yin (clip y ym) }

-- ---- after all starts

module _ (t : Task) (limit : ℕ) (el : L t ≡ min limit (N t)) (a : Meetable t.wheel t.free t.words.0 limit) where
  pub none_grants : Sofar t (N t) None → (g : Grant) → g.slots ≡ t.free → g.count ≡ N t → g.words.0 ≡ words t.wheel t.free
      → Grants t.wheel t.free t.words.0 limit g
  none_grants z = whole_grants t.wheel t.free t.words.0 limit a λ y yin ym. go y yin ym (full (N t) y) refl
    where
      go : (y : ℕ) → Within t.free y → Meets t.wheel t.words.0 limit y → (c : Bool) → full (N t) y ≡ c → c ≡ true
      go y yin ym true e = refl
      go y yin ym false e =
          let u = smallest_start (N t) y in
          let (st, un) = has_smallest t.wheel y e (omega (arith, ym.delivers, t.sound.some)) in
          let clipped = rw (← el) at (clip t.wheel t.sound.legal.n1 t.free t.words.0 limit y ym) in
          let few = size_less (N t) y u t.sound.legal.n1 (start_both (N t) y u st).1 in
          absurd (omega (
            arith,
            rival_worth t t.sound y u st yin clipped.near,
            z.fewest (size (N t) y) u few un,
            ym.delivers,
          ))

  pub found_grants : (b : Found) → Sofar t (N t) (Some b) → (g : Grant) → g.slots ≡ b.slots → g.count ≡ b.count → g.words.0 ≡ b.value - 1
      → Grants t.wheel t.free t.words.0 limit g
  found_grants b z g es ec ew =
      let set = es ∙ z.found.set in
      let best = greedy_best t t.sound b.start.0 b.count (b.value - 1) optimum in
      record {
        best = rw set (best_clip t.wheel t.sound.legal.n1 t.free t.words.0 limit _ (rw (← el) best));
        count = ec ∙ sym (ap (size (N t)) set ∙ greedy_size t t.sound b.start.0 b.count (b.value - 1) optimum);
        words = ew ∙ sym (ap (words t.wheel) set ∙ greedy_words t t.sound b.start.0 b.count (b.value - 1) optimum);
      }
    where
      optimum : Optimum t b.start.0 b.count (b.value - 1)
      optimum =
          let f = z.found in
          record {
            within = f.seen;
            value = omega (arith, f.worth, f.over);
            enough = omega (arith, f.over);
            fewest = z.fewest;
            most = λ u h. omega (arith, f.most u h);
            earliest = λ u h. omega (arith, f.first u h);
          }
