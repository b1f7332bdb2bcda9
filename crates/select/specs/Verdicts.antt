-- The order of bare selection's refusals, line by line: each is given where the lines before it are passed, and what passes
-- them all is a demand that the free slots meet as a whole.
use Rattle.std.specs.Prelude.{◌≡◌, refl, ℕ, ◌≤◌, ◌<◌}
use Rattle.std.proofs.Common.{inl, inr, arith}
use Rattle.rules.specs.declared.Wheel.{Wheel}
use Rattle.rules.specs.Sets.{Below}
use Rattle.rules.specs.Wheels.{Legal, words, largest_gap}
use Rattle.rules.specs.Numbers.{Refuses, Passes}
use Rattle.rules.specs.Orders.{select_order}
use Rattle.laws.specs.Answers.{thirteen, not_thirteen, fourteen, whole_meets, not_fourteen}
use Rattle.optimum.specs.Answer.{Meetable}

-- ---- what can be said before the free slots are measured

module _ (w : Wheel) (free W L : ℕ) where
  pub bad_wheel : ¬ Legal w → Refuses (select_order w free W L) 1
  unfolding Refuses
  bad_wheel h = inl (h, refl)

  pub slot_beyond : Legal w → ¬ Below w.n free → Refuses (select_order w free W L) 15
  unfolding Refuses
  slot_beyond legal h = inr ((λ bad. bad legal), inl (h, refl))

  pub no_words : Legal w → Below w.n free → W ≡ 0 → Refuses (select_order w free W L) 11
  unfolding Refuses
  no_words legal fit h = inr ((λ bad. bad legal), inr ((λ beyond. beyond fit), inl (h, refl)))

  pub no_time : Legal w → Below w.n free → ¬ (W ≡ 0) → L ≡ 0 → Refuses (select_order w free W L) 12
  unfolding Refuses
  no_time legal fit some h = inr ((λ bad. bad legal), inr ((λ beyond. beyond fit), inr (some, inl (h, refl))))

-- none of that stands in the way
pub record Posed (w : Wheel) (free W L : ℕ) : Type 0 where
  pub legal : Legal w
  pub fit : Below w.n free
  pub some : ¬ (W ≡ 0)
  pub time : ¬ (L ≡ 0)

-- ---- the free slots as a whole

module _ (w : Wheel) (free W L : ℕ) (p : Posed w free W L) where
  pub too_much : words w free < W → Refuses (select_order w free W L) 13
  unfolding Refuses
  too_much h =
      inr ((λ bad. bad p.legal), inr ((λ beyond. beyond p.fit), inr (p.some, inr (p.time, inl (thirteen w p.legal free W h, refl)))))

  module _ (enough : W ≤ words w free) where
    w1 : 1 ≤ W
    w1 = omega (arith, p.some)

    pub too_far : L < largest_gap w.n free → Refuses (select_order w free W L) 14
    unfolding Refuses
    too_far h =
        let delivers = not_thirteen w p.legal free W enough in
        let none = fourteen w p.legal free W L w1 enough h in
        inr ((λ bad. bad p.legal), inr ((λ beyond. beyond p.fit), inr (p.some, inr (p.time, inr (delivers, inl (none, refl))))))

    module _ (near : largest_gap w.n free ≤ L) where
      pub meetable : Meetable w free W L
      meetable =
          record { legal = p.legal; fit = p.fit; some = w1; l1 = omega (arith, p.time); meets = whole_meets w p.legal free W L enough near }

      pub passes : Passes (select_order w free W L)
      unfolding Passes
      passes =
          let delivers = not_thirteen w p.legal free W enough in
          let meets = not_fourteen w p.legal free W L enough near in
          ((λ bad. bad p.legal), ((λ beyond. beyond p.fit), (p.some, (p.time, (delivers, (meets, tt))))))

-- what is said at each way out
pub ruleset verdicts = (bad_wheel, slot_beyond, no_words, no_time, too_much, too_far, passes)
