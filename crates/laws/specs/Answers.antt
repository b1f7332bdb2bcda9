-- The answer of bare selection: 13 and 14 are tests on the whole of the free slots, and the inputs settle the answer.
use Rattle.std.specs.Prelude.{◌≡◌, ℕ, ◌≤◌, ◌<◌, Result, Ok, Err}
use Rattle.std.proofs.Common.{sym, ap, ◌∙◌, arith}
use Rattle.rules.specs.declared.Refusal.{Refusal}
use Rattle.rules.specs.declared.Wheel.{Wheel}
use Rattle.rules.specs.declared.Grant.{Grant}
use Rattle.rules.specs.Wheels.{Legal, size, words, largest_gap}
use Rattle.rules.specs.Best.{Meets}
use Rattle.rules.specs.Numbers.{number}
use Rattle.rules.specs.Orders.{NoneDelivers, NoneMeets, select_order}
use Rattle.rules.specs.Promises.{Grants, Selects}
use Rattle.laws.specs.Sets.{within_self}
use Rattle.laws.specs.Gaps.{largest_near, near_largest}
use Rattle.laws.specs.Whole.{words_within, near_within, some_slot}
use Rattle.laws.specs.Order.{best_unique}
use Rattle.laws.specs.Refusals.{settled, passes_not, same_number}

-- ---- 13 and 14 as tests on the whole of the free slots

module _ (w : Wheel) (legal : Legal w) (free W : ℕ) where
  pub thirteen : words w free < W → NoneDelivers w free W
  thirteen h = record { none = λ x within d. omega (arith, words_within w legal free x within) }

  pub not_thirteen : W ≤ words w free → ¬ NoneDelivers w free W
  not_thirteen h n = n.none free (within_self free) h

  module _ (L : ℕ) where
    pub fourteen : 1 ≤ W → W ≤ words w free → L < largest_gap w.n free → NoneMeets w free W L
    fourteen w1 h g =
        record {
          set = free;
          within = within_self free;
          delivers = h;
          none = λ x within m.
              let (s, l, at) = some_slot w legal x (omega (arith, m.delivers)) in
              omega (arith, near_largest w.n free L (near_within w legal free x within L s at m.near));
        }

    pub whole_meets : W ≤ words w free → largest_gap w.n free ≤ L → Meets w W L free
    whole_meets h g = record { delivers = h; near = largest_near w.n free L g }

    pub not_fourteen : W ≤ words w free → largest_gap w.n free ≤ L → ¬ NoneMeets w free W L
    not_fourteen h g n = n.none free (within_self free) (whole_meets h g)

-- ---- bare selection

same_grant : (g h : Grant) → g.slots ≡ h.slots → g.count ≡ h.count → g.words.0 ≡ h.words.0 → g ≡ h
same_grant g h a b c = λ i. record { slots = a i; count = b i; words = record { 0 = c i } }

pub grants_unique : {w : Wheel} {free W L : ℕ} (g h : Grant) → Grants w free W L g → Grants w free W L h → g ≡ h
grants_unique {w} g h a b =
    let e = best_unique a.best b.best in
    same_grant g h e
    (a.count ∙ ap (size w.n) e ∙ sym b.count)
    (a.words ∙ ap (words w) e ∙ sym b.words)

-- any two answers that the promise allows for one input are equal
pub selects_unique : (w : Wheel) (free W L : ℕ) (a b : Result Grant Refusal) → Selects w free W L a → Selects w free W L b → a ≡ b
unfolding Selects
selects_unique w free W L (Ok g) (Ok h) p q = ap Ok (grants_unique g h p.1 q.1)
selects_unique w free W L (Ok g) (Err r) p q = absurd (passes_not (select_order w free W L) (number r) p.0 q)
selects_unique w free W L (Err r) (Ok g) p q = absurd (passes_not (select_order w free W L) (number r) q.0 p)
selects_unique w free W L (Err r) (Err s) p q = ap Err (same_number r s (settled (select_order w free W L) (number r) (number s) p q))
