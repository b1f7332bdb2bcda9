-- Agreement is kept. Replacing one record, and changing just the cells that the old or the new one claims, leaves table
-- and list in agreement; a granted opening and a closing are two cases of this.
use Rattle.std.specs.Prelude.{◌≡◌, refl, Bool, true, false, cond, List, [], ℕ, ◌+◌, ◌≤◌, ◌<◌, set, length, eqb}
use Rattle.std.proofs.Common.{sym, ap, ◌∙◌, subst, arith, get_or-set_same, get_or-set_other, eqb-true}
use Rattle.std.proofs.lemmas.Bool.{eqb-false}
use Rattle.rules.specs.declared.Record.{Record}
use Rattle.rules.specs.Wheels.{Legal}
use Rattle.rules.specs.Paths.{Chip, cell, claims, Stamped}
use Rattle.rules.specs.Flows.{none, flow, claiming, Own, takes, Agree}
use Rattle.rules.specs.Orders.{Tabled}
use Rattle.rules.specs.Promises.{closed_record}
use Rattle.laws.specs.Logic.{not_both}
use Rattle.ledger.specs.Trimmed.{trimmed_rest}
use Rattle.ledger.specs.Claims.{takes_claims, takes_none, takes_inside}
use Rattle.ledger.specs.Stamps.{untouched}

-- a fact of each record of a list, the new one standing at f
each_flow : (list : List Record) (f : ℕ) (r : Record) (n : ℕ) (P : ℕ → Record → Type 0) → f < length list → P f r
    → ((g : ℕ) → g < n → ¬ (g ≡ f) → P g (flow list g)) → (g : ℕ) → g < n → P g (flow (set list f r) g)
each_flow list f r n P h here there g k = go (eqb g f) refl
  where
    go : (b : Bool) → eqb g f ≡ b → P g (flow (set list f r) g)
    go true e =
        subst (λ i. P i (flow (set list f r) i)) (sym (eqb-true g f e)) (subst (P f) (sym (get_or-set_same list f r none h)) here)
    go false e = subst (P g) (sym (get_or-set_other list f g r none (eqb-false g f e))) (there g k (eqb-false g f e))

-- no cell is claimed twice, if claimed cells hold their flow's number
pub held_once : (chip : Chip) (t : List ℕ) (n : ℕ) (list : List Record)
    → ((f c j : ℕ) → f < n → takes chip (flow list f) c j ≡ true → cell t c j ≡ f + 1)
    → (f g c j : ℕ) → f < n → g < n → takes chip (flow list f) c j ≡ true → takes chip (flow list g) c j ≡ true → f ≡ g
held_once chip t n list held f g c j h k p q = omega (arith, held f c j h p, held g c j k q)

closed_claims : claiming closed_record.state ≡ false
unfolding closed_record claiming
closed_claims = refl

pub closed_own : (chip : Chip) → Own chip closed_record.state closed_record
unfolding closed_record Own
closed_own chip = record { len = refl; slots = refl; path = trimmed_rest [] 0 }

module _ (chip : Chip) (t t' : List ℕ) (n : ℕ) (list : List Record) (f : ℕ) (legal : Legal chip.wheel) (tabled : Tabled chip.channels t)
    (fits : n ≤ length list) (at_f : f < n) (agree : Agree chip t n list) where
  -- record f becomes r: r's cells were 0 or the old record's and hold f's number now, the old record's other cells are 0
  pub replaced_agree : (r : Record) → Own chip r.state r
      → ((c j : ℕ) → takes chip r c j ≡ true → takes chip (flow list f) c j ≡ false → cell t c j ≡ 0)
      → ((c j : ℕ) → takes chip r c j ≡ true → cell t' c j ≡ f + 1)
      → ((c j : ℕ) → c < chip.channels → j < 64 → takes chip r c j ≡ false → cell t' c j ≡ cond (takes chip (flow list f) c j) 0 (cell t c j))
      → Agree chip t' n (set list f r)
  replaced_agree r own free mine rest =
      record {
        own = each_flow list f r n (λ g q. Own chip q.state q) (omega arith) own (λ g k ne. agree.own g k);
        once = held_once chip t' n (set list f r) held;
        held = held;
        others = others;
      }
    where
      kept : (g : ℕ) → g < n → ¬ (g ≡ f) → (c j : ℕ) → takes chip (flow list g) c j ≡ true → cell t' c j ≡ g + 1
      kept g k ne c j e = go (takes chip r c j) (takes chip (flow list f) c j) refl refl
        where
          go : (a b : Bool) → takes chip r c j ≡ a → takes chip (flow list f) c j ≡ b → cell t' c j ≡ g + 1
          go a true p q = absurd (ne (agree.once g f c j k at_f e q))
          go true false p q = absurd (omega (arith, free c j p q, agree.held g c j k e))
          go false false p q =
              let (hc, hj) = takes_inside chip (flow list g) c j legal.n1 (agree.own g k) e in
              rest c j hc (omega (arith, legal.n64)) p ∙ ap (λ b. cond b 0 (cell t c j)) q ∙ agree.held g c j k e

      held : (g c j : ℕ) → g < n → takes chip (flow (set list f r) g) c j ≡ true → cell t' c j ≡ g + 1
      held g c j k =
          each_flow list f r n (λ g q. takes chip q c j ≡ true → cell t' c j ≡ g + 1) (omega arith) (mine c j) (λ g k ne. kept g k ne c j) g k

      others : (c j : ℕ) → c < chip.channels → j < 64 → ((g : ℕ) → g < n → takes chip (flow (set list f r) g) c j ≡ false) → cell t' c j ≡ 0
      others c j hc hj unclaimed = go (takes chip (flow list f) c j) refl
        where
          new : takes chip r c j ≡ false
          new = subst (λ q. takes chip q c j ≡ false) (get_or-set_same list f r none (omega arith)) (unclaimed f at_f)

          go : (b : Bool) → takes chip (flow list f) c j ≡ b → cell t' c j ≡ 0
          go true q = rest c j hc hj new ∙ ap (λ b. cond b 0 (cell t c j)) q
          go false q =
              rest c j hc hj new
              ∙ ap (λ b. cond b 0 (cell t c j)) q
              ∙ agree.others c j hc hj λ g k. each g k (eqb g f) refl
            where
              each : (g : ℕ) → g < n → (b : Bool) → eqb g f ≡ b → takes chip (flow list g) c j ≡ false
              each g k true e = ap (λ i. takes chip (flow list i) c j) (eqb-true g f e) ∙ q
              each g k false e =
                  subst (λ q. takes chip q c j ≡ false) (get_or-set_other list f g r none (eqb-false g f e)) (unclaimed g k)

  -- a flow is opened: its old record claimed nothing, and the new one claims cells that were 0
  pub open_agree : (r : Record) → claiming (flow list f).state ≡ false → claiming r.state ≡ true → Own chip r.state r
      → ((c j : ℕ) → claims chip r.path.entries r.path.len r.slots c j ≡ true → cell t c j ≡ 0)
      → Stamped chip r.path.entries r.path.len r.slots (f + 1) t t' → Agree chip t' n (set list f r)
  open_agree r shut open-now own free stamped =
      replaced_agree r own (λ c j e q. free c j (sym (takes_claims chip r c j open-now) ∙ e)) mine
      (λ c j hc hj e.
      untouched chip r.path.entries r.path.len r.slots (f + 1) t t' stamped c j (omega (arith, tabled.long)) hj (sym (takes_claims chip r c j open-now) ∙ e)
      ∙ ap (λ b. cond b 0 (cell t c j)) (sym (takes_none chip (flow list f) c j shut)))
    where
      mine : (c j : ℕ) → takes chip r c j ≡ true → cell t' c j ≡ f + 1
      mine c j e =
          let (hc, hj) = takes_inside chip r c j legal.n1 own e in
          stamped.at c j (omega (arith, tabled.long)) (omega (arith, legal.n64))
          ∙ ap (λ b. cond b (f + 1) (cell t c j)) (sym (takes_claims chip r c j open-now) ∙ e)

  -- a flow is closed: its cells are cleared
  pub close_agree : claiming (flow list f).state ≡ true
      → Stamped chip (flow list f).path.entries (flow list f).path.len (flow list f).slots 0 t t' → Agree chip t' n (set list f closed_record)
  close_agree open-now stamped =
      replaced_agree closed_record (closed_own chip) (λ c j e. absurd (not_both e (idle c j))) (λ c j e. absurd (not_both e (idle c j)))
      (λ c j hc hj e.
      stamped.at c j (omega (arith, tabled.long)) hj
      ∙ ap (λ b. cond b 0 (cell t c j)) (sym (takes_claims chip (flow list f) c j open-now)))
    where
      idle : (c j : ℕ) → takes chip closed_record c j ≡ false
      idle c j = takes_none chip closed_record c j closed_claims
