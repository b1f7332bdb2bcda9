-- How many cells are held. A lawful record claims as many cells as it has slots times channels, for its path has no
-- repeats and no two slots are seen in one cell; and where claimed cells hold their flow's number no cell is claimed
-- twice. So the cells that are not 0 are at least the held ones, and if they are as many there is no stray cell: table
-- and list agree just when each record obeys its rules, its cells hold its number and the count is the sum of claims.
use Rattle.std.specs.Prelude.{◌≡◌, Bool, ◌&&◌, List, ℕ, ◌+◌, ◌*◌, ◌≤◌, ◌<◌, get_or, length}
use Rattle.std.proofs.Math.Path.{refl, sym, ap}
use Rattle.std.proofs.Common.{◌∙◌, arith, le_trans, mul-le-mul, one-mul}
use Rattle.std.proofs.Math.Bool.{true, false, cond}
use Rattle.std.proofs.Math.Nat.{mul_comm}
use Rattle.std.proofs.Math.Dec.{eqb}
use borrow.Author.Tests.{eq-eqb, ne_eqb, eqb-true}
use Rattle.rules.specs.declared.State.{State}
use Rattle.rules.specs.declared.State.TheVariants.{Closed, Open}
use Rattle.rules.specs.declared.Wheel.{Wheel}
use Rattle.rules.specs.declared.Record.{Record}
use Rattle.rules.specs.Sets.{has, any, sum}
use Rattle.rules.specs.Wheels.{Legal, size}
use Rattle.rules.specs.Paths.{Chip, cell, seen, reached, claims, Inside, Once}
use Rattle.rules.specs.Flows.{flow, claiming, Own, takes, Agree, free_cells, cells_of, held_cells}
use Rattle.rules.specs.Orders.{Tabled}
use Rattle.laws.specs.Bounds.{size_most}
use Rattle.laws.specs.Logic.{not_both, not_true_false, and_true}
use Rattle.laws.specs.Search.{any_find, any_yes}
use Rattle.laws.specs.Turns.{chosen_below}
use Rattle.ledger.specs.Claims.{seen_below, seen_once, takes_inside}
use Rattle.ledger.specs.Agreement.{held_once}
use Rattle.ledger.specs.Sums.{bit, sum_each, sum_le, sum_tight, sum_const, sum_zero, sum_cut, sum_rows, sum_add, sum_swap, sum_hit, Lone, any_sum}

-- 1 for a cell that is not 0
abbrev pub used : ℕ → ℕ
used v = cond (eqb v 0) 0 1

-- how many cells of the table are not 0
unfoldable pub used_cells : List ℕ → ℕ
used_cells t = sum (λ i. used (get_or t i 0)) 0 (length t)

-- ---- the cells of one record

pub cells_most : (w : Wheel) (r : Record) → w.n ≤ 64 → r.path.len ≤ 16 → cells_of w r ≤ 1024
unfolding cells_of
cells_most w r n64 fits = go (claiming r.state)
  where
    go : (b : Bool) → cond b (size w.n r.slots * r.path.len) 0 ≤ 1024
    go true = mul-le-mul (le_trans (size_most w.n r.slots) n64) fits
    go false = omega arith

module _ (chip : Chip) (legal : Legal chip.wheel) where
  abbrev N : ℕ
  N = chip.wheel.n

  -- a row has as many claimed cells as slots are chosen
  row_claims : (path : List ℕ) (x i : ℕ) → sum (λ j. bit (reached chip path x i j chip.wheel.n)) 0 chip.wheel.n ≡ size chip.wheel.n x
  unfolding reached size
  row_claims path x i =
      sum_each _ _ N (λ j h. any_sum (λ s. has x s && eqb (seen chip path i s) j) N (lone j))
      ∙ sum_swap (λ j s. bit (has x s && eqb (seen chip path i s) j)) N N
      ∙ sum_each _ _ N (λ s h. each s (has x s) ∙ ap bit (sym (chosen_below N x s h)))
    where
      lone : (j : ℕ) → Lone (λ s. has x s && eqb (seen chip path i s) j) chip.wheel.n
      lone j =
          record {
            same = λ s u h k p q.
                let a : seen chip path i s ≡ j = eqb-true _ _ (and_true (has x s) _ p).1 in
                let b : seen chip path i u ≡ j = eqb-true _ _ (and_true (has x u) _ q).1 in
                omega (arith, seen_once chip path i s u (omega arith) k (a ∙ sym b));
          }

      each : (s : ℕ) (b : Bool) → sum (λ j. bit (b && eqb (seen chip path i s) j)) 0 chip.wheel.n ≡ bit b
      each s true = sum_hit (seen chip path i s) N 1 (seen_below chip path i legal.n1 s)
      each s false = sum_zero (λ j. 0) N (λ j h. refl)

  -- a path without repeats claims as many cells as slots times channels
  path_claims : (path : List ℕ) (m x : ℕ) → Inside chip.channels path m → Once path m
      → sum (λ c. sum (λ j. bit (claims chip path m x c j)) 0 chip.wheel.n) 0 chip.channels ≡ size chip.wheel.n x * m
  unfolding claims
  path_claims path m x inside once =
      sum_each _ _ chip.channels
      (λ c h.
      sum_each _ _ N (λ j k. any_sum (λ i. eqb (get_or path i 0) c && reached chip path x i j N) m (lone c j))
      ∙ sum_swap (λ j i. bit (eqb (get_or path i 0) c && reached chip path x i j N)) N m)
      ∙ sum_swap (λ c i. sum (λ j. bit (eqb (get_or path i 0) c && reached chip path x i j N)) 0 N) chip.channels m
      ∙ sum_each _ (λ i. size N x) m
      (λ i h. sum_each _ _ chip.channels (λ c k. row i (eqb (get_or path i 0) c)) ∙ sum_hit (get_or path i 0) chip.channels (size N x) (inside.at i h))
      ∙ sum_const (size N x) m
    where
      lone : (c j : ℕ) → Lone (λ i. eqb (get_or path i 0) c && reached chip path x i j chip.wheel.n) m
      lone c j =
          record {
            same = λ i u h k p q.
                let a = eqb-true _ _ (and_true (eqb (get_or path i 0) c) _ p).0 in
                let b = eqb-true _ _ (and_true (eqb (get_or path u 0) c) _ q).0 in
                once.at i u h k (a ∙ sym b);
          }

      row : (i : ℕ) (b : Bool) → sum (λ j. bit (b && reached chip path x i j chip.wheel.n)) 0 chip.wheel.n ≡ cond b (size chip.wheel.n x) 0
      row i true = row_claims path x i
      row i false = sum_zero (λ j. 0) N (λ j h. refl)

  pub cells_claimed : (r : Record) → Own chip r.state r
      → sum (λ c. sum (λ j. bit (takes chip r c j)) 0 chip.wheel.n) 0 chip.channels ≡ cells_of chip.wheel r
  unfolding takes cells_of Own claiming
  cells_claimed r own = go r.state own
    where
      go : (s : State) → Own chip s r
          → sum (λ c. sum (λ j. bit (claiming s && claims chip r.path.entries r.path.len r.slots c j)) 0 chip.wheel.n) 0 chip.channels
          ≡ cond (claiming s) (size chip.wheel.n r.slots * r.path.len) 0
      go Closed own = sum_zero _ chip.channels (λ c h. sum_zero _ N (λ j k. refl))
      go (Open d) own = path_claims r.path.entries r.path.len r.slots own.inside own.once

-- ---- the cells of all records

-- what one pass over the list and one over the table find
pub record Counted (chip : Chip) (t : List ℕ) (n : ℕ) (list : List Record) : Type 0 where
  pub own : (f : ℕ) → f < n → Own chip (flow list f).state (flow list f)
  pub held : (f c j : ℕ) → f < n → takes chip (flow list f) c j ≡ true → cell t c j ≡ f + 1
  pub total : used_cells t ≡ held_cells chip.wheel n list

module _ (chip : Chip) (t : List ℕ) (n : ℕ) (list : List Record) (legal : Legal chip.wheel) where
  -- how many flows claim a cell
  abbrev owners : ℕ → ℕ → ℕ
  owners c j = sum (λ f. bit (takes chip (flow list f) c j)) 0 n

  module _ (own : (f : ℕ) → f < n → Own chip (flow list f).state (flow list f)) where
    owners_held : sum (λ c. sum (owners c) 0 chip.wheel.n) 0 chip.channels ≡ held_cells chip.wheel n list
    unfolding held_cells
    owners_held =
        sum_each _ _ chip.channels (λ c h. sum_swap (λ j f. bit (takes chip (flow list f) c j)) chip.wheel.n n)
        ∙ sum_swap (λ c f. sum (λ j. bit (takes chip (flow list f) c j)) 0 chip.wheel.n) chip.channels n
        ∙ sum_each _ _ n (λ f h. cells_claimed chip legal (flow list f) (own f h))

    -- no flow claims a cell from N on, so that whole rows may be counted
    rows_held : sum (λ c. sum (owners c) 0 64) 0 chip.channels ≡ held_cells chip.wheel n list
    rows_held =
        sum_each _ _ chip.channels
        (λ c h. sum_cut (owners c) chip.wheel.n 64 legal.n64 (λ j l. sum_zero _ n (λ f k. ap bit (not_true_false _ (beyond c j f k l)))))
        ∙ owners_held
      where
        beyond : (c j f : ℕ) → f < n → chip.wheel.n ≤ j → ¬ (takes chip (flow list f) c j ≡ true)
        beyond c j f k l e =
            let (hc, hj) = takes_inside chip (flow list f) c j legal.n1 (own f k) e in
            omega arith

  module _ (held : (f c j : ℕ) → f < n → takes chip (flow list f) c j ≡ true → cell t c j ≡ f + 1) (c j : ℕ) where
    owners_bit : (b : Bool) → any (λ f. takes chip (flow list f) c j) n ≡ b → owners c j ≡ bit b
    owners_bit b e = sym (any_sum _ n lone) ∙ ap bit e
      where
        lone : Lone (λ f. takes chip (flow list f) c j) n
        lone =
            record { same = λ f g h k p q. let same : f ≡ g = held_once chip t n list held f g c j (omega arith) k p q in omega arith }

    -- a cell that is claimed is not 0
    claimed_used : any (λ f. takes chip (flow list f) c j) n ≡ true → used (cell t c j) ≡ 1
    claimed_used e =
        let f = any_find (λ f. takes chip (flow list f) c j) n e in
        let number : cell t c j ≡ f.place + 1 = held f.place c j f.below f.there in
        ap (λ b. cond b 0 1) (ne_eqb (cell t c j) 0 (λ (z : cell t c j ≡ 0). omega arith))

    owners_used : owners c j ≤ used (cell t c j)
    owners_used = go (any (λ f. takes chip (flow list f) c j) n) refl
      where
        go : (b : Bool) → any (λ f. takes chip (flow list f) c j) n ≡ b → owners c j ≤ used (cell t c j)
        go true e = omega (arith, owners_bit true e, claimed_used e)
        go false e = omega (arith, owners_bit false e)

    -- the number is the same where unclaimed cells are 0
    owners_are_used : (((f : ℕ) → f < n → takes chip (flow list f) c j ≡ false) → cell t c j ≡ 0) → owners c j ≡ used (cell t c j)
    owners_are_used others = go (any (λ f. takes chip (flow list f) c j) n) refl
      where
        go : (b : Bool) → any (λ f. takes chip (flow list f) c j) n ≡ b → owners c j ≡ used (cell t c j)
        go true e = owners_bit true e ∙ sym (claimed_used e)
        go false e =
            owners_bit false e
            ∙ sym (ap (λ b. cond b 0 1) (eq-eqb _ _ (others λ f h. not_true_false _ (λ o. not_both (any_yes _ n f h o) e))))

  agree_owners : Agree chip t n list → (c j : ℕ) → c < chip.channels → j < 64 → owners c j ≡ used (cell t c j)
  agree_owners agree c j h k = owners_are_used agree.held c j (agree.others c j h k)

  -- the report: free and held cells make up all cells
  pub free_and_held : Agree chip t n list → free_cells chip t + held_cells chip.wheel n list ≡ chip.channels * chip.wheel.n
  unfolding free_cells
  free_and_held agree =
      ap (λ h. sum (λ c. sum (λ j. bit (eqb (cell t c j) 0)) 0 chip.wheel.n) 0 chip.channels + h) (sym (owners_held agree.own))
      ∙ sym (sum_add (λ c. sum (λ j. bit (eqb (cell t c j) 0)) 0 chip.wheel.n) (λ c. sum (owners c) 0 chip.wheel.n) chip.channels)
      ∙ sum_each _ (λ c. chip.wheel.n) chip.channels row
      ∙ sum_const chip.wheel.n chip.channels
      ∙ mul_comm chip.wheel.n chip.channels
    where
      one : (b : Bool) → bit b + cond b 0 1 ≡ 1
      one true = refl
      one false = refl

      row : (c : ℕ) → c < chip.channels
          → sum (λ j. bit (eqb (cell t c j) 0)) 0 chip.wheel.n + sum (owners c) 0 chip.wheel.n ≡ chip.wheel.n
      row c h =
          sym (sum_add (λ j. bit (eqb (cell t c j) 0)) (owners c) chip.wheel.n)
          ∙ sum_each _ (λ j. 1) chip.wheel.n
          (λ j k. ap (λ o. bit (eqb (cell t c j) 0) + o) (agree_owners agree c j h (omega (arith, legal.n64))) ∙ one (eqb (cell t c j) 0))
          ∙ sum_const 1 chip.wheel.n
          ∙ one-mul chip.wheel.n

  module _ (tabled : Tabled chip.channels t) where
    rows_used : used_cells t ≡ sum (λ c. sum (λ j. used (cell t c j)) 0 64) 0 chip.channels
    unfolding used_cells cell
    rows_used = ap (sum (λ i. used (get_or t i 0)) 0) tabled.long ∙ sum_rows (λ i. used (get_or t i 0)) chip.channels

    pub agree_counted : Agree chip t n list → Counted chip t n list
    agree_counted agree =
        record {
          own = agree.own;
          held = agree.held;
          total = rows_used
              ∙ sum_each _ _ chip.channels (λ c h. sum_each _ _ 64 (λ j k. sym (agree_owners agree c j h k)))
              ∙ rows_held agree.own;
        }

    pub counted_agree : Counted chip t n list → Agree chip t n list
    counted_agree counted =
        record { own = counted.own; once = held_once chip t n list counted.held; held = counted.held; others = others }
      where
        row_owners : (c : ℕ) → sum (owners c) 0 64 ≤ sum (λ j. used (cell t c j)) 0 64
        row_owners c = sum_le _ _ 64 (λ j h. owners_used counted.held c j)

        exact : (c j : ℕ) → c < chip.channels → j < 64 → owners c j ≡ used (cell t c j)
        exact c j h k =
            sum_tight _ _ 64 (λ j l. owners_used counted.held c j)
            (sum_tight _ _ chip.channels (λ c l. row_owners c) (rows_held counted.own ∙ sym counted.total ∙ rows_used) c h) j k

        unused_zero : (v : ℕ) → used v ≡ 0 → v ≡ 0
        unused_zero v e = go (eqb v 0) refl e
          where
            go : (b : Bool) → eqb v 0 ≡ b → ◌≡◌ {A = ℕ} (cond b 0 1) 0 → v ≡ 0
            go true q e = eqb-true v 0 q
            go false q e = absurd (omega arith)

        others : (c j : ℕ) → c < chip.channels → j < 64 → ((f : ℕ) → f < n → takes chip (flow list f) c j ≡ false) → cell t c j ≡ 0
        others c j h k unclaimed =
            unused_zero (cell t c j) (sym (exact c j h k) ∙ sum_zero _ n (λ f q. ap bit (unclaimed f q)))
