-- What the check of a list finds, record by record. A record is in order if it obeys its own rules and each cell that it
-- claims holds its number; if all are, and as many cells of the table are used as they claim, table and list agree.
use Rattle.std.specs.Prelude.{◌≡◌, true, List, ℕ, ◌+◌, ◌*◌, ◌≤◌, ◌<◌}
use Rattle.std.proofs.Common.{refl, sym, ap, ◌∙◌, arith, below_more}
use Rattle.rules.specs.declared.Record.{Record}
use Rattle.rules.specs.Sets.{sum}
use Rattle.rules.specs.Paths.{Chip, cell}
use Rattle.rules.specs.Flows.{flow, Own, takes, cells_of, held_cells}
use Rattle.rules.specs.Orders.{Ready, Agrees}
use Rattle.laws.specs.Counting.{sum_more}
use Rattle.ledger.specs.Totals.{used_cells, agree_counted, counted_agree}

-- the record r, number f counted from 0, is in order
pub record Ordered (chip : Chip) (t : List ℕ) (f : ℕ) (r : Record) : Type 0 where
  pub own : Own chip r.state r
  pub held : (c j : ℕ) → takes chip r c j ≡ true → cell t c j ≡ f + 1

-- it is in order, and claims k cells
pub record Claimed (chip : Chip) (t : List ℕ) (f : ℕ) (r : Record) (k : ℕ) : Type 0 where
  pub ordered : Ordered chip t f r
  pub cells : k ≡ cells_of chip.wheel r
  pub few : k ≤ 1024

-- the records below f are in order, and claim `held` cells
pub record Checks (chip : Chip) (t : List ℕ) (list : List Record) (f held : ℕ) : Type 0 where
  pub ordered : (g : ℕ) → g < f → Ordered chip t g (flow list g)
  pub total : held ≡ held_cells chip.wheel f list
  pub small : held ≤ 1024 * f

module _ (chip : Chip) (t : List ℕ) (list : List Record) where
  -- no record is checked yet
  pub checks_none : Checks chip t list 0 0
  unfolding held_cells sum
  checks_none = record { ordered = λ g l. absurd (omega arith); total = refl; small = omega arith }

  -- one record more
  pub checks_more : (f held k : ℕ) → Checks chip t list f held → Claimed chip t f (flow list f) k → Checks chip t list (f + 1) (held + k)
  unfolding held_cells
  checks_more f held k c d =
      record {
        ordered = below_more (λ g. Ordered chip t g (flow list g)) f c.ordered d.ordered;
        total = ap (λ v. v + k) c.total ∙ ap (λ v. held_cells chip.wheel f list + v) d.cells
            ∙ sym (sum_more (λ g. cells_of chip.wheel (flow list g)) f);
        small = omega (arith, c.small, d.few);
      }

  module _ (n : ℕ) where
    -- all records are checked, and the used cells counted
    pub checks_all : (held : ℕ) → Ready chip t n → Checks chip t list n held → used_cells t ≡ held → Agrees chip t n list
    checks_all held r c u =
        record {
          ready = r;
          agree = counted_agree chip t n list r.legal r.tabled
              (record { own = λ f l. (c.ordered f l).own; held = λ f x j l. (c.ordered f l).held x j; total = u ∙ c.total });
        }

    pub checks_stray : (held : ℕ) → Checks chip t list n held → ¬ (used_cells t ≡ held) → ¬ Agrees chip t n list
    checks_stray held c u a = u ((agree_counted chip t n list a.ready.legal a.ready.tabled a.agree).total ∙ sym c.total)
