-- The flow list beside the table: a record's own rules, agreement, totals.
-- Flow f is record f - 1; below, records are counted from 0.
use Rattle.std.specs.Prelude.{◌≡◌, Bool, true, false, ◌&&◌, cond, List, [], ℕ, ◌+◌, ◌*◌, ◌≤◌, ◌<◌, get_or, eqb}
use Rattle.rules.specs.declared.Wheel.{Wheel}
use Rattle.rules.specs.declared.Demand.{Demand}
use Rattle.rules.specs.declared.State.{State}
use Rattle.rules.specs.declared.State.TheVariants.{Closed, Open}
use Rattle.rules.specs.declared.Record.{Record}
use Rattle.rules.specs.Sets.{Below, sum}
use Rattle.rules.specs.Wheels.{size}
use Rattle.rules.specs.Best.{Meets}
use Rattle.rules.specs.Paths.{Chip, cell, travel, allowed, claims, Inside, Once, Rest}

-- what stands past the list's end
abbrev pub none : Record
none = record { state = Closed; path = record { entries = []; len = 0 }; slots = 0 }

-- record f of the list
abbrev pub flow : List Record → ℕ → Record
flow list f = get_or list f none

-- a flow in this state claims cells
unfoldable pub claiming : State → Bool
claiming Closed = false
claiming (Open d) = true

-- "a closed record has zeros there. Unused path entries are zero"
pub record Blank (r : Record) : Type 0 where
  pub len : r.path.len ≡ 0
  pub slots : r.slots ≡ 0
  pub path : Rest r.path.entries 0

-- "each open record has a legal path without repeats, zeros in its unused path entries, W at least 1, D above its path
-- length, chosen slots below N that meet its demand"
pub record Lawful (chip : Chip) (d : Demand) (r : Record) : Type 0 where
  pub some : 1 ≤ r.path.len
  pub fits : r.path.len ≤ 16
  pub inside : Inside chip.channels r.path.entries r.path.len
  pub once : Once r.path.entries r.path.len
  pub rest : Rest r.path.entries r.path.len
  pub words : 1 ≤ d.words.0
  pub time : travel chip r.path.entries r.path.len < d.deadline
  pub below : Below chip.wheel.n r.slots
  pub meets : Meets chip.wheel d.words.0 (allowed chip r.path.entries r.path.len d.deadline) r.slots

-- a record's own rules, by its state
unfoldable pub Own : Chip → State → Record → Type 0
Own chip Closed r = Blank r
Own chip (Open d) r = Lawful chip d r

-- rule 7, of a record
unfoldable pub takes : Chip → Record → ℕ → ℕ → Bool
takes chip r c j = claiming r.state && claims chip r.path.entries r.path.len r.slots c j

-- table and list agree, n being the number of records
pub record Agree (chip : Chip) (t : List ℕ) (n : ℕ) (list : List Record) : Type 0 where
  pub own : (f : ℕ) → f < n → Own chip (flow list f).state (flow list f)
  -- "no cell is claimed twice"
  pub once : (f g c j : ℕ) → f < n → g < n → takes chip (flow list f) c j ≡ true → takes chip (flow list g) c j ≡ true → f ≡ g
  -- "each claimed cell holds its flow's number"
  pub held : (f c j : ℕ) → f < n → takes chip (flow list f) c j ≡ true → cell t c j ≡ f + 1
  -- "every other cell is 0", those from N on included
  pub others : (c j : ℕ) → c < chip.channels → j < 64 → ((f : ℕ) → f < n → takes chip (flow list f) c j ≡ false) → cell t c j ≡ 0

-- "free counts the cells that are 0 among the first N of every row"
unfoldable pub free_cells : Chip → List ℕ → ℕ
free_cells chip t = sum (λ c. sum (λ j. cond (eqb (cell t c j) 0) 1 0) 0 chip.wheel.n) 0 chip.channels

-- the cells of one flow: slots times path length
unfoldable pub cells_of : Wheel → Record → ℕ
cells_of w r = cond (claiming r.state) (size w.n r.slots * r.path.len) 0

-- "held is the sum over open flows of slots times path length"
unfoldable pub held_cells : Wheel → ℕ → List Record → ℕ
held_cells w n list = sum (λ f. cells_of w (flow list f)) 0 n
