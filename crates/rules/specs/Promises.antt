-- What each call promises: the number and the values of its answer, case by case, and table and list afterwards.
use Rattle.std.specs.Prelude.{◌≡◌, List, [], ℕ, ◌-◌, ◌*◌, ◌<◌, set, take, drop, Result, Ok, Err}
use Rattle.rules.specs.declared.Wheel.{Wheel}
use Rattle.rules.specs.declared.Demand.{Demand}
use Rattle.rules.specs.declared.State.TheVariants.{Closed, Open}
use Rattle.rules.specs.declared.Record.{Record}
use Rattle.rules.specs.declared.Grant.{Grant}
use Rattle.rules.specs.declared.Totals.{Totals}
use Rattle.rules.specs.declared.Refusal.{Refusal}
use Rattle.rules.specs.declared.Call.{Call}
use Rattle.rules.specs.declared.Verb.{Verb}
use Rattle.rules.specs.declared.Verb.TheVariants.{ToOpen, ToClose}
use Rattle.rules.specs.declared.Yes.{Yes}
use Rattle.rules.specs.declared.Yes.TheVariants as yes
use Rattle.rules.specs.declared.Change.{Change}
use Rattle.rules.specs.Wheels.{Legal, size, words}
use Rattle.rules.specs.Best.{Best}
use Rattle.rules.specs.Paths.{Chip, allowed, trimmed, free_slots, Stamped}
use Rattle.rules.specs.Flows.{flow, cells_of, free_cells, held_cells}
use Rattle.rules.specs.Numbers.{number, Refuses, Passes}
use Rattle.rules.specs.Orders.{Tabled, select_order, opening, closing, call_order, report_order}

-- "the chosen slots, their number and delivered words"
pub record Grants (w : Wheel) (free W L : ℕ) (g : Grant) : Type 0 where
  pub best : Best w free W L g.slots
  pub count : g.count ≡ size w.n g.slots
  pub words : g.words.0 ≡ words w g.slots

-- bare selection
unfoldable pub Selects : Wheel → ℕ → ℕ → ℕ → Result Grant Refusal → Type 0
Selects w free W L (Ok g) = Passes (select_order w free W L) × Grants w free W L g
Selects w free W L (Err r) = Refuses (select_order w free W L) (number r)

-- the answers of opening and of closing, as answers of a call
abbrev pub of_opened : Result Grant Refusal → Result Yes Refusal
of_opened (Ok g) = Ok (yes.Granted g)
of_opened (Err r) = Err r

abbrev pub of_cleared : Result ℕ Refusal → Result Yes Refusal
of_cleared (Ok k) = Ok (yes.Cells k)
of_cleared (Err r) = Err r

-- the record of a flow that was opened
unfoldable pub open_record : List ℕ → ℕ → ℕ → Demand → Record
open_record path m x d = record { state = Open d; path = record { entries = trimmed path m; len = m }; slots = x }

-- the record of a flow that is closed
unfoldable pub closed_record : Record
closed_record = record { state = Closed; path = record { entries = trimmed [] 0; len = 0 }; slots = 0 }

-- ---- a call

-- an opening writes its flow's number into the granted cells; a closing clears the cells that its record r claims
abbrev pub change : Record → Call → Verb → Yes → Change
change r call (ToOpen d) (yes.Granted g) =
    record { path = call.path; slots = g.slots; value = call.flow; new = open_record call.path.entries call.path.len g.slots d }
change r call (ToOpen d) (yes.Cells k) = record { path = record { entries = trimmed [] 0; len = 0 }; slots = 0; value = 0; new = closed_record }
change r call ToClose y = record { path = r.path; slots = r.slots; value = 0; new = closed_record }

-- what a yes tells: the best set for the demand, or the number of cells cleared
abbrev pub Told : Chip → List ℕ → Record → Call → Verb → Yes → Type 0
Told chip t r call (ToOpen d) (yes.Granted g) =
    Grants chip.wheel (free_slots chip t call.path.entries call.path.len) d.words.0 (allowed chip call.path.entries call.path.len d.deadline) g
Told chip t r call (ToOpen d) (yes.Cells k) = ⊥
Told chip t r call ToClose (yes.Granted g) = ⊥
Told chip t r call ToClose (yes.Cells k) = k ≡ cells_of chip.wheel r

-- the table afterwards: the cells hold the value, and no other byte changed
abbrev pub Marked : Chip → Change → List ℕ → List ℕ → Type 0
Marked chip c t t' = Stamped chip c.path.entries c.path.len c.slots c.value t t'

module _ (chip : Chip) (t : List ℕ) (n : ℕ) (list : List Record) where
  -- a call passes its order, tells, writes the table and replaces its flow's record; or it is refused and nothing changes
  abbrev pub Performs : Call → List ℕ → List Record → Result Yes Refusal → Type 0
  Performs call t' list' (Ok y) =
      Passes (call_order chip t n list call)
      × Told chip t (flow list (call.flow - 1)) call call.verb y
      × Marked chip (change (flow list (call.flow - 1)) call call.verb y) t t'
      × (list' ≡ set list (call.flow - 1) (change (flow list (call.flow - 1)) call call.verb y).new)
  Performs call t' list' (Err q) = Refuses (call_order chip t n list call) (number q) × (t' ≡ t) × (list' ≡ list)

  -- opening flow f on a path of m channels with the demand d; t' and list' are table and list afterwards
  unfoldable pub Opens : List ℕ → ℕ → ℕ → Demand → List ℕ → List Record → Result Grant Refusal → Type 0
  Opens path m f d t' list' a = Performs (opening path m f d) t' list' (of_opened a)

  -- closing flow f
  unfoldable pub Closes : ℕ → List ℕ → List Record → Result ℕ Refusal → Type 0
  Closes f t' list' a = Performs (closing f) t' list' (of_cleared a)

  -- the report
  unfoldable pub Reports : Result Totals Refusal → Type 0
  Reports (Ok c) =
      Passes (report_order chip t n list) × (c.free ≡ free_cells chip t) × (c.held ≡ held_cells chip.wheel n list)
  Reports (Err r) = Refuses (report_order chip t n list) (number r)

-- channel c of the table has a row to be asked for
pub record HasRow (chip : Chip) (t : List ℕ) (c : ℕ) : Type 0 where
  pub legal : Legal chip.wheel
  pub tabled : Tabled chip.channels t
  pub inside : c < chip.channels

-- "the part of the caller's table that holds its N cells, or an empty part if wheel, table length or channel is bad"
pub record Row (chip : Chip) (t : List ℕ) (c : ℕ) (r : List ℕ) : Type 0 where
  pub good : HasRow chip t c → r ≡ take chip.wheel.n (drop (64 * c) t)
  pub bad : ¬ HasRow chip t c → r ≡ []
