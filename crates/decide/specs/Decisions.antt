-- What a call decides when it sees one record of the list and is told of the rest only whether it agrees with the table, and if
-- so how many cells its flows hold: the report's gate hands that number on (`Gates`), and nothing else that is said here names
-- it. The orders are those of `rules`; `disagree` is 4's condition.
use Rattle.std.specs.Prelude.{◌≡◌, false, is_some, List, ℕ, Option, Some, Result, Ok, Err}
use Rattle.rules.specs.declared.State.{State}
use Rattle.rules.specs.declared.Record.{Record}
use Rattle.rules.specs.declared.Call.{Call}
use Rattle.rules.specs.declared.Verb.{Verb}
use Rattle.rules.specs.declared.Yes.{Yes}
use Rattle.rules.specs.declared.Refusal.{Refusal}
use Rattle.rules.specs.Paths.{Chip}
use Rattle.rules.specs.Numbers.{number, Line, ◌then◌, Refuses, Passes}
use Rattle.rules.specs.Orders.{checked, way_lines, flow_lines, state_lines, order_of}
use Rattle.rules.specs.Promises.{Told}

-- the four lines with which every call begins; what is held is handed on
unfoldable pub Gates : Chip → List ℕ → ℕ → Option ℕ → Result ℕ Refusal → Type 0
Gates chip t n held (Ok k) = Passes (checked chip t n (is_some held ≡ false)) × (held ≡ Some k)
Gates chip t n held (Err q) = Refuses (checked chip t n (is_some held ≡ false)) (number q)

-- some lines of an order are asked: they pass, or one of them refuses
unfoldable pub Asks : List Line → Result (Unit {0}) Refusal → Type 0
Asks lines (Ok u) = Passes lines
Asks lines (Err q) = Refuses lines (number q)

-- an order decides: it passes and the yes tells, or it refuses
unfoldable pub Settles : List Line → Chip → List ℕ → Record → Call → Verb → Result Yes Refusal → Type 0
Settles order chip t r call v (Ok y) = Passes order × Told chip t r call v y
Settles order chip t r call v (Err q) = Refuses order (number q)

-- the lines behind the gate
abbrev pub own_order : Chip → List ℕ → ℕ → State → Call → Verb → List Line
own_order chip t n s call v = way_lines chip call v then (flow_lines n call.flow then state_lines chip t s call v)

abbrev pub DecidesOwn : Chip → List ℕ → ℕ → Record → Call → Verb → Result Yes Refusal → Type 0
DecidesOwn chip t n r call v = Settles (own_order chip t n r.state call v) chip t r call v

abbrev pub Decides : Chip → List ℕ → ℕ → Type 0 → Record → Call → Verb → Result Yes Refusal → Type 0
Decides chip t n disagree r call v = Settles (order_of chip t n disagree r.state call v) chip t r call v
