-- When each number of a no is given, and the four orders.
use Rattle.std.specs.Prelude.{◌≡◌, true, false, List, [], ◌∷◌, ◌⊎◌, ℕ, ◌-◌, ◌*◌, ◌≤◌, ◌<◌, length}
use Rattle.rules.specs.declared.Wheel.{Wheel}
use Rattle.rules.specs.declared.Demand.{Demand}
use Rattle.rules.specs.declared.State.{State}
use Rattle.rules.specs.declared.Record.{Record}
use Rattle.rules.specs.declared.Call.{Call}
use Rattle.rules.specs.declared.Verb.{Verb}
use Rattle.rules.specs.declared.Verb.TheVariants.{ToOpen, ToClose}
use Rattle.rules.specs.Sets.{Within, Below}
use Rattle.rules.specs.Wheels.{Legal, words}
use Rattle.rules.specs.Best.{Meets}
use Rattle.rules.specs.Paths.{trimmed, Chip, travel, allowed, free_slots, Inside, Once}
use Rattle.rules.specs.Flows.{flow, claiming, Agree}
use Rattle.rules.specs.Numbers.{Line, line, ◌then◌}

-- a table of 64 × C bytes, C from 1 to 64
pub record Tabled (channels : ℕ) (t : List ℕ) : Type 0 where
  pub c1 : 1 ≤ channels
  pub c64 : channels ≤ 64
  pub long : length t ≡ 64 * channels

-- a list of 1 to 64 records
pub record Listed (n : ℕ) : Type 0 where
  pub some : 1 ≤ n
  pub most : n ≤ 64

-- wheel, table and number of records are good
pub record Ready (chip : Chip) (t : List ℕ) (n : ℕ) : Type 0 where
  pub legal : Legal chip.wheel
  pub tabled : Tabled chip.channels t
  pub listed : Listed n

-- and table and list agree
pub record Agrees (chip : Chip) (t : List ℕ) (n : ℕ) (list : List Record) : Type 0 where
  pub ready : Ready chip t n
  pub agree : Agree chip t n list

-- 13: no set of free slots delivers W
pub record NoneDelivers (w : Wheel) (free W : ℕ) : Type 0 where
  pub none : (x : ℕ) → Within free x → W ≤ words w x → ⊥

-- 14: some set delivers W, none meets W and L
pub record NoneMeets (w : Wheel) (free W L : ℕ) : Type 0 where
  pub set : ℕ
  pub within : Within free set
  pub delivers : W ≤ words w set
  pub none : (x : ℕ) → Within free x → Meets w W L x → ⊥

-- ---- the parts of the orders, each said once

-- 1, 15, 11, 12: what is asked of bare selection
abbrev pub asked_lines : Wheel → ℕ → ℕ → ℕ → List Line
asked_lines w free W L = line 1 (¬ Legal w) ∷ line 15 (¬ Below w.n free) ∷ line 11 (W ≡ 0) ∷ line 12 (L ≡ 0) ∷ []

-- 13, 14: no room among the free slots
abbrev pub room_lines : Wheel → ℕ → ℕ → ℕ → List Line
room_lines w free W L = line 13 (NoneDelivers w free W) ∷ line 14 (NoneMeets w free W L) ∷ []

-- bare selection: 1, 15, 11, 12, 13, 14
abbrev pub select_order : Wheel → ℕ → ℕ → ℕ → List Line
select_order w free W L = asked_lines w free W L then room_lines w free W L

-- every call on a table begins with 1, 2, 3, 4; `disagree` is 4's condition
abbrev pub checked : Chip → List ℕ → ℕ → Type 0 → List Line
checked chip t n disagree =
    line 1 (¬ Legal chip.wheel) ∷ line 2 (¬ Tabled chip.channels t) ∷ line 3 (¬ Listed n) ∷ line 4 disagree ∷ []

-- 5, 6, 7: the path
abbrev pub path_lines : Chip → List ℕ → ℕ → List Line
path_lines chip path m = line 5 ((m ≡ 0) ⊎ (16 < m)) ∷ line 6 (¬ Inside chip.channels path m) ∷ line 7 (¬ Once path m) ∷ []

-- 8: the flow
abbrev pub flow_lines : ℕ → ℕ → List Line
flow_lines n f = line 8 ((f ≡ 0) ⊎ (n < f)) ∷ []

-- 11, 12, 13, 14: the demand
abbrev pub demand_lines : Chip → List ℕ → List ℕ → ℕ → Demand → List Line
demand_lines chip t path m d =
    line 11 (d.words.0 ≡ 0)
    ∷ line 12 (d.deadline ≤ travel chip path m)
    ∷ room_lines chip.wheel (free_slots chip t path m) d.words.0 (allowed chip path m d.deadline)

-- what comes before the flow: an opening's path
abbrev pub way_lines : Chip → Call → Verb → List Line
way_lines chip call (ToOpen d) = path_lines chip call.path.entries call.path.len
way_lines chip call ToClose = []

-- what the flow's state is asked, and what comes after it: 9, 11 to 14 of an opening, 10 of a closing
abbrev pub state_lines : Chip → List ℕ → State → Call → Verb → List Line
state_lines chip t s call (ToOpen d) = line 9 (claiming s ≡ true) ∷ demand_lines chip t call.path.entries call.path.len d
state_lines chip t s call ToClose = line 10 (claiming s ≡ false) ∷ []

-- the order of a call, where `disagree` is 4's condition and s the state of the flow's record
abbrev pub order_of : Chip → List ℕ → ℕ → Type 0 → State → Call → Verb → List Line
order_of chip t n disagree s call v =
    checked chip t n disagree then (way_lines chip call v then (flow_lines n call.flow then state_lines chip t s call v))

-- a call to open flow f, and one to close it, which brings no path
abbrev pub opening : List ℕ → ℕ → ℕ → Demand → Call
opening path m f d = record { flow = f; verb = ToOpen d; path = record { entries = path; len = m } }

abbrev pub closing : ℕ → Call
closing f = record { flow = f; verb = ToClose; path = record { entries = trimmed [] 0; len = 0 } }

-- ---- the orders of the calls on table and list

module _ (chip : Chip) (t : List ℕ) (n : ℕ) (list : List Record) where
  -- a call's, over the whole list
  abbrev pub call_order : Call → List Line
  call_order call = order_of chip t n (¬ Agree chip t n list) (flow list (call.flow - 1)).state call call.verb

  -- open: 1 to 9, then 11, 12, 13, 14
  abbrev pub open_order : List ℕ → ℕ → ℕ → Demand → List Line
  open_order path m f d = call_order (opening path m f d)

  -- close: 1, 2, 3, 4, 8, 10
  abbrev pub close_order : ℕ → List Line
  close_order f = call_order (closing f)

  -- report: 1, 2, 3, 4
  abbrev pub report_order : List Line
  report_order = checked chip t n (¬ Agree chip t n list)
