-- From parts of an order to the whole: what refuses a part refuses the whole behind the parts that passed, and what settles
-- the last part settles the whole; and behind the tests of an opening bare selection decides what is left.
use Rattle.std.specs.Prelude.{◌≡◌, false, is_some, List, ◌⊎◌, ℕ, ◌≤◌, ◌<◌, Option, Result, Ok, Err}
use Rattle.std.proofs.Common.{subst, inl, inr, arith}
use Rattle.rules.specs.declared.Demand.{Demand}
use Rattle.rules.specs.declared.Record.{Record}
use Rattle.rules.specs.declared.Grant.{Grant}
use Rattle.rules.specs.declared.Call.{Call}
use Rattle.rules.specs.declared.Verb.{Verb}
use Rattle.rules.specs.declared.Verb.TheVariants.{ToOpen}
use Rattle.rules.specs.declared.Yes.{Yes}
use Rattle.rules.specs.declared.Refusal.{Refusal}
use Rattle.rules.specs.Wheels.{Legal}
use Rattle.rules.specs.Paths.{Chip, allowed, free_slots}
use Rattle.rules.specs.Numbers.{number, Line, ◌then◌, Refuses, Passes}
use Rattle.rules.specs.Orders.{Tabled, checked, asked_lines, room_lines, path_lines, way_lines, flow_lines, state_lines, order_of}
use Rattle.rules.specs.Promises.{Selects, of_opened}
use Rattle.laws.specs.Refusals.{passed, ahead, behind, past, passes_then}
use Rattle.ledger.specs.Claims.{free_below}
use Rattle.ledger.specs.Lines.{inside_stable}
use Rattle.table.specs.Along.{Walkable}
use Rattle.decide.specs.Decisions.{Gates, Settles, DecidesOwn, Decides}

pub neither_of : {P Q : Type 0} → ¬ P → ¬ Q → ¬ (P ⊎ Q)
neither_of p q (inl x) = p x
neither_of p q (inr y) = q y

-- ---- the parts of a call's order

-- the gate was passed
pub through : (chip : Chip) (t : List ℕ) (n : ℕ) (held : Option ℕ) (k : ℕ) → Gates chip t n held (Ok k)
    → Passes (checked chip t n (is_some held ≡ false))
unfolding Gates
through chip t n held k g = g.0

-- behind the gate
pub decides_behind : (chip : Chip) (t : List ℕ) (n : ℕ) (disagree : Type 0) (r : Record) (call : Call) (v : Verb) (a : Result Yes Refusal)
    → Passes (checked chip t n disagree) → DecidesOwn chip t n r call v a → Decides chip t n disagree r call v a
unfolding Settles
decides_behind chip t n disagree r call v (Ok y) p d = (passes_then (checked chip t n disagree) _ p d.0, d.1)
decides_behind chip t n disagree r call v (Err q) p d = behind (checked chip t n disagree) _ (number q) p d

module _ (chip : Chip) (t : List ℕ) (n : ℕ) (disagree : Type 0) (r : Record) (call : Call) (v : Verb) where
  abbrev order : List Line
  order = order_of chip t n disagree r.state call v

  pub refused_gate : (k : ℕ) → Refuses (checked chip t n disagree) k → Refuses order k
  refused_gate k = ahead (checked chip t n disagree) _ k

  module _ (gate : Passes (checked chip t n disagree)) where
    pub refused_way : (k : ℕ) → Refuses (way_lines chip call v) k → Refuses order k
    refused_way k q = behind (checked chip t n disagree) _ k gate (ahead (way_lines chip call v) _ k q)

    module _ (way : Passes (way_lines chip call v)) where
      pub refused_flow : (k : ℕ) → Refuses (flow_lines n call.flow) k → Refuses order k
      refused_flow k q =
          behind (checked chip t n disagree) _ k gate
          (behind (way_lines chip call v) _ k way (ahead (flow_lines n call.flow) _ k q))

      module _ (flow : Passes (flow_lines n call.flow)) where
        settled_own : (a : Result Yes Refusal) → Settles (state_lines chip t r.state call v) chip t r call v a → DecidesOwn chip t n r call v a
        unfolding Settles
        settled_own (Ok y) d = (passes_then (way_lines chip call v) _ way (passes_then (flow_lines n call.flow) _ flow d.0), d.1)
        settled_own (Err q) d = behind (way_lines chip call v) _ (number q) way (behind (flow_lines n call.flow) _ (number q) flow d)

        pub settled_behind : (a : Result Yes Refusal) → Settles (state_lines chip t r.state call v) chip t r call v a
            → Decides chip t n disagree r call v a
        settled_behind a d = decides_behind chip t n disagree r call v a gate (settled_own a d)

-- a path that an opening may have can be walked on a table
pub way_walkable : (chip : Chip) (t : List ℕ) (call : Call) (v : Verb) (d : Demand) → v ≡ ToOpen d → Passes (way_lines chip call v)
    → Tabled chip.channels t → Walkable chip t call.path.entries call.path.len
way_walkable chip t call v d e p tabled = go (subst (λ v. Passes (way_lines chip call v)) e p)
  where
    few : ¬ (16 < call.path.len) → call.path.len ≤ 16
    few h = omega (arith, h)

    go : Passes (path_lines chip call.path.entries call.path.len) → Walkable chip t call.path.entries call.path.len
    go p =
        let line : (k : ℕ) → _ = λ k. passed (path_lines chip call.path.entries call.path.len) k p in
        record {
          fits = few (λ l. line 5 (inr l));
          rows = tabled.long;
          inside = inside_stable chip call.path.entries call.path.len (line 6);
        }

-- ---- bare selection decides what is left behind the lines xs: of its own refusals only 13 and 14 can come

pub selection_settles : (xs : List Line) (chip : Chip) (t : List ℕ) (r : Record) (call : Call) (d : Demand) (free L : ℕ)
    → Legal chip.wheel → 1 ≤ d.words.0 → 1 ≤ L
    → free ≡ free_slots chip t call.path.entries call.path.len → L ≡ allowed chip call.path.entries call.path.len d.deadline → Passes xs
    → (a : Result Grant Refusal) → Selects chip.wheel free d.words.0 L a
    → Settles (xs then room_lines chip.wheel (free_slots chip t call.path.entries call.path.len) d.words.0
    (allowed chip call.path.entries call.path.len d.deadline)) chip t r call (ToOpen d) (of_opened a)
unfolding Selects Settles Passes
selection_settles xs chip t r call d free L legal w1 l1 e f p a s = go a (rw (← e, ← f) s)
  where
    go : (a : Result Grant Refusal) → Selects chip.wheel (free_slots chip t call.path.entries call.path.len)
        d.words.0 (allowed chip call.path.entries call.path.len d.deadline) a
        → Settles (xs then room_lines chip.wheel (free_slots chip t call.path.entries call.path.len) d.words.0
        (allowed chip call.path.entries call.path.len d.deadline)) chip t r call (ToOpen d) (of_opened a)
    go (Ok g) s = (passes_then xs _ p s.0.1.1.1.1, s.1)
    go (Err q) s =
        behind xs _ (number q) p
        (past (asked_lines chip.wheel (free_slots chip t call.path.entries call.path.len) d.words.0 (allowed chip call.path.entries call.path.len d.deadline)) _
        (number q)
        (λ no. no legal, (λ no. no (free_below chip t call.path.entries call.path.len), (λ no. omega (arith, w1), (λ no. omega (arith, l1, f), tt))))
        s)
