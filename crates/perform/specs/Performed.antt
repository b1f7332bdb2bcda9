-- What a call does to a table and to a list in any form: document 01's answer for the records that the list stands for, before
-- and after, and what becomes of the list itself: a yes puts one record in its place, and a refusal changes nothing.
use Rattle.std.specs.Prelude.{◌≡◌, List, ◌⊎◌, ℕ, ◌-◌, ◌≤◌, ◌<◌, Result, Ok, Err}
use Rattle.rules.specs.declared.Record.{Record}
use Rattle.rules.specs.declared.Call.{Call}
use Rattle.rules.specs.declared.Yes.{Yes}
use Rattle.rules.specs.declared.Refusal.{Refusal}
use Rattle.rules.specs.Paths.{Chip}
use Rattle.rules.specs.Flows.{flow}
use Rattle.rules.specs.Promises.{closed_record, change, Performs}

-- the record of flow f of n; the closed one where there is no such flow
pub record RecordOf (list : List Record) (n f : ℕ) (r : Record) : Type 0 where
  pub there : 1 ≤ f → f ≤ n → f ≤ 64 → r ≡ flow list (f - 1)
  pub otherwise : (f < 1) ⊎ ((n < f) ⊎ (64 < f)) → r ≡ closed_record

-- a form of the list, as `lent` has it: how many records it has, which, and what it is with a record put in a place
module _ {A : Type 0} (count : List A → ℕ) (records : List A → List Record) (Put : List A → ℕ → Record → List A → Type 0) where
  -- the list after a call
  abbrev pub Leaves : List A → Call → List A → Result Yes Refusal → Type 0
  Leaves l call l' (Ok y) = Put l (call.flow - 1) (change (flow (records l) (call.flow - 1)) call call.verb y).new l'
  Leaves l call l' (Err q) = l' ≡ l

  pub record PerformsOn (chip : Chip) (t : List ℕ) (l : List A) (call : Call) (t' : List ℕ) (l' : List A) (a : Result Yes Refusal) : Type 0 where
    pub answers : Performs chip t (count l) (records l) call t' (records l') a
    pub list : Leaves l call l' a
