-- Paths and changes as values.
use Rattle.std.specs.Prelude.{◌≡◌, refl, []}
use Rattle.rules.specs.declared.Demand.{Demand}
use Rattle.rules.specs.declared.Grant.{Grant}
use Rattle.rules.specs.declared.Record.{Record}
use Rattle.rules.specs.declared.Call.{Call}
use Rattle.rules.specs.declared.Verb.TheVariants.{ToOpen}
use Rattle.rules.specs.declared.Yes.{Yes}
use Rattle.rules.specs.declared.Yes.TheVariants.{Granted}
use Rattle.rules.specs.declared.Path.{Path}
use Rattle.rules.specs.declared.Change.{Change}
use Rattle.rules.specs.Paths.{trimmed}
use Rattle.rules.specs.Promises.{open_record, closed_record, change}

-- the path of a closed flow
abbrev pub no_path : Path
no_path = record { entries = trimmed [] 0; len = 0 }

-- the path with zeros in its unused entries
abbrev pub trimmed_path : Path → Path
trimmed_path p = record { entries = trimmed p.entries p.len; len = p.len }

-- what changes nothing
abbrev pub no_change : Change
no_change = record { path = no_path; slots = 0; value = 0; new = closed_record }

-- what an opening changes
pub opening_made : (call : Call) (d : Demand) (g : Grant) (r new : Record) (y : Yes)
    → new ≡ open_record call.path.entries call.path.len g.slots d → y ≡ Granted g
    → ◌≡◌ {A = Change} (record { path = call.path; slots = g.slots; value = call.flow; new = new }) (change r call (ToOpen d) y)
opening_made call d g r new y e f = rw (e, f) refl
