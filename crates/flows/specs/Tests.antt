-- What the tests of a path and of a record say.
use Rattle.std.specs.Prelude.{◌≡◌, Bool, List, ℕ, ◌<◌, get_or}
use Rattle.std.proofs.Common.{sym, subst}
use Rattle.rules.specs.declared.Demand.{Demand}
use Rattle.rules.specs.declared.State.TheVariants.{Closed, Open}
use Rattle.rules.specs.declared.Record.{Record}
use Rattle.rules.specs.Tells.{Tells}
use Rattle.rules.specs.Paths.{Chip}
use Rattle.rules.specs.Flows.{Blank, Lawful, Own}

-- no entry before k is the entry at k
pub record Fresh (path : List ℕ) (k : ℕ) : Type 0 where
  pub at : (i : ℕ) → i < k → ¬ (get_or path i 0 ≡ get_or path k 0)

-- ---- a record's own rules, by its state

module _ (chip : Chip) (r : Record) {b : Bool} where
  pub own_closed : r.state ≡ Closed → Tells b (Blank r) → Tells b (Own chip r.state r)
  unfolding Own
  own_closed e t = subst (λ s. Tells b (Own chip s r)) (sym e) t

  pub own_open : (d : Demand) → r.state ≡ Open d → Tells b (Lawful chip d r) → Tells b (Own chip r.state r)
  unfolding Own
  own_open d e t = subst (λ s. Tells b (Own chip s r)) (sym e) t
