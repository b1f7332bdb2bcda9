-- One record: a closed one has a path of no channels, so that it claims no cell, and what is asked of its cells holds of
-- itself.
use Rattle.std.specs.Prelude.{◌≡◌, true, List, ℕ, ◌+◌}
use Rattle.std.proofs.Common.{refl, ap, ◌∙◌, arith}
use Rattle.rules.specs.declared.State.{State}
use Rattle.rules.specs.declared.State.TheVariants.{Closed, Open}
use Rattle.rules.specs.declared.Record.{Record}
use Rattle.rules.specs.Paths.{Chip, cell, claims}
use Rattle.rules.specs.Flows.{claiming, Own, takes}
use Rattle.laws.specs.Logic.{and_true}
use Rattle.ledger.specs.Claims.{takes_claims, claim_found}
use Rattle.table.specs.Along.{Holds}
use Rattle.agree.specs.Checks.{Ordered}

module _ (chip : Chip) (r : Record) (t : List ℕ) (f : ℕ) (own : Own chip r.state r) where
  pub held_ordered : Holds chip t r.path.entries r.path.len r.slots (f + 1) → Ordered chip t f r
  unfolding takes
  held_ordered holds =
      record { own = own; held = λ c j e. holds.at c j (and_true (claiming r.state) (claims chip r.path.entries r.path.len r.slots c j) e).1 }

  pub ordered_held : Ordered chip t f r → Holds chip t r.path.entries r.path.len r.slots (f + 1)
  unfolding Own claiming
  ordered_held o = record { at = λ c j e. go r.state refl own c j e }
    where
      go : (s : State) → r.state ≡ s → Own chip s r → (c j : ℕ) → claims chip r.path.entries r.path.len r.slots c j ≡ true → cell t c j ≡ f + 1
      go Closed q own c j e = absurd (omega (arith, (claim_found chip r.path.entries r.path.len r.slots c j e).on_path, own.len))
      go (Open d) q own c j e = o.held c j (takes_claims chip r c j (ap claiming q) ∙ e)
