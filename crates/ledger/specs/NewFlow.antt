-- The record of a flow that was opened: it obeys its own rules, claims what its path claims, and claims free cells only.
use Rattle.std.specs.Prelude.{◌≡◌, true, List, ℕ, ◌*◌}
use Rattle.std.proofs.Math.Path.{refl, sym, ap}
use Rattle.std.proofs.Common.{◌∙◌}
use Rattle.std.proofs.Math.Bool.{cond}
use Rattle.rules.specs.declared.Demand.{Demand}
use Rattle.rules.specs.declared.State.{State}
use Rattle.rules.specs.declared.Grant.{Grant}
use Rattle.rules.specs.Paths.{Chip, cell, allowed, claims, free_slots, Stamped}
use Rattle.rules.specs.Flows.{claiming, Own, cells_of}
use Rattle.rules.specs.Promises.{Grants, open_record}
use Rattle.laws.specs.Sets.{within_below}
use Rattle.ledger.specs.Trimmed.{trimmed_alike, trimmed_rest, claims_alike, inside_alike, once_alike, travel_alike, allowed_alike}
use Rattle.ledger.specs.Claims.{chosen_free, free_below}
use Rattle.ledger.specs.Lines.{Admitted}

module _ (chip : Chip) (t : List ℕ) (n : ℕ) (state : State) (path : List ℕ) (m f : ℕ) (d : Demand) (g : Grant)
    (admitted : Admitted chip n state path m f d)
    (granted : Grants chip.wheel (free_slots chip t path m) d.words.0 (allowed chip path m d.deadline) g) where
  pub new_lawful : Own chip (open_record path m g.slots d).state (open_record path m g.slots d)
  unfolding Own open_record
  new_lawful =
      let alike = trimmed_alike path m admitted.fits in
      record {
        some = admitted.some;
        fits = admitted.fits;
        inside = inside_alike chip m alike admitted.inside;
        once = once_alike chip m alike admitted.once;
        rest = trimmed_rest path m;
        words = admitted.words;
        time = rw (← travel_alike chip m alike) admitted.time;
        below = within_below (free_below chip t path m) granted.best.within;
        meets = rw (← allowed_alike chip m alike d.deadline) granted.best.meets;
      }

  new_claims : (c j : ℕ) → claims chip (open_record path m g.slots d).path.entries m g.slots c j ≡ claims chip path m g.slots c j
  unfolding open_record
  new_claims c j = sym (claims_alike chip m (trimmed_alike path m admitted.fits) g.slots c j)

  pub new_claiming : claiming (open_record path m g.slots d).state ≡ true
  unfolding open_record claiming
  new_claiming = refl

  pub new_cells : cells_of chip.wheel (open_record path m g.slots d) ≡ g.count * m
  unfolding cells_of open_record claiming
  new_cells = ap (λ k. k * m) (sym granted.count)

  -- marking its cells is marking those of the path asked for
  pub new_stamped : (v : ℕ) (u w : List ℕ) → Stamped chip path m g.slots v u w
      → Stamped chip (open_record path m g.slots d).path.entries (open_record path m g.slots d).path.len (open_record path m g.slots d).slots v u w
  unfolding open_record
  new_stamped v u w stamped =
      record { long = stamped.long; at = λ c j h k. stamped.at c j h k ∙ ap (λ b. cond b v (cell u c j)) (sym (new_claims c j)) }

  pub old_stamped : (v : ℕ) (u w : List ℕ)
      → Stamped chip (open_record path m g.slots d).path.entries (open_record path m g.slots d).path.len (open_record path m g.slots d).slots v u w
      → Stamped chip path m g.slots v u w
  unfolding open_record
  old_stamped v u w stamped =
      record { long = stamped.long; at = λ c j h k. stamped.at c j h k ∙ ap (λ b. cond b v (cell u c j)) (new_claims c j) }

  pub new_free : (c j : ℕ) → claims chip (open_record path m g.slots d).path.entries
      (open_record path m g.slots d).path.len (open_record path m g.slots d).slots c j ≡ true → cell t c j ≡ 0
  unfolding open_record
  new_free c j e = chosen_free chip t path m g.slots c j granted.best.within (sym (new_claims c j) ∙ e)
