-- On the default wheel a grant has slots below 8: they are free slots of the path, and those are slots of the wheel.
use Rattle.std.specs.Prelude.{◌≡◌, Bool, true, List, ◌⊎◌, ℕ, ◌≤◌, ◌<◌, Ok}
use Rattle.std.proofs.Common.{inl, inr}
use Rattle.rules.specs.declared.Demand.{Demand}
use Rattle.rules.specs.declared.Record.{Record}
use Rattle.rules.specs.declared.Grant.{Grant}
use Rattle.rules.specs.Sets.{has, Below, set_of}
use Rattle.rules.specs.Paths.{chip_of, free, free_slots}
use Rattle.rules.specs.Promises.{Opens}
use Rattle.laws.specs.Logic.{not_both, le_or_lt}
use Rattle.laws.specs.Sets.{has_set_over, within_below}
use Rattle.grammar.specs.Listing.{wheel}

set_below : (f : ℕ → Bool) (n : ℕ) → Below n (set_of f 0 n)
set_below f n = record { below = λ s h. go s h (le_or_lt n s) }
  where
    go : (s : ℕ) → has (set_of f 0 n) s ≡ true → (n ≤ s) ⊎ (s < n) → s < n
    go s h (inl l) = absurd (not_both h (has_set_over f n 0 s l))
    go s h (inr l) = l

pub granted_below : (t : List ℕ) (list : List Record) (path : List ℕ) (m f : ℕ) (d : Demand) (t' : List ℕ) (list' : List Record) (g : Grant)
    → Opens (chip_of wheel t) t 16 list path m f d t' list' (Ok g) → Below 8 g.slots
unfolding Opens free_slots
granted_below t list path m f d t' list' g o = within_below (set_below (free (chip_of wheel t) t path m) 8) o.1.best.within
