-- What the promises of the library come to for its caller, over the lent table and the whole lent list: the theorems of
-- `ledger` at n = length list. A promise settles everything; a grant and a closing leave all other records as they were and
-- leave table and list in agreement; and closing at once after opening gives both back.
use Rattle.std.specs.Prelude.{◌≡◌, Bool, List, ℕ, ◌-◌, ◌*◌, ◌/◌, length, Result, Ok}
use Rattle.std.proofs.Common.{sym, subst, arith, le_refl}
use Rattle.rules.specs.declared.Refusal.{Refusal}
use Rattle.rules.specs.declared.Yes.{Yes}
use Rattle.rules.specs.declared.Totals.{Totals}
use Rattle.rules.specs.Tells.{Tells}
use Rattle.rules.specs.declared.Wheel.{Wheel}
use Rattle.rules.specs.declared.Demand.{Demand}
use Rattle.rules.specs.declared.Record.{Record}
use Rattle.rules.specs.declared.Grant.{Grant}
use Rattle.rules.specs.declared.Call.{Call}
use Rattle.rules.specs.Paths.{Chip, chip_of}
use Rattle.rules.specs.Flows.{flow}
use Rattle.rules.specs.Promises.{Performs, of_opened, of_cleared, Opens, Closes, Reports}
use Rattle.rules.specs.Orders.{Agrees, opening, closing}
use Rattle.laws.specs.Logic.{tells_unique}
use Rattle.ledger.specs.Calls.{Settled, opens_unique, closes_unique, reports_unique, performs_long, performs_others, performs_keep, open_close}

module _ (w : Wheel) (t : List ℕ) (list : List Record) where
  abbrev chip : Chip
  chip = chip_of w t

  -- ---- each promise settles everything: answer, table and list

  pub agree_unique : (a b : Bool) → Tells a (Agrees chip t (length list) list) → Tells b (Agrees chip t (length list) list) → a ≡ b
  agree_unique = tells_unique

  pub open_unique : (path : List ℕ) (m f : ℕ) (d : Demand) (u v : List ℕ) (list₁ list₂ : List Record) (a b : Result Grant Refusal)
      → Opens chip t (length list) list path m f d u list₁ a → Opens chip t (length list) list path m f d v list₂ b → Settled a b u v list₁ list₂
  open_unique = opens_unique chip t (length list) list

  pub close_unique : (f : ℕ) (u v : List ℕ) (list₁ list₂ : List Record) (a b : Result ℕ Refusal)
      → Closes chip t (length list) list f u list₁ a → Closes chip t (length list) list f v list₂ b → Settled a b u v list₁ list₂
  close_unique = closes_unique chip t (length list) list

  pub report_unique : (a b : Result Totals Refusal) → Reports chip t (length list) list a → Reports chip t (length list) list b → a ≡ b
  report_unique = reports_unique chip t (length list) list

  -- ---- no other record changes, whatever the answer

  pub open_others : (path : List ℕ) (m f : ℕ) (d : Demand) (t' : List ℕ) (list' : List Record) (a : Result Grant Refusal) (k : ℕ)
      → Opens chip t (length list) list path m f d t' list' a → ¬ (k ≡ f - 1) → flow list' k ≡ flow list k
  unfolding Opens
  open_others path m f d t' list' a k p other =
      performs_others chip t (length list) list (opening path m f d) t' list' (of_opened a) k p λ e. other (omega (arith, e))

  pub close_others : (f : ℕ) (t' : List ℕ) (list' : List Record) (a : Result ℕ Refusal) (k : ℕ)
      → Closes chip t (length list) list f t' list' a → ¬ (k ≡ f - 1) → flow list' k ≡ flow list k
  unfolding Closes
  close_others f t' list' a k p other = performs_others chip t (length list) list (closing f) t' list' (of_cleared a) k p λ e. other (omega (arith, e))

  -- ---- where table and list agree, they do afterwards

  module _ (agrees : Agrees chip t (length list) list) where
    -- agreement at the old lengths is agreement at the new ones, which are the same
    carried : (call : Call) (t' : List ℕ) (list' : List Record) (a : Result Yes Refusal) → Performs chip t (length list) list call t' list' a
        → Agrees (chip_of w t') t' (length list') list'
    carried call t' list' a p =
        let (long, many) = performs_long chip t (length list) list call t' list' a p in
        subst (λ n. Agrees (chip_of w t') t' n list') (sym many)
        (subst (λ k. Agrees (record { wheel = w; channels = k / 64 }) t' (length list) list') (sym long)
        (performs_keep chip t (length list) list (le_refl (length list)) agrees call t' list' a p))

    pub open_keeps : (path : List ℕ) (m f : ℕ) (d : Demand) (t' : List ℕ) (list' : List Record) (a : Result Grant Refusal)
        → Opens chip t (length list) list path m f d t' list' a → Agrees (chip_of w t') t' (length list') list'
    unfolding Opens
    open_keeps path m f d t' list' a p = carried (opening path m f d) t' list' (of_opened a) p

    pub close_keeps : (f : ℕ) (t' : List ℕ) (list' : List Record) (a : Result ℕ Refusal)
        → Closes chip t (length list) list f t' list' a → Agrees (chip_of w t') t' (length list') list'
    unfolding Closes
    close_keeps f t' list' a p = carried (closing f) t' list' (of_cleared a) p

    -- ---- open, then close: as many cells are cleared as were written, and table and list are as before. A record that is lent
    -- has the sixteen path entries of its type

    pub open_then_close : (path : List ℕ) (m f : ℕ) (d : Demand) (g : Grant) (t' t'' : List ℕ) (list' list'' : List Record) (a : Result ℕ Refusal)
        → length (flow list (f - 1)).path.entries ≡ 16 → Opens chip t (length list) list path m f d t' list' (Ok g)
        → Closes (chip_of w t') t' (length list') list' f t'' list'' a → (a ≡ Ok (g.count * m)) × (t'' ≡ t) × (list'' ≡ list)
    unfolding Opens
    open_then_close path m f d g t' t'' list' list'' a sixteen p q =
        let (long, many) = performs_long chip t (length list) list (opening path m f d) t' list' (of_opened (Ok g)) p in
        open_close chip t (length list) list (le_refl (length list)) agrees path m f d g t' t'' list' list'' a sixteen p
        (subst (λ k. Closes (record { wheel = w; channels = k / 64 }) t' (length list) list' f t'' list'' a) long
        (subst (λ n. Closes (chip_of w t') t' n list' f t'' list'' a) many q))
