-- The promises over a lent list of records, n being its length and the chip that of wheel and table.
use Rattle.std.specs.Prelude.{◌≡◌, List, ℕ, length, Result}
use Rattle.std.proofs.Common.{sym, subst}
use Rattle.rules.specs.declared.Wheel.{Wheel}
use Rattle.rules.specs.declared.Demand.{Demand}
use Rattle.rules.specs.declared.Record.{Record}
use Rattle.rules.specs.declared.Grant.{Grant}
use Rattle.rules.specs.declared.Totals.{Totals}
use Rattle.rules.specs.declared.Call.{Call}
use Rattle.rules.specs.declared.Yes.{Yes}
use Rattle.rules.specs.declared.Refusal.{Refusal}
use Rattle.rules.specs.Paths.{Chip, chip_of}
use Rattle.rules.specs.Orders.{Agrees, opening, closing}
use Rattle.rules.specs.Promises.{Performs, of_opened, of_cleared, Opens, Closes, Reports}
use Rattle.ledger.specs.Calls.{to_opened, to_cleared}
use Rattle.lent.specs.Lists.{PutRecord}
use Rattle.perform.specs.Performed.{PerformsOn}
use Rattle.perform.specs.Joined.{as_opens, as_closes}

module _ (chip : Chip) (t : List ℕ) (list : List Record) where
  abbrev pub PerformsLent : Call → List ℕ → List Record → Result Yes Refusal → Type 0
  PerformsLent = Performs chip t (length list) list

  -- a call on a list of records, in the form that `lent` gives it
  abbrev pub Performed : Call → List ℕ → List Record → Result Yes Refusal → Type 0
  Performed = PerformsOn length (λ l. l) PutRecord chip t list

-- the chip that was made is that of wheel and table
pub performed_on : (made chip : Chip) → made ≡ chip → (t : List ℕ) (list : List Record) (call : Call) (t' : List ℕ) (list' : List Record)
    (a : Result Yes Refusal) → Performed made t list call t' list' a → Performed chip t list call t' list' a
performed_on made chip e t list call t' list' a p = subst (λ x. Performed x t list call t' list' a) e p

module _ (w : Wheel) (t : List ℕ) (list : List Record) where
  abbrev pub AgreesLent : Type 0
  AgreesLent = Agrees (chip_of w t) t (length list) list

  abbrev pub ReportsLent : Result Totals Refusal → Type 0
  ReportsLent = Reports (chip_of w t) t (length list) list

  abbrev pub OpensLent : List ℕ → ℕ → ℕ → Demand → List ℕ → List Record → Result Grant Refusal → Type 0
  OpensLent = Opens (chip_of w t) t (length list) list

  abbrev pub ClosesLent : ℕ → List ℕ → List Record → Result ℕ Refusal → Type 0
  ClosesLent = Closes (chip_of w t) t (length list) list

  -- what was performed is the opening, or the closing, that its own answer tells
  module _ (t' : List ℕ) (list' : List Record) where
    pub performed_opens : (path : List ℕ) (m f : ℕ) (d : Demand) (a : Result Grant Refusal)
        → Performed (chip_of w t) t list (opening path m f d) t' list' (of_opened a) → OpensLent path m f d t' list' a
    unfolding Opens
    performed_opens path m f d a p = p.answers

    pub performed_closes : (f : ℕ) (a : Result ℕ Refusal) → Performed (chip_of w t) t list (closing f) t' list' (of_cleared a)
        → ClosesLent f t' list' a
    unfolding Closes
    performed_closes f a p = p.answers

-- ---- the promise of a call is that of an opening or a closing, the call being made from what was asked

module _ (w : Wheel) (t : List ℕ) (list : List Record) (chip : Chip) (chip-is : chip ≡ chip_of w t) (t' : List ℕ) (list' : List Record)
    (a : Result Yes Refusal) where
  pub opens_lent : (path : List ℕ) (m f : ℕ) (d : Demand) (call : Call) → call ≡ opening path m f d → PerformsLent chip t list call t' list' a
      → (o : Result Grant Refusal) → o ≡ to_opened a → OpensLent w t list path m f d t' list' o
  opens_lent path m f d call made p o e =
      subst (OpensLent w t list path m f d t' list') (sym e)
      (as_opens (chip_of w t) t (length list) list t' list' path m f d a
      (subst (λ x. PerformsLent x t list (opening path m f d) t' list' a) chip-is (subst (λ x. PerformsLent chip t list x t' list' a) made p)))

  pub closes_lent : (f : ℕ) (call : Call) → call ≡ closing f → PerformsLent chip t list call t' list' a → (o : Result ℕ Refusal) → o ≡ to_cleared a
      → ClosesLent w t list f t' list' o
  closes_lent f call made p o e =
      subst (ClosesLent w t list f t' list') (sym e)
      (as_closes (chip_of w t) t (length list) list t' list' f a
      (subst (λ x. PerformsLent x t list (closing f) t' list' a) chip-is (subst (λ x. PerformsLent chip t list x t' list' a) made p)))
