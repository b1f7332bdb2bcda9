-- What the calls promise of a list that is lent as bytes: document 01's answer for the list that the bytes stand for, before
-- and after, and every byte of it: a grant writes one record, a refusal nothing.
use Rattle.std.specs.Prelude.{◌≡◌, ◌⊎◌, List, ℕ, ◌-◌, ◌*◌, ◌≤◌, ◌<◌, Result}
use Rattle.std.proofs.Common.{sym, ◌∙◌, inl, inr, arith}
use Rattle.rules.specs.declared.Demand.{Demand}
use Rattle.rules.specs.declared.Record.{Record}
use Rattle.rules.specs.declared.Grant.{Grant}
use Rattle.rules.specs.declared.Totals.{Totals}
use Rattle.rules.specs.declared.Call.{Call}
use Rattle.rules.specs.declared.Yes.{Yes}
use Rattle.rules.specs.declared.Refusal.{Refusal}
use Rattle.rules.specs.Paths.{Chip}
use Rattle.rules.specs.Orders.{Agrees, opening, closing}
use Rattle.rules.specs.Promises.{of_opened, of_cleared, Reports}
use Rattle.bytes_list.specs.Layout.{count_of, decoded, list_in}
use Rattle.bytes_list.specs.ReadBack.{flow_decoded}
use Rattle.lent.specs.Lists.{PutBytes}
use Rattle.perform.specs.Performed.{RecordOf, PerformsOn}

module _ (chip : Chip) (t b : List ℕ) where
  -- the list that the bytes stand for agrees with the table
  abbrev pub AgreesBytes : Type 0
  AgreesBytes = Agrees chip t (count_of b) (list_in b)

  abbrev pub ReportsBytes : Result Totals Refusal → Type 0
  ReportsBytes = Reports chip t (count_of b) (list_in b)

  -- a call on the list that the bytes stand for, and the bytes afterwards
  abbrev pub PerformsBytes : Call → List ℕ → List ℕ → Result Yes Refusal → Type 0
  PerformsBytes = PerformsOn count_of list_in PutBytes chip t b

  -- opening and closing are its cases
  abbrev pub OpensBytes : List ℕ → ℕ → ℕ → Demand → List ℕ → List ℕ → Result Grant Refusal → Type 0
  OpensBytes path m f d t' b' a = PerformsBytes (opening path m f d) t' b' (of_opened a)

  abbrev pub ClosesBytes : ℕ → List ℕ → List ℕ → Result ℕ Refusal → Type 0
  ClosesBytes f t' b' a = PerformsBytes (closing f) t' b' (of_cleared a)

-- the record that was read is the flow's
pub listed_record : (b : List ℕ) (f : ℕ) (r : Record) → r ≡ decoded b (64 * (f - 1)) → 1 ≤ f → f ≤ count_of b → f ≤ 64 → RecordOf (list_in b) (count_of b) f r
listed_record b f r e one listed most =
    record { there = λ x y z. e ∙ sym (flow_decoded b (f - 1) (omega arith)); otherwise = λ h. absurd (within h) }
  where
    within : (f < 1) ⊎ ((count_of b < f) ⊎ (64 < f)) → ⊥
    within (inl h) = omega arith
    within (inr (inl h)) = omega arith
    within (inr (inr h)) = omega arith
