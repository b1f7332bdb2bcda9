-- By the case of the answer.
use Rattle.std.proofs.Common.{sym, ap, ◌∙◌, ◌++◌, ◌≡◌, Ok, List, ℕ}
use Rattle.rules.specs.declared.Yes.TheVariants.{Granted, Cells}
use Rattle.rules.specs.Sets.{list_of}
use Rattle.grammar.specs.Text.{ascii, field}
use Rattle.texts.specs.Puts.{puts_same, room_same}
use Rattle.printing.specs.Tails.{tail}
use Rattle.printing.proofs.put_tail.Goals as goal

abbrev refusal : ℕ → List ℕ
refusal n = ascii " refused" ++ field n

pub put_grant-requires : goal.put_grant-requires
unfolding tail
put_grant-requires c =
    let case = c.in-Ok-Granted in
    let inner : case.field-0 ≡ Granted case.grant = rw case.is at case.field-0-is in
    room_same c.args.page.now _ _ (ap tail (case.is ∙ ap Ok inner)) c.requires

pub labelled-requires : goal.labelled-requires
unfolding tail ascii list_of
labelled-requires c =
    let case = c.in-Ok-Cells in
    let inner : case.field-0 ≡ Cells case.cells = rw case.is at case.field-0-is in
    room_same c.args.page.now _ _ (ap tail (case.is ∙ ap Ok inner)) c.requires

pub labelled-requires-in-Err : goal.labelled-requires-in-Err
unfolding tail ascii list_of
labelled-requires-in-Err c =
    room_same c.args.page.now _ _ (ap tail c.in-Err.is ∙ ap refusal (sym (c.from.ensures ∙ c.number.ensures))) c.requires

pub returns-in-Ok-Granted : goal.returns-in-Ok-Granted
unfolding tail
returns-in-Ok-Granted c =
    let case = c.in-Ok-Granted in
    let inner : case.field-0 ≡ Granted case.grant = rw case.is at case.field-0-is in
    puts_same _ _ (sym (ap tail (case.is ∙ ap Ok inner))) c.put_grant.ensures

pub returns-in-Ok-Cells : goal.returns-in-Ok-Cells
unfolding tail ascii list_of
returns-in-Ok-Cells c =
    let case = c.in-Ok-Cells in
    let inner : case.field-0 ≡ Cells case.cells = rw case.is at case.field-0-is in
    puts_same _ _ (sym (ap tail (case.is ∙ ap Ok inner))) c.labelled.ensures

pub returns-in-Err : goal.returns-in-Err
unfolding tail ascii list_of
returns-in-Err c =
    puts_same _ _ (ap refusal (c.from.ensures ∙ c.number.ensures) ∙ sym (ap tail c.in-Err.is)) c.labelled-in-Err.ensures
