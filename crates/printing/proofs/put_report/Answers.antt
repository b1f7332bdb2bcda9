-- By the case of the answer.
use Rattle.std.proofs.Common.{sym, ap, ◌∙◌, ◌++◌, ℕ, List}
use Rattle.rules.specs.Sets.{list_of}
use Rattle.grammar.specs.Text.{ascii, field}
use Rattle.grammar.specs.Answers.{report_text}
use Rattle.texts.specs.Puts.{room_first, room_second, room_same, puts_then, puts_same}
use Rattle.printing.specs.Tails.{free_text, held_text, report_split}
use Rattle.printing.proofs.put_report.Goals as goal

abbrev refusal : ℕ → List ℕ
refusal n = ascii "report refused" ++ field n

pub labelled-requires : goal.labelled-requires
unfolding ascii list_of
labelled-requires c =
    let totals = c.in-Ok.totals in
    let e = ap report_text c.in-Ok.is ∙ report_split totals in
    room_first c.args.page.now (free_text totals.free) (held_text totals.held) (room_same c.args.page.now _ _ e c.requires)

pub labelled-requires-in-Ok : goal.labelled-requires-in-Ok
unfolding ascii list_of
labelled-requires-in-Ok c =
    let totals = c.in-Ok.totals in
    let e = ap report_text c.in-Ok.is ∙ report_split totals in
    room_second (free_text totals.free) (held_text totals.held) c.labelled.ensures (room_same c.args.page.now _ _ e c.requires)

pub labelled-requires-in-Err : goal.labelled-requires-in-Err
unfolding report_text ascii list_of
labelled-requires-in-Err c =
    room_same c.args.page.now _ _ (ap report_text c.in-Err.is ∙ ap refusal (sym (c.from.ensures ∙ c.number.ensures))) c.requires

pub returns-in-Ok : goal.returns-in-Ok
unfolding ascii list_of
returns-in-Ok c =
    let totals = c.in-Ok.totals in
    let e = ap report_text c.in-Ok.is ∙ report_split totals in
    puts_same _ _ (sym e)
    (puts_then (free_text totals.free) (held_text totals.held) c.labelled.ensures c.labelled-in-Ok.ensures
    (room_same c.args.page.now _ _ e c.requires))

pub returns-in-Err : goal.returns-in-Err
unfolding report_text ascii list_of
returns-in-Err c =
    puts_same _ _ (ap refusal (c.from.ensures ∙ c.number.ensures) ∙ sym (ap report_text c.in-Err.is)) c.labelled-in-Err.ensures
