-- The answer of a closing is that of a call.
use Rattle.std.proofs.Common.{rules, ◌≡◌, ◌∙◌, ◌++◌, ap, sym}
use Rattle.rules.specs.Sets.{list_of}
use Rattle.rules.specs.Promises.{of_cleared}
use Rattle.grammar.specs.Text.{ascii, field}
use Rattle.texts.specs.Puts.{puts_same, room_same}
use Rattle.printing.specs.Tails.{tail, close_split}
use Rattle.printing.proofs.put_close.Goals as goal

pub put_answer-requires : goal.put_answer-requires
unfolding ascii list_of
put_answer-requires c =
    let a = c.args in
    let e : c.map.result ≡ of_cleared a.answer = search rules in
    room_same a.page.now _ _ (close_split a.flow a.answer ∙ ap (λ r. (ascii "close" ++ field a.flow) ++ tail r) (sym e)) c.requires

pub returns : goal.returns
unfolding ascii list_of
returns c =
    let a = c.args in
    let e : c.map.result ≡ of_cleared a.answer = search rules in
    puts_same _ _ (ap (λ r. (ascii "close" ++ field a.flow) ++ tail r) e ∙ sym (close_split a.flow a.answer)) c.put_answer.ensures
