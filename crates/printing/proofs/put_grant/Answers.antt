-- The word, the slots, then the words.
use Rattle.std.proofs.Common.{ap, ◌++◌, ℕ, List}
use Rattle.rules.specs.declared.Grant.{Grant}
use Rattle.rules.specs.Sets.{list_of}
use Rattle.grammar.specs.Text.{ascii}
use Rattle.texts.specs.declared.Page.{Page}
use Rattle.texts.specs.Puts.{Room, room_first, room_second, puts_then, puts_same}
use Rattle.printing.specs.Tails.{slots_text, words_text, grant_tail}
use Rattle.printing.proofs.put_grant.Goals as goal

-- the first two parts
abbrev slots : ℕ → List ℕ
slots set = ascii " slots" ++ slots_text set

-- they fit
both : (page : Page) (g : Grant) → Room page (grant_tail g) → Room page (slots g.slots)
unfolding grant_tail
both page g h = room_first page (slots g.slots) (words_text g.words.0) h

pub put-requires : goal.put-requires
unfolding ascii list_of
put-requires c =
    let a = c.args in room_first a.page.now (ascii " slots") (slots_text a.grant.slots) (both a.page.now a.grant c.requires)

pub slots-requires : goal.slots-requires
unfolding ascii list_of
slots-requires c =
    let a = c.args in room_second (ascii " slots") (slots_text a.grant.slots) c.put.ensures (both a.page.now a.grant c.requires)

pub labelled-requires : goal.labelled-requires
unfolding grant_tail ascii list_of
labelled-requires c =
    let a = c.args in
    let put =
    puts_then (ascii " slots") (slots_text a.grant.slots) c.put.ensures c.slots.ensures (both a.page.now a.grant c.requires) in
    rw c.from.ensures (room_second (slots a.grant.slots) (words_text a.grant.words.0) put c.requires)

pub returns : goal.returns
unfolding grant_tail ascii list_of
returns c =
    let a = c.args in
    let put =
    puts_then (ascii " slots") (slots_text a.grant.slots) c.put.ensures c.slots.ensures (both a.page.now a.grant c.requires) in
    puts_then (slots a.grant.slots) (words_text a.grant.words.0) put (puts_same _ _ (ap words_text c.from.ensures) c.labelled.ensures) c.requires
