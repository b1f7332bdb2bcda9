-- Three ways: no room, too much input, and the run.
use Rattle.std.proofs.Common.{rules, refl}
use Rattle.rules.specs.Sets.{list_of}
use Rattle.grammar.specs.Text.{ascii}
use Rattle.grammar.specs.Answers.{long_text}
use Rattle.listing.specs.Runs.{writes_nothing, writes_long, writes_lines}
use Rattle.listing.proofs.list.Goals as goal

pub returns-then-out-lt65536 : goal.returns-then-out-lt65536
returns-then-out-lt65536 c = writes_nothing _ _ c.if-out-lt65536.true

pub returns-then-input-gt-LONGEST : goal.returns-then-input-gt-LONGEST
unfolding long_text ascii list_of
returns-then-input-gt-LONGEST c =
    writes_long _ _ _ _ (search rules) refl c.if-out-lt65536.false c.if-input-gt-LONGEST.true c.put.ensures

pub returns : goal.returns
returns c =
    writes_lines _ _ _ _ _ (search rules) c.if-out-lt65536.false c.if-input-gt-LONGEST.false c.empty-board.ensures.table c.empty-board.ensures.list
    c.run.ensures
