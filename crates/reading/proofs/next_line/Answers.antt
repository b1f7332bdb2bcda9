-- With a line feed the rest begins behind it; without one the text is its only line.
use Rattle.reading.specs.Breaks.{first_then, first_last}
use Rattle.reading.proofs.next_line.Goals as goal

pub returns : goal.returns
returns c = first_then _ _ c.in-Some.ensures

pub returns-in_default : goal.returns-in_default
returns-in_default c = first_last _ c.if-is_empty.ensures c.in_default.ensures
