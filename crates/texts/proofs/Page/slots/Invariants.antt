-- The slots below s are printed.
use Rattle.rules.specs.Sets.{has, places}
use Rattle.grammar.specs.Text.{fields}
use Rattle.texts.specs.Puts.{Puts}
use Rattle.texts.proofs.Page.slots.Given as goal

abbrev pub invariant-loop-s : goal.invariant-loop-s
invariant-loop-s l = Puts l.initial.self (fields (places (has l.slots) 0 l.s)) l.self
