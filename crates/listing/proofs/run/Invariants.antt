-- Each turn answers one line.
use Rattle.std.proofs.Common.{length}
use Rattle.answering.specs.Lines.{state}
use Rattle.listing.specs.Runs.{Going}
use Rattle.listing.proofs.run.Given as goal

abbrev pub invariant-loop-line : goal.invariant-loop-line
invariant-loop-line l = Going l.input (state l.initial.board) l.initial.page (state l.board) l.rest l.k l.page

abbrev pub decreases-loop-line : goal.decreases-loop-line
decreases-loop-line l = length l.rest
