-- What cannot be stays so; anything else is raised.
use Rattle.line.specs.Values.{raised, raised_some}
use Rattle.positions.proofs.raised.Goals as goal

pub returns-then-v-eq0 : goal.returns-then-v-eq0
unfolding raised
returns-then-v-eq0 c = rw c.if-v-eq0.true

pub returns-else-v-eq0 : goal.returns-else-v-eq0
returns-else-v-eq0 c = raised_some _ _ c.if-v-eq0.false
