-- The channels, and what is left of the zeros.
use Rattle.reading.specs.Paths.{filled}
use Rattle.reading.proofs.path_of.Goals as goal

pub returns : goal.returns
returns c = rw (c.copy_from_slice.ensures.after, filled c.args.channels.now c.requires)
