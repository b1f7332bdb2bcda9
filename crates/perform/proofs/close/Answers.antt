-- The call that was made of what was asked, in a closing's words.
use Rattle.std.proofs.Common.{refl}
use Rattle.perform.specs.Joined.{as_cleared}
use Rattle.perform.proofs.close.Goals as goal

pub returns : goal.returns
returns g c =
    let l = g.T.FlowList in
    as_cleared l.count l.records l.Put _ _ _ _ _ _ refl _ _ c.to_close-call.ensures _ c.perform.ensures _ refl _ c.cleared_as.ensures
