-- The call that was made of what was asked, in an opening's words.
use Rattle.std.proofs.Common.{refl}
use Rattle.perform.specs.Joined.{as_opened}
use Rattle.perform.proofs.open.Goals as goal

pub returns : goal.returns
returns g c =
    let l = g.T.FlowList in
    as_opened l.count l.records l.Put _ _ _ _ _ _ refl _ _ c.to_open-call.ensures _ c.perform.ensures _ _ _ _ refl _ c.opened_as.ensures
