-- The text stands at its place.
use Rattle.std.proofs.Common.{refl}
use Rattle.texts.specs.Puts.{copied}
use Rattle.texts.proofs.Page.put.Goals as goal

pub returns : goal.returns
returns c =
    let p = c.args.self.now in
    record { same = refl; len = refl; out = rw c.copy_from_slice.ensures.after (copied p.out.now c.args.text.now p.len) }
