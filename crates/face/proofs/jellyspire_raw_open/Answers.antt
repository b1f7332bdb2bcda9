-- The library's answer, which the numbers as given have too.
use Rattle.std.proofs.Common.{subst}
use Rattle.face.specs.Told.{Told}
use Rattle.face.specs.Wide.{open_given}
use Rattle.face.proofs.jellyspire_raw_open.Goals as goal

pub returns : goal.returns
returns c =
    record {
      answer = c.open-a.result;
      promised =
          open_given _ _ _ _ _ c.wheel_of-w.ensures _ _ _ _ _ _ _ _ _ _ _ c.short.ensures c.short-2.ensures
          c.open-a.result c.open-a.ensures;
      told = subst (λ x. Told x c.tell.result c.args.values.now c.tell.new.values) c.granted.ensures c.tell.ensures;
    }
