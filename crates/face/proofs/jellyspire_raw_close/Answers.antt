-- The library's answer, which the numbers as given have too.
use Rattle.std.proofs.Common.{subst}
use Rattle.face.specs.Told.{Told}
use Rattle.face.specs.Wide.{close_given}
use Rattle.face.proofs.jellyspire_raw_close.Goals as goal

pub returns : goal.returns
returns c =
    record {
      answer = c.close-a.result;
      promised = close_given _ _ _ _ _ c.wheel_of-w.ensures _ _ _ _ _ c.close-a.result c.close-a.ensures;
      told = subst (λ x. Told x c.tell.result c.args.values.now c.tell.new.values) c.cleared.ensures c.tell.ensures;
    }
