-- A wheel of one slot, the full wheel, or what the search found.
use Rattle.std.proofs.Common.{refl, arith}
use Rattle.optimum.specs.Answer.{one_grants, none_grants, found_grants}
use Rattle.engine.proofs.best.Goals as goal

pub returns-then-w-lt2 : goal.returns-then-w-lt2
returns-then-w-lt2 c =
    let a = c.args in
    let r = c.whole.ensures in
    one_grants a.w a.free a.words.0 a.limit c.requires (omega (arith, c.requires.legal.n1)) _ r.0 r.1 r.2

pub returns-in-None : goal.returns-in-None
returns-in-None c =
    let r = c.whole-in-None.ensures in
    none_grants _ c.args.limit (omega arith) c.requires c.in-None.ensures _ r.0 r.1 r.2

pub returns-in-Some : goal.returns-in-Some
returns-in-Some c =
    found_grants _ c.args.limit (omega arith) c.requires _ c.in-Some.ensures _ refl refl refl
