-- The two tests are the two parts of rule 5: the words, and the largest gap for every gap.
use Rattle.std.proofs.Common.{arith, leb-true, leb-false}
use Rattle.laws.specs.Gaps.{largest_near, near_largest}
use Rattle.flows.proofs.meets.Goals as goal

pub returns-then-words : goal.returns-then-words
returns-then-words c =
    let a = c.args in
    let gaps = c.largest_gap.ensures.good c.requires in
    record {
      yes = λ e. record {
        delivers = omega (arith, c.words.ensures.good c.requires);
        near = largest_near a.w.n a.x a.limit (omega (arith, gaps, leb-true c.largest_gap.result a.limit e));
      };
      no = λ e m. omega (arith, gaps, leb-false c.largest_gap.result a.limit e, near_largest a.w.n a.x a.limit m.near);
    }
