-- No longer packet comes to v.
use Rattle.std.proofs.Common.{◌≡◌, ◌+◌, ◌-◌, sym, ap, ◌∙◌, arith}
use Rattle.line.specs.Values.{raised}
use Rattle.line.specs.Packets.{packet_words}
use Rattle.line.specs.Tables.{entry}
use Rattle.line.specs.Rebuild.{above_more}
use Rattle.rebuild.proofs.longest.Goals as goal

pub returns-then-raised-v : goal.returns-then-raised-v
returns-then-raised-v c =
    let a = c.args in
    let q = c.loop-q.q - 1 in
    let e = ap (λ w. raised w (entry a.tails.now (a.p + q - 1) (a.k - q))) c.packet_words-words.ensures in
    record {
      low = omega arith;
      high = omega arith;
      here = sym e ∙ sym c.raised.ensures ∙ c.if-raised-v.true;
      past = λ j l. c.loop-q.invariant j (omega arith);
    }

pub loop-q-preserved : goal.loop-q-preserved
loop-q-preserved c =
    let a = c.args in
    let q = c.loop-q.q - 1 in
    let e = ap (λ w. raised w (entry a.tails.now (a.p + q - 1) (a.k - q))) c.packet_words-words.ensures in
    above_more (λ j. raised (packet_words a.task j) (entry a.tails.now (a.p + j - 1) (a.k - j)) ≡ a.v → ⊥) c.loop-q.q a.m (omega arith)
    (λ z. c.if-raised-v.false (c.raised.ensures ∙ e ∙ z)) c.loop-q.invariant
