-- The row has what the packets of fewer than q slots come to.
use Rattle.std.proofs.Common.{◌≡◌, ◌+◌, ◌-◌, min, refl, sym, ap, ◌∙◌, rules, arith, length, get_or}
use Rattle.std.proofs.lemmas.List.{places}
use Rattle.line.specs.Tables.{entry, pack_most, pack_none}
use Rattle.line.specs.Rows.{part_entry, filled_part, raised_is, packets_more}
use Rattle.heads.proofs.packets.Goals as goal

pub loop-q-init : goal.loop-q-init
loop-q-init c =
    let a = c.args in
    let long : length c.fill.new.self ≡ a.cap + 1 = search (rules, places, c.fill.ensures.len) in
    record {
      long = long;
      best = λ k h. c.fill.ensures.clones k 0 (omega (arith, long, c.fill.ensures.len)) refl ∙ sym (pack_none a.task a.tails.now a.p k);
    }

pub loop-q-preserved : goal.loop-q-preserved
loop-q-preserved c =
    let a = c.args in
    let at = c.loop-q in
    let words = c.packet_words-words in
    let long : length c.raise.new.row ≡ a.cap + 1 - at.q = search (rules, places, c.raise.auto.row, at.invariant.long) in
    let filled =
    filled_part at.row c.raise.new.row at.q (a.cap + 1 - at.q) (length at.row - at.q) _ (omega (arith, at.invariant.long))
    (omega (arith, at.invariant.long)) long
    (raised_is _ _ _ _ _ (λ i. get_or at.row (at.q + i) 0) (entry a.tails.now (a.p + at.q - 1)) long c.raise.ensures
    (λ k h. part_entry _ _ _ k (omega (arith, at.invariant.long))) (λ k h. part_entry _ _ _ k (omega arith))) in
    record {
      long = filled.long ∙ at.invariant.long;
      best = packets_more a.task a.cap a.p at.q words.result a.tails.now at.row _ (omega arith) (omega arith) words.ensures at.invariant.best filled;
    }

pub returns : goal.returns
returns c =
    let a = c.args in
    let at = c.loop-q in
    let all : at.q - 1 ≡ a.m = omega arith in
    filled_part _ _ _ _ _ _ (omega arith) (omega arith) at.invariant.long
    (λ k h. at.invariant.best k h ∙ ap (λ m. pack_most a.task a.tails.now a.p k 1 (min m k)) all)
