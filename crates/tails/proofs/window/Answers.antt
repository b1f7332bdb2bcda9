-- The row has the best heads of the positions before p.
use Rattle.std.proofs.Common.{◌≡◌, ◌+◌, ◌-◌, refl, sym, ap, ◌∙◌, rules, arith, length}
use Rattle.std.proofs.lemmas.List.{places}
use Rattle.line.specs.Tables.{most_of, most_none}
use Rattle.line.specs.Rows.{part_entry, filled_part, window_more}
use Rattle.tails.proofs.window.Goals as goal

pub loop-p-init : goal.loop-p-init
loop-p-init c =
    let long : length c.fill.new.self ≡ c.args.cap + 1 = search (rules, places, c.fill.ensures.len) in
    record {
      within = omega arith;
      long = long;
      best = λ k h. c.fill.ensures.clones k 0 (omega (arith, long, c.fill.ensures.len)) refl ∙ sym (most_none _ k _ _ (omega arith));
    }

pub loop-p-preserved : goal.loop-p-preserved
loop-p-preserved c =
    let long : length c.lift.new.row ≡ c.args.cap + 1 = omega (arith, c.lift.auto.row, c.loop-p.invariant.long) in
    record {
      within = omega arith;
      long = long;
      best = window_more _ _ _ _ _ _ _ (omega arith) long (λ k h. part_entry _ _ _ k (omega arith)) c.loop-p.invariant.best c.lift.ensures;
    }

pub returns : goal.returns
returns c =
    let a = c.args in
    let at = c.loop-p in
    let all : at.p - (a.e + 2) ≡ a.end - (a.e + 2) = omega (arith, at.invariant.within) in
    filled_part _ _ _ _ _ _ (omega arith) (omega arith) at.invariant.long (λ k h. at.invariant.best k h ∙ ap (most_of a.heads.now k (a.e + 2)) all)
