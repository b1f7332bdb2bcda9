-- The limit cuts nothing, or there is a window of heads.
use Rattle.std.proofs.Common.{◌≡◌, ◌+◌, ◌∙◌, rules, arith, length}
use Rattle.std.proofs.lemmas.List.{places, get_or-take}
use Rattle.line.specs.Tables.{entry}
use Rattle.line.specs.Rows.{part_entry, filled_split, picked_is, tails_far, tails_near}
use Rattle.tails.proofs.tails_more.Goals as goal

pub returns-then-e-n : goal.returns-then-e-n
returns-then-e-n c =
    let a = c.args in
    let split = c.split_at_mut-row.ensures in
    let long : length c.pick.new.row ≡ a.cap + 1 = search (rules, places, c.pick.auto.row, split.front_len) in
    tails_far _ _ _ _ _ _ (omega arith) (omega arith) (omega arith) (omega arith)
    (filled_split _ _ _ _ _ (a.cap + 1) _ _ split.value (omega (arith, split.front_len)) (omega arith) long
    (picked_is _ _ _ _ (entry a.heads.now (a.e + 2)) (entry a.tails.now (a.e + 1)) long c.pick.ensures
    (λ k h. part_entry _ _ _ k (omega arith)) (λ k h. get_or-take _ _ k 0 h ∙ split.by_index.1 k 0)))

pub returns : goal.returns
returns c = tails_near _ _ _ _ _ _ (omega arith) c.args.task.sound.l1 _ (omega (arith, c.min-end.ensures)) c.window.ensures
