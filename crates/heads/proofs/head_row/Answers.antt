-- The run ends with a packet of at most P slots, or goes on after a full one.
use Rattle.std.proofs.Common.{◌≡◌, ◌+◌, ◌-◌, ◌*◌, ◌<◌, ◌≤◌, ◌⊎◌, inl, inr, ◌∙◌, rules, arith, length, get_or}
use Rattle.std.proofs.lemmas.List.{places, get_or-take}
use Rattle.line.specs.Tables.{entry}
use Rattle.line.specs.Rows.{part_entry, filled_split, raised_is, held_tail, head_room, head_row_ends, head_row_goes_on}
use Rattle.heads.proofs.head_row.Goals as goal
use Rattle.heads.proofs.head_row.Goals.{then-f-period-via-then-f-period, then-f-period-via-else-f-period+then-cap-period}

pub packets-requires-clause-by_index : goal.packets-requires-clause-by_index
packets-requires-clause-by_index c q i a b d =
    held_tail _ c.args.task.sound _ _ _ _ _ c.requires.held q i a (omega (arith, c.min.ensures, c.min-2.ensures)) d

pub returns-then-f-period : goal.returns-then-f-period
returns-then-f-period c =
    let a = c.args in
    let ends : (a.f ≤ a.task.wheel.p) ⊎ (a.cap < a.task.wheel.p) =
    elim c.then-f-period.branch [
      | then-f-period-via-then-f-period w ↦ inl w.if-f-period.true
      | then-f-period-via-else-f-period+then-cap-period w ↦ inr w.if-cap-period.true
    ] in
    head_row_ends _ a.task.sound _ _ _ _ _ _ _ (omega arith) (omega (arith, c.min.ensures, c.min-2.ensures)) c.packets.ensures ends

pub raise-requires-clause-by_index : goal.raise-requires-clause-by_index
raise-requires-clause-by_index c i h =
    let a = c.args in
    let words = c.packet_words-words in
    let split = c.split_at_mut-row.ensures in
    let few : i < a.cap + 1 - a.task.wheel.p = search (rules, places, h, split.front_len) in
    let room =
    head_room a.task a.task.sound a.cap a.p a.f _ a.tails.now a.heads.now c.packets.new.heads (omega arith)
    (omega (arith, c.min.ensures, c.min-2.ensures)) c.packets.ensures c.requires.held c.if-f-period.false words.result words.ensures i few in
    let at = get_or-take (a.cap + 1 - a.task.wheel.p) c.split_at_mut-row.result.1.now i 0 few ∙ split.by_index.1 i 0 in
    omega (arith, room, at)

pub returns : goal.returns
returns c =
    let a = c.args in
    let words = c.packet_words-words in
    let split = c.split_at_mut-row.ensures in
    let heads = c.packets.new.heads in
    let base = a.p * 64 + a.task.wheel.p in
    let long : length c.raise.new.row ≡ a.cap + 1 - a.task.wheel.p = search (rules, places, c.raise.auto.row, split.front_len) in
    head_row_goes_on a.task a.task.sound a.cap a.p a.f _ a.tails.now a.heads.now heads (omega arith)
    (omega (arith, c.min.ensures, c.min-2.ensures)) c.packets.ensures _ words.result c.if-f-period.false c.if-cap-period.false words.ensures
    (filled_split _ _ _ _ _ (a.cap + 1 - a.task.wheel.p) _ _ split.value (omega (arith, split.front_len)) (omega arith) long
    (raised_is _ _ _ _ _ (λ i. get_or heads (base + i) 0) (entry heads (a.p + a.task.wheel.p)) long c.raise.ensures
    (λ k h. part_entry _ _ _ k (omega arith) ∙ split.by_index.0 (base + k) 0 (omega arith))
    (λ k h. get_or-take _ _ k 0 h ∙ split.by_index.1 k 0)))
