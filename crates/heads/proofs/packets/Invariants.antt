-- The row has what the packets of fewer than q slots come to.
use Rattle.std.proofs.Common.{◌≡◌, ℕ, ◌+◌, ◌-◌, ◌<◌, min, length, get_or}
use Rattle.line.specs.Tables.{pack_most}
use Rattle.heads.proofs.packets.Given as goal

abbrev pub invariant-loop-q : goal.invariant-loop-q
invariant-loop-q l = record {
  long : length l.row ≡ l.cap + 1;
  best : (k : ℕ) → k < l.cap + 1 → get_or l.row k 0 ≡ pack_most l.task l.tails l.p k 1 (min (l.q - 1) k);
}
