-- No longer packet comes to v.
use Rattle.std.proofs.Common.{◌≡◌, ℕ, ◌+◌, ◌-◌, ◌≤◌}
use Rattle.line.specs.Values.{raised}
use Rattle.line.specs.Packets.{packet_words}
use Rattle.line.specs.Tables.{entry}
use Rattle.rebuild.proofs.longest.Given as goal

abbrev pub invariant-loop-q : goal.invariant-loop-q
invariant-loop-q l = (j : ℕ) → l.q ≤ j → j ≤ l.m → raised (packet_words l.task j) (entry l.tails (l.p + j - 1) (l.k - j)) ≡ l.v → ⊥
