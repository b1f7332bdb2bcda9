-- The loop has read the entries below i.
use Rattle.std.proofs.Common.{◌≡◌, ℕ, ◌+◌, ◌<◌, length, get_or}
use Rattle.bytes_list.specs.Layout.{number_at}
use Rattle.bytes_list.proofs.entries_at.Given as goal

abbrev pub invariant-loop-i : goal.invariant-loop-i
invariant-loop-i l = record { long : length l.entries ≡ 16; read : (k : ℕ) → k < l.i → get_or l.entries k 0 ≡ number_at l.bytes 0 (4 + k) }
