-- The row has the best heads of the positions before p.
use Rattle.std.proofs.Common.{◌≡◌, ℕ, ◌+◌, ◌-◌, ◌<◌, ◌≤◌, max, length, get_or}
use Rattle.line.specs.Tables.{most_of}
use Rattle.tails.proofs.window.Given as goal

abbrev pub invariant-loop-p : goal.invariant-loop-p
invariant-loop-p l = record {
  within : l.p ≤ max l.end (l.e + 2);
  long : length l.row ≡ l.cap + 1;
  best : (k : ℕ) → k < l.cap + 1 → get_or l.row k 0 ≡ most_of l.heads k (l.e + 2) (l.p - (l.e + 2));
}
