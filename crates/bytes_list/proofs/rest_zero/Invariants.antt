-- The loop has seen that the reserved numbers below j are 0.
use Rattle.std.proofs.Common.{◌≡◌, true}
use Rattle.rules.specs.Sets.{all}
use Rattle.bytes_list.specs.Layout.{numbers_at, is_zero}
use Rattle.bytes_list.proofs.rest_zero.Given as goal

abbrev pub invariant-loop-j : goal.invariant-loop-j
invariant-loop-j l = all (is_zero (numbers_at l.bytes 0)) l.j ≡ true
