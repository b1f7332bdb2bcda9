-- The set so far and the slots still to be added make the whole.
use Rattle.std.proofs.Common.{◌≡◌, ℕ, ◌+◌, ◌*◌, ◌%◌, ◌^◌, ◌<◌, ◌≤◌, ◌∙◌, shl_exact, one-mul, mod-lt, arith}
use Rattle.line.specs.Rebuild.{run_next, run_end}
use Rattle.rebuild.proofs.add_run.Goals as goal

-- one bit, shifted to its place
alone : (j : ℕ) → j < 64 → 1 * 2 ^ j % 18446744073709551616 ≡ 2 ^ j
alone j h = shl_exact {a = 1} 1 j 64 (omega arith) (omega arith) ∙ one-mul (2 ^ j)

alone_slot : (i n : ℕ) → 1 ≤ n → n ≤ 64 → 1 * 2 ^ (i % n) % 18446744073709551616 ≡ 2 ^ (i % n)
alone_slot i n h l = alone (i % n) (omega (arith, mod-lt i h))

pub overflow_add-y : goal.overflow_add-y
overflow_add-y c =
    let a = c.args in
    let legal = a.cut.task.sound.legal in
    let i = c.loop-i.i in
    omega (
      arith,
      alone_slot (a.cut.start.0 + (a.d + i)) a.cut.task.wheel.n legal.n1 legal.n64,
      run_next a.cut.task a.cut.start.0 a.d a.m i (omega arith),
    )

pub loop-i-preserved : goal.loop-i-preserved
loop-i-preserved c =
    let a = c.args in
    let legal = a.cut.task.sound.legal in
    let i = c.loop-i.i in
    omega (
      arith,
      alone_slot (a.cut.start.0 + (a.d + i)) a.cut.task.wheel.n legal.n1 legal.n64,
      run_next a.cut.task a.cut.start.0 a.d a.m i (omega arith),
    )

pub returns : goal.returns
returns c =
    let a = c.args in
    omega (arith, run_end a.cut.task a.cut.start.0 (a.d + c.loop-i.i) a.m c.loop-i.i (omega arith))
