-- The loop goes on along the digits.
use Rattle.std.proofs.Common.{rules, arith}
use Rattle.decimals.specs.Digits.{no_digit, first_digit, next_digit, zero_first, too_large}
use Rattle.decimals.proofs.number.Goals as goal

pub returns-in_err-value : goal.returns-in_err-value
returns-in_err-value c = search (rules, no_digit)

pub loop-digit-init : goal.loop-digit-init
loop-digit-init c = first_digit _ _ _ c.in_ok-value.ensures.0 c.in_ok-value.ensures.1

pub returns-then-zero_first : goal.returns-then-zero_first
returns-then-zero_first c =
    zero_first _ _ _ _ _ c.loop-digit.invariant c.in-Some.ensures.0 c.in-Some.ensures.1 c.if-zero_first.true

pub returns-then-value-gt-LARGEST : goal.returns-then-value-gt-LARGEST
returns-then-value-gt-LARGEST c =
    too_large _ _ _ _ _ c.loop-digit.invariant c.in-Some.ensures.0 c.in-Some.ensures.1 c.if-value-gt-LARGEST.true

pub loop-digit-preserved : goal.loop-digit-preserved
loop-digit-preserved c =
    next_digit _ _ _ _ _ c.loop-digit.invariant c.in-Some.ensures.0 c.in-Some.ensures.1 (omega arith) c.if-value-gt-LARGEST.false
