-- The gate's refusal, or the totals.
use Rattle.std.specs.Prelude.{Ok, Err}
use Rattle.std.proofs.Common.{subst, arith}
use Rattle.std.proofs.Math.Nat.{mul-le-mul}
use Rattle.std.proofs.lemmas.Result.{err_from_is_err_and}
use Rattle.rules.specs.Numbers.{number}
use Rattle.rules.specs.Promises.{Reports}
use Rattle.ledger.specs.Lines.{checked_ready}
use Rattle.decide.specs.Decisions.{Gates}
use Rattle.perform.specs.Joined.{entered, report_refused, report_room, report_told}
use Rattle.perform.proofs.report.Goals as goal

pub returns-in_err-held : goal.returns-in_err-held
unfolding Gates Reports
returns-in_err-held g c =
    let a = c.args in
    let p = err_from_is_err_and c.from_residual.result c.from_residual.ensures.1 in
    let q = c.in_err-held.field-0.0 in
    let gate = subst (λ n. Gates a.chip a.table.now n c.held-counted.result (Err q)) c.count.ensures c.in_err-held.ensures in
    rw (p.1, p.2) (report_refused _ _ _ _ _ c.held-counted.ensures.agree (number q) gate)

pub overflow_mul-cells : goal.overflow_mul-cells
overflow_mul-cells g c =
    let a = c.args in
    let gate = subst (λ n. Gates a.chip a.table.now n c.held-counted.result (Ok c.in_ok-held.held)) c.count.ensures c.in_ok-held.ensures in
    let ready = checked_ready _ _ _ _ (entered _ _ _ _ _ c.held-counted.ensures.held _ gate).0 in
    omega (arith, mul-le-mul ready.tabled.c64 ready.legal.n64)

pub overflow_sub-result : goal.overflow_sub-result
overflow_sub-result g c =
    let a = c.args in
    let gate = subst (λ n. Gates a.chip a.table.now n c.held-counted.result (Ok c.in_ok-held.held)) c.count.ensures c.in_ok-held.ensures in
    let (passes, held) = entered _ _ _ _ _ c.held-counted.ensures.held _ gate in
    omega (arith, held, report_room _ _ _ _ _ c.held-counted.ensures.agree passes)

pub returns : goal.returns
returns g c =
    let a = c.args in
    let gate = subst (λ n. Gates a.chip a.table.now n c.held-counted.result (Ok c.in_ok-held.held)) c.count.ensures c.in_ok-held.ensures in
    let (passes, held) = entered _ _ _ _ _ c.held-counted.ensures.held _ gate in
    report_told _ _ _ _ _ c.held-counted.ensures.agree passes _ held
