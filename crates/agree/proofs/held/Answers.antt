-- Each turn checks one more record; then the used cells are as many as are claimed, or are not.
use Rattle.std.proofs.Common.{◌≡◌, subst, sym, ◌∙◌, arith}
use Rattle.rules.specs.Orders.{Agrees}
use Rattle.laws.specs.Logic.{tells_yes, tells_no}
use Rattle.agree.specs.Checks.{Claimed, Checks, checks_none, checks_more, checks_all, checks_stray}
use Rattle.agree.proofs.held.Goals as goal

pub loop-f-init : goal.loop-f-init
loop-f-init g c = checks_none _ _ _

pub loop-f-preserved : goal.loop-f-preserved
loop-f-preserved g c =
    let a = c.args in
    checks_more _ _ _ _ _ _ c.loop-f.invariant
    (subst (λ r. Claimed a.chip a.table.now c.loop-f.f r c.in_ok-held.field-0) c.record.ensures c.in_ok-held.ensures)

pub returns-then-settled-clause-agree : goal.returns-then-settled-clause-agree
returns-then-settled-clause-agree g c =
    let a = c.args in
    let all : c.loop-f.f ≡ c.count-n.result = omega arith in
    let checks = subst (λ n. Checks a.chip a.table.now (g.T.FlowList.records a.list.now) n c.loop-f.held) all c.loop-f.invariant in
    tells_yes
    (subst (λ n. Agrees a.chip a.table.now n (g.T.FlowList.records a.list.now)) c.count-n.ensures
    (checks_all _ _ _ _ _ (c.ready.ensures.yes c.if-not-ready.false) checks (sym c.count_used.ensures ∙ c.if-settled.true)))

pub returns-else-settled-clause-agree : goal.returns-else-settled-clause-agree
returns-else-settled-clause-agree g c =
    let a = c.args in
    let all : c.loop-f.f ≡ c.count-n.result = omega arith in
    let checks = subst (λ n. Checks a.chip a.table.now (g.T.FlowList.records a.list.now) n c.loop-f.held) all c.loop-f.invariant in
    tells_no
    (subst (λ n. ¬ Agrees a.chip a.table.now n (g.T.FlowList.records a.list.now)) c.count-n.ensures
    (checks_stray _ _ _ _ _ checks (λ e. c.if-settled.false (c.count_used.ensures ∙ e))))
