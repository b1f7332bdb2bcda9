-- 9, 11 and 12 are tests, each behind those before it; then bare selection decides.
use Rattle.std.specs.Prelude.{Ok, Err}
use Rattle.std.proofs.Common.{◌≡◌, sym, ◌∙◌, false, List, ℕ, ◌-◌, ◌≤◌, ◌<◌, arith}
use Rattle.std.proofs.lemmas.Result.{err_from_is_err_and}
use Rattle.rules.specs.declared.Demand.{Demand}
use Rattle.rules.specs.declared.State.{State}
use Rattle.rules.specs.declared.Call.{Call}
use Rattle.rules.specs.declared.Verb.TheVariants.{ToOpen}
use Rattle.rules.specs.Paths.{Chip, travel, allowed}
use Rattle.rules.specs.Flows.{claiming}
use Rattle.rules.specs.Numbers.{Line, Passes}
use Rattle.rules.specs.Orders.{state_lines}
use Rattle.laws.specs.Logic.{not_both}
use Rattle.laws.specs.Refusals.{before, first, more, none_before}
use Rattle.decide.specs.Decisions.{Settles}
use Rattle.decide.specs.Behind.{selection_settles}
use Rattle.decide.proofs.decide_opening.Goals.{After-select}
use Rattle.decide.proofs.decide_opening.Goals as goal

-- the lines passed before each number
module _ (chip : Chip) (t : List ℕ) (s : State) (call : Call) (d : Demand) (closed : claiming s ≡ false) where
  abbrev order : List Line
  order = state_lines chip t s call (ToOpen d)

  p11 : Passes (before order 11)
  p11 = more order 9 none_before (λ e. not_both e closed)

  p12 : 1 ≤ d.words.0 → Passes (before order 12)
  p12 words = more order 11 p11 (λ e. omega (arith, e))

  p13 : 1 ≤ d.words.0 → travel chip call.path.entries call.path.len < d.deadline → Passes (before order 13)
  p13 words time = more order 12 (p12 words) (λ e. omega (arith, e))

pub returns-then-claims_cells : goal.returns-then-claims_cells
unfolding Settles
returns-then-claims_cells c =
    let a = c.args in
    first (state_lines a.chip a.table.now a.r.state a.call (ToOpen a.demand)) 9 none_before (sym c.claims_cells.ensures ∙ c.if-claims_cells.true)

pub returns-then-demand-lt1 : goal.returns-then-demand-lt1
unfolding Settles
returns-then-demand-lt1 c =
    let a = c.args in
    first _ 11 (p11 a.chip a.table.now a.r.state a.call a.demand (sym c.claims_cells.ensures ∙ c.if-claims_cells.false)) (omega arith)

pub returns-then-last-travel : goal.returns-then-last-travel
unfolding Settles
returns-then-last-travel c =
    let a = c.args in
    first _ 12 (p12 a.chip a.table.now a.r.state a.call a.demand (sym c.claims_cells.ensures ∙ c.if-claims_cells.false) (omega arith))
    (omega (arith, c.travel-travel.ensures))

-- where selection is asked, the lines before 13 are passed
closed : (c : After-select) → claiming c.args.r.state ≡ false
closed c = sym c.claims_cells.ensures ∙ c.if-claims_cells.false

time : (c : After-select) → travel c.args.chip c.args.call.path.entries c.args.call.path.len < c.args.demand.deadline
time c = omega (arith, c.travel-travel.ensures, c.from-last.ensures)

passed : (c : After-select) → Passes (before (order c.args.chip c.args.table.now c.args.r.state c.args.call c.args.demand (closed c)) 13)
passed c = p13 c.args.chip c.args.table.now c.args.r.state c.args.call c.args.demand (closed c) (omega arith) (time c)

left : (c : After-select) → c.from-last.result - c.travel-travel.result
    ≡ allowed c.args.chip c.args.call.path.entries c.args.call.path.len c.args.demand.deadline
unfolding allowed
left c = omega (arith, c.travel-travel.ensures, c.from-last.ensures)

pub returns-in_err-granted : goal.returns-in_err-granted
returns-in_err-granted c =
    let p = err_from_is_err_and c.from_residual.result c.from_residual.ensures.1 in
    let at = (goal.at.returns-in_err-granted c).After-select in
    let a = c.args in
    rw (p.1, p.2)
    (selection_settles (before (state_lines a.chip a.table.now a.r.state a.call (ToOpen a.demand)) 13) a.chip a.table.now a.r a.call a.demand _ _
    c.requires.legal (omega arith) (omega arith) c.free_slots-free.ensures (left at) (passed at) (Err c.in_err-granted.field-0.0) c.in_err-granted.ensures)

pub returns : goal.returns
returns c =
    let at = (goal.at.returns c).After-select in
    let a = c.args in
    selection_settles (before (state_lines a.chip a.table.now a.r.state a.call (ToOpen a.demand)) 13) a.chip a.table.now a.r a.call a.demand _ _
    c.requires.legal (omega arith) (omega arith) c.free_slots-free.ensures (left at) (passed at) (Ok c.in_ok-granted.granted) c.in_ok-granted.ensures
