-- 10; then the cells of the record.
use Rattle.std.proofs.Common.{sym, ◌∙◌}
use Rattle.rules.specs.declared.Verb.TheVariants.{ToClose}
use Rattle.rules.specs.Orders.{state_lines}
use Rattle.laws.specs.Logic.{not_both}
use Rattle.laws.specs.Refusals.{first, more, none_before}
use Rattle.decide.specs.Decisions.{Settles}
use Rattle.decide.proofs.decide_closing.Goals as goal

pub returns-then-not-claims_cells : goal.returns-then-not-claims_cells
unfolding Settles
returns-then-not-claims_cells c = λ t call.
    first (state_lines c.args.chip t c.args.r.state call ToClose) 10 none_before (sym c.claims_cells.ensures ∙ c.if-not-claims_cells.true)

pub returns : goal.returns
unfolding Settles
returns c = λ t call. (
  more (state_lines c.args.chip t c.args.r.state call ToClose) 10 none_before
      (not_both (sym c.claims_cells.ensures ∙ c.if-not-claims_cells.false)),
  c.cells_of.ensures,
)
