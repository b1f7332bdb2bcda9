-- A record that claims nothing holds nothing; another has at most 64 slots on at most 16 channels.
use Rattle.std.proofs.Common.{ap, ◌*◌, ◌≤◌, arith, mul-le-mul}
use Rattle.rules.specs.Flows.{cells_of}
use Rattle.laws.specs.Bounds.{size_most}
use Rattle.flows.proofs.cells_of.Goals as goal

pub returns-then-not-claims_cells : goal.returns-then-not-claims_cells
unfolding cells_of
returns-then-not-claims_cells c = rw (← c.claims_cells.ensures, c.if-not-claims_cells.true)

pub overflow_mul-result : goal.overflow_mul-result
overflow_mul-result c =
    let few : c.size.result ≤ 64 =
    omega (arith, c.size.ensures.good c.requires.legal, size_most c.args.w.n c.args.r.slots, c.requires.legal.n64) in
    omega (arith, mul-le-mul few c.requires.len_bound)

pub returns : goal.returns
unfolding cells_of
returns c =
    rw (← c.claims_cells.ensures, c.if-not-claims_cells.false) (ap (λ n. n * c.args.r.path.len) (c.size.ensures.good c.requires.legal))
