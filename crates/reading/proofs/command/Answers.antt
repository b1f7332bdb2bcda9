-- The first word decides.
use Rattle.std.proofs.Common.{◌≡◌, true, ◌∙◌, sym, None, Some}
use Rattle.std.proofs.lemmas.Bool.Decides.{Decides-eqb}
use Rattle.std.proofs.lemmas.Slice.Eq.{strip_prefix_is, slice_eq-Decides}
use Rattle.reading.specs.Verbs.{open_bytes, close_bytes}
use Rattle.reading.specs.Orders.{reports, nothing}
use Rattle.reading.proofs.command.Goals as goal

pub returns-in-Some : goal.returns-in-Some
returns-in-Some c =
    rw (strip_prefix_is Decides-eqb c.args.line.now open_bytes (Some c.in-Some.fields) c.in-Some.ensures.cases) c.opening.ensures

pub returns-in-Some-strip_prefix : goal.returns-in-Some-strip_prefix
returns-in-Some-strip_prefix c =
    rw
    (strip_prefix_is Decides-eqb c.args.line.now close_bytes (Some c.in-Some-strip_prefix.fields) c.in-Some-strip_prefix.ensures.cases)
    c.closing.ensures

pub returns-then-eq : goal.returns-then-eq
returns-then-eq c =
    reports _ ((slice_eq-Decides Decides-eqb _ _ _ c.eq.ensures).0 c.if-eq.true ∙ c.as_slice.ensures)

pub returns : goal.returns
returns c =
    nothing _ (strip_prefix_is Decides-eqb c.args.line.now open_bytes None c.in_default.ensures.cases)
    (strip_prefix_is Decides-eqb c.args.line.now close_bytes None c.in_default-strip_prefix.ensures.cases)
    λ e.
    let yes : c.eq.result ≡ true = (slice_eq-Decides Decides-eqb _ _ _ c.eq.ensures).1 (e ∙ sym c.as_slice.ensures) in
    cc
