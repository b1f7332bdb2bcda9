-- The loop has set the entries from the length on to zero and left those before it.
use Rattle.std.proofs.Common.{ap, arith}
use Rattle.rules.specs.declared.Path.{Path}
use Rattle.ledger.specs.Trimmed.{trimmed_is}
use Rattle.changes.proofs.trim.Goals as goal

pub returns : goal.returns
returns c =
    let at = c.loop-i in
    ap {B = Path} (λ e. record { entries = e; len = c.args.path.len })
    (trimmed_is _ at.entries _ at.invariant.0 at.invariant.1 (record { at = λ i l h. at.invariant.2 i l (omega arith) h }))
