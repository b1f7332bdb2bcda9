-- The answers of the call, on the chip of wheel and table, in a closing's words.
use Rattle.jellyspire.specs.Lent.{performed_on, performed_closes}
use Rattle.jellyspire.proofs.close.Goals as goal

pub returns : goal.returns
returns c = performed_closes _ _ _ _ _ _ _ (performed_on _ _ c.chip_of-chip.ensures _ _ _ _ _ _ c.close.ensures)
