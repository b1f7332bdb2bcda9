-- The answers of the call, on the chip of wheel and table, in an opening's words.
use Rattle.jellyspire.specs.Lent.{performed_on, performed_opens}
use Rattle.jellyspire.proofs.open.Goals as goal

pub returns : goal.returns
returns c = performed_opens _ _ _ _ _ _ _ _ _ _ (performed_on _ _ c.chip_of-chip.ensures _ _ _ _ _ _ c.«open».ensures)
