-- The part is empty, or it is the channel's row.
use Rattle.std.proofs.Common.{refl, arith}
use Rattle.face.specs.Wide.{row_given}
use Rattle.face.specs.Cases.{row_inside, row_there}
use Rattle.face.proofs.jellyspire_raw_row.Goals as goal

pub overflow_mul-offset : goal.overflow_mul-offset
overflow_mul-offset c =
    omega (
      arith,
      row_inside _ _ _ _ (row_given _ _ _ _ _ c.wheel_of-w.ensures _ _ _ c.row-length.ensures) _ refl (λ e. omega (arith, e)),
    )

pub returns : goal.returns
returns c =
    row_there _ _ _ _ (row_given _ _ _ _ _ c.wheel_of-w.ensures _ _ _ c.row-length.ensures) _ refl
    (λ e. omega (arith, e)) _
