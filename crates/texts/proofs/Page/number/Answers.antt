-- The digits of `io::decimal` are those of the number.
use Rattle.std.proofs.Common.{arith, List, ℕ, ◌≡◌, ◌∙◌, ap, ◌^◌, ◌<◌, length, take}
use Rattle.io.specs.Digits.{IsDigitCount, last_digits}
use Rattle.grammar.specs.Text.{decimal}
use Rattle.texts.specs.Puts.{puts_same}
use Rattle.texts.specs.Digits.{decimal_is}
use Rattle.texts.proofs.Page.number.Goals as goal

-- what `io::decimal` has left in its array
spelled : (n k : ℕ) (out : List ℕ) → IsDigitCount 10 1 n k → n < 2 ^ 64 → take k out ≡ last_digits 10 k n → take k out ≡ decimal n
spelled n k out f h e = e ∙ decimal_is n k f h

pub put-requires : goal.put-requires
put-requires c =
    let d = c.decimal-k.ensures in
    omega (arith, ap length (spelled _ _ _ d.len (omega arith) d.digits), c.requires)

pub returns : goal.returns
returns c =
    let d = c.decimal-k.ensures in
    puts_same _ _ (spelled _ _ _ d.len (omega arith) d.digits) c.put.ensures
