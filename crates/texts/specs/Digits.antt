-- The digits that `io` writes are those of the listing: as many as the number has, the last one first taken off.
use Rattle.std.specs.Prelude.{◌≡◌, [], ◌∷◌, ◌++◌, ◌⊎◌, ℕ, zero, suc, ◌+◌, ◌-◌, ◌*◌, ◌/◌, ◌%◌, ◌^◌, ◌≤◌, ◌<◌}
use Rattle.std.proofs.Common.{sym, ap, ◌∙◌, inl, inr, arith, pow-suc, mod-eq_of_lt, lt-ltb}
use Rattle.std.proofs.Math.Nat.{one-le-pow, pow-le-pow_right}
use Rattle.laws.specs.Logic.{le_or_lt}
use Rattle.io.specs.Digits.{IsDigitCount}
use Rattle.io.specs.Digits as wide
use Rattle.grammar.specs.Text.{digits, decimal}
use Rattle.grammar.specs.Decimals.{digits_one, digits_more}

glyph_is : (d : ℕ) → d < 10 → wide.hex_digit_ascii d ≡ 48 + d
glyph_is d h = rw (lt-ltb d 10 h)

same_digits : (k f n : ℕ) → k ≤ f → n < 10 ^ suc k → (1 ≤ k → 10 ^ k ≤ n) → wide.last_digits 10 (suc k) n ≡ digits (suc f) n
same_digits zero f n h most least =
    let l : n < 10 = most in
    ap (λ c. c ∷ []) (glyph_is (n % 10) (omega arith) ∙ ap (λ d. 48 + d) (mod-eq_of_lt l)) ∙ sym (digits_one f n l)
same_digits (suc k) zero n h most least = absurd (omega arith)
same_digits (suc k) (suc f) n h most least =
    let some : 1 ≤ 10 ^ k = one-le-pow k 10 (omega arith) in
    let low : 10 ^ k * 10 ≤ n = rw (pow-suc 10 k) at (least (omega arith)) in
    let high : n < 10 ^ suc k * 10 = rw (pow-suc 10 (suc k)) at most in
    ap (λ xs. xs ++ (wide.hex_digit_ascii (n % 10) ∷ [])) (same_digits k f (n / 10) (omega arith) (omega arith) (λ _. omega arith))
    ∙ ap (λ c. digits (suc f) (n / 10) ++ (c ∷ [])) (glyph_is (n % 10) (omega arith)) ∙ sym (digits_more (suc f) n (omega arith))

-- a number of 64 bits has at most 20 digits
fewest_most : (n r : ℕ) → IsDigitCount 10 1 n r → n < 2 ^ 64 → r ≤ 20
fewest_most n r f h = go (le_or_lt r 20)
  where
    go : (r ≤ 20) ⊎ (20 < r) → r ≤ 20
    go (inl l) = l
    go (inr l) =
        let high : 10 ^ 20 ≤ 10 ^ (r - 1) = pow-le-pow_right (omega arith) {i = 20} {j = r - 1} (omega arith) in
        absurd (omega (arith, high, f.2 (omega arith)))

pub decimal_is : (n r : ℕ) → IsDigitCount 10 1 n r → n < 2 ^ 64 → wide.last_digits 10 r n ≡ decimal n
unfolding decimal
decimal_is n r f h = go r f (fewest_most n r f h)
  where
    go : (r : ℕ) → IsDigitCount 10 1 n r → r ≤ 20 → wide.last_digits 10 r n ≡ digits 20 n
    go zero f h = absurd (omega (arith, f.0))
    go (suc k) f h = same_digits k 19 n (omega arith) f.1 λ l. (let e : suc k - 1 ≡ k = omega arith in rw e at (f.2 (omega arith)))
