-- Reading a number digit by digit. After a first digit the number so far is known; a digit more behind it makes a longer
-- number, unless the first was a zero or the number grows above 65535: then the text begins with no number.
use Rattle.std.specs.Prelude.{◌≡◌, refl, Bool, true, false, cond, ltb, ◌⊎◌, List, [], ◌∷◌, ◌++◌, ℕ, suc, ◌+◌, ◌-◌, ◌*◌, ◌≤◌, ◌<◌, length, get_or, drop}
use Rattle.std.proofs.Common.{sym, ap, ◌∙◌, append_assoc, inl, inr, arith, add-one, lt-ltb, le-ltb, ltb-false, drop-cons, drop_of_length-le}
use Rattle.laws.specs.Logic.{le_or_lt}
use Rattle.grammar.specs.Text.{decimal}
use Rattle.grammar.specs.Decimals.{digit, leading, digit_is, digit_byte, value, value_end, value_grows, value_digit}
use Rattle.grammar.specs.Decimals.{decimal_value, decimal_one, decimal_more, decimal_begins, decimal_zero}
use Rattle.decimals.specs.Meaning.{NumberAt, NoNumber}

pub digit_most : (c : ℕ) → digit c ≤ 10
unfolding digit
digit_most c = go (ltb c 48) (ltb 57 c) refl
  where
    go : (a b : Bool) → ltb 57 c ≡ b → cond a 10 (cond b 10 (c - 48)) ≤ 10
    go true b e = omega arith
    go false true e = omega arith
    go false false e = omega (arith, ltb-false 57 c e)

pub leading_most : (xs : List ℕ) → leading xs ≤ 10
unfolding leading
leading_most [] = omega arith
leading_most (c ∷ cs) = digit_most c

-- the digit d stands at `at`
module _ (line : List ℕ) (at d : ℕ) (is : d ≡ leading (drop at line)) (h : d < 10) where
  pub digit_inside : at < length line
  unfolding leading
  digit_inside = go (le_or_lt (length line) at)
    where
      go : (length line ≤ at) ⊎ (at < length line) → at < length line
      go (inl l) = absurd (omega (arith, ap leading (drop_of_length-le line {i = at} l)))
      go (inr l) = l

  digit_cons : drop at line ≡ (48 + d) ∷ drop (at + 1) line
  unfolding leading
  digit_cons =
      let e = drop-cons line at 0 digit_inside in
      let same : d ≡ digit (get_or line at 0) = is ∙ ap leading e in
      let byte : get_or line at 0 ≡ 48 + d = digit_byte (get_or line at 0) (omega arith) ∙ ap (λ n. 48 + n) (sym same) in
      e ∙ ap (λ c. c ∷ drop (suc at) line) byte ∙ ap (λ n. (48 + d) ∷ drop n line) (sym (add-one at))

-- the digits up to the rest are those of v
pub record Sofar (text : List ℕ) (v : ℕ) (rest : List ℕ) : Type 0 where
  pub small : v ≤ 65535
  pub on : length rest < length text
  pub split : text ≡ decimal v ++ rest

-- a text that begins with the digit d
leads : (d : ℕ) (rest : List ℕ) → d < 10 → leading ((48 + d) ∷ rest) ≡ d
unfolding leading
leads d rest h = digit_is d h

-- a text that begins with none
pub empty_leads : (text : List ℕ) → length text ≡ 0 → leading text ≡ 10
unfolding leading
empty_leads [] h = refl
empty_leads (c ∷ cs) h = absurd (omega arith)

pub below_leads : (text : List ℕ) → get_or text 0 0 < 48 → leading text ≡ 10
unfolding leading digit
below_leads [] h = refl
below_leads (c ∷ cs) h = rw (lt-ltb c 48 h)

pub above_leads : (text : List ℕ) → 57 < get_or text 0 0 → leading text ≡ 10
unfolding leading digit
above_leads [] h = refl
above_leads (c ∷ cs) h = rw (le-ltb c 48 (omega arith), lt-ltb 57 c h)

pub first_digit : (text rest : List ℕ) (d : ℕ) → d < 10 → text ≡ (48 + d) ∷ rest → Sofar text d rest
first_digit text rest d h is = record {
  small = omega arith;
  on = omega (arith, ap length is);
  split = is ∙ ap (λ xs. xs ++ rest) (sym (decimal_one d h));
}

pub no_digit : (text : List ℕ) → leading text ≡ 10 → NoNumber text
no_digit text is = record { none = λ n rest s l e. omega (arith, ap leading e, decimal_begins n rest s) }

-- the digit d stands behind the number so far
module _ (text rest others : List ℕ) (v d : ℕ) (r : Sofar text v rest) (h : d < 10) (is : rest ≡ (48 + d) ∷ others) where
  longer : text ≡ decimal v ++ ((48 + d) ∷ others)
  longer = r.split ∙ ap (λ xs. decimal v ++ xs) is

  pub next_digit : 0 < v → v * 10 + d ≤ 65535 → Sofar text (v * 10 + d) others
  next_digit p s = record {
    small = s;
    on = omega (arith, r.on, ap length is);
    split =
        longer
        ∙ sym (ap (λ xs. xs ++ others) (decimal_more v d p r.small h) ∙ append_assoc (decimal v) ((48 + d) ∷ []) others);
  }

  -- a zero in front of it
  pub zero_first : v ≡ 0 → NoNumber text
  zero_first z = record {
    none = λ n left s l e.
        let zero-there : text ≡ 48 ∷ rest =
        r.split ∙ ap (λ k. decimal k ++ rest) z ∙ ap (λ xs. xs ++ rest) (decimal_one 0 (omega arith)) in
        let first : leading (decimal n ++ left) ≡ 0 = sym (ap leading e) ∙ ap leading zero-there ∙ leads 0 rest (omega arith) in
        let is_zero : decimal n ++ left ≡ 48 ∷ left =
        ap (λ k. decimal k ++ left) (decimal_zero n left s first) ∙ ap (λ xs. xs ++ left) (decimal_one 0 (omega arith)) in
        let same : left ≡ rest = ap (drop 1) (sym is_zero ∙ sym e ∙ zero-there) in
        omega (arith, ap leading same, ap leading is, leads d others h);
  }

  pub too_large : 65535 < v * 10 + d → NoNumber text
  too_large g = record {
    none = λ n left s l e.
        let byte : digit (48 + d) ≡ d = digit_is d h in
        let read : value 0 text ≡ n = ap (value 0) e ∙ decimal_value n left s ∙ value_end n left l in
        let same : value 0 text ≡ value (v * 10 + d) others =
        ap (value 0) longer ∙ decimal_value v ((48 + d) ∷ others) r.small ∙ value_digit v (48 + d) others (omega arith)
        ∙ ap (λ k. value (v * 10 + k) others) byte in
        omega (arith, value_grows (v * 10 + d) others);
  }

-- no digit follows the number so far
pub found : (text rest : List ℕ) (v : ℕ) → Sofar text v rest → leading rest ≡ 10 → NumberAt text v rest
found text rest v r is = record { small = r.small; on = r.on; split = r.split; stop = is }
