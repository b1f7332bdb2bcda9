-- A text's first line by its first line feed.
use Rattle.std.specs.Prelude.{◌≡◌, refl, Bool, true, false, cond, Some, None, List, [], ◌∷◌, ℕ, ◌+◌, ◌-◌, ◌<◌, eqb, nat_lt, length, get_or, take, drop, position}
use Rattle.std.proofs.Common.{sym, ap, ◌∙◌, arith, eq-eqb, ltb-false, length-drop, length-take-le, drop_of_length-le}
use Rattle.std.proofs.Math.Seq.{take-length}
use Rattle.std.proofs.lemmas.Bool.{eqb-true}
use Rattle.std.proofs.lemmas.List.Quantifiers.{position-Some}
use Rattle.std.proofs.lemmas.List.Sums.{fails_before_first}
use Rattle.std.specs.List.{position_or_len}
use Rattle.grammar.specs.Lines.{Clear, line_then, line_last}
use Rattle.reading.specs.Meaning.{First}

-- what is left of a list from i on, taken whole
pub take_rest : (i : ℕ) (xs : List ℕ) → take (length xs - i) (drop i xs) ≡ drop i xs
take_rest i xs = ap (λ n. take n (drop i xs)) (sym (length-drop i xs)) ∙ take-length (drop i xs)

-- a byte is a line feed
abbrev feed : ℕ → Bool
feed b = eqb b 10

no_feed : (b : ℕ) → feed b ≡ false → b ≡ 10 → ⊥
no_feed b n e = let y = eq-eqb b 10 e in cc

pub first_then : (text : List ℕ) (i : ℕ) → Some i ≡ position (λ b. eqb b 10) text
    → First text (take i text) (take (length text - (i + 1)) (drop (i + 1) text))
first_then text i e =
    let at = position-Some feed text i 0 (sym e) in
    let long : length (drop (i + 1) text) ≡ length text - (i + 1) = length-drop (i + 1) text in
    let end : length (take i text) ≡ i = length-take-le i text (omega (arith, at.0)) in
    let next : length text - length (drop (i + 1) text) ≡ i + 1 = omega (arith, at.0) in
    rw (take_rest (i + 1) text)
    (record {
      front = ap (λ n. take n text) (sym end);
      back = ap (λ n. drop n text) (sym next);
      on = omega (arith, at.0);
      short = omega (arith, at.0, length-take-le i text);
      split = line_then text i at.0 (eqb-true (get_or text i 0) 10 at.1) (λ k l. no_feed (get_or text k 0) (at.2 k l));
    })

clear : (text : List ℕ) → None ≡ position (λ b. eqb b 10) text → Clear text
clear text e = go (nat_lt n (length text)) refl (sym e)
  where
    n : ℕ
    n = position_or_len feed text

    go : (b : Bool) → nat_lt n (length text) ≡ b → cond b (Some n) None ≡ None → Clear text
    go true l e = absurd cc
    go false l e = record {
      at = λ k h. no_feed (get_or text k 0) (fails_before_first feed text k 0 (omega (arith, ltb-false n (length text) l)));
    }

some : (text : List ℕ) → false ≡ eqb (length text) 0 → 0 < length text
some [] e = absurd cc
some (c ∷ cs) e = omega arith

pub first_last : (text : List ℕ) → false ≡ eqb (length text) 0 → None ≡ position (λ b. eqb b 10) text → First text text []
first_last text e none = record {
  front = sym (take-length text);
  back = sym (drop_of_length-le text {i = length text - 0} (omega arith));
  on = some text e;
  short = omega arith;
  split = line_last text (some text e) (clear text none);
}
