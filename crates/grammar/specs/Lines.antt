-- The lines of a text, one at a time: the bytes up to the first line feed are the first line, and what follows it has the rest.
use Rattle.std.specs.Prelude.{◌≡◌, refl, List, [], ◌∷◌, ◌++◌, ℕ, suc, ◌+◌, ◌≤◌, ◌<◌, length, get_or, take, drop}
use Rattle.std.proofs.Common.{sym, ap, ◌∙◌, arith, add-one, below_more, ne_eqb, take-append-drop, drop-cons, get_or-take, length-take-le}
use Rattle.grammar.specs.Text.{on_first, lines}

-- no byte is a line feed
pub record Clear (xs : List ℕ) : Type 0 where
  pub at : (i : ℕ) → i < length xs → get_or xs i 0 ≡ 10 → ⊥

clear_tail : {x : ℕ} {xs : List ℕ} → Clear (x ∷ xs) → Clear xs
clear_tail c = record { at = λ i h. c.at (suc i) (omega arith) }

lines_feed : (xs rest : List ℕ) → Clear xs → lines (xs ++ (10 ∷ rest)) ≡ xs ∷ lines rest
unfolding lines on_first
lines_feed [] rest c = refl
lines_feed (x ∷ xs) rest c =
    rw (ne_eqb x 10 (c.at 0 (omega arith))) (ap (on_first x) (lines_feed xs rest (clear_tail c)))

-- a text without a line feed is one line
pub line_last : (xs : List ℕ) → 0 < length xs → Clear xs → lines xs ≡ xs ∷ lines []
unfolding lines on_first
line_last [] h c = absurd (omega arith)
line_last (x ∷ []) h c = rw (ne_eqb x 10 (c.at 0 (omega arith)))
line_last (x ∷ y ∷ xs) h c =
    rw (ne_eqb x 10 (c.at 0 (omega arith))) (ap (on_first x) (line_last (y ∷ xs) (omega arith) (clear_tail c)))

-- no line feed up to i, and none there
pub passed_on : (text : List ℕ) (at i : ℕ) → ((k : ℕ) → at ≤ k → k < i → get_or text k 0 ≡ 10 → ⊥) → (get_or text i 0 ≡ 10 → ⊥)
    → (k : ℕ) → at ≤ k → k < i + 1 → get_or text k 0 ≡ 10 → ⊥
passed_on text at i old here k h l = below_more (λ k. at ≤ k → get_or text k 0 ≡ 10 → ⊥) i (λ k l h. old k h l) (λ h. here) k l h

-- the first line feed of a text is its byte i
pub line_then : (text : List ℕ) (i : ℕ) → i < length text → get_or text i 0 ≡ 10 → ((k : ℕ) → k < i → get_or text k 0 ≡ 10 → ⊥)
    → lines text ≡ take i text ∷ lines (drop (i + 1) text)
line_then text i h feed before =
    let front : Clear (take i text) =
    record {
      at = λ k l e.
          let below : k < i = omega (arith, length-take-le i text) in
          before k below (sym (get_or-take i text k 0 below) ∙ e);
    } in
    let back : drop i text ≡ 10 ∷ drop (i + 1) text = drop-cons text i 0 h ∙ rw (feed, add-one) in
    ap lines (sym (take-append-drop i text) ∙ ap (λ xs. take i text ++ xs) back) ∙ lines_feed (take i text) (drop (i + 1) text) front
