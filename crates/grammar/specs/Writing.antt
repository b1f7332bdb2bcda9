-- Text written into a buffer at a place: what stood before it stays, then the text, and the rest stays.
use Rattle.std.specs.Prelude.{◌≡◌, List, [], ◌++◌, ℕ, ◌+◌, ◌≤◌, take, drop}
use Rattle.std.proofs.Common.{sym, ap, ◌∙◌, append_assoc, arith, add-zero, length-append, length-drop, take-append-drop, take_at, drop_at, drop-drop}
use Rattle.std.proofs.Math.ListN.{length, length-take}

unfoldable pub written : List ℕ → ℕ → List ℕ → List ℕ
written old at text = take at old ++ (text ++ drop (at + length text) old)

module _ (old : List ℕ) (at : ℕ) (text : List ℕ) (fits : at + length text ≤ length old) where
  pub written_length : length (written old at text) ≡ length old
  unfolding written
  written_length = simp (length-append, length-take, length-drop) (omega arith)

  front : length (take at old ++ text) ≡ at + length text
  front = simp (length-append, length-take) (omega arith)

  -- up to the text's end
  pub written_take : take (at + length text) (written old at text) ≡ take at old ++ text
  unfolding written
  written_take = rw (← append_assoc) (take_at (take at old ++ text) (drop (at + length text) old) (at + length text) front)

  -- past the text's end
  pub written_drop : drop (at + length text) (written old at text) ≡ drop (at + length text) old
  unfolding written
  written_drop = rw (← append_assoc) (drop_at (take at old ++ text) (drop (at + length text) old) (at + length text) front)

-- one text behind another is one text
pub written_on : (old : List ℕ) (at : ℕ) (a b : List ℕ) → at + length (a ++ b) ≤ length old
    → written (written old at a) (at + length a) b ≡ written old at (a ++ b)
unfolding written
written_on old at a b h =
    let long = length-append a b in
    let n = at + length a in
    let same : n + length b ≡ at + length (a ++ b) = omega arith in
    let fits : at + length a ≤ length old = omega arith in
    let left = written_take old at a fits in
    let right : drop (n + length b) (written old at a) ≡ drop (at + length (a ++ b)) old =
    sym (drop-drop (length b) n (written old at a)) ∙ ap (drop (length b)) (written_drop old at a fits)
    ∙ drop-drop (length b) n old ∙ ap (λ k. drop k old) same in
    ap (λ xs. xs ++ (b ++ drop (n + length b) (written old at a))) left
    ∙ ap (λ xs. (take at old ++ a) ++ (b ++ xs)) right
    ∙ append_assoc (take at old) a (b ++ drop (at + length (a ++ b)) old)
    ∙ ap (λ xs. take at old ++ xs) (sym (append_assoc a b (drop (at + length (a ++ b)) old)))

-- no text changes nothing
pub written_none : (old : List ℕ) (at : ℕ) → written old at [] ≡ old
unfolding written
written_none old at = ap (λ n. take at old ++ drop n old) (add-zero at) ∙ take-append-drop at old
