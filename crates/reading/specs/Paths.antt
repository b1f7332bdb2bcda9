-- The path of an opening: its channels, and zeros behind them.
use Rattle.std.specs.Prelude.{◌≡◌, cond, List, ◌++◌, ◌⊎◌, ℕ, ◌+◌, ◌-◌, ◌≤◌, ◌<◌, ltb, length, get_or, take, drop, replicate}
use Rattle.std.proofs.Common.{sym, ap, ◌∙◌, inl, inr, arith, zero-add, lt-ltb, le-ltb, ext_get_or, length-append, length-drop, get_or-drop, get_or-take}
use Rattle.std.proofs.lemmas.List.{get_or-replicate}
use Rattle.std.proofs.Math.ListN.{get_or-append}
use Rattle.std.proofs.Math.Seq.{get_or-append_right}
use Rattle.rules.specs.Paths.{trimmed}
use Rattle.laws.specs.Logic.{le_or_lt}
use Rattle.laws.specs.Counting.{list_length}
use Rattle.grammar.specs.Filling.{list_of_at}

-- entry k of a path of m channels
trimmed_at : (path : List ℕ) (m k : ℕ) → k < 16 → get_or (trimmed path m) k 0 ≡ cond (ltb k m) (get_or path k 0) 0
unfolding trimmed
trimmed_at path m k h = list_of_at (λ i. cond (ltb i m) (get_or path i 0) 0) 0 16 k h ∙ rw (zero-add k)

trimmed_long : (path : List ℕ) (m : ℕ) → length (trimmed path m) ≡ 16
unfolding trimmed
trimmed_long path m = list_length (λ i. cond (ltb i m) (get_or path i 0) 0) 16 0

-- sixteen zeros
abbrev zeros : List ℕ
zeros = replicate 16 0

pub filled : (channels : List ℕ) → length channels ≤ 16 → channels ++ drop (length channels) zeros ≡ trimmed channels (length channels)
filled channels small =
    let n = length channels in
    let long : length (channels ++ drop n zeros) ≡ 16 = length-append channels (drop n zeros) ∙ omega (arith, length-drop n zeros) in
    ext_get_or 0 (channels ++ drop n zeros) (trimmed channels n) (long ∙ sym (trimmed_long channels n))
    λ k h. go k (omega arith) (le_or_lt n k)
  where
    go : (k : ℕ) → k < 16 → (length channels ≤ k) ⊎ (k < length channels)
        → get_or (channels ++ drop (length channels) zeros) k 0 ≡ get_or (trimmed channels (length channels)) k 0
    go k h (inl l) =
        let n = length channels in
        let whole : n + (k - n) ≡ k = omega arith in
        get_or-append_right channels (drop n zeros) k 0 l ∙ get_or-drop n zeros (k - n) 0
        ∙ ap (λ j. get_or zeros j 0) whole ∙ get_or-replicate 16 k 0 0 h
        ∙ sym (trimmed_at channels n k h ∙ rw (le-ltb k n l))
    go k h (inr l) =
        get_or-append channels (drop (length channels) zeros) 0 k l
        ∙ sym (trimmed_at channels (length channels) k h ∙ rw (lt-ltb k (length channels) l))

-- entries from m on do not matter
pub trimmed_take : (path : List ℕ) (m : ℕ) → trimmed path m ≡ trimmed (take m path) m
trimmed_take path m =
    ext_get_or 0 (trimmed path m) (trimmed (take m path) m) (trimmed_long path m ∙ sym (trimmed_long (take m path) m))
    λ k h. go k (omega (arith, trimmed_long path m)) (le_or_lt m k)
  where
    go : (k : ℕ) → k < 16 → (m ≤ k) ⊎ (k < m) → get_or (trimmed path m) k 0 ≡ get_or (trimmed (take m path) m) k 0
    go k h (inl l) = trimmed_at path m k h ∙ rw (le-ltb k m l) (sym (trimmed_at (take m path) m k h ∙ rw (le-ltb k m l)))
    go k h (inr l) =
        trimmed_at path m k h
        ∙ rw (lt-ltb k m l) (sym (trimmed_at (take m path) m k h ∙ rw (lt-ltb k m l) (get_or-take m path k 0 l)))
