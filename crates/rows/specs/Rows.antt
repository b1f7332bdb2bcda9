-- What is done with one row, which is seen without its path: k slots later, slot s of a path is slot (s + k) mod N of the
-- row's channel.
use Rattle.std.specs.Prelude.{◌≡◌, refl, Bool, true, false, cond, ◌&&◌, ◌||◌, List, ℕ, ◌+◌, ◌%◌, ◌≤◌, ◌<◌, set, length, get_or, eqb}
use Rattle.std.proofs.Common.{sym, ◌∙◌, mod-lt, get_or-set_same, get_or-set_other, eqb-true}
use Rattle.std.proofs.lemmas.Bool.{eqb-false}
use Rattle.rules.specs.Sets.{has, any}
use Rattle.laws.specs.Search.{any_more}

-- slot s, seen k slots later on a wheel of n slots
unfoldable pub later : ℕ → ℕ → ℕ → ℕ
later n k s = (s + k) % n

-- a slot of x below u is seen in cell j, k slots later
unfoldable pub hits : ℕ → ℕ → ℕ → ℕ → ℕ → Bool
hits n k x j u = any (λ s. has x s && eqb (later n k s) j) u

-- slot s is in x, and its cell in the row is free
unfoldable pub stays : List ℕ → ℕ → ℕ → ℕ → ℕ → Bool
stays row n k x s = has x s && eqb (get_or row (later n k s) 0) 0

-- `new` is the row `old` with v in the cells that x reaches
pub record RowStamped (n k x v : ℕ) (old new : List ℕ) : Type 0 where
  pub at : (j : ℕ) → j < 64 → get_or new j 0 ≡ cond (hits n k x j n) v (get_or old j 0)

-- every cell of the row that x reaches holds v
pub record RowHolds (n k x v : ℕ) (row : List ℕ) : Type 0 where
  pub at : (s : ℕ) → s < n → has x s ≡ true → get_or row (later n k s) 0 ≡ v

pub later_below : (n k s : ℕ) → 1 ≤ n → later n k s < n
unfolding later
later_below n k s n1 = mod-lt _ n1

-- ---- marking a row, slot by slot

module _ (n k x v : ℕ) (row : List ℕ) (s j old : ℕ) (marked : get_or row j 0 ≡ cond (hits n k x j s) v old) where
  pub mark_skip : has x s ≡ false → get_or row j 0 ≡ cond (hits n k x j (s + 1)) v old
  unfolding hits
  mark_skip e = rw (any_more, e) (go (any (λ s. has x s && eqb (later n k s) j) s) marked)
    where
      go : (b : Bool) → get_or row j 0 ≡ cond b v old → get_or row j 0 ≡ cond (b || false) v old
      go true m = m
      go false m = m

  pub mark_slot : (at : ℕ) → has x s ≡ true → at ≡ later n k s → at < length row → get_or (set row at v) j 0 ≡ cond (hits n k x j (s + 1)) v old
  unfolding hits
  mark_slot at e q l = rw (any_more, e, ← q) (go (any (λ s. has x s && eqb (later n k s) j) s) (eqb at j) refl marked)
    where
      here : at ≡ j → get_or (set row at v) j 0 ≡ v
      here i = rw (← i) (get_or-set_same row at v 0 l)

      go : (b d : Bool) → eqb at j ≡ d → get_or row j 0 ≡ cond b v old → get_or (set row at v) j 0 ≡ cond (b || d) v old
      go true true d m = here (eqb-true at j d)
      go false true d m = here (eqb-true at j d)
      go true false d m = get_or-set_other row at j v 0 (λ i. eqb-false at j d (sym i)) ∙ m
      go false false d m = get_or-set_other row at j v 0 (λ i. eqb-false at j d (sym i)) ∙ m
