-- Marking and clearing. A table is its cells, so that what is said of every cell settles the table: marking is a
-- function, clearing after marking gives the table back, and unclaimed cells stay. A row that was lent and has come
-- back changes its own 64 cells only; row by row, that is the marking of a path.
use Rattle.std.specs.Prelude.{◌≡◌, Bool, ◌&&◌, ◌||◌, List, ◌++◌, ◌⊎◌, ℕ, ◌+◌, ◌-◌, ◌*◌, ◌/◌, ◌%◌, ◌≤◌, ◌<◌, get_or, length, take, drop}
use Rattle.std.proofs.Math.Path.{refl}
use Rattle.std.proofs.Common.{sym, ap, ◌∙◌, inl, inr, arith, length-take, length-drop, length-append, get_or-take, get_or-drop, ext_get_or, get_or-append-add, eqb-true}
use Rattle.std.proofs.Math.Bool.{true, false, cond}
use Rattle.std.proofs.Math.ListN.{get_or-append}
use Rattle.std.proofs.Math.Dec.{eqb}
use Rattle.std.proofs.lemmas.Bool.{eqb-false}
use Rattle.rules.specs.Sets.{any}
use Rattle.rules.specs.Paths.{Chip, cell, reached, claims, Stamped}
use Rattle.laws.specs.Logic.{le_or_lt}
use Rattle.laws.specs.Search.{any_more}

-- ---- a table is its cells

pub same_table : (C : ℕ) (t u : List ℕ) → length t ≡ 64 * C → length u ≡ 64 * C
    → ((c j : ℕ) → c < C → j < 64 → cell t c j ≡ cell u c j) → t ≡ u
unfolding cell
same_table C t u p q same =
    ext_get_or 0 t u (p ∙ sym q)
    (λ i h. let e : i ≡ 64 * (i / 64) + i % 64 = omega arith in
    ap (λ n. get_or t n 0) e ∙ same (i / 64) (i % 64) (omega arith) (omega arith) ∙ ap (λ n. get_or u n 0) (sym e))

module _ (chip : Chip) (path : List ℕ) (m x : ℕ) where
  pub stamped_unique : (C v : ℕ) (t u w : List ℕ) → length t ≡ 64 * C → Stamped chip path m x v t u → Stamped chip path m x v t w → u ≡ w
  stamped_unique C v t u w long a b =
      same_table C u w (a.long ∙ long) (b.long ∙ long) (λ c j h k. a.at c j (omega arith) k ∙ sym (b.at c j (omega arith) k))

  -- clearing after marking gives the table back, if the cells were 0
  pub undone : (C v : ℕ) (t u w : List ℕ) → length t ≡ 64 * C
      → ((c j : ℕ) → c < C → j < 64 → claims chip path m x c j ≡ true → cell t c j ≡ 0)
      → Stamped chip path m x v t u → Stamped chip path m x 0 u w → w ≡ t
  undone C v t u w long free a b =
      same_table C w t (b.long ∙ a.long ∙ long) long
      (λ c j h k. go (claims chip path m x c j) (free c j h k) (a.at c j (omega arith) k) (b.at c j (omega (arith, a.long)) k))
    where
      go : {o p r : ℕ} (q : Bool) → (q ≡ true → o ≡ 0) → p ≡ cond q v o → r ≡ cond q 0 p → r ≡ o
      go true f g h = h ∙ sym (f refl)
      go false f g h = h ∙ g

  -- other cells stay
  pub untouched : (v : ℕ) (t u : List ℕ) → Stamped chip path m x v t u → (c j : ℕ) → 64 * c + 64 ≤ length t → j < 64
      → claims chip path m x c j ≡ false → cell u c j ≡ cell t c j
  untouched v t u a c j h k e = a.at c j h k ∙ ap (λ b. cond b v (cell t c j)) e

-- ---- a part that was lent and has come back: ys in the place of the k elements from a on

abbrev pub returned : ℕ → ℕ → List ℕ → List ℕ → List ℕ
returned a k xs ys = take a xs ++ (ys ++ drop k (drop a xs))

module _ (a k : ℕ) (xs ys : List ℕ) (long : length ys ≡ k) (fits : a + k ≤ length xs) where
  front : length (take a xs) ≡ a
  front = simp length-take (omega arith)

  pub returned_length : length (returned a k xs ys) ≡ length xs
  returned_length = simp (length-append, length-take, length-drop) (omega arith)

  returned_below : (i : ℕ) → i < a → get_or (returned a k xs ys) i 0 ≡ get_or xs i 0
  returned_below i h = get_or-append (take a xs) (ys ++ drop k (drop a xs)) 0 i (omega (arith, front)) ∙ get_or-take a xs i 0 h

  returned_in : (i : ℕ) → i < k → get_or (returned a k xs ys) (a + i) 0 ≡ get_or ys i 0
  returned_in i h =
      let e : a + i ≡ length (take a xs) + i = omega (arith, front) in
      rw e (get_or-append-add (take a xs) (ys ++ drop k (drop a xs)) i 0 ∙ get_or-append ys (drop k (drop a xs)) 0 i (omega arith))

  returned_above : (i : ℕ) → a + k ≤ i → get_or (returned a k xs ys) i 0 ≡ get_or xs i 0
  returned_above i h =
      let e : i ≡ length (take a xs) + (length ys + (i - (a + k))) = omega (arith, front) in
      let f : a + (k + (i - (a + k))) ≡ i = omega arith in
      ap (λ n. get_or (returned a k xs ys) n 0) e
      ∙ get_or-append-add (take a xs) (ys ++ drop k (drop a xs)) (length ys + (i - (a + k))) 0
      ∙ get_or-append-add ys (drop k (drop a xs)) (i - (a + k)) 0
      ∙ get_or-drop k (drop a xs) (i - (a + k)) 0
      ∙ get_or-drop a xs (k + (i - (a + k))) 0
      ∙ ap (λ n. get_or xs n 0) f

-- a cell of a row that is lent
pub lent_cell : (t : List ℕ) (a k c j : ℕ) → a ≡ 64 * c → j < k → get_or (take k (drop a t)) j 0 ≡ cell t c j
unfolding cell
lent_cell t a k c j e h = get_or-take k (drop a t) j 0 h ∙ get_or-drop a t j 0 ∙ ap (λ n. get_or t (n + j) 0) e

-- a cell after the row of channel b has come back
pub returned_cell : (a b k : ℕ) (xs ys : List ℕ) → a ≡ 64 * b → k ≡ 64 → length ys ≡ 64 → 64 * b + 64 ≤ length xs
    → (c j : ℕ) → j < 64 → cell (returned a k xs ys) c j ≡ cond (eqb b c) (get_or ys j 0) (cell xs c j)
unfolding cell
returned_cell a b k xs ys p q long fits c j h = go (eqb b c) refl (le_or_lt a (64 * c))
  where
    go : (e : Bool) → eqb b c ≡ e → (a ≤ 64 * c) ⊎ (64 * c < a)
        → get_or (returned a k xs ys) (64 * c + j) 0 ≡ cond e (get_or ys j 0) (get_or xs (64 * c + j) 0)
    go true e l =
        let s : b ≡ c = eqb-true _ _ e in
        let i : 64 * c + j ≡ a + j = omega arith in
        rw i (returned_in a k xs ys (omega arith) (omega arith) j (omega arith))
    go false e (inr l) = returned_below a k xs ys (omega arith) (omega arith) (64 * c + j) (omega arith)
    go false e (inl l) =
        let other : b ≡ c → ⊥ = eqb-false _ _ e in
        returned_above a k xs ys (omega arith) (omega arith) (64 * c + j) (omega arith)

-- ---- marking, a position of the path at a time

module _ (chip : Chip) (path : List ℕ) (x v : ℕ) (t₀ t : List ℕ) (i : ℕ) where
  -- one cell: y is what the row of position i has there now
  stamp_cell : (c j y new : ℕ) → cell t c j ≡ cond (claims chip path i x c j) v (cell t₀ c j)
      → y ≡ cond (reached chip path x i j chip.wheel.n) v (cell t (get_or path i 0) j)
      → new ≡ cond (eqb (get_or path i 0) c) y (cell t c j)
      → new ≡ cond (claims chip path (i + 1) x c j) v (cell t₀ c j)
  unfolding claims
  stamp_cell c j y new h g f =
      rw any_more (f ∙ go (any (λ i. eqb (get_or path i 0) c && reached chip path x i j chip.wheel.n) i)
      (eqb (get_or path i 0) c) (reached chip path x i j chip.wheel.n) refl h g)
    where
      both : (b r : Bool) → cell t c j ≡ cond b v (cell t₀ c j) → y ≡ cond r v (cell t c j) → y ≡ cond (b || r) v (cell t₀ c j)
      both true true h g = g
      both true false h g = g ∙ h
      both false true h g = g
      both false false h g = g ∙ h

      go : (b e r : Bool) → eqb (get_or path i 0) c ≡ e → cell t c j ≡ cond b v (cell t₀ c j) → y ≡ cond r v (cell t (get_or path i 0) j)
          → cond e y (cell t c j) ≡ cond (b || (e && r)) v (cell t₀ c j)
      go true false r q h g = h
      go false false r q h g = h
      go b true r q h g = both b r h (g ∙ ap (λ n. cond r v (cell t n j)) (eqb-true (get_or path i 0) c q))

  -- a turn of the marking: the row of position i has come back as ys
  pub stamp_turn : (ys : List ℕ) (a k : ℕ) → Stamped chip path i x v t₀ t
      → a ≡ 64 * get_or path i 0 → k ≡ 64 → 64 * get_or path i 0 + 64 ≤ length t → length ys ≡ 64
      → ((j : ℕ) → j < 64 → get_or ys j 0 ≡ cond (reached chip path x i j chip.wheel.n) v (get_or (take k (drop a t)) j 0))
      → Stamped chip path (i + 1) x v t₀ (returned a k t ys)
  stamp_turn ys a k st p q room long f =
      record {
        long = returned_length a k t ys (omega arith) (omega arith) ∙ st.long;
        at = λ c j b h. stamp_cell c j (get_or ys j 0) (cell (returned a k t ys) c j) (st.at c j b h)
            (f j h ∙ ap (λ y. cond (reached chip path x i j chip.wheel.n) v y) (lent_cell t a k (get_or path i 0) j p (omega arith)))
            (returned_cell a (get_or path i 0) k t ys p q long room c j h);
      }

-- nothing is marked before the first position
pub stamp_none : (chip : Chip) (path : List ℕ) (x v : ℕ) (t : List ℕ) → Stamped chip path 0 x v t t
unfolding claims any
stamp_none chip path x v t = record { long = refl; at = λ c j h k. refl }
