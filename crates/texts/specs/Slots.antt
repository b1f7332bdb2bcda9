-- The slots of a set, printed one by one in rising order.
use Rattle.std.specs.Prelude.{◌≡◌, Bool, true, false, cond, List, [], ◌∷◌, ◌++◌, ℕ, zero, suc, ◌+◌, ◌≤◌, ◌<◌, length}
use Rattle.std.proofs.Common.{sym, ap, ◌∙◌, arith, append-nil, add-zero, zero-add, add-suc, add-one, length-append}
use Rattle.std.proofs.Math.Nat.{suc-add}
use Rattle.rules.specs.Sets.{places}
use Rattle.grammar.specs.Text.{field, fields}
use Rattle.grammar.specs.Spelling.{fields_append}
use Rattle.texts.specs.declared.Page.{Page}
use Rattle.texts.specs.Puts.{Room, Puts, puts_then, puts_length}

-- the places up to m, and m
module _ (f : ℕ → Bool) where
  places_last : (i m : ℕ) → places f i (suc m) ≡ places f i m ++ cond (f (i + m)) ((i + m) ∷ []) []
  unfolding places
  places_last i zero = rw (add-zero i)
  places_last i (suc m) =
      let same : suc i + m ≡ i + suc m = suc-add i m ∙ sym (add-suc i m) in
      let tail = places_last (suc i) m ∙ ap (λ j. places f (suc i) m ++ cond (f j) (j ∷ []) []) same in
      go (f i) (places f (suc i) (suc m)) (places f (suc i) m) (cond (f (i + suc m)) ((i + suc m) ∷ []) []) tail
    where
      go : (b : Bool) (xs ys zs : List ℕ) → xs ≡ ys ++ zs → cond b (i ∷ xs) xs ≡ cond b (i ∷ ys) ys ++ zs
      go true xs ys zs e = ap (λ l. i ∷ l) e
      go false xs ys zs e = e

  places_longer : (i m n : ℕ) → m ≤ n → length (fields (places f i m)) ≤ length (fields (places f i n))
  unfolding places fields
  places_longer i zero n h = omega arith
  places_longer i (suc m) zero h = absurd (omega arith)
  places_longer i (suc m) (suc n) h = go (f i) (places_longer (suc i) m n (omega arith))
    where
      go : (b : Bool) → length (fields (places f (suc i) m)) ≤ length (fields (places f (suc i) n))
          → length (fields (cond b (i ∷ places f (suc i) m) (places f (suc i) m))) ≤ length (fields (cond b (i ∷ places f (suc i) n) (places f (suc i) n)))
      go true l = simp length-append (omega arith)
      go false l = l

  next_yes : (s : ℕ) → f s ≡ true → fields (places f 0 (s + 1)) ≡ fields (places f 0 s) ++ field s
  unfolding fields
  next_yes s e =
      ap (λ m. fields (places f 0 m)) (add-one s) ∙ ap fields (places_last 0 s) ∙ rw (zero-add s, e) (fields_append (places f 0 s) (s ∷ []))
      ∙ ap (λ xs. fields (places f 0 s) ++ xs) (append-nil (field s))

  next_no : (s : ℕ) → f s ≡ false → fields (places f 0 (s + 1)) ≡ fields (places f 0 s)
  next_no s e = ap (λ m. fields (places f 0 m)) (add-one s) ∙ ap fields (places_last 0 s) ∙ rw (zero-add s, e) (ap fields (append-nil (places f 0 s)))

  -- room for all is room for the next
  pub slot_room : (s : ℕ) → f s ≡ true → s < 64 → length (fields (places f 0 s)) + length (field s) ≤ length (fields (places f 0 64))
  slot_room s e h =
      omega (arith, places_longer 0 (s + 1) 64 (omega arith), ap length (next_yes s e), length-append (fields (places f 0 s)) (field s))

  pub slot_yes : {old mid new : Page} (s : ℕ) → Puts old (fields (places f 0 s)) mid → f s ≡ true → s < 64
      → Room old (fields (places f 0 64)) → Puts mid (field s) new → Puts old (fields (places f 0 (s + 1))) new
  slot_yes s r e h room put =
      rw (next_yes s e)
      (puts_then (fields (places f 0 s)) (field s) r put (omega (arith, slot_room s e h, length-append (fields (places f 0 s)) (field s))))

  pub slot_no : {old mid : Page} (s : ℕ) → Puts old (fields (places f 0 s)) mid → f s ≡ false → Puts old (fields (places f 0 (s + 1))) mid
  slot_no s r e = rw (next_no s e) r

  -- the buffer keeps its length while there is room for all
  pub slots_length : {old mid : Page} (s : ℕ) → s ≤ 64 → Room old (fields (places f 0 64)) → Puts old (fields (places f 0 s)) mid
      → length mid.out.now ≡ length old.out.now
  slots_length s h room r = puts_length (fields (places f 0 s)) r (omega (arith, places_longer 0 s 64 h))
