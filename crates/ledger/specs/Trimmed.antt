-- A path is its first m entries: two paths that have these in common take as long, are seen alike and claim the same
-- cells. A trimmed path, with zeros in its unused entries, is one of them.
use Rattle.std.specs.Prelude.{◌≡◌, Bool, true, false, ◌&&◌, cond, List, ℕ, zero, suc, ◌+◌, ◌≤◌, ◌<◌, get_or, length, ltb}
use Rattle.std.proofs.Math.Path.{refl}
use Rattle.std.proofs.Common.{sym, ap, ◌∙◌, arith, add-suc, suc-add, add-zero, zero-add, ext_get_or, lt-ltb, le-ltb, ltb-true, ltb-false}
use Rattle.std.proofs.Math.Dec.{eqb}
use Rattle.rules.specs.Sets.{list_of}
use Rattle.rules.specs.Paths.{Chip, shift, travel, allowed, seen, reached, claims, Inside, Once, Rest, trimmed}
use Rattle.laws.specs.Counting.{list_length}
use Rattle.laws.specs.Search.{any_same}

-- ---- paths with the same first m entries

pub record Alike (path other : List ℕ) (m : ℕ) : Type 0 where
  pub at : (i : ℕ) → i < m → get_or path i 0 ≡ get_or other i 0

module _ (chip : Chip) {path other : List ℕ} (m : ℕ) (alike : Alike path other m) where
  pub shift_alike : (i : ℕ) → i < m → shift chip path i ≡ shift chip other i
  unfolding shift
  shift_alike i h = refl

  pub travel_alike : travel chip path m ≡ travel chip other m
  unfolding travel
  travel_alike = refl

  pub allowed_alike : (D : ℕ) → allowed chip path m D ≡ allowed chip other m D
  unfolding allowed
  allowed_alike D = rw travel_alike

  pub seen_alike : (i s : ℕ) → i < m → seen chip path i s ≡ seen chip other i s
  unfolding seen
  seen_alike i s h = rw (shift_alike i h)

  pub claims_alike : (x c j : ℕ) → claims chip path m x c j ≡ claims chip other m x c j
  unfolding claims reached
  claims_alike x c j =
      any_same _ _ m λ i h. rw (alike.at i h) (ap (λ b. eqb (get_or other i 0) c && b) (any_same _ _ chip.wheel.n λ s l. rw (seen_alike i s h)))

  pub inside_alike : Inside chip.channels path m → Inside chip.channels other m
  inside_alike inside = record { at = λ i h. omega (arith, alike.at i h, inside.at i h) }

  pub once_alike : Once path m → Once other m
  once_alike once = record { at = λ i k h l e. once.at i k h l (alike.at i (omega arith) ∙ e ∙ sym (alike.at k l)) }

-- ---- the trimmed path

list_at : (f : ℕ → ℕ) (m i d : ℕ) → d < m → get_or (list_of f i m) d 0 ≡ f (i + d)
unfolding list_of
list_at f zero i d h = absurd (omega arith)
list_at f (suc m) i zero h = ap f (sym (add-zero i))
list_at f (suc m) i (suc d) h = list_at f m (suc i) d (omega arith) ∙ ap f (suc-add i d ∙ sym (add-suc i d))

entry : (path : List ℕ) (m i : ℕ) → i < 16 → get_or (trimmed path m) i 0 ≡ cond (ltb i m) (get_or path i 0) 0
unfolding trimmed
entry path m i h = list_at _ 16 0 i h ∙ ap (λ k. cond (ltb k m) (get_or path k 0) 0) (zero-add i)

-- sixteen entries, those from m on zero, and the others those of the path
pub trimmed_is : (path p : List ℕ) (m : ℕ) → length p ≡ 16 → ((i : ℕ) → i < m → get_or p i 0 ≡ get_or path i 0) → Rest p m → p ≡ trimmed path m
unfolding trimmed
trimmed_is path p m long same rest =
    ext_get_or 0 p _ (long ∙ sym (list_length _ 16 0)) λ i h. go i (omega arith) (ltb i m) refl ∙ sym (entry path m i (omega arith))
  where
    go : (i : ℕ) → i < 16 → (b : Bool) → ltb i m ≡ b → get_or p i 0 ≡ cond (ltb i m) (get_or path i 0) 0
    go i h true e = same i (ltb-true i m e) ∙ sym (ap (λ b. cond b (get_or path i 0) 0) e)
    go i h false e = rest.at i (ltb-false i m e) h ∙ sym (ap (λ b. cond b (get_or path i 0) 0) e)

pub trimmed_alike : (path : List ℕ) (m : ℕ) → m ≤ 16 → Alike path (trimmed path m) m
trimmed_alike path m fits =
    record { at = λ i h. sym (entry path m i (omega arith) ∙ ap (λ b. cond b (get_or path i 0) 0) (lt-ltb i m h)) }

pub trimmed_rest : (path : List ℕ) (m : ℕ) → Rest (trimmed path m) m
trimmed_rest path m = record { at = λ i l h. entry path m i h ∙ ap (λ b. cond b (get_or path i 0) 0) (le-ltb i m l) }

pub trimmed_long : (path : List ℕ) (m : ℕ) → length (trimmed path m) ≡ 16
unfolding trimmed
trimmed_long path m = list_length _ 16 0
