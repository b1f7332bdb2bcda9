-- A list of flags read in a line, without the wheel: how many are set, and the words of their runs,
-- where a slot's phase is its place in the header period. A list with more flags set delivers no
-- fewer words: it is never more than one header behind, and not at all while it pays its next later.
use Rattle.std.specs.Prelude.{◌≡◌, refl, Bool, cond, List, [], ◌∷◌, ◌⊎◌}
use Rattle.std.proofs.Common.{ap, ◌∙◌, mod-eq_of_lt, eq-or-lt_of_le}
use Rattle.std.proofs.Math.Bool.{true, false}
use Rattle.std.proofs.Math.Logic.{inl, inr}
use Prim.Native.Nat.{ℕ, zero, suc, ◌+◌, ◌-◌, ◌%◌, ◌≤◌, ◌<◌}
use native.Mathlib.Omega.{arith}
use Rattle.std.proofs.Math.Nat.{mod-lt, mod_self}
use Rattle.rules.specs.Sets.{sum}
use Rattle.laws.specs.Logic.{not_both}

-- the flags f i, f (i + 1), .., m of them
unfoldable pub flags : (ℕ → Bool) → ℕ → ℕ → List Bool
flags f i zero = []
flags f i (suc m) = f i ∷ flags f (suc i) m

-- how many are set
unfoldable pub count : List Bool → ℕ
count [] = 0
count (true ∷ xs) = suc (count xs)
count (false ∷ xs) = count xs

pub count_flags : (f : ℕ → Bool) (i m : ℕ) → count (flags f i m) ≡ sum (λ j. cond (f j) 1 0) i m
unfolding flags sum count
count_flags f i zero = refl
count_flags f i (suc m) = go (f i) (count_flags f (suc i) m)
  where
    go : (b : Bool) → count (flags f (suc i) m) ≡ sum (λ j. cond (f j) 1 0) (suc i) m
        → count (b ∷ flags f (suc i) m) ≡ cond b 1 0 + sum (λ j. cond (f j) 1 0) (suc i) m
    go true e = omega arith
    go false e = omega arith

-- the words of a slot at phase r of its run: at phase 0 the header is paid
unfoldable pub gain : ℕ → ℕ → ℕ → ℕ
gain S H zero = S - H
gain S H (suc r) = S

-- the phase after phase r
unfoldable pub next : ℕ → ℕ → ℕ
next P r = suc r % P

-- the words of the flags, the first at phase r; a flag that is not set ends the run
unfoldable pub line_words : ℕ → ℕ → ℕ → ℕ → List Bool → ℕ
line_words S H P r [] = 0
line_words S H P r (true ∷ xs) = gain S H r + line_words S H P (next P r) xs
line_words S H P r (false ∷ xs) = line_words S H P 0 xs

-- ---- more flags

-- what is set in the first list is set in the second
pub data Sub : List Bool → List Bool → Type 0 where
  none : Sub [] []
  both : {xs fs : List Bool} → Sub xs fs → Sub (true ∷ xs) (true ∷ fs)
  off : {f : Bool} {xs fs : List Bool} → Sub xs fs → Sub (false ∷ xs) (f ∷ fs)

pub sub_flags : (f g : ℕ → Bool) → ((i : ℕ) → f i ≡ true → g i ≡ true) → (i m : ℕ) → Sub (flags f i m) (flags g i m)
unfolding flags
sub_flags f g e i zero = none
sub_flags f g e i (suc m) = go (f i) (g i) (e i) (sub_flags f g e (suc i) m)
  where
    go : (a b : Bool) → (a ≡ true → b ≡ true) → Sub (flags f (suc i) m) (flags g (suc i) m)
        → Sub (a ∷ flags f (suc i) m) (b ∷ flags g (suc i) m)
    go true true e s = both s
    go true false e s = absurd (not_both (e refl) refl)
    go false b e s = off s

-- the next phase: one more, or 0 at the period's end
pub next_case : (P r : ℕ) → r < P → ((suc r ≡ P) × (next P r ≡ 0)) ⊎ ((suc r < P) × (next P r ≡ suc r))
unfolding next
next_case P r h = go (eq-or-lt_of_le h)
  where
    go : (suc r ≡ P) ⊎ (suc r < P) → ((suc r ≡ P) × (suc r % P ≡ 0)) ⊎ ((suc r < P) × (suc r % P ≡ suc r))
    go (inl e) = inl (e, ap (λ n. n % P) e ∙ mod_self P)
    go (inr l) = inr (l, mod-eq_of_lt l)

-- of a run at phase r and one at phase q, the first pays its next header no sooner
Later : ℕ → ℕ → Type 0
Later r q = (q ≡ 0) ⊎ ((0 < r) × (r ≤ q))

-- the flags xs at phase q deliver at most a header more than fs at phase r, and no more where fs pays later
record Less (S H P r q : ℕ) (fs xs : List Bool) : Type 0 where
  always : line_words S H P q xs ≤ line_words S H P r fs + H
  later : Later r q → line_words S H P q xs ≤ line_words S H P r fs

module _ (S H P : ℕ) (p1 : 1 ≤ P) (hs : H ≤ S) where
  next_below : (r : ℕ) → next P r < P
  unfolding next
  next_below r = mod-lt (suc r) p1

  later_next : (r q : ℕ) → r < P → q < P → r ≤ q → Later (next P r) (next P q)
  unfolding Later
  later_next r q h k l = go (next_case P r h) (next_case P q k)
    where
      go : ((suc r ≡ P) × (next P r ≡ 0)) ⊎ ((suc r < P) × (next P r ≡ suc r))
          → ((suc q ≡ P) × (next P q ≡ 0)) ⊎ ((suc q < P) × (next P q ≡ suc q))
          → (next P q ≡ 0) ⊎ ((0 < next P r) × (next P r ≤ next P q))
      go a (inl b) = inl b.1
      go (inl a) (inr b) = absurd (omega arith)
      go (inr a) (inr b) = inr (omega arith, omega arith)

  less_both : (r q : ℕ) (xs fs : List Bool) → r < P → q < P → Less S H P (next P r) (next P q) fs xs → Less S H P r q (true ∷ fs) (true ∷ xs)
  unfolding line_words gain Later
  less_both zero zero xs fs h k i =
      let a = i.later (later_next 0 0 h k (omega arith)) in
      record { always = omega arith; later = λ b. omega arith }
  less_both (suc r) zero xs fs h k i = record { always = omega (arith, i.always); later = λ b. omega (arith, i.always) }
  less_both zero (suc q) xs fs h k i =
      let a = i.later (later_next 0 (suc q) h k (omega arith)) in
      record { always = omega arith; later = λ b. absurd (never b) }
    where
      never : (suc q ≡ 0) ⊎ ((0 < 0) × (0 ≤ suc q)) → ⊥
      never (inl e) = omega arith
      never (inr e) = omega arith
  less_both (suc r) (suc q) xs fs h k i = record { always = omega (arith, i.always); later = λ b. go b }
    where
      go : (suc q ≡ 0) ⊎ ((0 < suc r) × (suc r ≤ suc q)) → S + line_words S H P (next P (suc q)) xs ≤ S + line_words S H P (next P (suc r)) fs
      go (inl e) = absurd (omega arith)
      go (inr e) = omega (arith, i.later (later_next (suc r) (suc q) h k e.1))

  less_off : (r q : ℕ) (f : Bool) (xs fs : List Bool) → line_words S H P 0 xs ≤ line_words S H P (next P r) fs
      → line_words S H P 0 xs ≤ line_words S H P 0 fs
      → Less S H P r q (f ∷ fs) (false ∷ xs)
  unfolding line_words
  less_off r q true xs fs a b = record { always = omega arith; later = λ c. omega arith }
  less_off r q false xs fs a b = record { always = omega arith; later = λ c. b }

  less : {xs fs : List Bool} (r q : ℕ) → r < P → q < P → Sub xs fs → Less S H P r q fs xs
  unfolding line_words Later
  less r q h k none = record { always = omega arith; later = λ a. omega arith }
  less r q h k (both {xs = xs} {fs = fs} s) = less_both r q xs fs h k (less (next P r) (next P q) (next_below r) (next_below q) s)
  less r q h k (off {f = f} {xs = xs} {fs = fs} s) =
      less_off r q f xs fs ((less (next P r) 0 (next_below r) p1 s).later (inl refl)) ((less 0 0 p1 p1 s).later (inl refl))

  pub words_mono : {xs fs : List Bool} → Sub xs fs → line_words S H P 0 xs ≤ line_words S H P 0 fs
  unfolding Later
  words_mono s = (less 0 0 p1 p1 s).later (inl refl)
