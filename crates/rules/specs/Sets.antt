-- Sets of slots, and the ways in which the rules go through numbers.
-- A set is a number: slot s is in the set x if bit s of x is 1.
use Rattle.std.specs.Prelude.{◌≡◌, Bool, true, false, ◌&&◌, ◌||◌, cond, List, [], ◌∷◌, ℕ, zero, suc, ◌+◌, ◌*◌, ◌/◌, ◌%◌, ◌^◌, ◌<◌, max, eqb}

-- slot s is in the set x
unfoldable pub has : ℕ → ℕ → Bool
has x s = eqb (x / 2 ^ s % 2) 1

-- the slots of x are among those of free
pub record Within (free x : ℕ) : Type 0 where
  pub among : (s : ℕ) → has x s ≡ true → has free s ≡ true

-- every slot of x is below n
pub record Below (n x : ℕ) : Type 0 where
  pub below : (s : ℕ) → has x s ≡ true → s < n

-- the set of the places i, i + 1, .. at which f holds, m of them; f i decides bit 0
unfoldable pub set_of : (ℕ → Bool) → ℕ → ℕ → ℕ
set_of f i zero = 0
set_of f i (suc m) = cond (f i) 1 0 + 2 * set_of f (suc i) m

-- f holds at some place below m
unfoldable pub any : (ℕ → Bool) → ℕ → Bool
any f zero = false
any f (suc m) = any f m || f m

-- f holds at every place below m
unfoldable pub all : (ℕ → Bool) → ℕ → Bool
all f zero = true
all f (suc m) = all f m && f m

-- f i + f (i + 1) + .., m of them
unfoldable pub sum : (ℕ → ℕ) → ℕ → ℕ → ℕ
sum f i zero = 0
sum f i (suc m) = f i + sum f (suc i) m

-- the largest of f 0, .., f (m - 1); 0 where there is none
unfoldable pub most : (ℕ → ℕ) → ℕ → ℕ
most f zero = 0
most f (suc m) = max (most f m) (f m)

-- how many places from i on, one after the other and at most m, have f
unfoldable pub stretch : (ℕ → Bool) → ℕ → ℕ → ℕ
stretch f i zero = 0
stretch f i (suc m) = cond (f i) (suc (stretch f (suc i) m)) 0

-- the places i, i + 1, .., m of them, at which f holds
unfoldable pub places : (ℕ → Bool) → ℕ → ℕ → List ℕ
places f i zero = []
places f i (suc m) = cond (f i) (i ∷ places f (suc i) m) (places f (suc i) m)

-- the numbers f i, f (i + 1), .., m of them
unfoldable pub list_of : (ℕ → ℕ) → ℕ → ℕ → List ℕ
list_of f i zero = []
list_of f i (suc m) = f i ∷ list_of f (suc i) m
