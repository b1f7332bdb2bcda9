-- Text as bytes: lines, decimal numbers, and the words that the listing reads and prints.
use Rattle.std.specs.Prelude.{cond, List, [], ◌∷◌, ◌++◌, ℕ, zero, suc, ◌+◌, ◌/◌, ◌%◌, eqb, ltb}
use Prim.Native.Char.{code}
use Prim.Native.String.{String, len, char_at}
use Rattle.rules.specs.Sets.{list_of}

-- a byte more at the front of the first line
unfoldable pub on_first : ℕ → List (List ℕ) → List (List ℕ)
on_first c [] = (c ∷ []) ∷ []
on_first c (l ∷ ls) = (c ∷ l) ∷ ls

-- "lines end with a line feed, which the last may lack"; no text has no line
unfoldable pub lines : List ℕ → List (List ℕ)
lines [] = []
lines (c ∷ cs) = cond (eqb c 10) ([] ∷ lines cs) (on_first c (lines cs))

-- the decimal digits of n, with no zero in front; n has at most `fuel` of them
unfoldable pub digits : ℕ → ℕ → List ℕ
digits zero n = []
digits (suc fuel) n = cond (ltb n 10) ((48 + n) ∷ []) (digits fuel (n / 10) ++ ((48 + n % 10) ∷ []))

unfoldable pub decimal : ℕ → List ℕ
decimal n = digits 20 n

-- a space and a number
unfoldable pub field : ℕ → List ℕ
field n = 32 ∷ decimal n

-- numbers, a space before each
unfoldable pub fields : List ℕ → List ℕ
fields [] = []
fields (n ∷ ns) = field n ++ fields ns

-- a text of ASCII characters as bytes
unfoldable pub ascii : String → List ℕ
ascii s = list_of (λ i. code (char_at s i)) 0 (len s)
