-- A flow on its path: rules 1, 4 and 7, and what a granted opening or a closing writes.
-- A path is sixteen channel numbers and a length m; entries from m on are ignored.
use Rattle.std.specs.Prelude.{◌≡◌, Bool, ◌&&◌, cond, List, ℕ, ◌+◌, ◌-◌, ◌*◌, ◌/◌, ◌%◌, ◌≤◌, ◌<◌, get_or, length, eqb, ltb}
use Rattle.rules.specs.declared.Wheel.{Wheel}
use Rattle.rules.specs.declared.Chip as declared
use Rattle.rules.specs.Sets.{has, any, all, set_of, list_of}

-- what the chip is
abbrev pub Chip : Type 0
Chip = declared.Chip

-- the chip that a wheel and a table of 64 bytes for each channel are of
abbrev pub chip_of : Wheel → List ℕ → Chip
chip_of w t = record { wheel = w; channels = length t / 64 }

-- the path with zeros in its unused entries
unfoldable pub trimmed : List ℕ → ℕ → List ℕ
trimmed path m = list_of (λ i. cond (ltb i m) (get_or path i 0) 0) 0 16

-- "the table has 64 bytes for each of C channels, channel c starting at byte 64 × c": cell j of channel c
unfoldable pub cell : List ℕ → ℕ → ℕ → ℕ
cell t c j = get_or t (64 * c + j) 0

-- how many slots later a flow is at position i of its path
unfoldable pub shift : Chip → List ℕ → ℕ → ℕ
shift chip path i = i

-- rule 4: how many slots a path of m channels takes
unfoldable pub travel : Chip → List ℕ → ℕ → ℕ
travel chip path m = m

-- rule 4: the largest allowed gap of a path with deadline D
unfoldable pub allowed : Chip → List ℕ → ℕ → ℕ → ℕ
allowed chip path m D = D - travel chip path m

-- slot s of the path, as the channel at position i counts it: (s + i) mod N
unfoldable pub seen : Chip → List ℕ → ℕ → ℕ → ℕ
seen chip path i s = (s + shift chip path i) % chip.wheel.n

-- a flow may take cell j of channel c
unfoldable pub usable : Chip → List ℕ → ℕ → ℕ → Bool
usable chip t c j = eqb (cell t c j) 0

-- rule 1: "slot s of a path is free if, for each position i, cell (s + i) mod N of channel i of the path is 0"
unfoldable pub free : Chip → List ℕ → List ℕ → ℕ → ℕ → Bool
free chip t path m s = all (λ i. usable chip t (get_or path i 0) (seen chip path i s)) m

-- the set of the path's free slots
unfoldable pub free_slots : Chip → List ℕ → List ℕ → ℕ → ℕ
free_slots chip t path m = set_of (free chip t path m) 0 chip.wheel.n

-- a chosen slot below u is seen in cell j at position i
unfoldable pub reached : Chip → List ℕ → ℕ → ℕ → ℕ → ℕ → Bool
reached chip path x i j u = any (λ s. has x s && eqb (seen chip path i s) j) u

-- rule 7: "claims, at position i of its path, cell (s + i) mod N for each chosen s": cell j of channel c is claimed
unfoldable pub claims : Chip → List ℕ → ℕ → ℕ → ℕ → ℕ → Bool
claims chip path m x c j = any (λ i. eqb (get_or path i 0) c && reached chip path x i j chip.wheel.n) m

-- `new` is the table `old` with v in the claimed cells and nothing else changed
pub record Stamped (chip : Chip) (path : List ℕ) (m x v : ℕ) (old new : List ℕ) : Type 0 where
  pub long : length new ≡ length old
  pub at : (c j : ℕ) → 64 * c + 64 ≤ length old → j < 64 → cell new c j ≡ cond (claims chip path m x c j) v (cell old c j)

-- every entry is a channel of the chip
pub record Inside (channels : ℕ) (path : List ℕ) (m : ℕ) : Type 0 where
  pub at : (i : ℕ) → i < m → get_or path i 0 < channels

-- no channel stands twice
pub record Once (path : List ℕ) (m : ℕ) : Type 0 where
  pub at : (i k : ℕ) → i < k → k < m → get_or path i 0 ≡ get_or path k 0 → ⊥

-- the entries from m on are zero
pub record Rest (path : List ℕ) (m : ℕ) : Type 0 where
  pub at : (i : ℕ) → m ≤ i → i < 16 → get_or path i 0 ≡ 0
