-- A record's 64 bytes: 32 numbers of 16 bits, low byte first. Number 0 is the state (0 closed, 1 open), 1 the words, 2 the
-- deadline, 3 the path length, 4 to 19 the path, 20 to 23 the chosen slots, the lowest first; 24 to 31 are reserved.
use Rattle.std.specs.Prelude.{◌≡◌, Bool, ◌&&◌, cond, List, [], ◌∷◌, ℕ, zero, suc, ◌+◌, ◌-◌, ◌*◌, ◌/◌, ◌%◌, ◌^◌, ◌≤◌, ◌<◌, get_or, length, eqb, ltb}
use Rattle.rules.specs.declared.Demand.{Demand}
use Rattle.rules.specs.declared.State.{State}
use Rattle.rules.specs.declared.State.TheVariants.{Closed, Open}
use Rattle.rules.specs.declared.Record.{Record}
use Rattle.rules.specs.Sets.{all, list_of}

-- how many records the bytes are; 0, which no list has, if their number is no multiple of 64
unfoldable pub count_of : List ℕ → ℕ
count_of b = cond (eqb (length b % 64) 0) (length b / 64) 0

-- ---- reading

-- number j of the record that starts at byte `at`
unfoldable pub number_at : List ℕ → ℕ → ℕ → ℕ
number_at b at j = get_or b (at + 2 * j) 0 + 256 * get_or b (at + 2 * j + 1) 0

-- the record's numbers
abbrev pub numbers_at : List ℕ → ℕ → ℕ → ℕ
numbers_at b at = λ j. number_at b at j

-- the state is 0 with a demand of zeros, or 1
unfoldable pub known_state : (ℕ → ℕ) → Bool
known_state g = cond (eqb (g 0) 0) (eqb (g 1) 0 && eqb (g 2) 0) (eqb (g 0) 1)

-- reserved number j is 0
unfoldable pub is_zero : (ℕ → ℕ) → ℕ → Bool
is_zero g j = eqb (g (24 + j)) 0

-- the numbers are those of a record
unfoldable pub formed : (ℕ → ℕ) → Bool
formed g = known_state g && all (is_zero g) 8

abbrev pub asks : ℕ → ℕ → Demand
asks W D = record { words = record { 0 = W }; deadline = D }

-- the state; where the numbers are not those of a record, open with a demand of no words, which no list that agrees has
unfoldable pub state_from : (ℕ → ℕ) → State
state_from g = cond (formed g) (cond (eqb (g 0) 0) Closed (Open (asks (g 1) (g 2)))) (Open (asks 0 0))

unfoldable pub path_from : (ℕ → ℕ) → List ℕ
path_from g = list_of (λ i. g (4 + i)) 0 16

unfoldable pub slots_from : (ℕ → ℕ) → ℕ
slots_from g = g 20 + 65536 * (g 21 + 65536 * (g 22 + 65536 * g 23))

abbrev pub record_from : (ℕ → ℕ) → Record
record_from g = record { state = state_from g; path = record { entries = path_from g; len = g 3 }; slots = slots_from g }

-- the record that starts at byte `at`
unfoldable pub decoded : List ℕ → ℕ → Record
decoded b at = record_from (numbers_at b at)

-- the records i, i + 1, .., m of them
unfoldable pub records : List ℕ → ℕ → ℕ → List Record
records b i zero = []
records b i (suc m) = decoded b (64 * i) ∷ records b (suc i) m

-- the flow list that the bytes stand for
unfoldable pub list_in : List ℕ → List Record
list_in b = records b 0 (count_of b)

-- ---- writing

-- number j, 0 to 2, of a record in the state s
unfoldable pub state_number : State → ℕ → ℕ
state_number Closed j = 0
state_number (Open d) j = cond (eqb j 0) 1 (cond (eqb j 1) d.words.0 d.deadline)

-- number j, 0 to 3, of the chosen slots
unfoldable pub slots_number : ℕ → ℕ → ℕ
slots_number x j = x / 2 ^ (16 * j) % 65536

-- number j of the record r
unfoldable pub number_of : Record → ℕ → ℕ
number_of r j =
    cond (ltb j 3) (state_number r.state j)
    (cond (ltb j 4) r.path.len
    (cond (ltb j 20) (get_or r.path.entries (j - 4) 0)
    (cond (ltb j 24) (slots_number r.slots (j - 20)) 0)))

-- `new` is `old` with the record r in the 64 bytes from `at` on, and nothing else changed
pub record Written (old : List ℕ) (at : ℕ) (r : Record) (new : List ℕ) : Type 0 where
  pub long : length new ≡ length old
  pub low : (j : ℕ) → j < 32 → get_or new (at + 2 * j) 0 ≡ number_of r j % 256
  pub high : (j : ℕ) → j < 32 → get_or new (at + 2 * j + 1) 0 ≡ number_of r j / 256
  pub before : (k : ℕ) → k < at → get_or new k 0 ≡ get_or old k 0
  pub after : (k : ℕ) → at + 64 ≤ k → get_or new k 0 ≡ get_or old k 0
