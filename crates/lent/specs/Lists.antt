-- What is asked of a form of the list, that lists of records and lists of bytes are forms, and one record of a list at any index.
use Rattle.std.specs.Prelude.{◌≡◌, Bool, ◌&&◌, cond, List, ℕ, ◌+◌, ◌*◌, ◌≤◌, ◌<◌, length, set, ltb}
use Rattle.std.proofs.Common.{ap, ◌∙◌, arith, length-set}
use Rattle.rules.specs.declared.Record.{Record}
use Rattle.rules.specs.Flows.{flow}
use Rattle.bytes_list.specs.Layout.{count_of, list_in, Written}
use Rattle.bytes_list.specs.ReadBack.{count_room, count_same, list_written}

-- what a record of the list may be: it has the sixteen entries of its type, no more than these in use, and a set of 64 slots
pub record Fitting (r : Record) : Type 0 where
  pub len : r.path.len ≤ 16
  pub long : length r.path.entries ≡ 16
  pub slots : r.slots < 18446744073709551616

-- a record that was put is in its place, and the others are where they were
pub record Form {A : Type 0} (count : List A → ℕ) (records : List A → List Record) (Put : List A → ℕ → Record → List A → Type 0) : Type 0 where
  pub put : (l : List A) (i : ℕ) (r : Record) (m : List A) → i < count l → Fitting r → Put l i r m
      → (count m ≡ count l) × (records m ≡ set (records l) i r)

-- ---- lists of records

abbrev pub PutRecord : List Record → ℕ → Record → List Record → Type 0
PutRecord l i r m = m ≡ set l i r

pub record_form : Form length (λ l. l) PutRecord
record_form = record { put = λ l i r m h fits e. (ap length e ∙ length-set l i r, e) }

-- ---- lists of bytes, 64 for each record

abbrev pub PutBytes : List ℕ → ℕ → Record → List ℕ → Type 0
PutBytes b i r b' = Written b (64 * i) r b'

pub bytes_form : Form count_of list_in PutBytes
bytes_form = record { put = λ b i r b' h fits w. (count_same b b' w.long, list_written b i r b' w h fits.long fits.slots) }

-- there is room for each record
pub record_room : (b : List ℕ) (i : ℕ) → i < count_of b → 64 * i + 64 ≤ length b
record_room b i h = omega (arith, count_room b)

-- ---- any index

-- record i of n, or `otherwise` past the end
abbrev pub record_at : ℕ → List Record → ℕ → Record → Record
record_at n list i otherwise = cond (ltb i n) (flow list i) otherwise

-- r at place i if `go` says so and the list is that long
abbrev pub replaced_if : List Record → Bool → ℕ → Record → List Record
replaced_if list go i r = cond (go && ltb i (length list)) (set list i r) list
