-- What the program prints: a line for each line, from an empty table, 16 channels, 16 flows and the default wheel on.
use Rattle.std.specs.Prelude.{◌≡◌, List, [], ◌∷◌, ◌++◌, ℕ, ◌+◌, ◌≤◌, ◌<◌, length, take, drop, replicate, Result}
use Rattle.rules.specs.declared.Refusal.{Refusal}
use Rattle.rules.specs.declared.Totals.{Totals}
use Rattle.rules.specs.declared.Grant.{Grant}
use Rattle.rules.specs.declared.Wheel.{Wheel}
use Rattle.rules.specs.declared.Record.{Record}
use Rattle.rules.specs.Paths.{chip_of, trimmed}
use Rattle.rules.specs.Promises.{closed_record, Opens, Closes, Reports}
use Rattle.grammar.specs.Text.{lines}
use Rattle.grammar.specs.Answers.{open_text, close_text, report_text, bad_text, long_text}
use Rattle.grammar.specs.Commands.{opening, closing, reporting, Reads, Bad}

-- the default wheel: N 8, S 3, H 1, P 3
abbrev pub wheel : Wheel
wheel = record { n = 8; s = record { 0 = 3 }; h = record { 0 = 1 }; p = 3 }

-- table and list between two lines
pub record State : Type 0 where
  pub table : List ℕ
  pub list : List Record

-- the library's promises on 16 flows and the default wheel, from the state s to the state s'
abbrev pub OpensFrom : State → (f W D : ℕ) (channels : List ℕ) → State → Result Grant Refusal → Type 0
OpensFrom s f W D channels s' =
    Opens (chip_of wheel s.table) s.table 16 s.list (trimmed channels (length channels)) (length channels) f
    (record { words = record { 0 = W }; deadline = D }) s'.table s'.list

abbrev pub ClosesFrom : State → ℕ → State → Result ℕ Refusal → Type 0
ClosesFrom s f s' = Closes (chip_of wheel s.table) s.table 16 s.list f s'.table s'.list

abbrev pub ReportsFrom : State → Result Totals Refusal → Type 0
ReportsFrom s = Reports (chip_of wheel s.table) s.table 16 s.list

-- ---- one line

-- line k, and the text that it gets; s and s' are table and list before and after
pub data Step (s : State) (k : ℕ) (line : List ℕ) (s' : State) (text : List ℕ) : Type 0 where
  opens : (f W D : ℕ) (channels : List ℕ) (a : Result Grant Refusal) → Reads line (opening f W D channels) → OpensFrom s f W D channels s' a
      → text ≡ open_text f a → Step s k line s' text
  closes : (f : ℕ) (a : Result ℕ Refusal) → Reads line (closing f) → ClosesFrom s f s' a → text ≡ close_text f a → Step s k line s' text
  reports : (a : Result Totals Refusal) → Reads line reporting → ReportsFrom s a → s' ≡ s → text ≡ report_text a → Step s k line s' text
  bad : Bad line → s' ≡ s → text ≡ bad_text k → Step s k line s' text

-- ---- all lines

-- the lines from line k on; each gets its text and a line feed
pub data Prints : State → ℕ → List (List ℕ) → List ℕ → Type 0 where
  end : {s : State} {k : ℕ} → Prints s k [] []
  next : {s : State} {k : ℕ} {line : List ℕ} {rest : List (List ℕ)} {s' : State} {text out : List ℕ}
      → Step s k line s' text → Prints s' (k + 1) rest out → Prints s k (line ∷ rest) (text ++ (10 ∷ out))

-- "an empty table, 16 channels, 16 flows": all cells free, all records closed
unfoldable pub start : State
start = record { table = replicate 1024 0; list = replicate 16 closed_record }

-- "at most 4,096 bytes, otherwise it prints only `input too long`"
pub record Lists (input out : List ℕ) : Type 0 where
  pub printed : length input ≤ 4096 → Prints start 1 (lines input) out
  pub too_long : 4096 < length input → out ≡ long_text

-- what `list` leaves in a buffer: the listing at its start, if it has room for 65,536 bytes, and the bytes past it as before
pub record Writes (input old new : List ℕ) (r : ℕ) : Type 0 where
  pub short : length old < 65536 → (r ≡ 0) × (new ≡ old)
  pub lists : 65536 ≤ length old → Lists input (take r new)
  pub inside : r ≤ length new
  pub long : length new ≡ length old
  pub rest : drop r new ≡ drop r old
