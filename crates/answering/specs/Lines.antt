-- What the functions of the listing promise, from a line to the whole.
use Rattle.std.specs.Prelude.{◌≡◌, refl, List, [], ◌∷◌, ◌++◌, ℕ, ◌+◌, ◌*◌, ◌≤◌, ◌<◌, max, length, Result}
use Rattle.std.proofs.Common.{subst, arith, length-append}
use Rattle.rules.specs.declared.Demand.{Demand}
use Rattle.rules.specs.declared.Grant.{Grant}
use Rattle.rules.specs.declared.Path.{Path}
use Rattle.rules.specs.declared.Refusal.{Refusal}
use Rattle.rules.specs.declared.Totals.{Totals}
use Rattle.rules.specs.Paths.{chip_of}
use Rattle.rules.specs.Promises.{Opens, Closes, Reports}
use Rattle.bytes_list.specs.Layout.{count_of, list_in}
use Rattle.bytes_calls.specs.OverBytes.{OpensBytes, ClosesBytes}
use Rattle.grammar.specs.Answers.{open_text, close_text, report_text, bad_text}
use Rattle.grammar.specs.Commands.{opening, closing, reporting, Reads, Bad}
use Rattle.reading.specs.Told.{Opening}
use Rattle.texts.specs.declared.Page.{Page}
use Rattle.texts.specs.Puts.{Puts, puts_then}
use Rattle.grammar.specs.Listing.{wheel, State, ClosesFrom, ReportsFrom, Step, opens, closes, reports, bad}
use Rattle.grammar.specs.Short.{open_short, close_short, report_short, bad_short, reads_long}
use Rattle.answering.specs.declared.Board.{Board}

-- the state that a table and the bytes of a list stand for
abbrev pub state_of : List ℕ → List ℕ → State
state_of t b = record { table = t; list = list_in b }

-- the state of a board
abbrev pub state : {N : ℕ} → Board N → State
state b = state_of b.table b.list

-- the page has room for so many bytes
abbrev pub RoomFor : ℕ → Page → Type 0
RoomFor n page = page.len + n ≤ length page.out.now

-- 1,024 bytes are 16 records
pub count_sixteen : (b : List ℕ) → length b ≡ 1024 → count_of b ≡ 16
unfolding count_of
count_sixteen b e = rw e

-- what an opening answers, between the states s and s'
abbrev pub OpenAnswer : ℕ → Demand → Path → State → State → Result Grant Refusal → Type 0
OpenAnswer f d p s s' =
    Opens (chip_of wheel s.table) s.table 16 s.list p.entries p.len f d s'.table s'.list

-- what the calls over the bytes of 16 records promise, on the default wheel
module _ (t b t' b' : List ℕ) (long : length b ≡ 1024) where
  pub opened : (f : ℕ) (d : Demand) (p : Path) (a : Result Grant Refusal) → OpensBytes (chip_of wheel t) t b p.entries p.len f d t' b' a
      → Opens (chip_of wheel t) t 16 (list_in b) p.entries p.len f d t' (list_in b') a
  unfolding Opens
  opened f d p a o = rw (count_sixteen b long) at o.answers

  pub opened_short : (f : ℕ) (d : Demand) (p : Path) (a : Result Grant Refusal) → OpensBytes (chip_of wheel t) t b p.entries p.len f d t' b' a
      → length (open_text f a) ≤ 83
  opened_short f d p a o = open_short t (list_in b) p.entries p.len f d t' (list_in b') a (opened f d p a o)

  pub closed : (f : ℕ) (a : Result ℕ Refusal) → ClosesBytes (chip_of wheel t) t b f t' b' a
      → Closes (chip_of wheel t) t 16 (list_in b) f t' (list_in b') a
  unfolding Closes
  closed f a o = rw (count_sixteen b long) at o.answers

pub reported : (t b : List ℕ) (a : Result Totals Refusal) → length b ≡ 1024 → Reports (chip_of wheel t) t (count_of b) (list_in b) a
    → Reports (chip_of wheel t) t 16 (list_in b) a
reported t b a long o = rw (count_sixteen b long) at o

-- an opening was asked for and its text put
pub record OpenLine (f : ℕ) (d : Demand) (p : Path) (s s' : State) (old new : Page) : Type 0 where
  pub answer : Result Grant Refusal
  pub opens : OpenAnswer f d p s s' answer
  pub puts : Puts old (open_text f answer) new

-- a closing
pub record CloseLine (f : ℕ) (s s' : State) (old new : Page) : Type 0 where
  pub answer : Result ℕ Refusal
  pub closes : ClosesFrom s f s' answer
  pub puts : Puts old (close_text f answer) new

-- a report: table and list stay
pub record ReportLine (s : State) (old new : Page) : Type 0 where
  pub answer : Result Totals Refusal
  pub reports : ReportsFrom s answer
  pub puts : Puts old (report_text answer) new

-- line k got its text; at most 14 bytes for each of its own, its line feed counted in
pub record Lined (s : State) (k : ℕ) (line : List ℕ) (s' : State) (old new : Page) : Type 0 where
  pub text : List ℕ
  pub step : Step s k line s' text
  pub short : length text ≤ 83
  pub fair : length text + 1 ≤ max 14 (14 * length line)
  pub puts : Puts old text new

-- the same, with its line feed
pub record Fed (s : State) (k : ℕ) (line : List ℕ) (s' : State) (old new : Page) : Type 0 where
  pub text : List ℕ
  pub step : Step s k line s' text
  pub fair : length text + 1 ≤ max 14 (14 * length line)
  pub puts : Puts old (text ++ (10 ∷ [])) new

pub lined_open : (k : ℕ) (line : List ℕ) (f : ℕ) (d : Demand) (p : Path) (s s' : State) (old new : Page) → Opening line f d p
    → OpenLine f d p s s' old new → Lined s k line s' old new
lined_open k line f d p s s' old new o l =
    let short = open_short s.table s.list p.entries p.len f d s'.table s'.list l.answer l.opens in
    record {
      text = open_text f l.answer;
      step = opens f d.words.0 d.deadline o.channels l.answer o.reads (subst (λ q. OpenAnswer f d q s s' l.answer) o.path l.opens) refl;
      short = short;
      fair = omega (arith, reads_long line (opening f d.words.0 d.deadline o.channels) o.reads);
      puts = l.puts;
    }

pub lined_close : (k : ℕ) (line : List ℕ) (f : ℕ) (s s' : State) (old new : Page) → Reads line (closing f) → CloseLine f s s' old new
    → Lined s k line s' old new
lined_close k line f s s' old new r l =
    let short = close_short f l.answer in
    record {
      text = close_text f l.answer;
      step = closes f l.answer r l.closes refl;
      short = short;
      fair = omega (arith, reads_long line (closing f) r);
      puts = l.puts;
    }

pub lined_report : (k : ℕ) (line : List ℕ) (s : State) (old new : Page) → Reads line reporting → ReportLine s old new → Lined s k line s old new
lined_report k line s old new r l =
    let short = report_short l.answer in
    record {
      text = report_text l.answer;
      step = reports l.answer r l.reports refl refl;
      short = short;
      fair = omega (arith, reads_long line reporting r);
      puts = l.puts;
    }

pub lined_bad : (k : ℕ) (line : List ℕ) (s : State) (old new : Page) → k < 10000 → Bad line → Puts old (bad_text k) new → Lined s k line s old new
lined_bad k line s old new h b l =
    let short = bad_short k h in
    record {
      text = bad_text k;
      step = bad b refl refl;
      short = omega arith;
      fair = omega arith;
      puts = l;
    }

-- a text, then its line feed
pub fed : (s : State) (k : ℕ) (line : List ℕ) (s' : State) (old mid new : Page) → Lined s k line s' old mid → Puts mid (10 ∷ []) new
    → RoomFor 84 old → Fed s k line s' old new
fed s k line s' old mid new l f h = record {
  text = l.text;
  step = l.step;
  fair = l.fair;
  puts = puts_then l.text (10 ∷ []) l.puts f (omega (arith, l.short, length-append l.text (10 ∷ [])));
}
