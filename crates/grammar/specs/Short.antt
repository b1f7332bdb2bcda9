-- How long the texts are: no line that asks for something gets more than 83 bytes, and it has at least 6 itself; a bad
-- line gets at most 13. So a line feed counted in, no line gets more than 14 bytes for each of its own.
use Rattle.std.specs.Prelude.{◌≡◌, refl, Bool, true, false, cond, List, ◌∷◌, ℕ, zero, suc, ◌-◌, ◌*◌, ◌≤◌, ◌<◌, length, Result, Ok, Err}
use Rattle.std.proofs.Common.{ap, arith}
use Rattle.std.proofs.Math.ListN.{length-append}
use Rattle.rules.specs.declared.Refusal.{Refusal}
use Rattle.rules.specs.declared.Totals.{Totals}
use Rattle.rules.specs.declared.Grant.{Grant}
use Rattle.rules.specs.declared.Demand.{Demand}
use Rattle.rules.specs.declared.Record.{Record}
use Rattle.rules.specs.Sets.{has, places, list_of}
use Rattle.rules.specs.Numbers.{number}
use Rattle.rules.specs.Paths.{chip_of}
use Rattle.rules.specs.Promises.{Opens}
use Rattle.grammar.specs.Text.{ascii, decimal, field, fields}
use Rattle.grammar.specs.Commands.{Command, opening, closing, reporting, spelled, Reads}
use Rattle.grammar.specs.Answers.{open_text, close_text, report_text, bad_text}
use Rattle.grammar.specs.Decimals.{bound, decimal_long, decimal_short}
use Rattle.grammar.specs.Listing.{wheel}
use Rattle.grammar.specs.Below.{granted_below}

field_long : (n : ℕ) → length (field n) ≤ 21
unfolding field
field_long n = omega (arith, decimal_long n)

field_small : (n : ℕ) → n < 10 → length (field n) ≤ 2
unfolding field bound
field_small n h = omega (arith, decimal_short 0 n (omega arith))

field_four : (n : ℕ) → n < 10000 → length (field n) ≤ 5
unfolding field bound
field_four n h = omega (arith, decimal_short 3 n (omega arith))

-- slots below 8 take two bytes each
slots_short : (f : ℕ → Bool) → ((s : ℕ) → f s ≡ true → s < 8) → (i m : ℕ) → length (fields (places f i m)) ≤ 2 * (8 - i)
unfolding places fields
slots_short f below i zero = omega arith
slots_short f below i (suc m) = go (f i) refl (slots_short f below (suc i) m)
  where
    go : (b : Bool) → f i ≡ b → length (fields (places f (suc i) m)) ≤ 2 * (8 - suc i)
        → length (fields (cond b (i ∷ places f (suc i) m) (places f (suc i) m))) ≤ 2 * (8 - i)
    go true e h = let l : i < 8 = below i e in simp length-append (omega (arith, field_small i (omega arith)))
    go false e h = omega arith

module _ (t : List ℕ) (list : List Record) (path : List ℕ) (m f : ℕ) (d : Demand) (t' : List ℕ) (list' : List Record) where
  pub open_short : (a : Result Grant Refusal) → Opens (chip_of wheel t) t 16 list path m f d t' list' a → length (open_text f a) ≤ 83
  unfolding open_text ascii list_of
  open_short (Ok g) o =
      simp length-append
      (omega (arith, field_long f, field_long g.words.0, slots_short (has g.slots) (granted_below t list path m f d t' list' g o).below 0 64))
  open_short (Err r) o = simp length-append (omega (arith, field_long f, field_long (number r)))

pub close_short : (f : ℕ) (a : Result ℕ Refusal) → length (close_text f a) ≤ 83
unfolding close_text ascii list_of
close_short f (Ok k) = simp length-append (omega (arith, field_long f, field_long k))
close_short f (Err r) = simp length-append (omega (arith, field_long f, field_long (number r)))

pub report_short : (a : Result Totals Refusal) → length (report_text a) ≤ 83
unfolding report_text ascii list_of
report_short (Ok c) = simp length-append (omega (arith, field_long c.free, field_long c.held))
report_short (Err r) = simp length-append (omega (arith, field_long (number r)))

pub bad_short : (k : ℕ) → k < 10000 → length (bad_text k) ≤ 13
unfolding bad_text ascii list_of
bad_short k h = simp length-append (omega (arith, field_four k h))

-- a line that is a command
pub reads_long : (line : List ℕ) (c : Command) → Reads line c → 6 ≤ length line
unfolding spelled ascii list_of fields field
reads_long line (opening f W D cs) r = omega (arith, ap length r.spelled, length-append (decimal f) (fields (W ∷ D ∷ cs)))
reads_long line (closing f) r = omega (arith, ap length r.spelled)
reads_long line reporting r = omega (arith, ap length r.spelled)
