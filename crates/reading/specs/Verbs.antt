-- Which lines are commands and which are bad: after each verb, what its fields are; and a line with no verb in front.
use Rattle.std.specs.Prelude.{◌≡◌, List, [], ◌∷◌, ◌++◌, ℕ, ◌≤◌, length, get_or, drop}
use Rattle.std.proofs.Common.{sym, ap, ◌∙◌, append-nil, arith}
use Rattle.rules.specs.Sets.{list_of}
use Rattle.grammar.specs.Text.{ascii, field, fields}
use Rattle.grammar.specs.Commands.{Command, opening, closing, reporting, spelled, Few, Formed, Reads, Bad}

-- the bytes of the three verbs
abbrev pub open_bytes : List ℕ
open_bytes = 111 ∷ 112 ∷ 101 ∷ 110 ∷ []

abbrev pub close_bytes : List ℕ
close_bytes = 99 ∷ 108 ∷ 111 ∷ 115 ∷ 101 ∷ []

abbrev pub report_bytes : List ℕ
report_bytes = 114 ∷ 101 ∷ 112 ∷ 111 ∷ 114 ∷ 116 ∷ []

-- the first byte of a line
abbrev first : List ℕ → ℕ
first line = get_or line 0 0

pub not_open : (rest : List ℕ) → ((ns : List ℕ) → Few ns → length ns ≤ 19 → 3 ≤ length ns → rest ≡ fields ns → ⊥) → Bad (open_bytes ++ rest)
unfolding spelled Formed ascii list_of
not_open rest no_fields = record { none = none }
  where
    none : (c : Command) → ¬ Reads (open_bytes ++ rest) c
    none (opening f W D cs) r = no_fields (f ∷ W ∷ D ∷ cs) r.formed.0 (omega (arith, r.formed.1)) (omega arith) (ap (drop 4) r.spelled)
    none (closing f) r = omega (arith, ap first r.spelled)
    none reporting r = omega (arith, ap first r.spelled)

pub not_close : (rest : List ℕ) → ((n : ℕ) → n ≤ 65535 → rest ≡ fields (n ∷ []) → ⊥) → Bad (close_bytes ++ rest)
unfolding spelled Formed ascii list_of fields
not_close rest no_field = record { none = none }
  where
    none : (c : Command) → ¬ Reads (close_bytes ++ rest) c
    none (opening f W D cs) r = omega (arith, ap first r.spelled)
    none (closing f) r = no_field f r.formed (ap (drop 5) r.spelled ∙ sym (append-nil (field f)))
    none reporting r = omega (arith, ap first r.spelled)

pub no_verb : (line : List ℕ) → ((rest : List ℕ) → line ≡ open_bytes ++ rest → ⊥) → ((rest : List ℕ) → line ≡ close_bytes ++ rest → ⊥)
    → (line ≡ report_bytes → ⊥) → Bad line
unfolding spelled ascii list_of
no_verb line a b c = record { none = none }
  where
    none : (c : Command) → ¬ Reads line c
    none (opening f W D cs) r = a (fields (f ∷ W ∷ D ∷ cs)) r.spelled
    none (closing f) r = b (field f) r.spelled
    none reporting r = c r.spelled

pub not_report : (rest : List ℕ) → (length rest ≡ 0 → ⊥) → Bad (report_bytes ++ rest)
not_report rest more =
    no_verb (report_bytes ++ rest) (λ r e. omega (arith, ap first e)) (λ r e. omega (arith, ap first e)) (λ e. more (omega (arith, ap length e)))

-- the line that is read
pub opening_reads : (rest : List ℕ) (f W D : ℕ) (cs : List ℕ) → Few (f ∷ W ∷ D ∷ cs) → length cs ≤ 16
    → rest ≡ fields (f ∷ W ∷ D ∷ cs) → Reads (open_bytes ++ rest) (opening f W D cs)
unfolding spelled Formed ascii list_of
opening_reads rest f W D cs few most e = record { formed = (few, most); spelled = ap (λ xs. open_bytes ++ xs) e }

pub closing_reads : (rest : List ℕ) (f : ℕ) → f ≤ 65535 → rest ≡ fields (f ∷ []) → Reads (close_bytes ++ rest) (closing f)
unfolding spelled Formed ascii list_of fields
closing_reads rest f small e = record { formed = small; spelled = ap (λ xs. close_bytes ++ xs) (e ∙ append-nil (field f)) }

pub reporting_reads : (line : List ℕ) → line ≡ report_bytes → Reads line reporting
unfolding spelled Formed ascii list_of
reporting_reads line e = record { formed = tt; spelled = e }
