-- A line spells at most one command: the verbs begin with different bytes, and the fields after a verb are read off one
-- by one, since a space is no digit.
use Rattle.std.specs.Prelude.{◌≡◌, refl, List, [], ◌∷◌, ◌++◌, ℕ, zero, suc, ◌≤◌, ◌<◌, length, get_or, drop}
use Rattle.std.proofs.Common.{sym, ap, ◌∙◌, append_assoc, arith}
use Rattle.rules.specs.Sets.{list_of}
use Rattle.grammar.specs.Text.{ascii, decimal, field, fields}
use Rattle.grammar.specs.Commands.{Command, opening, closing, reporting, spelled, Few, Formed, Reads}
use Rattle.grammar.specs.Decimals.{digit, leading, decimal_cut}

-- ---- numbers up to 65535

pub few_none : Few []
few_none = record { small = λ i h. absurd (omega arith) }

pub few_head : {n : ℕ} {ns : List ℕ} → Few (n ∷ ns) → n ≤ 65535
few_head f = f.small 0 (omega arith)

pub few_tail : {n : ℕ} {ns : List ℕ} → Few (n ∷ ns) → Few ns
few_tail f = record { small = λ i h. f.small (suc i) (omega arith) }

pub few_cons : {n : ℕ} {ns : List ℕ} → n ≤ 65535 → Few ns → Few (n ∷ ns)
few_cons {n} {ns} h f = record { small = at }
  where
    at : (i : ℕ) → i < length (n ∷ ns) → get_or (n ∷ ns) i 0 ≤ 65535
    at zero l = h
    at (suc i) l = f.small i (omega arith)

pub few_more : (ns : List ℕ) (n : ℕ) → Few ns → n ≤ 65535 → Few (ns ++ (n ∷ []))
few_more [] n f h = few_cons h few_none
few_more (m ∷ ns) n f h = few_cons (few_head f) (few_more ns n (few_tail f) h)

-- ---- fields

pub fields_append : (ns ms : List ℕ) → fields (ns ++ ms) ≡ fields ns ++ fields ms
unfolding fields
fields_append [] ms = refl
fields_append (n ∷ ns) ms = ap (λ xs. field n ++ xs) (fields_append ns ms) ∙ sym (append_assoc (field n) (fields ns) (fields ms))

pub fields_more : (ns : List ℕ) (n : ℕ) (rest : List ℕ) → fields ns ++ (32 ∷ (decimal n ++ rest)) ≡ fields (ns ++ (n ∷ [])) ++ rest
unfolding fields field
fields_more [] n rest = simp append_assoc
fields_more (m ∷ ns) n rest = simp append_assoc (ap (λ xs. 32 ∷ (decimal m ++ xs)) (fields_more ns n rest))

-- no digit follows a number
pub fields_begin : (ns : List ℕ) → leading (fields ns) ≡ 10
unfolding fields field leading digit
fields_begin [] = refl
fields_begin (n ∷ ns) = refl

-- the first field of a text that is nothing but fields
pub record Taken (v : ℕ) (rest ns : List ℕ) : Type 0 where
  pub others : List ℕ
  pub all : ns ≡ v ∷ others
  pub left : rest ≡ fields others

pub take_field : (v : ℕ) (rest ns : List ℕ) → v ≤ 65535 → leading rest ≡ 10 → Few ns → 32 ∷ (decimal v ++ rest) ≡ fields ns → Taken v rest ns
unfolding fields field
take_field v rest [] h l f e = absurd (omega (arith, ap length e))
take_field v rest (n ∷ ns) h l f e =
    let cut = decimal_cut v n rest (fields ns) h (few_head f) l (fields_begin ns) (ap (drop 1) e) in
    record { others = ns; all = ap (λ k. k ∷ ns) (sym cut.0); left = cut.1 }

pub fields_same : (ns ms : List ℕ) → Few ns → Few ms → fields ns ≡ fields ms → ns ≡ ms
unfolding fields field
fields_same [] [] f g e = refl
fields_same [] (m ∷ ms) f g e = absurd (omega (arith, ap length e))
fields_same (n ∷ ns) [] f g e = absurd (omega (arith, ap length e))
fields_same (n ∷ ns) (m ∷ ms) f g e =
    let cut = decimal_cut n m (fields ns) (fields ms) (few_head f) (few_head g) (fields_begin ns) (fields_begin ms) (ap (drop 1) e) in
    let rest : ns ≡ ms = fields_same ns ms (few_tail f) (few_tail g) cut.1 in
    rw (cut.0, rest)

-- ---- commands

pub command_same : (c d : Command) → Formed c → Formed d → spelled c ≡ spelled d → c ≡ d
unfolding spelled Formed ascii list_of fields field
command_same (opening f W D cs) (opening g X E ds) p q e =
    let same : (f ∷ W ∷ D ∷ cs) ≡ (g ∷ X ∷ E ∷ ds) = fields_same (f ∷ W ∷ D ∷ cs) (g ∷ X ∷ E ∷ ds) p.0 q.0 (ap (drop 4) e) in
    cc
command_same (opening f W D cs) (closing g) p q e = absurd (omega (arith, ap (λ l. get_or l 0 0) e))
command_same (opening f W D cs) reporting p q e = absurd (omega (arith, ap (λ l. get_or l 0 0) e))
command_same (closing f) (opening g X E ds) p q e = absurd (omega (arith, ap (λ l. get_or l 0 0) e))
command_same (closing f) (closing g) p q e =
    let cut = decimal_cut f g [] [] p q (fields_begin []) (fields_begin []) (ap (λ l. drop 6 l ++ []) e) in
    ap closing cut.0
command_same (closing f) reporting p q e = absurd (omega (arith, ap (λ l. get_or l 0 0) e))
command_same reporting (opening g X E ds) p q e = absurd (omega (arith, ap (λ l. get_or l 0 0) e))
command_same reporting (closing g) p q e = absurd (omega (arith, ap (λ l. get_or l 0 0) e))
command_same reporting reporting p q e = refl

-- a line reads as at most one command
pub reads_once : {line : List ℕ} (c d : Command) → Reads line c → Reads line d → c ≡ d
reads_once c d p q = command_same c d p.formed q.formed (sym p.spelled ∙ q.spelled)
