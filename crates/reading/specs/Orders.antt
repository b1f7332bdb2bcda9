-- What a line with a verb in front is read as, by its fields.
use Rattle.std.specs.Prelude.{◌≡◌, refl, Some, None, List, [], ◌∷◌, ◌++◌, ℕ, ◌≤◌, ◌<◌, length, get_or, drop}
use Rattle.std.proofs.Common.{sym, ap, ◌∙◌, subst, arith}
use Rattle.rules.specs.declared.Path.{Path}
use Rattle.grammar.specs.Text.{fields}
use Rattle.grammar.specs.Commands.{opening, closing, reporting, Few}
use Rattle.grammar.specs.Spelling.{few_none, few_head, few_cons, fields_same}
use Rattle.decimals.specs.Meaning.{FieldsAt, NoFields}
use Rattle.reading.specs.Meaning.{path, parsed, Means, says, says_nothing}
use Rattle.reading.specs.Verbs.{open_bytes, close_bytes, report_bytes, not_open, not_close, opening_reads, closing_reads, reporting_reads, no_verb}
use Rattle.reading.specs.declared.Request.TheVariants as request

-- ---- open

three : (vs : List ℕ) → 3 ≤ length vs → vs ≡ get_or vs 0 0 ∷ get_or vs 1 0 ∷ get_or vs 2 0 ∷ drop 3 vs
three [] h = absurd (omega arith)
three (a ∷ []) h = absurd (omega arith)
three (a ∷ b ∷ []) h = absurd (omega arith)
three (a ∷ b ∷ c ∷ vs) h = refl

pub opens_nothing : (rest : List ℕ) → NoFields rest → Means (open_bytes ++ rest) None
opens_nothing rest n = says_nothing (not_open rest (λ ns few most some e. n.none ns few most e)) refl

pub opens_not : (rest vs : List ℕ) → FieldsAt rest vs → length vs < 3 → Means (open_bytes ++ rest) None
opens_not rest vs f h =
    says_nothing
    (not_open rest λ ns few most some e. (let same = fields_same vs ns f.few few (sym f.spelled ∙ e) in omega (arith, ap length same)))
    refl

pub opens : (rest vs : List ℕ) (p : Path) → FieldsAt rest vs → 3 ≤ length vs → p ≡ path (drop 3 vs)
    → Means (open_bytes ++ rest)
    (Some (request.Open (get_or vs 0 0) (record { words = record { 0 = get_or vs 1 0 }; deadline = get_or vs 2 0 }) p))
unfolding parsed
opens rest vs p f h is =
    let all = three vs h in
    says (opening (get_or vs 0 0) (get_or vs 1 0) (get_or vs 2 0) (drop 3 vs))
    (opening_reads rest (get_or vs 0 0) (get_or vs 1 0) (get_or vs 2 0) (drop 3 vs) (subst Few all f.few) (omega (arith, f.most, ap length all))
    (f.spelled ∙ ap fields all))
    (rw is refl)

-- ---- close

one : (vs : List ℕ) → length vs ≡ 1 → vs ≡ get_or vs 0 0 ∷ []
one [] h = absurd (omega arith)
one (a ∷ []) h = refl
one (a ∷ b ∷ vs) h = absurd (omega arith)

pub closes_nothing : (rest : List ℕ) → NoFields rest → Means (close_bytes ++ rest) None
closes_nothing rest n =
    says_nothing (not_close rest (λ k small e. n.none (k ∷ []) (few_cons small few_none) (omega arith) e)) refl

pub closes_not : (rest vs : List ℕ) → FieldsAt rest vs → (length vs ≡ 1 → ⊥) → Means (close_bytes ++ rest) None
closes_not rest vs f h =
    says_nothing
    (not_close rest λ n small e. h (ap length (fields_same vs (n ∷ []) f.few (few_cons small few_none) (sym f.spelled ∙ e))))
    refl

pub closes : (rest vs : List ℕ) → FieldsAt rest vs → length vs ≡ 1 → Means (close_bytes ++ rest) (Some (request.Close (get_or vs 0 0)))
unfolding parsed
closes rest vs f h =
    let all = one vs h in
    says (closing (get_or vs 0 0)) (closing_reads rest (get_or vs 0 0) (few_head (subst Few all f.few)) (f.spelled ∙ ap fields all)) refl

-- ---- report, or no verb

pub reports : (line : List ℕ) → line ≡ report_bytes → Means line (Some request.Report)
unfolding parsed
reports line e = says reporting (reporting_reads line e) refl

pub nothing : (line : List ℕ) → ((rest : List ℕ) → line ≡ open_bytes ++ rest → ⊥) → ((rest : List ℕ) → line ≡ close_bytes ++ rest → ⊥)
    → (line ≡ report_bytes → ⊥) → Means line None
nothing line a b c = says_nothing (no_verb line a b c) refl
