-- The input settles the listing: a line reads as at most one command, each promise settles its answer with table and list
-- afterwards, and the start is the same.
use Rattle.std.specs.Prelude.{◌≡◌, refl, List, [], ◌∷◌, ◌++◌, ◌⊎◌, ℕ, ◌+◌, ◌≤◌, ◌<◌, length, take, drop, Result}
use Rattle.std.proofs.Common.{sym, ap, ◌∙◌, subst, inl, inr, take-append-drop, length-take-le}
use Rattle.rules.specs.declared.Refusal.{Refusal}
use Rattle.rules.specs.declared.Totals.{Totals}
use Rattle.rules.specs.declared.Grant.{Grant}
use Rattle.laws.specs.Logic.{le_or_lt}
use Rattle.ledger.specs.Calls.{opens_unique, closes_unique, reports_unique}
use Rattle.grammar.specs.Text.{lines}
use Rattle.grammar.specs.Commands.{Command, opening, closing, reporting, Reads, Bad}
use Rattle.grammar.specs.Answers.{open_text, close_text, report_text, bad_text}
use Rattle.grammar.specs.Spelling.{reads_once}
use Rattle.grammar.specs.Listing.{State, OpensFrom, ClosesFrom, ReportsFrom, Step, opens, closes, reports, bad, Prints, end, next, start, Lists, Writes}

-- what was done for a command: the promise with its answer, and the answer's text
Did : State → Command → State → List ℕ → Type 0
Did s (opening f W D cs) u text =
    (a : Result Grant Refusal) × OpensFrom s f W D cs u a × (text ≡ open_text f a)
Did s (closing f) u text = (a : Result ℕ Refusal) × ClosesFrom s f u a × (text ≡ close_text f a)
Did s reporting u text = (a : Result Totals Refusal) × ReportsFrom s a × (u ≡ s) × (text ≡ report_text a)

-- a line is a command that was carried out, or it is bad
record Carried (s : State) (line : List ℕ) (u : State) (text : List ℕ) : Type 0 where
  command : Command
  reads : Reads line command
  did : Did s command u text

record Passed (s : State) (k : ℕ) (line : List ℕ) (u : State) (text : List ℕ) : Type 0 where
  is_bad : Bad line
  stays : u ≡ s
  says : text ≡ bad_text k

either : {s u : State} {k : ℕ} {line text : List ℕ} → Step s k line u text → Carried s line u text ⊎ Passed s k line u text
unfolding Did
either (opens f W D cs a r o e) = inl (record { command = opening f W D cs; reads = r; did = (a, o, e) })
either (closes f a r o e) = inl (record { command = closing f; reads = r; did = (a, o, e) })
either (reports a r o z e) = inl (record { command = reporting; reads = r; did = (a, o, z, e) })
either (bad n z e) = inr (record { is_bad = n; stays = z; says = e })

-- two states after one line, and two texts
record Same (s u : State) (text other : List ℕ) : Type 0 where
  state : s ≡ u
  words : text ≡ other

state_same : (s u : State) → s.table ≡ u.table → s.list ≡ u.list → s ≡ u
state_same s u p q = λ i. record { table = p i; list = q i }

did_settled : (s : State) (c : Command) (u v : State) (a b : List ℕ) → Did s c u a → Did s c v b → Same u v a b
unfolding Did
did_settled s (opening f W D cs) u v a b p q =
    let e = opens_unique _ _ _ _ _ _ _ _ _ _ _ _ p.0 q.0 p.1 q.1 in
    record { state = state_same u v e.table e.records; words = p.2 ∙ ap (open_text f) e.answer ∙ sym q.2 }
did_settled s (closing f) u v a b p q =
    let e = closes_unique _ _ _ _ _ _ _ _ _ p.0 q.0 p.1 q.1 in
    record { state = state_same u v e.table e.records; words = p.2 ∙ ap (close_text f) e.answer ∙ sym q.2 }
did_settled s reporting u v a b p q =
    record { state = p.2 ∙ sym q.2; words = p.3 ∙ ap report_text (reports_unique _ _ _ _ p.0 q.0 p.1 q.1) ∙ sym q.3 }

step_settled : {s u v : State} {k : ℕ} {line a b : List ℕ} → Step s k line u a → Step s k line v b → Same u v a b
step_settled {s} {u} {v} {k} {line} {a} {b} p q = go (either p) (either q)
  where
    go : Carried s line u a ⊎ Passed s k line u a → Carried s line v b ⊎ Passed s k line v b → Same u v a b
    go (inl c) (inl d) =
        did_settled s c.command u v a b c.did (subst (λ x. Did s x v b) (reads_once d.command c.command d.reads c.reads) d.did)
    go (inl c) (inr d) = absurd (d.is_bad.none c.command c.reads)
    go (inr c) (inl d) = absurd (c.is_bad.none d.command d.reads)
    go (inr c) (inr d) = record { state = c.stays ∙ sym d.stays; words = c.says ∙ sym d.says }

-- ---- all lines

prints_settled : (ls : List (List ℕ)) (s : State) (k : ℕ) (a b : List ℕ) → Prints s k ls a → Prints s k ls b → a ≡ b
prints_settled [] s k a b end end = refl
prints_settled (line ∷ ls) s k a b (next {s' = u} {text = t} {out = x} p ps) (next {s' = v} {text = w} {out = y} q qs) =
    let e = step_settled p q in
    let rest : x ≡ y = prints_settled ls u (k + 1) x y ps (subst (λ z. Prints z (k + 1) ls y) (sym e.state) qs) in
    ap (λ l. l ++ (10 ∷ x)) e.words ∙ ap (λ l. w ++ (10 ∷ l)) rest

-- two listings of one input are the same
pub lists_unique : (input a b : List ℕ) → Lists input a → Lists input b → a ≡ b
lists_unique input a b p q = go (le_or_lt (length input) 4096)
  where
    go : (length input ≤ 4096) ⊎ (4096 < length input) → a ≡ b
    go (inl h) = prints_settled (lines input) start 1 a b (p.printed h) (q.printed h)
    go (inr h) = p.too_long h ∙ sym (q.too_long h)

-- and so are two buffers
pub writes_unique : (input old new other : List ℕ) (r q : ℕ) → Writes input old new r → Writes input old other q → (r ≡ q) × (new ≡ other)
writes_unique input old new other r q p w = go (le_or_lt 65536 (length old))
  where
    go : (65536 ≤ length old) ⊎ (length old < 65536) → (r ≡ q) × (new ≡ other)
    go (inl h) =
        let text = lists_unique input (take r new) (take q other) (p.lists h) (w.lists h) in
        let same : r ≡ q = sym (length-take-le r new p.inside) ∙ ap length text ∙ length-take-le q other w.inside in
        let left : drop r new ≡ drop q other = p.rest ∙ ap (λ n. drop n old) same ∙ sym w.rest in
        (same, sym (take-append-drop r new) ∙ ap (λ l. l ++ drop r new) text ∙ ap (λ l. take q other ++ l) left ∙ take-append-drop q other)
    go (inr h) = let a = p.short h in let b = w.short h in (a.0 ∙ sym b.0, a.1 ∙ sym b.1)
