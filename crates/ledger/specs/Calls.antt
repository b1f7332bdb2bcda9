-- What the promises come to, for every call at once: a promise settles its answer, the table and the list afterwards; it
-- keeps agreement, leaves other records and channels alone; and closing at once after opening gives table and list back.
use Rattle.std.specs.Prelude.{◌≡◌, true, List, [], ℕ, ◌+◌, ◌-◌, ◌*◌, ◌≤◌, ◌<◌, get_or, set, length, Result, Ok, Err}
use Rattle.std.proofs.Math.Path.{refl, sym, ap}
use Rattle.std.proofs.Common.{◌∙◌, subst, arith, length-set, ext_get_or, get_or-set_same, get_or-set_other}
use Rattle.std.proofs.Math.Bool.{false}
use Rattle.std.proofs.Math.Decide.{ℕ_discrete}
use Rattle.rules.specs.declared.Refusal.{Refusal}
use Rattle.rules.specs.declared.Totals.{Totals}
use Rattle.rules.specs.declared.Demand.{Demand}
use Rattle.rules.specs.declared.State.{State}
use Rattle.rules.specs.declared.State.TheVariants.{Closed, Open}
use Rattle.rules.specs.declared.Record.{Record}
use Rattle.rules.specs.declared.Grant.{Grant}
use Rattle.rules.specs.declared.Call.{Call}
use Rattle.rules.specs.declared.Verb.{Verb}
use Rattle.rules.specs.declared.Verb.TheVariants.{ToOpen, ToClose}
use Rattle.rules.specs.declared.Yes.{Yes}
use Rattle.rules.specs.declared.Yes.TheVariants as yes
use Rattle.rules.specs.declared.Refusal.TheVariants.{BadWheel}
use Rattle.rules.specs.Paths.{Chip, free_slots, Inside, trimmed}
use Rattle.rules.specs.Flows.{none, flow, claiming, Blank, Own, Agree, cells_of}
use Rattle.rules.specs.Numbers.{number, Passes}
use Rattle.rules.specs.Orders.{Agrees, checked, path_lines, way_lines, flow_lines, state_lines, order_of, call_order, report_order, opening, closing}
use Rattle.rules.specs.Promises.{HasRow, Row, change, Told, Marked, Performs, of_opened, of_cleared, Opens, Closes, Reports, open_record, closed_record}
use Rattle.laws.specs.Decided.{tabled_decided, row_decided}
use Rattle.laws.specs.Logic.{not_both}
use Rattle.laws.specs.Refusals.{settled, passes_not, same_number, passed, passes_then, Alike, alike_then, alike_self, passes_alike, refuses_alike}
use Rattle.laws.specs.Answers.{grants_unique}
use Rattle.ledger.specs.Trimmed.{trimmed_rest, trimmed_long}
use Rattle.ledger.specs.Claims.{chosen_free}
use Rattle.ledger.specs.Stamps.{stamped_unique, undone}
use Rattle.ledger.specs.Lines.{stable, inside_stable, in_list, Admitted, named, saw, claimed, one_line, ready_passes, listed_passes}
use Rattle.ledger.specs.NewFlow.{new_lawful, new_claiming, new_cells, new_stamped, old_stamped, new_free}
use Rattle.ledger.specs.Agreement.{open_agree, close_agree}

-- ---- what a call tells is settled

pub told_unique : (chip : Chip) (t : List ℕ) (r : Record) (call : Call) (v : Verb) (y z : Yes) → Told chip t r call v y → Told chip t r call v z → y ≡ z
told_unique chip t r call (ToOpen d) (yes.Granted g) (yes.Granted h) p q = ap yes.Granted (grants_unique g h p q)
told_unique chip t r call (ToOpen d) (yes.Granted g) (yes.Cells k) p q = absurd q
told_unique chip t r call (ToOpen d) (yes.Cells j) z p q = absurd p
told_unique chip t r call ToClose (yes.Granted g) z p q = absurd p
told_unique chip t r call ToClose (yes.Cells j) (yes.Granted g) p q = absurd q
told_unique chip t r call ToClose (yes.Cells j) (yes.Cells k) p q = ap yes.Cells (p ∙ sym q)

-- ---- two states that look the same to a call

-- a call that meets the same record and the same free slots has the same order; 4's condition may be told otherwise
pub order_alike : (chip : Chip) (t u : List ℕ) (n : ℕ) (disagree disagree' : Type 0) (s q : State) (call : Call) (v : Verb)
    → Alike (checked chip t n disagree) (checked chip u n disagree')
    → (Passes (checked chip t n disagree) → 1 ≤ call.flow → call.flow ≤ n → s ≡ q)
    → ((d : Demand) → v ≡ ToOpen d → Inside chip.channels call.path.entries call.path.len
    → free_slots chip t call.path.entries call.path.len ≡ free_slots chip u call.path.entries call.path.len)
    → Alike (order_of chip t n disagree s call v) (order_of chip u n disagree' q call v)
order_alike chip t u n disagree disagree' s q call v begin same free =
    alike_then (checked chip t n disagree) _ (checked chip u n disagree') _ begin λ p.
    alike_then (way_lines chip call v) _ (way_lines chip call v) _ (alike_self _) λ way.
    alike_then (flow_lines n call.flow) _ (flow_lines n call.flow) _ (alike_self _) λ f.
    let (one, most) = in_list n call.flow (passed (flow_lines n call.flow) 8 f) in
    go v free way (same p one most)
  where
    go : (v : Verb)
        → ((d : Demand) → v ≡ ToOpen d → Inside chip.channels call.path.entries call.path.len
        → free_slots chip t call.path.entries call.path.len ≡ free_slots chip u call.path.entries call.path.len)
        → Passes (way_lines chip call v) → s ≡ q → Alike (state_lines chip t s call v) (state_lines chip u q call v)
    go (ToOpen d) free way e =
        let x = free d refl (inside_stable chip call.path.entries call.path.len (passed (path_lines chip call.path.entries call.path.len) 6 way)) in
        rw (e, x) (alike_self _)
    go ToClose free way e = rw e (alike_self _)

module _ (chip : Chip) (t u : List ℕ) (n : ℕ) (list other : List Record) (call : Call)
    (begin : Alike (checked chip t n (¬ Agree chip t n list)) (checked chip u n (¬ Agree chip u n other)))
    (same : 1 ≤ call.flow → call.flow ≤ n → flow list (call.flow - 1) ≡ flow other (call.flow - 1))
    (free : (d : Demand) → call.verb ≡ ToOpen d → Inside chip.channels call.path.entries call.path.len
    → free_slots chip t call.path.entries call.path.len ≡ free_slots chip u call.path.entries call.path.len) where
  alike : Alike (call_order chip t n list call) (call_order chip u n other call)
  alike = order_alike chip t u n _ _ _ _ call call.verb begin (λ _ one most. ap (λ r. r.state) (same one most)) free

  told_alike : (v : Verb) (y : Yes) → call.verb ≡ v → Passes (order_of chip t n (¬ Agree chip t n list) (flow list (call.flow - 1)).state call v)
      → Told chip t (flow list (call.flow - 1)) call v y → Told chip u (flow other (call.flow - 1)) call v y
  told_alike (ToOpen d) (yes.Granted g) e p told = rw (← free d e (saw chip t n _ _ call d p).inside) told
  told_alike (ToOpen d) (yes.Cells k) e p told = told
  told_alike ToClose (yes.Granted g) e p told = told
  told_alike ToClose (yes.Cells k) e p told =
      let (one, most) = named chip t n _ _ call ToClose p in
      told ∙ ap (cells_of chip.wheel) (same one most)

  -- and so it answers the same
  pub same_answer : (t' u' : List ℕ) (list' other' : List Record) (a b : Result Yes Refusal)
      → Performs chip t n list call t' list' a → Performs chip u n other call u' other' b → a ≡ b
  same_answer t' u' list' other' (Ok y) (Ok z) p q =
      ap Ok (told_unique chip u (flow other (call.flow - 1)) call call.verb y z (told_alike call.verb y refl p.0 p.1) q.1)
  same_answer t' u' list' other' (Ok y) (Err r) p q =
      absurd (passes_not (call_order chip u n other call) (number r) (passes_alike _ _ alike p.0) q.0)
  same_answer t' u' list' other' (Err r) (Ok y) p q =
      absurd (passes_not (call_order chip u n other call) (number r) q.0 (refuses_alike _ _ (number r) alike p.0))
  same_answer t' u' list' other' (Err r) (Err s) p q =
      ap Err (same_number r s (settled (call_order chip u n other call) (number r) (number s) (refuses_alike _ _ (number r) alike p.0) q.0))

-- ---- each promise settles everything

-- an answer with the table and the list that it leaves
pub record Settled {A : Type 0} (a b : A) (t u : List ℕ) (list other : List Record) : Type 0 where
  pub answer : a ≡ b
  pub table : t ≡ u
  pub records : list ≡ other

module _ (chip : Chip) (t : List ℕ) (n : ℕ) (list : List Record) where
  -- the answer settles the rest
  leaves : (call : Call) (u v : List ℕ) (list₁ list₂ : List Record) (a : Result Yes Refusal)
      → Performs chip t n list call u list₁ a → Performs chip t n list call v list₂ a → (u ≡ v) × (list₁ ≡ list₂)
  leaves call u v list₁ list₂ (Ok y) p q =
      let c = change (flow list (call.flow - 1)) call call.verb y in
      let long = (stable (tabled_decided chip.channels t) (passed (call_order chip t n list call) 2 p.0)).long in
      (stamped_unique chip c.path.entries c.path.len c.slots chip.channels c.value t u v long p.2 q.2, p.3 ∙ sym q.3)
  leaves call u v list₁ list₂ (Err r) p q = (p.1 ∙ sym q.1, p.2 ∙ sym q.2)

  pub performs_unique : (call : Call) (u v : List ℕ) (list₁ list₂ : List Record) (a b : Result Yes Refusal)
      → Performs chip t n list call u list₁ a → Performs chip t n list call v list₂ b → Settled a b u v list₁ list₂
  performs_unique call u v list₁ list₂ a b p q =
      let e = same_answer chip t t n list list call (alike_self _) (λ _ _. refl) (λ _ _ _. refl) u v list₁ list₂ a b p q in
      let (table, records) = leaves call u v list₁ list₂ a p (subst (Performs chip t n list call v list₂) (sym e) q) in
      record { answer = e; table = table; records = records }

  pub reports_unique : (a b : Result Totals Refusal) → Reports chip t n list a → Reports chip t n list b → a ≡ b
  unfolding Reports
  reports_unique (Ok c) (Ok d) p q =
      λ i. Ok (record { free = (p.1 ∙ sym q.1) i; held = (p.2 ∙ sym q.2) i })
  reports_unique (Ok c) (Err r) p q = absurd (passes_not (report_order chip t n list) (number r) p.0 q)
  reports_unique (Err r) (Ok c) p q = absurd (passes_not (report_order chip t n list) (number r) q.0 p)
  reports_unique (Err r) (Err s) p q =
      ap Err (same_number r s (settled (report_order chip t n list) (number r) (number s) p q))

-- and so is the row of a channel
pub row_unique : (chip : Chip) (t : List ℕ) (c : ℕ) (r q : List ℕ) → Row chip t c r → Row chip t c q → r ≡ q
row_unique chip t c r q a b = go (row_decided chip t c)
  where
    go : Dec (HasRow chip t c) → r ≡ q
    go (yes d) = a.good d ∙ sym (b.good d)
    go (no d) = a.bad d ∙ sym (b.bad d)

-- ---- a call keeps agreement, the lengths, and other records

module _ (chip : Chip) (t : List ℕ) (n : ℕ) (list : List Record) where
  pub performs_long : (call : Call) (t' : List ℕ) (list' : List Record) (a : Result Yes Refusal) → Performs chip t n list call t' list' a
      → (length t' ≡ length t) × (length list' ≡ length list)
  performs_long call t' list' (Ok y) p = (p.2.long, ap length p.3 ∙ length-set list (call.flow - 1) _)
  performs_long call t' list' (Err r) p = (ap length p.1, ap length p.2)

  pub performs_others : (call : Call) (t' : List ℕ) (list' : List Record) (a : Result Yes Refusal) (k : ℕ) → Performs chip t n list call t' list' a
      → ¬ (k + 1 ≡ call.flow) → flow list' k ≡ flow list k
  performs_others call t' list' (Ok y) k p other =
      let (one, most) = named chip t n _ _ call call.verb p.0 in
      ap (λ l. flow l k) p.3 ∙ get_or-set_other list (call.flow - 1) k _ none λ e. other (omega (arith, one, e))
  performs_others call t' list' (Err r) k p other = ap (λ l. flow l k) p.2

module _ (chip : Chip) (t : List ℕ) (n : ℕ) (list : List Record) (fits : n ≤ length list) (agrees : Agrees chip t n list) where
  -- by verb: the one place where an opening and a closing differ
  verb_keeps : (call : Call) (v : Verb) (y : Yes) (t' : List ℕ) → (disagree : Type 0)
      → Passes (order_of chip t n disagree (flow list (call.flow - 1)).state call v)
      → Told chip t (flow list (call.flow - 1)) call v y → Marked chip (change (flow list (call.flow - 1)) call v y) t t'
      → Agree chip t' n (set list (call.flow - 1) (change (flow list (call.flow - 1)) call v y).new)
  verb_keeps call (ToOpen d) (yes.Granted g) t' disagree p told written =
      let r = flow list (call.flow - 1) in
      let path = call.path.entries in let m = call.path.len in let f = call.flow in
      let admitted = saw chip t n disagree r.state call d p in
      let back : f - 1 + 1 ≡ f = omega (arith, admitted.one) in
      open_agree chip t t' n list (f - 1) agrees.ready.legal agrees.ready.tabled fits (omega (arith, admitted.one, admitted.listed)) agrees.agree
      (open_record path m g.slots d) admitted.shut (new_claiming chip t n r.state path m f d g admitted told)
      (new_lawful chip t n r.state path m f d g admitted told)
      (new_free chip t n r.state path m f d g admitted told)
      (rw back (new_stamped chip t n r.state path m f d g admitted told f t t' written))
  verb_keeps call (ToOpen d) (yes.Cells k) t' disagree p told written = absurd told
  verb_keeps call ToClose y t' disagree p told written =
      let (one, listed) = named chip t n disagree (flow list (call.flow - 1)).state call ToClose p in
      close_agree chip t t' n list (call.flow - 1) agrees.ready.legal agrees.ready.tabled fits (omega (arith, one, listed)) agrees.agree
      (claimed chip t n disagree (flow list (call.flow - 1)).state call p) written

  pub performs_keep : (call : Call) (t' : List ℕ) (list' : List Record) (a : Result Yes Refusal) → Performs chip t n list call t' list' a → Agrees chip t' n list'
  performs_keep call t' list' (Ok y) p =
      let tabled = agrees.ready.tabled in
      record {
        ready = record {
          legal = agrees.ready.legal;
          tabled = record { c1 = tabled.c1; c64 = tabled.c64; long = p.2.long ∙ tabled.long };
          listed = agrees.ready.listed;
        };
        agree = subst (Agree chip t' n) (sym p.3) (verb_keeps call call.verb y t' _ p.0 p.1 p.2);
      }
  performs_keep call t' list' (Err q) p = rw (p.1, p.2) agrees

-- ---- open, then close

-- a record that is closed and has zeros throughout is the closed record, its path having its sixteen entries
blank_closed : (r : Record) → r.state ≡ Closed → Blank r → length r.path.entries ≡ 16 → r ≡ closed_record
unfolding closed_record
blank_closed r e b long = λ i. record { state = e i; path = record { entries = zeros i; len = b.len i }; slots = b.slots i }
  where
    zeros : r.path.entries ≡ trimmed [] 0
    zeros = ext_get_or 0 r.path.entries (trimmed [] 0) (long ∙ sym (trimmed_long [] 0)) λ i h.
        b.path.at i (omega arith) (omega arith) ∙ sym ((trimmed_rest [] 0).at i (omega arith) (omega arith))

-- a record that was replaced and is put back
put_back : (list : List Record) (i : ℕ) (r q : Record) → i < length list → flow list i ≡ q → set (set list i r) i q ≡ list
put_back list i r q h e =
    ext_get_or none (set (set list i r) i q) list (simp length-set) λ k l. go k (ℕ_discrete k i)
  where
    go : (k : ℕ) → Dec (k ≡ i) → get_or (set (set list i r) i q) k none ≡ get_or list k none
    go k (yes s) = rw s (get_or-set_same (set list i r) i q none (simp length-set h) ∙ sym e)
    go k (no s) = get_or-set_other (set list i r) i k q none s ∙ get_or-set_other list i k r none s

module _ (chip : Chip) (t : List ℕ) (n : ℕ) (list : List Record) (fits : n ≤ length list) (agrees : Agrees chip t n list) where
  shut_closed : (f : ℕ) → f < n → claiming (flow list f).state ≡ false → length (flow list f).path.entries ≡ 16 → flow list f ≡ closed_record
  unfolding Own claiming
  shut_closed f h shut long = go (flow list f).state refl shut (agrees.agree.own f h)
    where
      go : (s : State) → (flow list f).state ≡ s → claiming s ≡ false → Own chip s (flow list f) → flow list f ≡ closed_record
      go Closed e q own = blank_closed (flow list f) e own long
      go (Open d) e q own = absurd (not_both refl q)

  -- a call to close the flow of one that was granted clears as many cells as were written and gives table and list back
  pub close_undoes : (path : List ℕ) (m f : ℕ) (d : Demand) (g : Grant) (t' t'' : List ℕ) (list' list'' : List Record) (a : Result Yes Refusal)
      → length (flow list (f - 1)).path.entries ≡ 16 → Performs chip t n list (opening path m f d) t' list' (Ok (yes.Granted g))
      → Performs chip t' n list' (closing f) t'' list'' a → Settled a (Ok (yes.Cells (g.count * m))) t'' t list'' list
  close_undoes path m f d g t' t'' list' list'' a long p q =
      let old = flow list (f - 1) in
      let new = open_record path m g.slots d in
      let admitted = saw chip t n (¬ Agree chip t n list) old.state (opening path m f d) d p.0 in
      let inside : f - 1 < n = omega (arith, admitted.one, admitted.listed) in
      let at : f - 1 < length list = omega (arith, inside) in
      let here : flow list' (f - 1) ≡ new = ap (λ l. flow l (f - 1)) p.3 ∙ get_or-set_same list (f - 1) new none at in
      let was : old ≡ closed_record = shut_closed (f - 1) inside admitted.shut long in
      let now-open = new_claiming chip t n old.state path m f d g admitted p.1 in
      let kept = performs_keep chip t n list fits agrees (opening path m f d) t' list' (Ok (yes.Granted g)) p in
      go a q here was at now-open kept admitted
    where
      go : (a : Result Yes Refusal) → Performs chip t' n list' (closing f) t'' list'' a
          → flow list' (f - 1) ≡ open_record path m g.slots d → flow list (f - 1) ≡ closed_record
          → f - 1 < length list → claiming (open_record path m g.slots d).state ≡ true → Agrees chip t' n list'
          → Admitted chip n (flow list (f - 1)).state path m f d → Settled a (Ok (yes.Cells (g.count * m))) t'' t list'' list
      go (Ok (yes.Granted h)) q here was at now-open kept admitted = absurd q.1
      go (Ok (yes.Cells k)) q here was at now-open kept admitted =
          record {
            answer = ap (λ k. Ok (yes.Cells k))
                (q.1 ∙ ap (cells_of chip.wheel) here ∙ new_cells chip t n (flow list (f - 1)).state path m f d g admitted p.1);
            table = undone chip path m g.slots chip.channels f t t' t'' agrees.ready.tabled.long
                (λ c j _ _ e. chosen_free chip t path m g.slots c j p.1.best.within e)
                p.2
                (old_stamped chip t n (flow list (f - 1)).state path m f d g admitted p.1 0 t' t'' (rw here at q.2));
            records = q.3 ∙ ap (λ l. set l (f - 1) closed_record) p.3 ∙ put_back list (f - 1) (open_record path m g.slots d) closed_record at was;
          }
      go (Err r) q here was at now-open kept admitted = absurd (passes_not (call_order chip t' n list' (closing f)) (number r) passes q.0)
        where
          passes : Passes (call_order chip t' n list' (closing f))
          passes =
              passes_then (checked chip t' n (¬ Agree chip t' n list')) _ (ready_passes chip t' n _ kept.ready (λ no. no kept.agree))
              (passes_then (flow_lines n f) _ (listed_passes n f admitted.one admitted.listed)
              (one_line 10 _ λ e. not_both (ap (λ x. claiming x.state) here ∙ now-open) e))

-- ---- the same of opening and closing, in their own words

-- an opening's answer and a closing's, back from a call's
abbrev pub to_opened : Result Yes Refusal → Result Grant Refusal
to_opened (Ok (yes.Granted g)) = Ok g
to_opened (Ok (yes.Cells k)) = Err BadWheel
to_opened (Err r) = Err r

abbrev pub to_cleared : Result Yes Refusal → Result ℕ Refusal
to_cleared (Ok (yes.Granted g)) = Err BadWheel
to_cleared (Ok (yes.Cells k)) = Ok k
to_cleared (Err r) = Err r

back_opened : (a : Result Grant Refusal) → to_opened (of_opened a) ≡ a
back_opened (Ok g) = refl
back_opened (Err r) = refl

back_cleared : (a : Result ℕ Refusal) → to_cleared (of_cleared a) ≡ a
back_cleared (Ok k) = refl
back_cleared (Err r) = refl

module _ (chip : Chip) (t : List ℕ) (n : ℕ) (list : List Record) where
  pub opens_unique : (path : List ℕ) (m f : ℕ) (d : Demand) (u v : List ℕ) (list₁ list₂ : List Record) (a b : Result Grant Refusal)
      → Opens chip t n list path m f d u list₁ a → Opens chip t n list path m f d v list₂ b → Settled a b u v list₁ list₂
  unfolding Opens
  opens_unique path m f d u v list₁ list₂ a b p q =
      let s = performs_unique chip t n list (opening path m f d) u v list₁ list₂ (of_opened a) (of_opened b) p q in
      record { answer = sym (back_opened a) ∙ ap to_opened s.answer ∙ back_opened b; table = s.table; records = s.records }

  pub closes_unique : (f : ℕ) (u v : List ℕ) (list₁ list₂ : List Record) (a b : Result ℕ Refusal)
      → Closes chip t n list f u list₁ a → Closes chip t n list f v list₂ b → Settled a b u v list₁ list₂
  unfolding Closes
  closes_unique f u v list₁ list₂ a b p q =
      let s = performs_unique chip t n list (closing f) u v list₁ list₂ (of_cleared a) (of_cleared b) p q in
      record { answer = sym (back_cleared a) ∙ ap to_cleared s.answer ∙ back_cleared b; table = s.table; records = s.records }

  pub open_close : n ≤ length list → Agrees chip t n list
      → (path : List ℕ) (m f : ℕ) (d : Demand) (g : Grant) (t' t'' : List ℕ) (list' list'' : List Record) (a : Result ℕ Refusal)
      → length (flow list (f - 1)).path.entries ≡ 16 → Opens chip t n list path m f d t' list' (Ok g) → Closes chip t' n list' f t'' list'' a
      → (a ≡ Ok (g.count * m)) × (t'' ≡ t) × (list'' ≡ list)
  unfolding Opens Closes
  open_close fits agrees path m f d g t' t'' list' list'' a long p q =
      let s = close_undoes chip t n list fits agrees path m f d g t' t'' list' list'' (of_cleared a) long p q in
      (sym (back_cleared a) ∙ ap to_cleared s.answer, s.table, s.records)
