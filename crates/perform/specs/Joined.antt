-- From one record to the list: `agreed` tells whether table and list agree, and r is the flow's record.
use Rattle.std.specs.Prelude.{◌≡◌, Bool, true, false, List, ◌⊎◌, ℕ, ◌-◌, ◌*◌, ◌≤◌, ◌<◌, set, Option, is_some, IfSome, Result, Ok, Err}
use Rattle.std.proofs.Common.{refl, sym, ap, ◌∙◌, subst, inl, inr, arith}
use Rattle.rules.specs.Tells.{Tells}
use Rattle.rules.specs.declared.Demand.{Demand}
use Rattle.rules.specs.declared.Record.{Record}
use Rattle.rules.specs.declared.Grant.{Grant}
use Rattle.rules.specs.declared.Change.{Change}
use Rattle.rules.specs.declared.Call.{Call}
use Rattle.rules.specs.declared.Verb.{Verb}
use Rattle.rules.specs.declared.Verb.TheVariants.{ToOpen, ToClose}
use Rattle.rules.specs.declared.Yes.{Yes}
use Rattle.rules.specs.declared.Yes.TheVariants as yes
use Rattle.rules.specs.declared.Refusal.{Refusal}
use Rattle.rules.specs.Sets.{Below}
use Rattle.rules.specs.Wheels.{Legal}
use Rattle.rules.specs.Paths.{Chip, free_slots}
use Rattle.rules.specs.Flows.{flow, held_cells, Own, Agree}
use Rattle.rules.specs.Numbers.{number, Refuses, Passes}
use Rattle.rules.specs.Orders.{Ready, Agrees, checked, order_of, call_order, report_order, opening, closing}
use Rattle.rules.specs.Promises.{Grants, open_record, closed_record, change, Told, Marked, Performs, of_opened, of_cleared, Opens, Closes, Reports}
use Rattle.laws.specs.Logic.{not_true_false, not_false_true, le_or_lt}
use Rattle.laws.specs.Refusals.{passed, passes_front, Alike, alike_line, alike_given, alike_self, passes_alike, refuses_alike}
use Rattle.laws.specs.Sets.{within_below, below_shift, below_small}
use Rattle.ledger.specs.Trimmed.{trimmed_long}
use Rattle.ledger.specs.Claims.{free_below}
use Rattle.ledger.specs.Agreement.{closed_own}
use Rattle.ledger.specs.Totals.{free_and_held}
use Rattle.ledger.specs.Lines.{checked_ready, named, saw}
use Rattle.ledger.specs.Calls.{order_alike, to_opened, to_cleared}
use Rattle.table.specs.Along.{Walkable, own_walkable}
use Rattle.lent.specs.Lists.{Fitting, Form}
use Rattle.decide.specs.Decisions.{Gates, Settles, Decides}
use Rattle.decide.specs.Behind.{through}
use Rattle.perform.specs.Performed.{RecordOf, PerformsOn}

-- ---- the record of the flow

-- a record of a list that agrees obeys its own rules, and so does the closed one
pub record_own : (chip : Chip) (t : List ℕ) (n : ℕ) (list : List Record) (f : ℕ) (r : Record) → RecordOf list n f r → Agrees chip t n list
    → Own chip r.state r
record_own chip t n list f r is agrees = go (le_or_lt 1 f) (le_or_lt f n) (le_or_lt f 64)
  where
    none : r ≡ closed_record → Own chip r.state r
    none e = subst (λ x. Own chip x.state x) (sym e) (closed_own chip)

    go : (1 ≤ f) ⊎ (f < 1) → (f ≤ n) ⊎ (n < f) → (f ≤ 64) ⊎ (64 < f) → Own chip r.state r
    go (inl a) (inl b) (inl c) = subst (λ x. Own chip x.state x) (sym (is.there a b c)) (agrees.agree.own (f - 1) (omega arith))
    go (inl a) (inl b) (inr c) = none (is.otherwise (inr (inr c)))
    go (inl a) (inr b) c = none (is.otherwise (inr (inl b)))
    go (inr a) b c = none (is.otherwise (inl a))

-- ---- what is written fits its place

-- a change that can be written: its path can be walked, its value is a cell's, and its record is one of a list
pub record Writable (chip : Chip) (t : List ℕ) (c : Change) : Type 0 where
  pub legal : Legal chip.wheel
  pub walkable : Walkable chip t c.path.entries c.path.len
  pub small : c.value ≤ 64
  pub fits : Fitting c.new

closed_fits : Fitting closed_record
unfolding closed_record
closed_fits = record { len = omega arith; long = trimmed_long _ 0; slots = omega arith }

below_more : (n x : ℕ) → n ≤ 64 → Below n x → Below 64 x
below_more n x h below = record { below = λ s e. omega (arith, below.below s e) }

granted_small : (chip : Chip) (t path : List ℕ) (m W L : ℕ) (g : Grant) → chip.wheel.n ≤ 64
    → Grants chip.wheel (free_slots chip t path m) W L g → g.slots < 18446744073709551616
granted_small chip t path m W L g h grants =
    below_small g.slots 64
    (below_shift g.slots 64 (below_more chip.wheel.n g.slots h (within_below (free_below chip t path m) grants.best.within)))

-- by the verb
change_fits : (chip : Chip) (t : List ℕ) (n : ℕ) (disagree : Type 0) (r : Record) (call : Call) (v : Verb) (y : Yes)
    → Passes (order_of chip t n disagree r.state call v) → Told chip t r call v y → Fitting (change r call v y).new
unfolding open_record
change_fits chip t n disagree r call (ToOpen d) (yes.Granted g) p told =
    let ready = checked_ready chip t n disagree (passes_front (checked chip t n disagree) _ p) in
    record {
      len = (saw chip t n disagree r.state call d p).fits;
      long = trimmed_long call.path.entries call.path.len;
      slots = granted_small chip t call.path.entries call.path.len _ _ g ready.legal.n64 told;
    }
change_fits chip t n disagree r call (ToOpen d) (yes.Cells k) p told = absurd told
change_fits chip t n disagree r call ToClose y p told = closed_fits

-- a call that is granted has such a change, by the verb
module _ (chip : Chip) (t : List ℕ) (n : ℕ) (agreed : Bool) (r : Record) (call : Call) (own : agreed ≡ true → Own chip r.state r) where
  pub writable : (v : Verb) (y : Yes) → Passes (order_of chip t n (agreed ≡ false) r.state call v) → Told chip t r call v y
      → Writable chip t (change r call v y)
  writable v y p told = go v y p told (checked_ready chip t n _ (passes_front (checked chip t n (agreed ≡ false)) _ p))
    where
      go : (v : Verb) (y : Yes) → Passes (order_of chip t n (agreed ≡ false) r.state call v) → Told chip t r call v y → Ready chip t n
          → Writable chip t (change r call v y)
      go (ToOpen d) (yes.Granted g) p told ready =
          let admitted = saw chip t n _ _ call d p in
          record {
            legal = ready.legal;
            walkable = record { fits = admitted.fits; rows = ready.tabled.long; inside = admitted.inside };
            small = omega (arith, admitted.listed, ready.listed.most);
            fits = change_fits chip t n (agreed ≡ false) r call (ToOpen d) (yes.Granted g) p told;
          }
      go (ToOpen d) (yes.Cells k) p told ready = absurd told
      go ToClose y p told ready =
          let agrees = not_false_true agreed (passed (order_of chip t n (agreed ≡ false) r.state call ToClose) 4 p) in
          record {
            legal = ready.legal;
            walkable = own_walkable chip r t r.state (own agrees) ready.tabled;
            small = omega arith;
            fits = closed_fits;
          }

-- ---- 1 to 4, told by `agreed`

module _ (chip : Chip) (t : List ℕ) (n : ℕ) (list : List Record) (agreed : Bool) (tells : Tells agreed (Agrees chip t n list)) where
  begins : Alike (checked chip t n (agreed ≡ false)) (checked chip t n (¬ Agree chip t n list))
  begins =
      alike_line _ _ _ λ legal.
      alike_line _ _ _ λ tabled.
      alike_line _ _ _ λ listed.
      alike_given 4 _ _ _ _
      (λ e g. legal λ l. tabled λ b. listed λ k. tells.no e (record { ready = record { legal = l; tabled = b; listed = k }; agree = g }))
      (λ g. not_true_false agreed (λ e. g (tells.yes e).agree))
      λ _. alike_self _

  -- the report
  pub report_refused : (k : ℕ) → Refuses (checked chip t n (agreed ≡ false)) k → Refuses (report_order chip t n list) k
  report_refused k q = refuses_alike _ _ k begins q

  report_agrees : Passes (checked chip t n (agreed ≡ false)) → Agrees chip t n list
  report_agrees p = tells.yes (not_false_true agreed (passed (checked chip t n (agreed ≡ false)) 4 p))

  pub report_room : Passes (checked chip t n (agreed ≡ false)) → held_cells chip.wheel n list ≤ chip.channels * chip.wheel.n
  report_room p =
      let agrees = report_agrees p in
      omega (arith, free_and_held chip t n list agrees.ready.legal agrees.agree)

  pub report_told : Passes (checked chip t n (agreed ≡ false)) → (held : ℕ) → held ≡ held_cells chip.wheel n list
      → Reports chip t n list (Ok (record { free = chip.channels * chip.wheel.n - held; held = held }))
  unfolding Reports
  report_told p held e =
      let agrees = report_agrees p in
      (passes_alike _ _ begins p, omega (arith, e, free_and_held chip t n list agrees.ready.legal agrees.agree), e)

  -- ---- a call

  module _ (r : Record) (call : Call) (same : RecordOf list n call.flow r) where
    pub own_told : agreed ≡ true → Own chip r.state r
    own_told e = record_own chip t n list call.flow r same (tells.yes e)

    alike : Alike (order_of chip t n (agreed ≡ false) r.state call call.verb) (call_order chip t n list call)
    alike =
        order_alike chip t t n _ _ _ _ call call.verb begins
        (λ p one most. ap (λ x. x.state) (same.there one most (omega (arith, (checked_ready chip t n _ p).listed.most)))) (λ _ _ _. refl)

    pub refused : (q : Refusal) → Decides chip t n (agreed ≡ false) r call call.verb (Err q) → Refuses (call_order chip t n list call) (number q)
    unfolding Settles
    refused q d = refuses_alike _ _ (number q) alike d

    module _ (y : Yes) (d : Decides chip t n (agreed ≡ false) r call call.verb (Ok y)) where
      -- its flow is in the list, and the record is the flow's
      pub listed : (1 ≤ call.flow) × (call.flow ≤ n)
      unfolding Settles
      listed = named chip t n _ _ call call.verb d.0

      is : r ≡ flow list (call.flow - 1)
      unfolding Settles
      is =
          let few = (checked_ready chip t n _ (passes_front (checked chip t n (agreed ≡ false)) _ d.0)).listed.most in
          same.there listed.0 listed.1 (omega (arith, few, listed.1))

      pub written : Writable chip t (change r call call.verb y)
      unfolding Settles
      written = writable chip t n agreed r call own_told call.verb y d.0 d.1

      -- what was decided, marked and put is what the call promises
      pub performed : (t' : List ℕ) (list' : List Record) → Marked chip (change r call call.verb y) t t'
          → list' ≡ set list (call.flow - 1) (change r call call.verb y).new → Performs chip t n list call t' list' (Ok y)
      unfolding Settles
      performed t' list' marks put = (passes_alike _ _ alike d.0, rw (← is) d.1, rw (← is) marks, put ∙ rw is)

-- ---- over a list in any form, n being its count

module _ {A : Type 0} (count : List A → ℕ) (records : List A → List Record) (Put : List A → ℕ → Record → List A → Type 0)
    (form : Form count records Put) (chip : Chip) (t : List ℕ) (l : List A) (agreed : Bool)
    (tells : Tells agreed (Agrees chip t (count l) (records l))) (r : Record) (call : Call) (same : RecordOf (records l) (count l) call.flow r)
    (n : ℕ) (n-is : n ≡ count l) where
  pub performs_not : (q : Refusal) → Decides chip t n (agreed ≡ false) r call call.verb (Err q) → PerformsOn count records Put chip t l call t l (Err q)
  performs_not q d =
      let here = subst (λ m. Decides chip t m (agreed ≡ false) r call call.verb (Err q)) n-is d in
      record { answers = (refused chip t (count l) (records l) agreed tells r call same q here, refl, refl); list = refl }

  module _ (y : Yes) (d : Decides chip t n (agreed ≡ false) r call call.verb (Ok y)) (c : Change) (made : c ≡ change r call call.verb y) where
    here : Decides chip t (count l) (agreed ≡ false) r call call.verb (Ok y)
    here = subst (λ m. Decides chip t m (agreed ≡ false) r call call.verb (Ok y)) n-is d

    there : (1 ≤ call.flow) × (call.flow ≤ count l)
    there = listed chip t (count l) (records l) agreed tells r call same y here

    -- the flow has its place, and what is written fits
    pub flow_one : 1 ≤ call.flow
    flow_one = there.0

    pub flow_inside : call.flow - 1 < count l
    flow_inside = omega (arith, there.0, there.1)

    pub change_written : Writable chip t c
    change_written = subst (Writable chip t) (sym made) (written chip t (count l) (records l) agreed tells r call same y here)

    pub performs_yes : (t' : List ℕ) (l' : List A) → Marked chip c t t' → Put l (call.flow - 1) c.new l' → PerformsOn count records Put chip t l call t' l' (Ok y)
    performs_yes t' l' marks put = go (subst (λ x. Marked chip x t t') made marks) (subst (λ x. Put l (call.flow - 1) x.new l') made put)
      where
        at : r ≡ flow (records l) (call.flow - 1)
        at = is chip t (count l) (records l) agreed tells r call same y here

        go : Marked chip (change r call call.verb y) t t' → Put l (call.flow - 1) (change r call call.verb y).new l'
            → PerformsOn count records Put chip t l call t' l' (Ok y)
        go marks put =
            let fits = (written chip t (count l) (records l) agreed tells r call same y here).fits in
            let kept = form.put l (call.flow - 1) _ l' flow_inside fits put in
            record {
              answers = performed chip t (count l) (records l) agreed tells r call same y here t' (records l') marks kept.1;
              list = subst (λ x. Put l (call.flow - 1) (change x call call.verb y).new l') at put;
            }

-- what `enter` hands on is what the flows hold
pub entered : (chip : Chip) (t : List ℕ) (n : ℕ) (list : List Record) (held : Option ℕ) → IfSome held (λ k. k ≡ held_cells chip.wheel n list)
    → (k : ℕ) → Gates chip t n held (Ok k) → Passes (checked chip t n (is_some held ≡ false)) × (k ≡ held_cells chip.wheel n list)
unfolding Gates
entered chip t n list held known k g = (through chip t n held k g, subst (λ o. IfSome o (λ k. k ≡ held_cells chip.wheel n list)) g.1 known)

-- ---- opening and closing: the chip is made from wheel and table, the call from what was asked, and the answer is told in
-- their words

module _ {A : Type 0} (count : List A → ℕ) (records : List A → List Record) (Put : List A → ℕ → Record → List A → Type 0)
    (t : List ℕ) (l : List A) (t' : List ℕ) (l' : List A) (chip made : Chip) (made-is : made ≡ chip) (call asked : Call) (asked-is : call ≡ asked)
    (a : Result Yes Refusal) (p : PerformsOn count records Put made t l call t' l' a) where
  done : PerformsOn count records Put chip t l asked t' l' a
  done =
      subst (λ x. PerformsOn count records Put x t l asked t' l' a) made-is
      (subst (λ x. PerformsOn count records Put made t l x t' l' a) asked-is p)

  pub as_opened : (path : List ℕ) (m f : ℕ) (d : Demand) → asked ≡ opening path m f d → (o : Result Grant Refusal) → o ≡ to_opened a
      → PerformsOn count records Put chip t l (opening path m f d) t' l' (of_opened o)
  as_opened path m f d e o told =
      subst (λ x. PerformsOn count records Put chip t l (opening path m f d) t' l' (of_opened x)) (sym told)
      (go a (subst (λ x. PerformsOn count records Put chip t l x t' l' a) e done))
    where
      go : (a : Result Yes Refusal) → PerformsOn count records Put chip t l (opening path m f d) t' l' a
          → PerformsOn count records Put chip t l (opening path m f d) t' l' (of_opened (to_opened a))
      go (Ok (yes.Granted g)) p = p
      go (Ok (yes.Cells k)) p = absurd p.answers.1
      go (Err q) p = p

  pub as_cleared : (f : ℕ) → asked ≡ closing f → (o : Result ℕ Refusal) → o ≡ to_cleared a
      → PerformsOn count records Put chip t l (closing f) t' l' (of_cleared o)
  as_cleared f e o told =
      subst (λ x. PerformsOn count records Put chip t l (closing f) t' l' (of_cleared x)) (sym told)
      (go a (subst (λ x. PerformsOn count records Put chip t l x t' l' a) e done))
    where
      go : (a : Result Yes Refusal) → PerformsOn count records Put chip t l (closing f) t' l' a
          → PerformsOn count records Put chip t l (closing f) t' l' (of_cleared (to_cleared a))
      go (Ok (yes.Granted g)) p = absurd p.answers.1
      go (Ok (yes.Cells k)) p = p
      go (Err q) p = p

-- the same for a list of records, n being their number

module _ (chip : Chip) (t : List ℕ) (n : ℕ) (list : List Record) (t' : List ℕ) (list' : List Record) where
  pub as_opens : (path : List ℕ) (m f : ℕ) (d : Demand) (a : Result Yes Refusal) → Performs chip t n list (opening path m f d) t' list' a
      → Opens chip t n list path m f d t' list' (to_opened a)
  unfolding Opens
  as_opens path m f d (Ok (yes.Granted g)) p = p
  as_opens path m f d (Ok (yes.Cells k)) p = absurd p.1
  as_opens path m f d (Err q) p = p

  pub as_closes : (f : ℕ) (a : Result Yes Refusal) → Performs chip t n list (closing f) t' list' a → Closes chip t n list f t' list' (to_cleared a)
  unfolding Closes
  as_closes f (Ok (yes.Granted g)) p = absurd p.1
  as_closes f (Ok (yes.Cells k)) p = p
  as_closes f (Err q) p = p
