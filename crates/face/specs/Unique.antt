-- Each promise settles everything: any two results that it allows for one input are equal, number and array, table and list,
-- byte for byte.
use Rattle.std.specs.Prelude.{◌≡◌, List, ◌⊎◌, ℕ, ◌+◌, ◌-◌, ◌*◌, ◌/◌, ◌≤◌, ◌<◌, min, get_or, Result, Ok, Err}
use Rattle.std.proofs.Math.Path.{sym}
use Rattle.std.proofs.Common.{ap, subst, ◌∙◌, inl, inr, arith, ext_get_or}
use Rattle.rules.specs.declared.Refusal.{Refusal}
use Rattle.rules.specs.declared.Yes.{Yes}
use Rattle.rules.specs.declared.Grant.{Grant}
use Rattle.rules.specs.declared.Wheel.{Wheel}
use Rattle.rules.specs.declared.Record.{Record}
use Rattle.rules.specs.declared.Call.{Call}
use Rattle.rules.specs.Paths.{Chip, chip_of, Stamped}
use Rattle.rules.specs.Numbers.{number}
use Rattle.rules.specs.Orders.{report_order, open_order, closing}
use Rattle.rules.specs.Promises.{Selects, HasRow, Closes, open_record}
use Rattle.rules.specs.Promises as promises
use Rattle.laws.specs.Logic.{le_or_lt}
use Rattle.laws.specs.Decided.{row_decided, tabled_decided}
use Rattle.laws.specs.Refusals.{settled, passes_not, same_number, passed}
use Rattle.laws.specs.Answers.{grants_unique, selects_unique}
use Rattle.ledger.specs.Lines.{stable}
use Rattle.ledger.specs.Stamps.{stamped_unique}
use Rattle.ledger.specs.Calls.{Settled, closes_unique, reports_unique}
use Rattle.bytes_list.specs.Layout.{count_of, list_in, asks, Written}
use Rattle.lent.specs.Lists.{PutBytes}
use Rattle.perform.specs.Performed.{Leaves}
use Rattle.bytes_calls.specs.OverBytes.{ReportsBytes, ClosesBytes}
use Rattle.face.specs.Told.{Told, of_granted, of_cleared, of_reported, Answered}
use Rattle.face.specs.Calls.{Agreeing, OpensGiven, Rowing}

-- ---- bytes of a list with one record written

written_unique : (old : List ℕ) (at : ℕ) (r : Record) (u v : List ℕ) → Written old at r u → Written old at r v → u ≡ v
written_unique old at r u v p q = ext_get_or 0 u v (p.long ∙ sym q.long) λ k _. go k (le_or_lt at k) (le_or_lt (at + 64) k)
  where
    inner : (k j : ℕ) → j < 32 → (k ≡ at + 2 * j) ⊎ (k ≡ at + 2 * j + 1) → get_or u k 0 ≡ get_or v k 0
    inner k j l (inl e) = subst (λ x. get_or u x 0 ≡ get_or v x 0) (sym e) (p.low j l ∙ sym (q.low j l))
    inner k j l (inr e) = subst (λ x. get_or u x 0 ≡ get_or v x 0) (sym e) (p.high j l ∙ sym (q.high j l))

    half : (k : ℕ) → at ≤ k → (2 * ((k - at) / 2) + 1 ≤ k - at) ⊎ (k - at < 2 * ((k - at) / 2) + 1)
        → (k ≡ at + 2 * ((k - at) / 2)) ⊎ (k ≡ at + 2 * ((k - at) / 2) + 1)
    half k a (inl h) = inr (omega arith)
    half k a (inr h) = inl (omega arith)

    go : (k : ℕ) → (at ≤ k) ⊎ (k < at) → (at + 64 ≤ k) ⊎ (k < at + 64) → get_or u k 0 ≡ get_or v k 0
    go k a (inl h) = p.after k h ∙ sym (q.after k h)
    go k (inr a) (inr h) = p.before k a ∙ sym (q.before k a)
    go k (inl a) (inr h) = inner k ((k - at) / 2) (omega arith) (half k a (le_or_lt (2 * ((k - at) / 2) + 1) (k - at)))

-- ---- what C is told

-- number and array are the same
pub record Same (k l : ℕ) (v u : List ℕ) : Type 0 where
  pub number : k ≡ l
  pub values : v ≡ u

told_unique : (s : Result (List ℕ) Refusal) (k l : ℕ) (v v₁ v₂ : List ℕ) → Told s k v v₁ → Told s l v v₂ → Same k l v₁ v₂
told_unique (Ok xs) k l v v₁ v₂ p q = record { number = p.0 ∙ sym q.0; values = p.1 ∙ sym q.1 }
told_unique (Err r) k l v v₁ v₂ p q = record { number = p.0 ∙ sym q.0; values = p.1 ∙ sym q.1 }

-- where the promises settle the answer
answered_unique : {A : Type 0} (P Q : A → Type 0) (said : A → Result (List ℕ) Refusal) → ((a b : A) → P a → Q b → a ≡ b) → (k l : ℕ) (v v₁ v₂ : List ℕ)
    → Answered P said k v v₁ → Answered Q said l v v₂ → Same k l v₁ v₂
answered_unique P Q said unique k l v v₁ v₂ p q =
    told_unique (said p.answer) k l v v₁ v₂ p.told
    (subst (λ a. Told (said a) l v v₂) (sym (unique p.answer q.answer p.promised q.promised)) q.told)

-- and table and list are the same
pub record SameBytes (k l : ℕ) (v u t t' b b' : List ℕ) : Type 0 where
  pub told : Same k l v u
  pub table : t ≡ t'
  pub list : b ≡ b'

module _ (k l : ℕ) (v v₁ v₂ : List ℕ) where
  -- ---- bare selection

  pub select_unique : (w : Wheel) (free W L : ℕ) → Answered (Selects w free W L) of_granted k v v₁ → Answered (Selects w free W L) of_granted l v v₂
      → Same k l v₁ v₂
  select_unique w free W L p q = answered_unique (Selects w free W L) (Selects w free W L) of_granted (selects_unique w free W L) k l v v₁ v₂ p q

  -- ---- the row

  pub row_unique : (w : Wheel) (t : List ℕ) (c : ℕ) → Rowing w t c k v v₁ → Rowing w t c l v v₂ → Same k l v₁ v₂
  row_unique w t c p q = go (row_decided (chip_of w t) t c)
    where
      go : Dec (HasRow (chip_of w t) t c) → Same k l v₁ v₂
      go (yes a) = record { number = (p.good a).0 ∙ sym (q.good a).0; values = (p.good a).1 ∙ sym (q.good a).1 }
      go (no a) = record { number = (p.bad a).0 ∙ sym (q.bad a).0; values = (p.bad a).1 ∙ sym (q.bad a).1 }

  -- ---- agreement

  pub agree_unique : (w : Wheel) (t b : List ℕ) → Agreeing w t b k → Agreeing w t b l → k ≡ l
  unfolding Agreeing
  agree_unique w t b (inl p) (inl q) = p.0 ∙ sym q.0
  agree_unique w t b (inl p) (inr q) = absurd (passes_not (report_order (chip_of w t) t (count_of b) (list_in b)) l p.1 q)
  agree_unique w t b (inr p) (inl q) = absurd (passes_not (report_order (chip_of w t) t (count_of b) (list_in b)) k q.1 p)
  agree_unique w t b (inr p) (inr q) = settled (report_order (chip_of w t) t (count_of b) (list_in b)) k l p q

  module _ (chip : Chip) (t b : List ℕ) where
    -- the bytes of the list after a call
    abbrev Left : Call → List ℕ → Result Yes Refusal → Type 0
    Left = Leaves count_of list_in PutBytes b

    -- ---- the report

    pub report_unique : Answered (ReportsBytes chip t b) of_reported k v v₁ → Answered (ReportsBytes chip t b) of_reported l v v₂ → Same k l v₁ v₂
    report_unique p q =
        answered_unique (ReportsBytes chip t b) (ReportsBytes chip t b) of_reported (reports_unique chip t (count_of b) (list_in b)) k l v v₁ v₂ p q

    module _ (t₁ t₂ b₁ b₂ : List ℕ) where
      -- ---- closing

      bytes_unique : (call : Call) (a : Result Yes Refusal) → Left call b₁ a → Left call b₂ a → b₁ ≡ b₂
      bytes_unique call (Ok y) p q = written_unique b (64 * (call.flow - 1)) _ b₁ b₂ p q
      bytes_unique call (Err r) p q = p ∙ sym q

      closed : (f : ℕ) (x y : Result ℕ Refusal) → ClosesBytes chip t b f t₁ b₁ x → ClosesBytes chip t b f t₂ b₂ y → Settled x y t₁ t₂ (list_in b₁) (list_in b₂)
      unfolding Closes
      closed f x y p q = closes_unique chip t (count_of b) (list_in b) f t₁ t₂ (list_in b₁) (list_in b₂) x y p.answers q.answers

      pub close_unique : (f : ℕ) → Answered (ClosesBytes chip t b f t₁ b₁) of_cleared k v v₁ → Answered (ClosesBytes chip t b f t₂ b₂) of_cleared l v v₂
          → SameBytes k l v₁ v₂ t₁ t₂ b₁ b₂
      close_unique f p q =
          let s = closed f p.answer q.answer p.promised q.promised in
          record {
            told =
                answered_unique (ClosesBytes chip t b f t₁ b₁) (ClosesBytes chip t b f t₂ b₂) of_cleared (λ x y c d. (closed f x y c d).answer) k l v v₁ v₂ p q;
            table = s.table;
            list =
                bytes_unique (closing f) (promises.of_cleared p.answer) p.promised.list
                (subst (λ a. Left (closing f) b₂ (promises.of_cleared a)) (sym s.answer) q.promised.list);
          }

      -- ---- opening

      module _ (path : List ℕ) (m f W D : ℕ) where
        opened_same : (x y : Result Grant Refusal) → OpensGiven chip t b path m f W D t₁ b₁ x → OpensGiven chip t b path m f W D t₂ b₂ y
            → (x ≡ y) × (t₁ ≡ t₂) × (b₁ ≡ b₂)
        opened_same (Ok g) (Ok h) p q =
            let order = open_order chip t (count_of b) (list_in b) path m f (asks W D) in
            let e = grants_unique g h p.grants q.grants in
            let long = (stable (tabled_decided chip.channels t) (passed order 2 p.passes)).long in (
              ap Ok e,
              stamped_unique chip path m h.slots chip.channels f t t₁ t₂ long
                  (subst (λ x. Stamped chip path m x.slots f t t₁) e p.table) q.table,
              written_unique b (64 * (f - 1)) (open_record path m h.slots (asks W (min D 65535))) b₁ b₂
                  (subst (λ x. Written b (64 * (f - 1)) (open_record path m x.slots (asks W (min D 65535))) b₁) e p.list) q.list,
            )
        opened_same (Ok g) (Err r) p q =
            absurd (passes_not (open_order chip t (count_of b) (list_in b) path m f (asks W D)) (number r) p.passes q.refuses)
        opened_same (Err r) (Ok g) p q =
            absurd (passes_not (open_order chip t (count_of b) (list_in b) path m f (asks W D)) (number r) q.passes p.refuses)
        opened_same (Err r) (Err s) p q = (
          ap Err (same_number r s (settled (open_order chip t (count_of b) (list_in b) path m f (asks W D)) (number r) (number s) p.refuses q.refuses)),
          p.table ∙ sym q.table,
          p.list ∙ sym q.list,
        )

        pub open_unique : Answered (OpensGiven chip t b path m f W D t₁ b₁) of_granted k v v₁ → Answered (OpensGiven chip t b path m f W D t₂ b₂) of_granted l v v₂
            → SameBytes k l v₁ v₂ t₁ t₂ b₁ b₂
        open_unique p q =
            let (_, table, list) = opened_same p.answer q.answer p.promised q.promised in
            record {
              told =
                  answered_unique (OpensGiven chip t b path m f W D t₁ b₁) (OpensGiven chip t b path m f W D t₂ b₂) of_granted
                  (λ x y c d. (opened_same x y c d).0) k l v v₁ v₂ p q;
              table = table;
              list = list;
            }
