-- The lines of an order, one by one: what a call that passes has shown, each fact by its line's number, and what makes the
-- lines pass.
use Rattle.std.specs.Prelude.{◌≡◌, true, false, List, [], ◌∷◌, ◌⊎◌, ℕ, ◌≤◌, ◌<◌, get_or}
use Rattle.std.proofs.Common.{inl, inr, arith}
use Rattle.std.proofs.Math.Decide.{dec_lt}
use Rattle.rules.specs.declared.Demand.{Demand}
use Rattle.rules.specs.declared.State.{State}
use Rattle.rules.specs.declared.Call.{Call}
use Rattle.rules.specs.declared.Verb.{Verb}
use Rattle.rules.specs.declared.Verb.TheVariants.{ToOpen, ToClose}
use Rattle.rules.specs.Paths.{Chip, travel, Inside, Once}
use Rattle.rules.specs.Flows.{claiming}
use Rattle.rules.specs.Numbers.{line, ◌then◌, Passes}
use Rattle.rules.specs.Orders.{Listed, Ready, checked, way_lines, flow_lines, state_lines, order_of}
use Rattle.laws.specs.Decided.{legal_decided, tabled_decided}
use Rattle.laws.specs.Logic.{not_true_false, not_false_true, le_or_lt}
use Rattle.laws.specs.Refusals.{passed, passes_back}

-- what is decided and not refused holds
pub stable : {P : Type 0} → Dec P → ¬ ¬ P → P
stable (yes p) h = p
stable (no n) h = absurd (h n)

pub inside_stable : (chip : Chip) (path : List ℕ) (m : ℕ) → ¬ ¬ Inside chip.channels path m → Inside chip.channels path m
inside_stable chip path m h = record { at = λ i l. go i l (dec_lt (get_or path i 0) chip.channels) }
  where
    go : (i : ℕ) → i < m → Dec (get_or path i 0 < chip.channels) → get_or path i 0 < chip.channels
    go i l (yes k) = k
    go i l (no n) = absurd (h λ inside. n (inside.at i l))

once_stable : (path : List ℕ) (m : ℕ) → ¬ ¬ Once path m → Once path m
once_stable path m h = record { at = λ i k l j e. h λ once. once.at i k l j e }

neither : {P Q : Type 0} → ¬ (P ⊎ Q) → (¬ P) × (¬ Q)
neither h = (λ p. h (inl p), λ q. h (inr q))

pub in_list : (n f : ℕ) → ¬ ((f ≡ 0) ⊎ (n < f)) → (1 ≤ f) × (f ≤ n)
in_list n f h = let (one, most) = neither h in (omega (arith, one), omega (arith, most))

pub record Admitted (chip : Chip) (n : ℕ) (state : State) (path : List ℕ) (m f : ℕ) (d : Demand) : Type 0 where
  pub some : 1 ≤ m
  pub fits : m ≤ 16
  pub inside : Inside chip.channels path m
  pub once : Once path m
  pub one : 1 ≤ f
  pub listed : f ≤ n
  pub shut : claiming state ≡ false
  pub words : 1 ≤ d.words.0
  pub time : travel chip path m < d.deadline

module _ (chip : Chip) (t : List ℕ) (n : ℕ) (disagree : Type 0) (s : State) (call : Call) where
  -- its flow is one of the list
  pub named : (v : Verb) → Passes (order_of chip t n disagree s call v) → (1 ≤ call.flow) × (call.flow ≤ n)
  named v p =
      let rest = passes_back (way_lines chip call v) _ (passes_back (checked chip t n disagree) _ p) in
      in_list n call.flow (passed (flow_lines n call.flow then state_lines chip t s call v) 8 rest)

  pub saw : (d : Demand) → Passes (order_of chip t n disagree s call (ToOpen d)) → Admitted chip n s call.path.entries call.path.len call.flow d
  saw d p =
      let line : (k : ℕ) → _ = λ k. passed (order_of chip t n disagree s call (ToOpen d)) k p in
      let (some, fits) = neither (line 5) in
      let (one, listed) = named (ToOpen d) p in
      let words : ¬ (d.words.0 ≡ 0) = line 11 in
      let time : ¬ (d.deadline ≤ travel chip call.path.entries call.path.len) = line 12 in
      record {
        some = omega (arith, some);
        fits = omega (arith, fits);
        inside = inside_stable chip call.path.entries call.path.len (line 6);
        once = once_stable call.path.entries call.path.len (line 7);
        one = one;
        listed = listed;
        shut = not_true_false _ (line 9);
        words = omega (arith, words);
        time = omega (arith, time);
      }

  pub claimed : Passes (order_of chip t n disagree s call ToClose) → claiming s ≡ true
  claimed p = not_false_true _ (passed (order_of chip t n disagree s call ToClose) 10 p)

-- what passes 1 to 4 is ready
pub checked_ready : (chip : Chip) (t : List ℕ) (n : ℕ) (disagree : Type 0) → Passes (checked chip t n disagree) → Ready chip t n
checked_ready chip t n disagree p =
    let line : (k : ℕ) → _ = λ k. passed (checked chip t n disagree) k p in
    record {
      legal = stable (legal_decided chip.wheel) (line 1);
      tabled = stable (tabled_decided chip.channels t) (line 2);
      listed = few (line 3);
    }
  where
    few : ¬ ¬ Listed n → Listed n
    few h = go (le_or_lt 1 n) (le_or_lt n 64)
      where
        go : (1 ≤ n) ⊎ (n < 1) → (n ≤ 64) ⊎ (64 < n) → Listed n
        go (inl a) (inl b) = record { some = a; most = b }
        go (inl a) (inr b) = absurd (h λ l. omega (arith, l.most))
        go (inr a) b = absurd (h λ l. omega (arith, l.some))

-- ---- what makes the lines pass

pub one_line : (k : ℕ) (P : Type 0) → ¬ P → Passes (line k P ∷ [])
unfolding Passes
one_line k P h = (h, tt)

pub ready_passes : (chip : Chip) (t : List ℕ) (n : ℕ) (disagree : Type 0) → Ready chip t n → ¬ disagree → Passes (checked chip t n disagree)
unfolding Passes
ready_passes chip t n disagree ready h = (λ no. no ready.legal, (λ no. no ready.tabled, (λ no. no ready.listed, (h, tt))))

pub listed_passes : (n f : ℕ) → 1 ≤ f → f ≤ n → Passes (flow_lines n f)
listed_passes n f one most = one_line 8 ((f ≡ 0) ⊎ (n < f)) go
  where
    go : ¬ ((f ≡ 0) ⊎ (n < f))
    go (inl e) = omega arith
    go (inr l) = omega arith
