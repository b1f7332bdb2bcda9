-- Which cells are claimed. A claimed cell has a position of the path and a chosen slot behind it, and only one slot,
-- since two slots of the wheel are never seen in one cell at one position; and free slots claim only cells that are 0.
use Rattle.std.specs.Prelude.{◌≡◌, refl, true, false, ◌&&◌, List, ◌⊎◌, ℕ, ◌+◌, ◌*◌, ◌/◌, ◌%◌, ◌≤◌, ◌<◌, get_or}
use Rattle.std.proofs.Math.Path.{sym, ap}
use Rattle.std.proofs.Common.{◌∙◌, inl, inr, arith, div-add-mod', mul-le-mul_right, suc-mul, zero-add}
use Rattle.std.proofs.Math.Nat.{mod-lt}
use Rattle.std.proofs.Math.Dec.{eqb}
use borrow.Author.Tests.{eq-eqb, eqb-true}
use Rattle.rules.specs.declared.State.{State}
use Rattle.rules.specs.declared.State.TheVariants.{Closed, Open}
use Rattle.rules.specs.declared.Record.{Record}
use Rattle.rules.specs.Sets.{has, Within, Below}
use Rattle.rules.specs.Paths.{Chip, cell, shift, seen, usable, free, free_slots, reached, claims, Inside}
use Rattle.rules.specs.Flows.{claiming, takes, Own}
use Rattle.laws.specs.Logic.{not_both, and_true, le_or_lt}
use Rattle.laws.specs.Search.{any_find, any_yes, all_each}
use Rattle.laws.specs.Sets.{has_set, set_below}

-- ---- a slot as a channel sees it

-- adding k and going round a wheel of N slots loses no slot
turned_once : (N k s u : ℕ) → s < N → u < N → (s + k) % N ≡ (u + k) % N → s ≡ u
turned_once N k s u hs hu e = go (le_or_lt ((s + k) / N) ((u + k) / N)) (le_or_lt ((u + k) / N) ((s + k) / N))
  where
    further : (p q : ℕ) → p < q → p * N + N ≤ q * N
    further p q h = omega (arith, mul-le-mul_right N h, suc-mul p N)

    go : ((s + k) / N ≤ (u + k) / N) ⊎ ((u + k) / N < (s + k) / N) → ((u + k) / N ≤ (s + k) / N) ⊎ ((s + k) / N < (u + k) / N) → s ≡ u
    go (inr l) b = absurd (omega (arith, further _ _ l, div-add-mod' (s + k) N, div-add-mod' (u + k) N))
    go (inl a) (inr l) = absurd (omega (arith, further _ _ l, div-add-mod' (s + k) N, div-add-mod' (u + k) N))
    go (inl a) (inl b) =
        let same : (s + k) / N ≡ (u + k) / N = omega arith in
        omega (arith, div-add-mod' (s + k) N, div-add-mod' (u + k) N, ap (λ q. q * N) same)

module _ (chip : Chip) (path : List ℕ) (i : ℕ) where
  pub seen_below : 1 ≤ chip.wheel.n → (s : ℕ) → seen chip path i s < chip.wheel.n
  unfolding seen
  seen_below n1 s = mod-lt (s + shift chip path i) n1

  -- two slots of the wheel are not seen in one cell
  pub seen_once : (s u : ℕ) → s < chip.wheel.n → u < chip.wheel.n → seen chip path i s ≡ seen chip path i u → s ≡ u
  unfolding seen
  seen_once s u = turned_once chip.wheel.n (shift chip path i) s u

-- ---- a claimed cell

-- a claim: its position and its slot
pub record Claim (chip : Chip) (path : List ℕ) (m x c j : ℕ) : Type 0 where
  pub position : ℕ
  pub slot : ℕ
  pub on_path : position < m
  pub on_wheel : slot < chip.wheel.n
  pub here : get_or path position 0 ≡ c
  pub chosen : has x slot ≡ true
  pub there : seen chip path position slot ≡ j

module _ (chip : Chip) (path : List ℕ) (m x c j : ℕ) where
  pub claim_found : claims chip path m x c j ≡ true → Claim chip path m x c j
  unfolding claims reached
  claim_found e =
      let i = any_find (λ i. eqb (get_or path i 0) c && reached chip path x i j chip.wheel.n) m e in
      let at = and_true _ _ i.there in
      let s = any_find (λ s. has x s && eqb (seen chip path i.place s) j) chip.wheel.n at.1 in
      let one = and_true _ _ s.there in
      record {
        position = i.place;
        slot = s.place;
        on_path = i.below;
        on_wheel = s.below;
        here = eqb-true _ _ at.0;
        chosen = one.0;
        there = eqb-true _ _ one.1;
      }

  pub claim_made : Claim chip path m x c j → claims chip path m x c j ≡ true
  unfolding claims reached
  claim_made k =
      any_yes _ m k.position k.on_path
      (rw (eq-eqb _ _ k.here) (any_yes _ chip.wheel.n k.slot k.on_wheel (rw k.chosen (eq-eqb _ _ k.there))))

  -- claimed cells are cells of the chip, below N
  pub claim_inside : 1 ≤ chip.wheel.n → Inside chip.channels path m → claims chip path m x c j ≡ true → (c < chip.channels) × (j < chip.wheel.n)
  claim_inside n1 inside e =
      let k = claim_found e in (
        omega (arith, inside.at k.position k.on_path, k.here),
        omega (arith, seen_below chip path k.position n1 k.slot, k.there),
      )

-- ---- what a record claims

module _ (chip : Chip) (r : Record) (c j : ℕ) where
  pub takes_claims : claiming r.state ≡ true → takes chip r c j ≡ claims chip r.path.entries r.path.len r.slots c j
  unfolding takes
  takes_claims e = rw e

  pub takes_none : claiming r.state ≡ false → takes chip r c j ≡ false
  unfolding takes
  takes_none e = rw e

  pub takes_inside : 1 ≤ chip.wheel.n → Own chip r.state r → takes chip r c j ≡ true → (c < chip.channels) × (j < chip.wheel.n)
  unfolding takes Own claiming
  takes_inside n1 own e = go r.state own (and_true _ _ e)
    where
      go : (s : State) → Own chip s r → (claiming s ≡ true) × (claims chip r.path.entries r.path.len r.slots c j ≡ true)
          → (c < chip.channels) × (j < chip.wheel.n)
      go Closed own e = absurd (not_both e.0 refl)
      go (Open d) own e = claim_inside chip r.path.entries r.path.len r.slots c j n1 own.inside e.1

-- ---- free slots

pub usable_free : (chip : Chip) (t : List ℕ) (c j : ℕ) → usable chip t c j ≡ true → cell t c j ≡ 0
unfolding usable
usable_free chip t c j e = eqb-true _ _ e

module _ (chip : Chip) (t path : List ℕ) (m : ℕ) where
  pub has_free : (s : ℕ) → s < chip.wheel.n → has (free_slots chip t path m) s ≡ free chip t path m s
  unfolding free_slots
  has_free s h = has_set (free chip t path m) chip.wheel.n 0 s h ∙ ap (free chip t path m) (zero-add s)

  pub free_below : Below chip.wheel.n (free_slots chip t path m)
  unfolding free_slots
  free_below = set_below (free chip t path m) 0 chip.wheel.n

  -- slots among the free ones claim only cells that are 0
  pub chosen_free : (x c j : ℕ) → Within (free_slots chip t path m) x → claims chip path m x c j ≡ true → cell t c j ≡ 0
  unfolding free
  chosen_free x c j within e =
      let k = claim_found chip path m x c j e in
      let is_free = sym (has_free k.slot k.on_wheel) ∙ within.among k.slot k.chosen in
      ap (λ d. cell t d j) (sym k.here)
      ∙ ap (cell t (get_or path k.position 0)) (sym k.there)
      ∙ usable_free chip t _ _ (all_each _ m k.position k.on_path is_free)
