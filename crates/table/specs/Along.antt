-- A path's rows one after the other: from what is done with each row to what is done with the table.
use Rattle.std.specs.Prelude.{◌≡◌, refl, true, ◌&&◌, cond, List, ℕ, ◌+◌, ◌-◌, ◌*◌, ◌%◌, ◌≤◌, ◌<◌, get_or, length, take, drop, eqb}
use Rattle.std.proofs.Common.{sym, ap, ◌∙◌, arith, zero-add}
use Rattle.std.proofs.Math.Nat.{add-mod-mod}
use Rattle.rules.specs.declared.State.{State}
use Rattle.rules.specs.declared.State.TheVariants.{Closed, Open}
use Rattle.rules.specs.declared.Record.{Record}
use Rattle.rules.specs.Sets.{has, all, set_of}
use Rattle.rules.specs.Wheels.{Legal}
use Rattle.rules.specs.Paths.{Chip, cell, shift, seen, usable, free, free_slots, reached, claims, Stamped, Inside}
use Rattle.rules.specs.Flows.{Own}
use Rattle.rules.specs.Orders.{Tabled}
use Rattle.laws.specs.Search.{any_same, all_more}
use Rattle.laws.specs.Sets.{has_set}
use Rattle.ledger.specs.Claims.{claim_found, claim_made}
use Rattle.ledger.specs.Stamps.{lent_cell, returned, stamp_turn}
use Rattle.rows.specs.Slots.{set_same}
use Rattle.rows.specs.Rows.{later, hits, stays, RowStamped, later_below}

-- every cell that x claims on the path holds v
pub record Holds (chip : Chip) (t path : List ℕ) (m x v : ℕ) : Type 0 where
  pub at : (c j : ℕ) → claims chip path m x c j ≡ true → cell t c j ≡ v

-- `row` is the 64 cells of channel c
pub record IsRow (t : List ℕ) (c : ℕ) (row : List ℕ) : Type 0 where
  pub at : (j : ℕ) → j < 64 → get_or row j 0 ≡ cell t c j

-- a path on which the rows of a table can be visited
pub record Walkable (chip : Chip) (t path : List ℕ) (m : ℕ) : Type 0 where
  pub fits : m ≤ 16
  pub rows : length t ≡ 64 * chip.channels
  pub inside : Inside chip.channels path m

-- a record that obeys its own rules has such a path
pub own_walkable : (chip : Chip) (r : Record) (t : List ℕ) (s : State) → Own chip s r → Tabled chip.channels t → Walkable chip t r.path.entries r.path.len
unfolding Own
own_walkable chip r t Closed own tabled =
    record { fits = omega (arith, own.len); rows = tabled.long; inside = record { at = λ i h. absurd (omega (arith, own.len)) } }
own_walkable chip r t (Open d) own tabled = record { fits = own.fits; rows = tabled.long; inside = own.inside }

-- ---- a row and its path

-- each channel of the path has its row in the table
pub row_room : {chip : Chip} {t path : List ℕ} {m : ℕ} → Walkable chip t path m → (i : ℕ) → i < m → 64 * get_or path i 0 + 64 ≤ length t
row_room walk i h = omega (arith, walk.inside.at i h, walk.rows)

-- a cell of the row that is lent, d being the number of its channel c
pub lent_row : (t : List ℕ) (d c j : ℕ) → d ≡ c → j < 64 → get_or (take (64 * d + 64 - 64 * d) (drop (64 * d) t)) j 0 ≡ cell t c j
lent_row t d c j e h = lent_cell t (64 * d) (64 * d + 64 - 64 * d) c j (ap (λ k. 64 * k) e) (omega arith)

-- the leaves are told the shift of position i as k, turned round the wheel
module _ (chip : Chip) (path : List ℕ) (i k : ℕ) (turned : k ≡ shift chip path i % chip.wheel.n) where
  pub seen_later : (s : ℕ) → seen chip path i s ≡ later chip.wheel.n k s
  unfolding seen later
  seen_later s = rw turned (sym (add-mod-mod s (shift chip path i) chip.wheel.n))

  pub reached_hits : (x j u : ℕ) → reached chip path x i j u ≡ hits chip.wheel.n k x j u
  unfolding reached hits
  reached_hits x j u = any_same _ _ u λ s h. rw (seen_later s)

  -- a cell of the row of position i
  pub seen_lent : (t row : List ℕ) (c : ℕ) → IsRow t c row → c ≡ get_or path i 0 → Legal chip.wheel → (s : ℕ)
      → get_or row (later chip.wheel.n k s) 0 ≡ cell t (get_or path i 0) (seen chip path i s)
  seen_lent t row c lent e legal s =
      lent.at (later chip.wheel.n k s) (omega (arith, later_below chip.wheel.n k s legal.n1, legal.n64))
      ∙ rw (e, seen_later s)

-- ---- free slots

pub free_start : (chip : Chip) (t path : List ℕ) → set_of (λ s. true) 0 chip.wheel.n ≡ set_of (free chip t path 0) 0 chip.wheel.n
unfolding free all
free_start chip t path = refl

-- the row of position i has been asked
pub free_turn : (chip : Chip) (t path row : List ℕ) (i k x : ℕ) → 1 ≤ chip.wheel.n → k ≡ shift chip path i % chip.wheel.n
    → x ≡ set_of (free chip t path i) 0 chip.wheel.n
    → ((j : ℕ) → j < chip.wheel.n → get_or row j 0 ≡ cell t (get_or path i 0) j)
    → set_of (stays row chip.wheel.n k x) 0 chip.wheel.n ≡ set_of (free chip t path (i + 1)) 0 chip.wheel.n
unfolding free stays usable
free_turn chip t path row i k x n1 turned made cells =
    set_same _ _ chip.wheel.n λ s h.
    rw (all_more, made, seen_later chip path i k turned s, ← cells (later chip.wheel.n k s) (later_below chip.wheel.n k s n1))
    (ap (λ b. b && eqb (get_or row (later chip.wheel.n k s) 0) 0) (has_set _ chip.wheel.n 0 s h ∙ ap (free chip t path i) (zero-add s)))

-- the row of a channel, which is that of position i
pub free_asked : (chip : Chip) (t path row : List ℕ) (c i k x : ℕ) → Legal chip.wheel → k ≡ shift chip path i % chip.wheel.n
    → x ≡ set_of (free chip t path i) 0 chip.wheel.n → IsRow t c row → c ≡ get_or path i 0
    → set_of (stays row chip.wheel.n k x) 0 chip.wheel.n ≡ set_of (free chip t path (i + 1)) 0 chip.wheel.n
free_asked chip t path row c i k x legal turned made lent e =
    free_turn chip t path row i k x legal.n1 turned made λ j h. lent.at j (omega (arith, legal.n64)) ∙ ap (λ d. cell t d j) e

pub free_end : (chip : Chip) (t path : List ℕ) (m x : ℕ) → x ≡ set_of (free chip t path m) 0 chip.wheel.n → x ≡ free_slots chip t path m
unfolding free_slots
free_end chip t path m x e = e

-- ---- marking a path, row by row

-- the row of position i, lent from the table t, has come back as ys
pub mark_turn : (chip : Chip) (path : List ℕ) (x v : ℕ) (t₀ t : List ℕ) (i k : ℕ) (ys : List ℕ) (d : ℕ)
    → k ≡ shift chip path i % chip.wheel.n → Stamped chip path i x v t₀ t → d ≡ get_or path i 0 → 64 * get_or path i 0 + 64 ≤ length t → length ys ≡ 64
    → RowStamped chip.wheel.n k x v (take (64 * d + 64 - 64 * d) (drop (64 * d) t)) ys
    → Stamped chip path (i + 1) x v t₀ (returned (64 * d) (64 * d + 64 - 64 * d) t ys)
mark_turn chip path x v t₀ t i k ys d turned stamped e room long marked =
    let size = 64 * d + 64 - 64 * d in
    stamp_turn chip path x v t₀ t i ys (64 * d) size stamped (ap (λ c. 64 * c) e) (omega arith) room long
    (λ j h. marked.at j h ∙ ap (λ b. cond b v (get_or (take size (drop (64 * d) t)) j 0)) (sym (reached_hits chip path i k turned x j chip.wheel.n)))

-- ---- cells that hold v, position by position

module _ (chip : Chip) (t path : List ℕ) (m x v : ℕ) where
  pub rows_hold : ((i : ℕ) → i < m → (s : ℕ) → s < chip.wheel.n → has x s ≡ true → cell t (get_or path i 0) (seen chip path i s) ≡ v)
      → Holds chip t path m x v
  rows_hold each =
      record {
        at = λ c j e.
            let k = claim_found chip path m x c j e in
            ap (λ d. cell t d j) (sym k.here)
            ∙ ap (cell t (get_or path k.position 0)) (sym k.there)
            ∙ each k.position k.on_path k.slot k.on_wheel k.chosen;
      }

  pub hold_rows : Holds chip t path m x v → (i : ℕ) → i < m → (s : ℕ) → s < chip.wheel.n → has x s ≡ true
      → cell t (get_or path i 0) (seen chip path i s) ≡ v
  hold_rows holds i h s l e =
      holds.at (get_or path i 0) (seen chip path i s)
      (claim_made chip path m x (get_or path i 0) (seen chip path i s)
      (record { position = i; slot = s; on_path = h; on_wheel = l; here = refl; chosen = e; there = refl }))
