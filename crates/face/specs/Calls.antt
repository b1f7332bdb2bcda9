-- What the calls promise to C, over the numbers as C gives them: any S, H, W, D or L, however wide.
use Rattle.std.specs.Prelude.{◌≡◌, List, [], ◌∷◌, ◌⊎◌, ℕ, ◌-◌, ◌*◌, min, Result, Ok, Err}
use Rattle.rules.specs.declared.Refusal.{Refusal}
use Rattle.rules.specs.declared.Wheel.{Wheel}
use Rattle.rules.specs.declared.Grant.{Grant}
use Rattle.rules.specs.Paths.{Chip, chip_of, allowed, free_slots, Stamped}
use Rattle.rules.specs.Numbers.{number, Refuses, Passes}
use Rattle.rules.specs.Orders.{report_order, open_order}
use Rattle.rules.specs.Promises.{Grants, HasRow, open_record}
use Rattle.bytes_list.specs.Layout.{count_of, list_in, asks, Written}

-- the wheel of C's four numbers
abbrev pub wheel_of : ℕ → ℕ → ℕ → ℕ → Wheel
wheel_of n s h p = record { n = n; s = record { 0 = s }; h = record { 0 = h }; p = p }

-- agreement: 0 exactly if nothing is wrong, or the number of the first thing that is
unfoldable pub Agreeing : Wheel → List ℕ → List ℕ → ℕ → Type 0
Agreeing w t b k =
    ((k ≡ 0) × Passes (report_order (chip_of w t) t (count_of b) (list_in b))) ⊎ Refuses (report_order (chip_of w t) t (count_of b) (list_in b)) k

-- ---- opening

module _ (chip : Chip) (t b path : List ℕ) (m f W D : ℕ) (t' b' : List ℕ) where
  -- a grant; a record has 16 bits for the deadline, and keeps 65,535 for a longer one
  pub record Opening (g : Grant) : Type 0 where
    pub passes : Passes (open_order chip t (count_of b) (list_in b) path m f (asks W D))
    pub grants : Grants chip.wheel (free_slots chip t path m) W (allowed chip path m D) g
    pub table : Stamped chip path m g.slots f t t'
    pub list : Written b (64 * (f - 1)) (open_record path m g.slots (asks W (min D 65535))) b'

  pub record KeptClosed (k : ℕ) : Type 0 where
    pub refuses : Refuses (open_order chip t (count_of b) (list_in b) path m f (asks W D)) k
    pub table : t' ≡ t
    pub list : b' ≡ b

  abbrev pub OpensGiven : Result Grant Refusal → Type 0
  OpensGiven (Ok g) = Opening g
  OpensGiven (Err q) = KeptClosed (number q)

-- the row of a channel: where it starts, and its N cells; or 1
pub record Rowing (w : Wheel) (t : List ℕ) (c k : ℕ) (v v' : List ℕ) : Type 0 where
  pub good : HasRow (chip_of w t) t c → (k ≡ 0) × (v' ≡ 64 * c ∷ w.n ∷ [])
  pub bad : ¬ HasRow (chip_of w t) t c → (k ≡ 1) × (v' ≡ v)
