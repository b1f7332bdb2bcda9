-- The part of a row that cannot be asked for, for the wheel as it was given.
use Rattle.std.proofs.Common.{◌≡◌, List, ℕ, length, min}
use Rattle.rules.specs.declared.Wheel.{Wheel}
use Rattle.rules.specs.Paths.{chip_of}
use Rattle.rules.specs.Promises.{Row}
use Rattle.face.specs.Calls.{wheel_of, Rowing}
use Rattle.face.specs.Wide.{row_given}
use Rattle.face.specs.Cases.{row_none}

-- no part, no row: the number is 1, and the values stay
pub row_refused : (n s h p : ℕ) (t : List ℕ) (c : ℕ) (values : List ℕ) (v : Wheel) (part : List ℕ) (k : ℕ)
    → v ≡ wheel_of n (min s 65535) (min h 65535) p → Row (chip_of v t) t c part → k ≡ length part → k ≡ 0
    → Rowing (wheel_of n s h p) t c 1 values values
row_refused n s h p t c values v part k asked row long none =
    row_none _ t c part (row_given n s h p v asked t c part row) k long none values
