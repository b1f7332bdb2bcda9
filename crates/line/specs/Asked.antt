-- What is asked of a search, said over its parts: the search itself keeps it in a ghost field.
use Rattle.std.specs.Prelude.{ℕ, ◌≤◌}
use Rattle.rules.specs.declared.Wheel.{Wheel}
use Rattle.rules.specs.declared.Words.{Words}
use Rattle.rules.specs.Sets.{Below}
use Rattle.rules.specs.Wheels.{Legal}

-- a legal wheel that can be cut open, words and gaps that are not 0, free slots of the wheel
pub record Asked (wheel : Wheel) (free : ℕ) (words : Words) (limit : ℕ) : Type 0 where
  pub legal : Legal wheel
  pub two : 2 ≤ wheel.n
  pub some : 1 ≤ words.0
  pub l1 : 1 ≤ limit
  pub l64 : limit ≤ 64
  pub fit : Below wheel.n free
