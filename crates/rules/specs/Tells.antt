-- What a test promises: a yes gives the fact, a no its denial.
use Rattle.std.specs.Prelude.{◌≡◌, Bool, true, false}

pub record Tells (r : Bool) (P : Type 0) : Type 0 where
  pub yes : r ≡ true → P
  pub no : r ≡ false → ¬ P
