-- What a measure of a set promises, met and unique.
use Rattle.std.specs.Prelude.{◌≡◌, refl, ℕ}
use Rattle.std.proofs.Common.{sym, ◌∙◌}
use Rattle.std.proofs.Math.Decide.{ℕ_discrete}
use Rattle.rules.specs.declared.Wheel.{Wheel}
use Rattle.rules.specs.Wheels.{Legal, Measured}

pub measured_good : {w : Wheel} {value r : ℕ} → Legal w → r ≡ value → Measured w value r
measured_good l e = record { good = λ _. e; bad = λ n. absurd (n l) }

pub measured_bad : {w : Wheel} {value : ℕ} → ¬ Legal w → Measured w value 0
measured_bad n = record { good = λ l. absurd (n l); bad = λ _. refl }

-- the promise settles the result
pub measured_unique : {w : Wheel} {value : ℕ} (r q : ℕ) → Measured w value r → Measured w value q → r ≡ q
measured_unique {w} r q a b = go (ℕ_discrete r q)
  where
    go : Dec (r ≡ q) → r ≡ q
    go (yes e) = e
    go (no n) =
        let bad : ¬ Legal w = λ l. n (a.good l ∙ sym (b.good l)) in
        a.bad bad ∙ sym (b.bad bad)
