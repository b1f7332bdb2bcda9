-- Lists that are given place by place.
use Rattle.std.specs.Prelude.{◌≡◌, refl, ◌∷◌, ℕ, zero, suc, ◌+◌, ◌<◌, get_or, replicate}
use Rattle.std.proofs.Common.{ap, ◌∙◌, arith}
use Rattle.rules.specs.Sets.{list_of}

pub list_of_at : (f : ℕ → ℕ) (i m j : ℕ) → j < m → get_or (list_of f i m) j 0 ≡ f (i + j)
unfolding list_of
list_of_at f i zero j h = absurd (omega arith)
list_of_at f i (suc m) zero h = ap f (omega arith)
list_of_at f i (suc m) (suc j) h = list_of_at f (suc i) m j (omega arith) ∙ ap f (omega arith)

pub list_of_one : (v i m : ℕ) → list_of (λ j. v) i m ≡ replicate m v
unfolding list_of
list_of_one v i zero = refl
list_of_one v i (suc m) = ap (λ xs. v ∷ xs) (list_of_one v (suc i) m)
