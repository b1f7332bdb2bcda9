-- Meeting a demand and the best set: rules 5 and 6.
use Rattle.std.specs.Prelude.{◌≡◌, true, not, List, ◌∷◌, ◌⊎◌, ℕ, ◌+◌, ◌≤◌, ◌<◌}
use Rattle.rules.specs.declared.Wheel.{Wheel}
use Rattle.rules.specs.Sets.{Within, stretch, places}
use Rattle.rules.specs.Wheels.{chosen, start, size, words, gap}

-- rule 5: "a set meets the demand if it delivers at least W and no gap exceeds L"
pub record Meets (w : Wheel) (W L x : ℕ) : Type 0 where
  pub delivers : W ≤ words w x
  pub near : (i : ℕ) → i < w.n → chosen w.n x i ≡ true → gap w.n x i ≤ L

-- rule 6: the smallest start; N where there is none
unfoldable pub smallest_start : ℕ → ℕ → ℕ
smallest_start N x = stretch (λ i. not (start N x i)) 0 N

-- rule 6: "list the distances of its slots from that start, going round the wheel"
unfoldable pub distances : ℕ → ℕ → List ℕ
distances N x = places (λ d. chosen N x (smallest_start N x + d)) 0 N

-- rule 6: "the list with the smaller distance at the first place where two lists differ"
pub data Before : List ℕ → List ℕ → Type 0 where
  here : {a b : ℕ} {us vs : List ℕ} → a < b → Before (a ∷ us) (b ∷ vs)
  later : {a : ℕ} {us vs : List ℕ} → Before us vs → Before (a ∷ us) (a ∷ vs)

-- rule 6: x goes before y: "fewest slots, then most words, then the tie rule"
pub data Better (w : Wheel) (x y : ℕ) : Type 0 where
  fewer : size w.n x < size w.n y → Better w x y
  more : size w.n x ≡ size w.n y → words w y < words w x → Better w x y
  sooner : size w.n x ≡ size w.n y → words w x ≡ words w y → smallest_start w.n x < smallest_start w.n y → Better w x y
  closer : size w.n x ≡ size w.n y → words w x ≡ words w y → smallest_start w.n x ≡ smallest_start w.n y
      → Before (distances w.n x) (distances w.n y) → Better w x y

-- rule 6: "best, among the sets of free slots that meet the demand"
pub record Best (w : Wheel) (free W L x : ℕ) : Type 0 where
  pub within : Within free x
  pub meets : Meets w W L x
  pub best : (y : ℕ) → Within free y → Meets w W L y → (x ≡ y) ⊎ Better w x y
