-- A chain of maxima, as the packets of a run form one: m j is the larger of e j and m (j + 1), and the last of them, at t,
-- the larger of e t and J. The whole is either reached through to J, or reached last at some q: then every m up to q is the
-- whole, and every one after q is less.
use Rattle.std.specs.Prelude.{◌≡◌, ◌⊎◌, ℕ, zero, suc, ◌+◌, ◌-◌, ◌≤◌, ◌<◌, max}
use Rattle.std.proofs.Common.{ap, inl, inr, ⊎_elim, arith, add-zero, eq-or-lt_of_le}
use Rattle.laws.specs.Logic.{le_or_lt}

pub lt_of_ne : {a b : ℕ} → a ≤ b → (a ≡ b → ⊥) → a < b
lt_of_ne {a} {b} h f = ⊎_elim (λ e. absurd (f e)) (λ l. l) (eq-or-lt_of_le h)

pub record Chain (m e : ℕ → ℕ) (t J : ℕ) : Type 0 where
  pub one : 1 ≤ t
  pub step : (j : ℕ) → 1 ≤ j → j < t → m j ≡ max (e j) (m (j + 1))
  pub last : m t ≡ max (e t) J

module _ {m e : ℕ → ℕ} {t J : ℕ} (c : Chain m e t J) where
  down : (i j : ℕ) → 1 ≤ j → j + i ≤ t → m (j + i) ≤ m j
  down zero j a b = omega (arith, ap m (add-zero j))
  down (suc i) j a b =
      let q : j + 1 + i ≡ j + suc i = omega arith in
      omega (arith, ap m q, down i (j + 1) (omega arith) (omega arith), c.step j a (omega arith))

  falls : (i j : ℕ) → 1 ≤ i → i ≤ j → j ≤ t → m j ≤ m i
  falls i j a b d =
      let q : i + (j - i) ≡ j = omega arith in
      rw q at (down (j - i) i a (omega arith))

  -- each part is at most its maximum
  pub part : (j : ℕ) → 1 ≤ j → j ≤ t → e j ≤ m j
  part j a b = go (le_or_lt t j)
    where
      go : (t ≤ j) ⊎ (j < t) → e j ≤ m j
      go (inr h) = omega (arith, c.step j a h)
      go (inl h) =
          let q : j ≡ t = omega arith in
          rw q (omega (arith, c.last))

  -- where no part from j on, nor J, is v, their maximum is less
  less : (v : ℕ) → (J ≡ v → ⊥) → (i j : ℕ) → 1 ≤ j → j + i ≡ t → m j ≤ v → ((k : ℕ) → j ≤ k → k ≤ t → e k ≡ v → ⊥) → m j < v
  less v h zero j a b l f =
      let q : j ≡ t = omega arith in
      let l2 = rw q at l in
      let x : J < v = lt_of_ne (omega (arith, c.last)) h in
      let y : e t < v = lt_of_ne (omega (arith, c.last)) (f t (omega arith) (omega arith)) in
      rw q (omega (arith, c.last))
  less v h (suc i) j a b l f =
      let s = c.step j a (omega arith) in
      let x : m (j + 1) < v = less v h i (j + 1) (omega arith) (omega arith) (omega arith) (λ k p q. f k (omega arith) q) in
      let y : e j < v = lt_of_ne (omega arith) (f j (omega arith) (omega arith)) in
      omega arith

  -- v, the whole, is reached last at q
  pub record Peak (v q : ℕ) : Type 0 where
    pub low : 1 ≤ q
    pub high : q ≤ t
    pub top : m 1 ≡ v
    pub here : e q ≡ v
    pub past : (k : ℕ) → q < k → k ≤ t → e k ≡ v → ⊥
    pub end : J ≡ v → ⊥

  pub peak_all : (v q : ℕ) → Peak v q → (j : ℕ) → 1 ≤ j → j ≤ q → m j ≡ v
  peak_all v q p j a b =
      omega (arith, falls 1 j (omega arith) a (omega (arith, p.high)), falls j q a b p.high, part q p.low p.high, p.top, p.here)

  pub peak_next : (v q : ℕ) → Peak v q → q < t → m (q + 1) < v
  peak_next v q p h =
      less v p.end (t - (q + 1)) (q + 1) (omega arith) (omega arith) (omega (arith, falls 1 (q + 1) (omega arith) (omega arith) (omega arith), p.top))
      (λ k a b. p.past k (omega arith) b)

  pub peak_end : (v q : ℕ) → Peak v q → J < v
  peak_end v q p = lt_of_ne (omega (arith, c.last, falls 1 t (omega arith) c.one (omega arith), p.top)) p.end

  pub through : (v : ℕ) → m 1 ≡ v → J ≡ v → (j : ℕ) → 1 ≤ j → j ≤ t → m j ≡ v
  through v p q j a b = omega (arith, falls 1 j (omega arith) a b, falls j t a b (omega arith), c.last)

  pub some_part : (v : ℕ) → m 1 ≡ v → (J ≡ v → ⊥) → ((k : ℕ) → 1 ≤ k → k ≤ t → e k ≡ v → ⊥) → ⊥
  some_part v p h f = omega (arith, less v h (t - 1) 1 (omega arith) (omega (arith, c.one)) (omega arith) f)
