-- Sets that are made slot by slot, from the highest down, and the set of all slots of a wheel.
use Rattle.std.specs.Prelude.{◌≡◌, refl, Bool, true, false, cond, ◌⊎◌, eqb, ℕ, suc, ◌+◌, ◌-◌, ◌*◌, ◌/◌, ◌%◌, ◌^◌, ◌≤◌, ◌<◌}
use Rattle.std.specs.Int.{from_bool}
use Rattle.std.proofs.Common.{sym, ap, ◌∙◌, inl, inr, zero-add, shr-shr, pow_mono, lit≤, arith}
use Rattle.rules.specs.Sets.{has, all, set_of}
use Rattle.laws.specs.Logic.{le_or_lt}
use Rattle.laws.specs.Search.{all_each}
use Rattle.laws.specs.Sets.{has_set, has_set_over, same_set, set_below, below_of, below_not, below_shift, below_small}

set_small : (f : ℕ → Bool) (i m : ℕ) → set_of f i m < 2 ^ m
set_small f i m = below_small _ m (below_shift _ m (set_below f i m))

pub set_same : (f g : ℕ → Bool) (m : ℕ) → ((s : ℕ) → s < m → f s ≡ g s) → set_of f 0 m ≡ set_of g 0 m
set_same f g m same = same_set _ _ λ s. go s (le_or_lt m s)
  where
    go : (s : ℕ) → (m ≤ s) ⊎ (s < m) → has (set_of f 0 m) s ≡ has (set_of g 0 m) s
    go s (inl l) = has_set_over f m 0 s l ∙ sym (has_set_over g m 0 s l)
    go s (inr l) = has_set f m 0 s l ∙ ap f (zero-add s) ∙ same s l ∙ ap g (sym (zero-add s)) ∙ sym (has_set g m 0 s l)

byte_is : (b : Bool) → from_bool b ≡ cond b 1 0
byte_is true = refl
byte_is false = refl

byte_most : (b : Bool) → from_bool b ≤ 1
byte_most true = lit≤ tt
byte_most false = lit≤ tt

-- the slots of f from s on are in y; now slot s - 1
module _ (f : ℕ → Bool) (n s y : ℕ) (some : 0 < s) (most : s ≤ n) (made : y ≡ set_of f s (n - s)) where
  pub set_down : (b : Bool) (d : ℕ) → b ≡ f (s - 1) → d ≡ from_bool b → 2 * y + d ≡ set_of f (s - 1) (n - (s - 1))
  unfolding set_of
  set_down b d e q =
      let one_more : n - (s - 1) ≡ suc (n - s) = omega arith in
      let next : suc (s - 1) ≡ s = omega arith in
      let low : d ≡ cond (f (s - 1)) 1 0 = q ∙ byte_is b ∙ ap (λ k. cond k 1 0) e in
      rw (one_more, next, ← made) (omega (arith, low))

  pub half_small : n ≤ 64 → y < 2 ^ 63
  half_small n64 =
      let fewer : n - s ≤ 63 = omega arith in
      omega (arith, made, set_small f s (n - s), pow_mono fewer)

  pub set_small_down : n ≤ 64 → (b : Bool) (d : ℕ) → d ≡ from_bool b → 2 * y + d < 2 ^ 64
  set_small_down n64 b d q =
      let one : d ≤ 1 = rw q (byte_most b) in
      omega (arith, half_small n64)

-- the n lowest of 64 ones
pub all_slots : (n : ℕ) → n ≤ 64 → 18446744073709551615 / 2 ^ (64 - n) ≡ set_of (λ s. true) 0 n
unfolding has all
all_slots n n64 = same_set _ _ λ s. ap (λ v. eqb (v % 2) 1) (shr-shr 18446744073709551615 (64 - n) s) ∙ go s (le_or_lt n s)
  where
    go : (s : ℕ) → (n ≤ s) ⊎ (s < n) → has 18446744073709551615 (64 - n + s) ≡ has (set_of (λ s. true) 0 n) s
    go s (inl l) =
        below_not _ 64 (below_of 18446744073709551615 64 (omega arith)) (64 - n + s) (omega arith) ∙ sym (has_set_over (λ s. true) n 0 s l)
    go s (inr l) = all_each (has 18446744073709551615) 64 (64 - n + s) (omega arith) refl ∙ sym (has_set (λ s. true) n 0 s l)
