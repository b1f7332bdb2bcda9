-- Rule 6's order: of two sets at most one is better, so at most one set is Best.
use Rattle.std.specs.Prelude.{◌≡◌, refl, List, ◌⊎◌, ℕ}
use Rattle.std.proofs.Common.{sym, inl, inr, arith}
use Rattle.rules.specs.declared.Wheel.{Wheel}
use Rattle.rules.specs.Best.{Before, here, later, Better, fewer, more, sooner, closer, Best}

-- the same at two pairs of lists that are equal, so that an induction can go over both
before_apart : {us vs us' vs' : List ℕ} → Before us vs → Before vs' us' → us ≡ us' → vs ≡ vs' → ⊥
before_apart (here {a = a} {b = b} h) (here {a = a'} {b = b'} k) e f =
    let p : a ≡ b' = cc in
    let q : b ≡ a' = cc in
    omega arith
before_apart (here {a = a} {b = b} h) (later {a = c} k) e f =
    let p : a ≡ c = cc in
    let q : b ≡ c = cc in
    omega arith
before_apart (later {a = c} p) (here {a = a'} {b = b'} k) e f =
    let p : c ≡ b' = cc in
    let q : c ≡ a' = cc in
    omega arith
before_apart (later {us = us} {vs = vs} p) (later {us = vs'} {vs = us'} q) e f =
    let r : us ≡ us' = cc in
    let t : vs ≡ vs' = cc in
    before_apart p q r t

before_asym : {us vs : List ℕ} → Before us vs → Before vs us → ⊥
before_asym p q = before_apart p q refl refl

pub better_asym : (w : Wheel) (x y : ℕ) → Better w x y → Better w y x → ⊥
better_asym w x y (fewer a) (fewer b) = omega arith
better_asym w x y (fewer a) (more b c) = omega arith
better_asym w x y (fewer a) (sooner b c d) = omega arith
better_asym w x y (fewer a) (closer b c d e) = omega arith
better_asym w x y (more a b) (fewer c) = omega arith
better_asym w x y (more a b) (more c d) = omega arith
better_asym w x y (more a b) (sooner c d e) = omega arith
better_asym w x y (more a b) (closer c d e f) = omega arith
better_asym w x y (sooner a b c) (fewer d) = omega arith
better_asym w x y (sooner a b c) (more d e) = omega arith
better_asym w x y (sooner a b c) (sooner d e f) = omega arith
better_asym w x y (sooner a b c) (closer d e f g) = omega arith
better_asym w x y (closer a b c d) (fewer e) = omega arith
better_asym w x y (closer a b c d) (more e f) = omega arith
better_asym w x y (closer a b c d) (sooner e f g) = omega arith
better_asym w x y (closer a b c d) (closer e f g h) = before_asym d h

pub best_unique : {w : Wheel} {free W L x y : ℕ} → Best w free W L x → Best w free W L y → x ≡ y
best_unique {w} {free} {W} {L} {x} {y} p q = go (p.best y q.within q.meets) (q.best x p.within p.meets)
  where
    go : (x ≡ y) ⊎ Better w x y → (y ≡ x) ⊎ Better w y x → x ≡ y
    go (inl e) b = e
    go (inr a) (inl e) = sym e
    go (inr a) (inr b) = absurd (better_asym w x y a b)
