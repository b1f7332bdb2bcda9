-- A start is chosen, and its predecessor round the wheel is not.
use Rattle.std.proofs.Common.{◌≡◌, ℕ, ◌+◌, ◌-◌, ◌%◌, ◌<◌, ◌≤◌, not, sym, ap, ◌∙◌, arith, mod-eq_of_lt}
use Rattle.std.proofs.Math.Nat.{add-mod_right}
use Rattle.rules.specs.Sets.{has}
use Rattle.rules.specs.Wheels.{chosen, start}
use Rattle.starts.proofs.is_start.Goals as goal
use Rattle.starts.proofs.is_start.Goals.{then-i-gt0, else-i-gt0}

-- one slot back, round the wheel
one_back : (n i : ℕ) → 0 < i → i < n → i - 1 ≡ (i + (n - 1)) % n
one_back n i l h =
    let e : i + (n - 1) ≡ i - 1 + n = omega arith in
    sym (ap (λ k. k % n) e ∙ add-mod_right (i - 1) n ∙ mod-eq_of_lt (omega arith))

last : (n i : ℕ) → i ≤ 0 → i < n → n - 1 ≡ (i + (n - 1)) % n
last n i z h =
    let e : i + (n - 1) ≡ n - 1 = omega arith in
    sym (ap (λ k. k % n) e ∙ mod-eq_of_lt (omega arith))

pub returns-then-has_slot : goal.returns-then-has_slot
unfolding start chosen
returns-then-has_slot c =
    let a = c.args in
    let back : c.if-i-gt0.before ≡ (a.i + (a.n - 1)) % a.n =
    elim c.if-i-gt0.branch [
      | then-i-gt0 w ↦ w.before-is ∙ one_back a.n a.i (omega arith) c.requires.1
      | else-i-gt0 w ↦ w.before-is ∙ last a.n a.i (omega arith) c.requires.1
    ]
    in
    rw (mod-eq_of_lt c.requires.1, ← c.has_slot.ensures, c.if-has_slot.true)
    (ap not (c.has_slot-then-has_slot.ensures ∙ ap (has a.x) back))

pub returns-else-has_slot : goal.returns-else-has_slot
unfolding start chosen
returns-else-has_slot c = rw (mod-eq_of_lt c.requires.1, ← c.has_slot.ensures, c.if-has_slot.false)
