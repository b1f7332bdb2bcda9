-- A set is a word of 64 bits.
use Rattle.std.proofs.Common.{true, ℕ, ◌/◌, ◌^◌, ◌<◌, ◌≤◌, arith, nat_eq}
use Rattle.std.proofs.lemmas.Bool.Decides.{nat_tests}
use Rattle.rules.specs.Tells.{Tells}
use Rattle.rules.specs.Sets.{Below}
use Rattle.laws.specs.Logic.{tells_yes}
use Rattle.laws.specs.Sets.{below_of, below_small, below_shift}

-- every slot of a word is below 64, and so below any n from there on
pub below_word : (x n : ℕ) → x < 2 ^ 64 → 64 ≤ n → Tells true (Below n x)
below_word x n fits from =
    let all = below_of x 64 fits in
    tells_yes (record { below = λ i e. omega (arith, all.below i e) })

-- no slot is at n or beyond if nothing is left of x after n bits
pub below_rest : (x n : ℕ) → Tells (nat_eq (x / 2 ^ n) 0) (Below n x)
below_rest x n =
    record {
      yes = λ e. below_of x n (below_small x n (grind (arith, nat_tests, e)));
      no = λ e b. grind (arith, nat_tests, e, below_shift x n b);
    }
