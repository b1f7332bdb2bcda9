-- Reading fields one by one. What was read so far is spelled in front of what is left; and whatever numbers the whole
-- spells, what is left spells those of them that were not read yet. So where the next field fails, nothing is spelled.
use Rattle.std.specs.Prelude.{◌≡◌, refl, List, [], ◌∷◌, ◌++◌, ℕ, ◌+◌, ◌≤◌, ◌<◌, length, get_or, take, drop, set}
use Rattle.std.proofs.Common.{sym, ap, ◌∙◌, append-nil, arith, add-one, length-set, length-take-le, take-suc-set}
use Rattle.grammar.specs.Text.{decimal, field, fields}
use Rattle.grammar.specs.Commands.{Few}
use Rattle.grammar.specs.Spelling.{few_none, few_head, few_tail, few_more, fields_more, fields_begin, take_field}
use Rattle.decimals.specs.Meaning.{NumberAt, NoNumber, FieldsAt, NoFields}

-- what is left, after `count` fields
pub record Rest (count : ℕ) (rest : List ℕ) : Type 0 where
  pub numbers : List ℕ
  pub few : Few numbers
  pub room : count + length numbers ≤ 19
  pub spelled : rest ≡ fields numbers

-- `count` fields are read into the room, and the rest is left
pub record Going (text room : List ℕ) (count : ℕ) (rest : List ℕ) : Type 0 where
  pub long : length room ≡ 19
  pub most : count ≤ 19
  pub few : Few (take count room)
  pub split : text ≡ fields (take count room) ++ rest
  pub left : (ns : List ℕ) → Few ns → length ns ≤ 19 → text ≡ fields ns → Rest count rest

pub going_start : (text room : List ℕ) → length room ≡ 19 → Going text room 0 text
unfolding fields
going_start text room h = record {
  long = h;
  most = omega arith;
  few = few_none;
  split = refl;
  left = λ ns few most e. record { numbers = ns; few = few; room = omega arith; spelled = e };
}

-- fields that begin with the byte c
record Next (c : ℕ) (t ns : List ℕ) : Type 0 where
  n : ℕ
  others : List ℕ
  all : ns ≡ n ∷ others
  space : c ≡ 32
  left : t ≡ decimal n ++ fields others

next_field : (c : ℕ) (t ns : List ℕ) → c ∷ t ≡ fields ns → Next c t ns
unfolding fields field
next_field c t [] e = absurd (omega (arith, ap length e))
next_field c t (n ∷ ns) e = record { n = n; others = ns; all = refl; space = ap (λ l. get_or l 0 0) e; left = ap (drop 1) e }

module _ (text room : List ℕ) (count : ℕ) (rest : List ℕ) (g : Going text room count rest) (c : ℕ) (behind : List ℕ) (is : rest ≡ c ∷ behind) where
  next_of : (r : Rest count rest) → Next c behind r.numbers
  next_of r = next_field c behind r.numbers (sym is ∙ r.spelled)

  pub too_many : count ≡ 19 → NoFields text
  too_many q = record {
    none = λ ns few most e.
        let r = g.left ns few most e in
        omega (arith, r.room, ap length (next_of r).all);
  }

  pub no_space : (c ≡ 32 → ⊥) → NoFields text
  no_space q = record { none = λ ns few most e. q (next_of (g.left ns few most e)).space }

  pub not_numbered : NoNumber behind → NoFields text
  not_numbered q = record {
    none = λ ns few most e.
        let r = g.left ns few most e in
        let n = next_of r in
        q.none n.n (fields n.others) (few_head (rw n.all at r.few)) (fields_begin n.others) n.left;
  }

  module _ (v : ℕ) (next : List ℕ) (space : c ≡ 32) (n : NumberAt behind v next) where
    field_there : rest ≡ 32 ∷ (decimal v ++ next)
    field_there = is ∙ ap (λ k. k ∷ behind) space ∙ ap (λ t. 32 ∷ t) n.split

    pub going_on : count < 19 → Going text (set room count v) (count + 1) next
    going_on q =
        let took : take (count + 1) (set room count v) ≡ take count room ++ (v ∷ []) =
        ap (λ k. take k (set room count v)) (add-one count) ∙ take-suc-set room count v (omega (arith, g.long)) in
        record {
          long = length-set room count v ∙ g.long;
          most = omega arith;
          few = rw took (few_more (take count room) v g.few n.small);
          split =
              g.split ∙ ap (λ t. fields (take count room) ++ t) field_there ∙ fields_more (take count room) v next
              ∙ ap (λ ns. fields ns ++ next) (sym took);
          left = λ ns few most e.
              let r = g.left ns few most e in
              let t = take_field v next r.numbers n.small n.stop r.few (sym field_there ∙ r.spelled) in
              record { numbers = t.others; few = few_tail (rw t.all at r.few); room = omega (arith, r.room, ap length t.all); spelled = t.left };
        }

-- nothing is left
pub going_end : (text room : List ℕ) (count : ℕ) (rest : List ℕ) → Going text room count rest → length rest ≡ 0 → FieldsAt text (take count room)
going_end text room count rest g h = record {
  most = omega (arith, length-take-le count room (omega (arith, g.most, g.long)), g.most);
  few = g.few;
  spelled = g.split ∙ ap (λ t. fields (take count room) ++ t) (none rest h) ∙ append-nil (fields (take count room));
}
  where
    none : (xs : List ℕ) → length xs ≡ 0 → xs ≡ []
    none [] e = refl
    none (x ∷ xs) e = absurd (omega arith)
