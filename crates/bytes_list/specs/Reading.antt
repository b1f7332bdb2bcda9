-- The tests of a record's numbers, by how they come out, and a record that is read from its numbers, field by field.
use Rattle.std.specs.Prelude.{◌≡◌, Bool, true, false, eqb, List, ℕ, zero, suc, ◌+◌, ◌<◌, get_or, length, take, drop}
use Rattle.std.proofs.Common.{sym, ap, ◌∙◌, arith, add-suc, suc-add, add-zero, zero-add, ext_get_or, get_or-take, get_or-drop, eq-eqb, ne_eqb, lit<}
use Rattle.std.specs.Int.{from_le_bytes, w64}
use Rattle.rules.specs.declared.State.{State}
use Rattle.rules.specs.declared.State.TheVariants.{Closed, Open}
use Rattle.rules.specs.Sets.{all, list_of}
use Rattle.laws.specs.Counting.{list_length}
use Rattle.bytes_list.specs.Layout.{number_at, numbers_at, known_state, is_zero, formed, asks, state_from, path_from, slots_from, record_from}

module _ (g : ℕ → ℕ) where
  module _ (s : ℕ) (s-is : s ≡ g 0) where
    pub known_other : ¬ (s ≡ 0) → eqb s 1 ≡ known_state g
    unfolding known_state
    known_other n = rw (← s-is, ne_eqb s 0 n)

    pub known_words : s ≡ 0 → (v : ℕ) → v ≡ g 1 → ¬ (v ≡ 0) → false ≡ known_state g
    unfolding known_state
    known_words z v e n = rw (← s-is, eq-eqb s 0 z, ← e, ne_eqb v 0 n)

    pub known_deadline : s ≡ 0 → (v : ℕ) → v ≡ g 1 → v ≡ 0 → (d : ℕ) → d ≡ g 2 → eqb d 0 ≡ known_state g
    unfolding known_state
    known_deadline z v e w d q = rw (← s-is, eq-eqb s 0 z, ← e, eq-eqb v 0 w, ← q)

  pub formed_no : (a : Bool) → a ≡ known_state g → a ≡ false → false ≡ formed g
  unfolding formed
  formed_no a e f = rw (← e, f)

  pub formed_rest : (a : Bool) → a ≡ known_state g → a ≡ true → (b : Bool) → b ≡ all (is_zero g) 8 → b ≡ formed g
  unfolding formed
  formed_rest a e t b q = rw (← e, t, ← q)

  module _ (a : Bool) (a-is : a ≡ formed g) where
    pub state_none : a ≡ false → Open (asks 0 0) ≡ state_from g
    unfolding state_from
    state_none f = rw (← a-is, f)

    pub state_closed : a ≡ true → (s : ℕ) → s ≡ g 0 → s ≡ 0 → Closed ≡ state_from g
    unfolding state_from
    state_closed t s e z = rw (← a-is, t, ← e, eq-eqb s 0 z)

    pub state_open : a ≡ true → (s : ℕ) → s ≡ g 0 → ¬ (s ≡ 0) → (W D : ℕ) → W ≡ g 1 → D ≡ g 2 → Open (asks W D) ≡ state_from g
    unfolding state_from
    state_open t s e n W D p q = rw (← a-is, t, ← e, ne_eqb s 0 n, ← p, ← q)

pub made : (g : ℕ → ℕ) (s : State) (p : List ℕ) (m x : ℕ) → s ≡ state_from g → p ≡ path_from g → m ≡ g 3 → x ≡ slots_from g
    → record { state = s; path = record { entries = p; len = m }; slots = x } ≡ record_from g
made g s p m x a b c d = rw (a, b, c, d)

-- ---- lists that are listed

pub list_at : (f : ℕ → ℕ) (m i d : ℕ) → d < m → get_or (list_of f i m) d 0 ≡ f (i + d)
unfolding list_of
list_at f zero i d h = absurd (omega arith)
list_at f (suc m) i zero h = ap f (sym (add-zero i))
list_at f (suc m) i (suc d) h = list_at f m (suc i) d (omega arith) ∙ ap f (suc-add i d ∙ sym (add-suc i d))

-- a list of m numbers is listed by what stands at each place
pub list_is : (f : ℕ → ℕ) (m : ℕ) (p : List ℕ) → length p ≡ m → ((i : ℕ) → i < m → get_or p i 0 ≡ f i) → p ≡ list_of f 0 m
list_is f m p long same =
    ext_get_or 0 p (list_of f 0 m) (long ∙ sym (list_length f m 0)) λ i h.
    same i (omega arith) ∙ sym (list_at f m 0 i (omega arith) ∙ ap f (zero-add i))

pub path_is : (g : ℕ → ℕ) (p : List ℕ) → length p ≡ 16 → ((i : ℕ) → i < 16 → get_or p i 0 ≡ g (4 + i)) → p ≡ path_from g
unfolding path_from
path_is g p long same = list_is (λ i. g (4 + i)) 16 p long same

-- eight bytes are four numbers
pub slots_bytes : (b part : List ℕ) → part ≡ take 8 (take 24 (drop 40 b)) → from_le_bytes w64 part ≡ slots_from (numbers_at b 0)
unfolding slots_from number_at
slots_bytes b part cut = omega (arith, byte 0 (lit< tt), byte 1 (lit< tt), byte 2 (lit< tt), byte 3 (lit< tt), byte 4 (lit< tt), byte 5 (lit< tt), byte 6 (lit< tt), byte 7 (lit< tt))
  where
    byte : (i : ℕ) → i < 8 → get_or part i 0 ≡ get_or b (40 + i) 0
    byte i h =
        rw cut (get_or-take 8 (take 24 (drop 40 b)) i 0 h ∙ get_or-take 24 (drop 40 b) i 0 (omega arith) ∙ get_or-drop 40 b i 0)
