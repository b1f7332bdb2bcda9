-- Decimal numbers as text. Read from the left, the digits of n give n back, so that what follows a number decides where
-- it ends: two numbers that begin one text, neither followed by a digit, are the same number.
use Rattle.std.specs.Prelude.{◌≡◌, refl, Bool, true, false, cond, List, [], ◌∷◌, ◌++◌, ◌⊎◌, ℕ, zero, suc, ◌+◌, ◌-◌, ◌*◌, ◌/◌, ◌%◌, ◌≤◌, ◌<◌, ltb, length}
use Rattle.std.proofs.Common.{sym, ap, ◌∙◌, append_assoc, inl, inr, arith, le_trans, lt-ltb, le-ltb, ltb-false, length-append}
use Rattle.laws.specs.Logic.{le_or_lt}
use Rattle.grammar.specs.Text.{digits, decimal}

-- the digit that the byte c is; 10 where it is none
unfoldable pub digit : ℕ → ℕ
digit c = cond (ltb c 48) 10 (cond (ltb 57 c) 10 (c - 48))

-- the digit that a text begins with; 10 where it begins with none
unfoldable pub leading : List ℕ → ℕ
leading [] = 10
leading (c ∷ cs) = digit c

pub digit_is : (d : ℕ) → d < 10 → digit (48 + d) ≡ d
unfolding digit
digit_is d h = rw (le-ltb (48 + d) 48 (omega arith), le-ltb 57 (48 + d) (omega arith)) (omega arith)

-- a byte that is a digit
pub digit_byte : (c : ℕ) → digit c < 10 → c ≡ 48 + digit c
unfolding digit
digit_byte c h = go (ltb c 48) (ltb 57 c) refl refl h
  where
    go : (a b : Bool) → ltb c 48 ≡ a → ltb 57 c ≡ b → cond a 10 (cond b 10 (c - 48)) < 10 → c ≡ 48 + cond a 10 (cond b 10 (c - 48))
    go true b p q h = absurd (omega arith)
    go false true p q h = absurd (omega arith)
    go false false p q h = omega (arith, ltb-false c 48 p)

-- ---- reading from the left

-- v, and the digits that the text begins with
unfoldable pub value : ℕ → List ℕ → ℕ
value v [] = v
value v (c ∷ cs) = cond (ltb (digit c) 10) (value (v * 10 + digit c) cs) v

-- the text after the digits that it begins with
unfoldable pub after : List ℕ → List ℕ
after [] = []
after (c ∷ cs) = cond (ltb (digit c) 10) (after cs) (c ∷ cs)

pub value_digit : (v c : ℕ) (cs : List ℕ) → digit c < 10 → value v (c ∷ cs) ≡ value (v * 10 + digit c) cs
unfolding value
value_digit v c cs h = rw (lt-ltb (digit c) 10 h)

after_digit : (d : ℕ) (cs : List ℕ) → d < 10 → after ((48 + d) ∷ cs) ≡ after cs
unfolding after
after_digit d cs h = rw (digit_is d h, lt-ltb d 10 h)

pub value_end : (v : ℕ) (cs : List ℕ) → leading cs ≡ 10 → value v cs ≡ v
unfolding value leading
value_end v [] e = refl
value_end v (c ∷ cs) e = rw (le-ltb (digit c) 10 (omega arith))

pub after_end : (cs : List ℕ) → leading cs ≡ 10 → after cs ≡ cs
unfolding after leading
after_end [] e = refl
after_end (c ∷ cs) e = rw (le-ltb (digit c) 10 (omega arith))

pub value_grows : (v : ℕ) (cs : List ℕ) → v ≤ value v cs
unfolding value
value_grows v [] = omega arith
value_grows v (c ∷ cs) = go (ltb (digit c) 10) (value_grows (v * 10 + digit c) cs)
  where
    go : (b : Bool) → v * 10 + digit c ≤ value (v * 10 + digit c) cs → v ≤ cond b (value (v * 10 + digit c) cs) v
    go true h = omega arith
    go false h = omega arith

-- ---- the digits of a number

-- numbers of at most f digits are below this
unfoldable pub bound : ℕ → ℕ
bound zero = 1
bound (suc f) = 10 * bound f

pub digits_one : (f n : ℕ) → n < 10 → digits (suc f) n ≡ (48 + n) ∷ []
unfolding digits
digits_one f n h = rw (lt-ltb n 10 h)

pub digits_more : (f n : ℕ) → 10 ≤ n → digits (suc f) n ≡ digits f (n / 10) ++ ((48 + n % 10) ∷ [])
unfolding digits
digits_more f n h = rw (le-ltb n 10 h)

digits_value : (f n : ℕ) (xs : List ℕ) → n < bound f → value 0 (digits f n ++ xs) ≡ value n xs
unfolding bound digits
digits_value zero n xs h = ap (λ v. value v xs) (omega arith)
digits_value (suc f) n xs h = go (le_or_lt 10 n) (digits_value f (n / 10) ((48 + n % 10) ∷ xs) (omega arith))
  where
    go : (10 ≤ n) ⊎ (n < 10) → value 0 (digits f (n / 10) ++ ((48 + n % 10) ∷ xs)) ≡ value (n / 10) ((48 + n % 10) ∷ xs)
        → value 0 (digits (suc f) n ++ xs) ≡ value n xs
    go (inl l) e =
        let last : digit (48 + n % 10) ≡ n % 10 = digit_is (n % 10) (omega arith) in
        rw (digits_more f n l, append_assoc)
        (e ∙ value_digit (n / 10) (48 + n % 10) xs (omega arith) ∙ ap (λ v. value v xs) (omega arith))
    go (inr l) e =
        let one : digit (48 + n) ≡ n = digit_is n l in
        rw (digits_one f n l) (value_digit 0 (48 + n) xs (omega arith) ∙ ap (λ v. value v xs) (omega arith))

digits_after : (f n : ℕ) (xs : List ℕ) → after (digits f n ++ xs) ≡ after xs
unfolding digits
digits_after zero n xs = refl
digits_after (suc f) n xs = go (le_or_lt 10 n) (digits_after f (n / 10) ((48 + n % 10) ∷ xs))
  where
    go : (10 ≤ n) ⊎ (n < 10) → after (digits f (n / 10) ++ ((48 + n % 10) ∷ xs)) ≡ after ((48 + n % 10) ∷ xs) → after (digits (suc f) n ++ xs) ≡ after xs
    go (inl l) e = rw (digits_more f n l, append_assoc) (e ∙ after_digit (n % 10) xs (omega arith))
    go (inr l) e = rw (digits_one f n l) (after_digit n xs l)

-- ---- decimal

in_bound : (n : ℕ) → n ≤ 65535 → n < bound 20
unfolding bound
in_bound n h = omega arith

pub decimal_value : (n : ℕ) (xs : List ℕ) → n ≤ 65535 → value 0 (decimal n ++ xs) ≡ value n xs
unfolding decimal
decimal_value n xs h = digits_value 20 n xs (in_bound n h)

-- what follows decides where a number ends
pub decimal_cut : (a b : ℕ) (xs ys : List ℕ) → a ≤ 65535 → b ≤ 65535 → leading xs ≡ 10 → leading ys ≡ 10 → decimal a ++ xs ≡ decimal b ++ ys
    → (a ≡ b) × (xs ≡ ys)
unfolding decimal
decimal_cut a b xs ys ha hb ex ey e = (
  sym (value_end a xs ex) ∙ sym (decimal_value a xs ha) ∙ ap (value 0) e ∙ decimal_value b ys hb ∙ value_end b ys ey,
  sym (after_end xs ex) ∙ sym (digits_after 20 a xs) ∙ ap after e ∙ digits_after 20 b ys ∙ after_end ys ey,
)

-- more digits than a number has change nothing
digits_fuel : (f n : ℕ) → n < bound (suc f) → digits (suc f) n ≡ digits (suc (suc f)) n
unfolding bound
digits_fuel zero n h = digits_one 0 n (omega arith) ∙ sym (digits_one 1 n (omega arith))
digits_fuel (suc f) n h = go (le_or_lt 10 n) (digits_fuel f (n / 10) (omega arith))
  where
    go : (10 ≤ n) ⊎ (n < 10) → digits (suc f) (n / 10) ≡ digits (suc (suc f)) (n / 10) → digits (suc (suc f)) n ≡ digits (suc (suc (suc f))) n
    go (inl l) e = digits_more (suc f) n l ∙ ap (λ xs. xs ++ ((48 + n % 10) ∷ [])) e ∙ sym (digits_more (suc (suc f)) n l)
    go (inr l) e = digits_one (suc f) n l ∙ sym (digits_one (suc (suc f)) n l)

pub decimal_one : (d : ℕ) → d < 10 → decimal d ≡ (48 + d) ∷ []
unfolding decimal
decimal_one d h = digits_one 19 d h

-- a digit more behind a number that is not 0
pub decimal_more : (v d : ℕ) → 0 < v → v ≤ 65535 → d < 10 → decimal (v * 10 + d) ≡ decimal v ++ ((48 + d) ∷ [])
unfolding decimal bound
decimal_more v d h s l =
    let front : (v * 10 + d) / 10 ≡ v = omega arith in
    let last : (v * 10 + d) % 10 ≡ d = omega arith in
    digits_more 19 (v * 10 + d) (omega arith) ∙ rw (front, last) (ap (λ xs. xs ++ ((48 + d) ∷ [])) (digits_fuel 18 v (omega arith)))

-- the first digit: there is one, and it is no zero unless the number is 0
record First (n : ℕ) (xs : List ℕ) : Type 0 where
  is : leading xs < 10
  some : 0 < n → 0 < leading xs

first_one : (n : ℕ) (xs : List ℕ) → n < 10 → First n ((48 + n) ∷ xs)
unfolding leading
first_one n xs h = let e : digit (48 + n) ≡ n = digit_is n h in record { is = omega arith; some = λ p. omega arith }

digits_first : (f n : ℕ) (xs : List ℕ) → n < bound (suc f) → First n (digits (suc f) n ++ xs)
unfolding bound
digits_first zero n xs h = let l : n < 10 = omega arith in rw (digits_one 0 n l) (first_one n xs l)
digits_first (suc f) n xs h = go (le_or_lt 10 n) (digits_first f (n / 10) ((48 + n % 10) ∷ xs) (omega arith))
  where
    go : (10 ≤ n) ⊎ (n < 10) → First (n / 10) (digits (suc f) (n / 10) ++ ((48 + n % 10) ∷ xs)) → First n (digits (suc (suc f)) n ++ xs)
    go (inl l) r = rw (digits_more (suc f) n l, append_assoc) (record { is = r.is; some = λ p. r.some (omega arith) })
    go (inr l) r = rw (digits_one (suc f) n l) (first_one n xs l)

pub decimal_begins : (n : ℕ) (xs : List ℕ) → n ≤ 65535 → leading (decimal n ++ xs) < 10
unfolding decimal
decimal_begins n xs h = (digits_first 19 n xs (in_bound n h)).is

pub decimal_no_zero : (n : ℕ) (xs : List ℕ) → n ≤ 65535 → 0 < n → 0 < leading (decimal n ++ xs)
unfolding decimal
decimal_no_zero n xs h = (digits_first 19 n xs (in_bound n h)).some

-- a number that begins with a zero is 0
pub decimal_zero : (n : ℕ) (xs : List ℕ) → n ≤ 65535 → leading (decimal n ++ xs) ≡ 0 → n ≡ 0
decimal_zero n xs h e = go n h e
  where
    go : (n : ℕ) → n ≤ 65535 → leading (decimal n ++ xs) ≡ 0 → n ≡ 0
    go zero h e = refl
    go (suc n) h e = absurd (omega (arith, decimal_no_zero (suc n) xs h (omega arith)))

-- ---- lengths

digits_long : (f n : ℕ) → length (digits f n) ≤ f
unfolding digits
digits_long zero n = omega arith
digits_long (suc f) n = go (le_or_lt 10 n) (digits_long f (n / 10))
  where
    go : (10 ≤ n) ⊎ (n < 10) → length (digits f (n / 10)) ≤ f → length (digits (suc f) n) ≤ suc f
    go (inl l) h = rw (digits_more f n l) (simp length-append (omega arith))
    go (inr l) h = rw (digits_one f n l) (omega arith)

digits_short : (b f n : ℕ) → n < bound (suc b) → length (digits (suc f) n) ≤ suc b
unfolding bound
digits_short zero f n h = rw (digits_one f n (omega arith)) (omega arith)
digits_short (suc b) zero n h = le_trans (digits_long 1 n) (omega arith)
digits_short (suc b) (suc f) n h = go (le_or_lt 10 n) (digits_short b f (n / 10) (omega arith))
  where
    go : (10 ≤ n) ⊎ (n < 10) → length (digits (suc f) (n / 10)) ≤ suc b → length (digits (suc (suc f)) n) ≤ suc (suc b)
    go (inl l) h = rw (digits_more (suc f) n l) (simp length-append (omega arith))
    go (inr l) h = rw (digits_one (suc f) n l) (omega arith)

-- any number that is printed here
pub decimal_long : (n : ℕ) → length (decimal n) ≤ 20
unfolding decimal
decimal_long n = digits_long 20 n

-- numbers of at most b + 1 digits
pub decimal_short : (b n : ℕ) → n < bound (suc b) → length (decimal n) ≤ suc b
unfolding decimal
decimal_short b n h = digits_short b 19 n h
