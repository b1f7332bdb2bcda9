-- Refusals: an order settles its number, a number tells its refusal, and two orders whose lines are given alike, as long as
-- none before them is, refuse alike.
use Rattle.std.specs.Prelude.{◌≡◌, refl, Bool, true, false, cond, List, [], ◌∷◌, ℕ, ◌-◌, get_or, eqb}
use Rattle.std.proofs.Common.{sym, ap, ◌∙◌, inl, inr, eqb-true}
use Rattle.rules.specs.declared.Refusal.{Refusal}
use Rattle.rules.specs.declared.Refusal.TheVariants.{BadWheel, BadTable, BadList, Disagree, PathLength, NoChannel, ChannelTwice, NoFlow, AlreadyOpen, NotOpen, NoWords, NoTime, TooMuch, TooFar, SlotBeyond}
use Rattle.rules.specs.Numbers.{number, Line, line, ◌then◌, Refuses, Passes}

-- ---- orders

pub settled : (order : List Line) (k l : ℕ) → Refuses order k → Refuses order l → k ≡ l
unfolding Refuses
settled [] k l a b = absurd a
settled (line ∷ rest) k l a b = go a b (λ p q. settled rest k l p q)
  where
    go : Refuses (line ∷ rest) k → Refuses (line ∷ rest) l → (Refuses rest k → Refuses rest l → k ≡ l) → k ≡ l
    go (inl p) (inl q) ih = p.1 ∙ sym q.1
    go (inl p) (inr q) ih = absurd (q.0 p.0)
    go (inr p) (inl q) ih = absurd (p.0 q.0)
    go (inr p) (inr q) ih = ih p.1 q.1

pub passes_not : (order : List Line) (k : ℕ) → Passes order → Refuses order k → ⊥
unfolding Refuses Passes
passes_not [] k p r = r
passes_not (line ∷ rest) k p r = go p r (λ a b. passes_not rest k a b)
  where
    go : Passes (line ∷ rest) → Refuses (line ∷ rest) k → (Passes rest → Refuses rest k → ⊥) → ⊥
    go p (inl q) ih = p.0 q.0
    go p (inr q) ih = ih p.1 q.1

-- ---- an order in parts

pub passes_then : (xs ys : List Line) → Passes xs → Passes ys → Passes (xs then ys)
unfolding Passes
passes_then [] ys p q = q
passes_then (l ∷ xs) ys p q = (p.0, passes_then xs ys p.1 q)

pub passes_front : (xs ys : List Line) → Passes (xs then ys) → Passes xs
unfolding Passes
passes_front [] ys p = tt
passes_front (l ∷ xs) ys p = (p.0, passes_front xs ys p.1)

pub passes_back : (xs ys : List Line) → Passes (xs then ys) → Passes ys
unfolding Passes
passes_back [] ys p = p
passes_back (l ∷ xs) ys p = passes_back xs ys p.1

-- a refusal of the first part is one of the whole
pub ahead : (xs ys : List Line) (k : ℕ) → Refuses xs k → Refuses (xs then ys) k
unfolding Refuses
ahead [] ys k r = absurd r
ahead (l ∷ xs) ys k r = go r (ahead xs ys k)
  where
    go : Refuses (l ∷ xs) k → (Refuses xs k → Refuses (xs then ys) k) → Refuses (l ∷ (xs then ys)) k
    go (inl p) ih = inl p
    go (inr p) ih = inr (p.0, ih p.1)

-- and one of the second part, behind what passed
pub behind : (xs ys : List Line) (k : ℕ) → Passes xs → Refuses ys k → Refuses (xs then ys) k
unfolding Passes Refuses
behind [] ys k p r = r
behind (l ∷ xs) ys k p r = inr (p.0, behind xs ys k p.1 r)

-- what is refused behind a part that passed is refused by the second part
pub past : (xs ys : List Line) (k : ℕ) → Passes xs → Refuses (xs then ys) k → Refuses ys k
unfolding Passes Refuses
past [] ys k p r = r
past (l ∷ xs) ys k p r = go r (past xs ys k p.1)
  where
    go : Refuses (l ∷ (xs then ys)) k → (Refuses (xs then ys) k → Refuses ys k) → Refuses ys k
    go (inl q) ih = absurd (p.0 q.0)
    go (inr q) ih = ih q.1

-- ---- a line by its number, wherever it stands

abbrev pub pick : Bool → Type 0 → Type 0 → Type 0
pick true P Q = P
pick false P Q = Q

-- when the line of number k is given
abbrev pub Given : List Line → ℕ → Type 0
Given [] k = ⊥
Given (l ∷ rest) k = pick (eqb l.no k) l.given (Given rest k)

-- the lines before that of number k
abbrev pub before : List Line → ℕ → List Line
before [] k = []
before (l ∷ rest) k = cond (eqb l.no k) [] (l ∷ before rest k)

-- an order that passes does not give k
pub passed : (order : List Line) (k : ℕ) → Passes order → ¬ Given order k
unfolding Passes
passed [] k p g = g
passed (l ∷ rest) k p g = at (eqb l.no k) g (passed rest k p.1)
  where
    at : (b : Bool) → pick b l.given (Given rest k) → (Given rest k → ⊥) → ⊥
    at true g ih = p.0 g
    at false g ih = ih g

-- k is refused where the lines before it pass and it is given
pub first : (order : List Line) (k : ℕ) → Passes (before order k) → Given order k → Refuses order k
unfolding Passes Refuses
first [] k p g = g
first (l ∷ rest) k p g = at (eqb l.no k) refl p g (first rest k)
  where
    at : (b : Bool) → eqb l.no k ≡ b → Passes (cond b [] (l ∷ before rest k)) → pick b l.given (Given rest k)
        → (Passes (before rest k) → Given rest k → Refuses rest k) → Refuses (l ∷ rest) k
    at true e p g ih = inl (g, sym (eqb-true l.no k e))
    at false e p g ih = inr (p.0, ih p.1 g)

-- the lines up to that of number k: those before the next one
abbrev pub upto : List Line → ℕ → List Line
upto [] k = []
upto (l ∷ rest) k = l ∷ cond (eqb l.no k) [] (upto rest k)

-- one more line passes
pub more : (order : List Line) (k : ℕ) → Passes (before order k) → ¬ Given order k → Passes (upto order k)
unfolding Passes
more [] k p g = tt
more (l ∷ rest) k p g = at (eqb l.no k) p g (more rest k)
  where
    at : (b : Bool) → Passes (cond b [] (l ∷ before rest k)) → ¬ (pick b l.given (Given rest k))
        → (Passes (before rest k) → ¬ Given rest k → Passes (upto rest k)) → Passes (l ∷ cond b [] (upto rest k))
    at true p g ih = (g, tt)
    at false p g ih = (p.0, ih p.1 g)

-- nothing stands before the first line
pub none_before : Passes []
unfolding Passes
none_before = tt

-- the refusal of each number
numbered : ℕ → Refusal
numbered k =
    get_or
    (BadWheel ∷ BadTable ∷ BadList ∷ Disagree ∷ PathLength ∷ NoChannel ∷ ChannelTwice ∷
    NoFlow ∷ AlreadyOpen ∷ NotOpen ∷ NoWords ∷ NoTime ∷ TooMuch ∷ TooFar ∷ SlotBeyond ∷ [])
    (k - 1)
    BadWheel

number_back : (r : Refusal) → numbered (number r) ≡ r
unfolding numbered
number_back BadWheel = refl
number_back BadTable = refl
number_back BadList = refl
number_back Disagree = refl
number_back PathLength = refl
number_back NoChannel = refl
number_back ChannelTwice = refl
number_back NoFlow = refl
number_back AlreadyOpen = refl
number_back NotOpen = refl
number_back NoWords = refl
number_back NoTime = refl
number_back TooMuch = refl
number_back TooFar = refl
number_back SlotBeyond = refl

pub same_number : (r q : Refusal) → number r ≡ number q → r ≡ q
same_number r q e = sym (number_back r) ∙ ap numbered e ∙ number_back q

-- ---- orders that refuse alike

-- line by line the same number, given alike where no line before is given
unfoldable pub Alike : List Line → List Line → Type 0
Alike [] [] = Unit {0}
Alike [] (m ∷ ms) = ⊥
Alike (l ∷ ls) [] = ⊥
Alike (l ∷ ls) (m ∷ ms) = (l.no ≡ m.no) × (l.given → m.given) × (m.given → l.given) × (¬ l.given → Alike ls ms)

-- a line that both orders have
pub alike_line : (l : Line) (ls ms : List Line) → (¬ l.given → Alike ls ms) → Alike (l ∷ ls) (l ∷ ms)
unfolding Alike
alike_line l ls ms a = (refl, λ g. g, λ g. g, a)

-- a line that is given alike
pub alike_given : (k : ℕ) (P Q : Type 0) (ls ms : List Line) → (P → Q) → (Q → P) → (¬ P → Alike ls ms) → Alike (line k P ∷ ls) (line k Q ∷ ms)
unfolding Alike
alike_given k P Q ls ms f g a = (refl, f, g, a)

pub alike_self : (order : List Line) → Alike order order
unfolding Alike
alike_self [] = tt
alike_self (l ∷ rest) = (refl, λ g. g, λ g. g, λ _. alike_self rest)

pub refuses_alike : (ls ms : List Line) (k : ℕ) → Alike ls ms → Refuses ls k → Refuses ms k
unfolding Alike Refuses
refuses_alike [] [] k a r = r
refuses_alike [] (m ∷ ms) k a r = absurd a
refuses_alike (l ∷ ls) [] k a r = absurd a
refuses_alike (l ∷ ls) (m ∷ ms) k a r = go r (λ n q. refuses_alike ls ms k (a.3 n) q)
  where
    go : Refuses (l ∷ ls) k → (¬ l.given → Refuses ls k → Refuses ms k) → Refuses (m ∷ ms) k
    go (inl p) ih = inl (a.1 p.0, p.1 ∙ a.0)
    go (inr p) ih = inr (λ g. p.0 (a.2 g), ih p.0 p.1)

pub passes_alike : (ls ms : List Line) → Alike ls ms → Passes ls → Passes ms
unfolding Alike Passes
passes_alike [] [] a p = p
passes_alike [] (m ∷ ms) a p = absurd a
passes_alike (l ∷ ls) [] a p = absurd a
passes_alike (l ∷ ls) (m ∷ ms) a p = (λ g. p.0 (a.2 g), passes_alike ls ms (a.3 p.0) p.1)

-- orders in parts: the second parts need be alike only where the first passes
pub alike_then : (xs ys us vs : List Line) → Alike xs us → (Passes xs → Alike ys vs) → Alike (xs then ys) (us then vs)
unfolding Alike Passes
alike_then [] ys [] vs a b = b tt
alike_then [] ys (u ∷ us) vs a b = absurd a
alike_then (x ∷ xs) ys [] vs a b = absurd a
alike_then (x ∷ xs) ys (u ∷ us) vs a b = (a.0, a.1, a.2, λ n. alike_then xs ys us vs (a.3 n) (λ p. b (n, p)))
