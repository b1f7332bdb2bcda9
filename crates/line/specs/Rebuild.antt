-- One packet of the rebuilding. `left` is what is still to be added to the set; each packet moves its run of slots from
-- there into the set, so that the set and what is left add up to the greedy choice at every step.
use Rattle.std.specs.Prelude.{◌≡◌, refl, Bool, true, false, nat_eq, List, ◌⊎◌, ℕ, zero, suc, ◌+◌, ◌-◌, ◌*◌, ◌%◌, ◌^◌, ◌≤◌, ◌<◌, min, max, get_or, Option, Some, None}
use Rattle.std.proofs.Common.{sym, ap, ◌∙◌, subst, inl, inr, arith, add-zero, below_more, eqb-true, false-eqb}
use Rattle.laws.specs.Logic.{le_or_lt}
use Rattle.line.specs.declared.Task.{Task}
use Rattle.line.specs.Values.{N, S, P, raised, greedy}
use Rattle.line.specs.Packets.{ahead, opens, opens_last, packet_words, head, tail, mid, mid_first, head_shut, head_most, tail_most}
use Rattle.line.specs.Tables.{Sound, entry, FreeRun}
use Rattle.line.specs.Rows.{Solved, small}
use Rattle.line.specs.Chains.{Chain, Peak, some_part}
use Rattle.line.specs.Choice.{bits_of, bits_run, begun, pack_end, pack_end_lem, chain_long, chain_short, packet_jump, packet_stop_short, packet_stop_long, gap_next, gap_none}

-- the set of the greedy choice of k slots at the start s
abbrev pub greedy_set : Task → ℕ → ℕ → ℕ
greedy_set t s k = bits_of t s 0 (begun t s 0 k)

-- what is still to be added where a packet begins at p with k slots
unfoldable pub left : Task → ℕ → ℕ → ℕ → ℕ
left t s p zero = 0
left t s p (suc k) = bits_of t s p (begun t s p (suc k))

pub left_some : (t : Task) (s p k : ℕ) → 1 ≤ k → left t s p k ≡ bits_of t s p (begun t s p k)
unfolding left
left_some t s p zero h = absurd (omega arith)
left_some t s p (suc k) h = refl

pub left_none : (t : Task) (s p k : ℕ) → k ≡ 0 → left t s p k ≡ 0
unfolding left
left_none t s p zero h = refl
left_none t s p (suc k) h = absurd (omega arith)

-- where slots are still to be taken, a packet can begin at p
pub record Due (t : Task) (s p k : ℕ) : Type 0 where
  pub within : 1 ≤ k → p + 1 < N t
  pub worth : 1 ≤ k → 0 < head t s p k

pub due_none : (t : Task) (s p k : ℕ) → k ≡ 0 → Due t s p k
due_none t s p k e = record { within = λ h. absurd (omega arith); worth = λ h. absurd (omega arith) }

pub due_first : (t : Task) (s K : ℕ) (hd tl : List ℕ) (k : ℕ) → Solved t s K hd tl → 2 ≤ N t → k ≤ K → 0 < get_or hd k 0 → Due t s 0 k
due_first t s K hd tl k z n2 kk h =
    let e : 0 * 64 + k ≡ k = omega arith in
    record { within = λ _. omega arith; worth = λ _. omega (arith, z.heads.at 0 k (omega arith) (omega arith) kk, ap (λ i. get_or hd i 0) e) }

-- whether the run goes on after a full packet: J is what that comes to, v the whole
pub data Goes (P f k J v : ℕ) : Bool → Type 0 where
  on : P < f → P < k → J ≡ v → Goes P f k J v true
  few : f ≤ P → Goes P f k J v false
  short : k ≤ P → Goes P f k J v false
  less : P < f → P < k → (J ≡ v → ⊥) → Goes P f k J v false

-- the answer of the test, where the run is long enough and there are slots enough
pub goes_if : (P f k J v w : ℕ) → P < f → P < k → w ≡ J → (b : Bool) → nat_eq w v ≡ b → Goes P f k J v b
goes_if _ _ _ _ v w a b e true q = on a b (sym e ∙ eqb-true w v q)
goes_if _ _ _ _ v w a b e false q = less a b (λ z. false-eqb w v (sym q) (e ∙ z))

-- q is the longest packet of at most m slots that comes to v with the tail after it
pub record Longest (t : Task) (p k m v : ℕ) (tl : List ℕ) (q : ℕ) : Type 0 where
  pub low : 1 ≤ q
  pub high : q ≤ m
  pub here : raised (packet_words t q) (entry tl (p + q - 1) (k - q)) ≡ v
  pub past : (j : ℕ) → q < j → j ≤ m → raised (packet_words t j) (entry tl (p + j - 1) (k - j)) ≡ v → ⊥

-- the longest, if there is one
abbrev pub LongestIf : Task → ℕ → ℕ → ℕ → ℕ → List ℕ → Option ℕ → Type 0
LongestIf t p k m v tl None = (j : ℕ) → 1 ≤ j → j ≤ m → raised (packet_words t j) (entry tl (p + j - 1) (k - j)) ≡ v → ⊥
LongestIf t p k m v tl (Some q) = Longest t p k m v tl q

-- r is the first position from `from` on whose entry of k slots is w; one from `end` on where there is none before
pub record NextHead (hd : List ℕ) (k from end w r : ℕ) : Type 0 where
  pub low : from ≤ r
  pub miss : (x : ℕ) → from ≤ x → x < r → entry hd x k ≡ w → ⊥
  pub hit : r < end → entry hd r k ≡ w

-- the first one before `end`, if there is one
abbrev pub NextHeadIf : List ℕ → ℕ → ℕ → ℕ → ℕ → Option ℕ → Type 0
NextHeadIf hd k from end w None = (x : ℕ) → from ≤ x → x < end → entry hd x k ≡ w → ⊥
NextHeadIf hd k from end w (Some r) = (r < end) × NextHead hd k from end w r

-- the rebuilding stands at position p with k slots to take: f slots are open, and v is to be attained
pub record Standing (t : Task) (s K : ℕ) (hd tl : List ℕ) (p k f v : ℕ) : Type 0 where
  pub solved : Solved t s K hd tl
  pub k1 : 1 ≤ k
  pub kk : k ≤ K
  pub due : Due t s p k
  pub run : FreeRun t s p f
  pub within : p + f < N t
  pub value : v ≡ entry hd p k

raised_positive : (a x v : ℕ) → raised a x ≡ v → 0 < v → 0 < x
unfolding raised
raised_positive a zero v e h = absurd (omega arith)
raised_positive a (suc x) v e h = omega arith

module _ (t : Task) (good : Sound t) (s K : ℕ) (hd tl : List ℕ) (p k f v : ℕ) (z : Standing t s K hd tl p k f v) where
  head_v : head t s p k ≡ v
  head_v = sym (z.value ∙ z.solved.heads.at p k (omega arith) (z.due.within z.k1) z.kk)

  some_v : 0 < v
  some_v = omega (arith, head_v, z.due.worth z.k1)

  f1 : 1 ≤ f
  f1 = go f refl
    where
      go : (g : ℕ) → f ≡ g → 1 ≤ f
      go zero e = absurd (omega (arith, some_v, head_v, head_shut t s p k (ap (opens t s) (omega arith) ∙ z.run.stop)))
      go (suc g) e = omega arith

  mid_v : mid t s p k 1 ≡ v
  mid_v = sym (mid_first t s p k (ap (opens t s) (sym (add-zero p)) ∙ z.run.clear 0 f1) z.k1) ∙ head_v

  -- ---- the run goes on after a full packet

  abbrev J : ℕ
  J = raised (packet_words t (P t)) (entry hd (p + P t) (k - P t))

  J-is : P t < f → P t < k → J ≡ raised (packet_words t (P t)) (head t s (p + P t) (k - P t))
  J-is a b =
      ap (raised (packet_words t (P t)))
      (z.solved.heads.at (p + P t) (k - P t) (omega arith) (omega (arith, z.within, good.legal.p1)) (omega (arith, z.kk)))

  pub record On : Type 0 where
    pub less : P t < k
    pub fits : P t ≤ f
    pub sum : left t s p k ≡ bits_run t s p (P t) + left t s (p + P t) (k - P t)
    pub next : Due t s (p + P t) (k - P t)

  goes_on : Goes (P t) f k J v true → On
  goes_on (on a b e) =
      record {
        less = b;
        fits = omega arith;
        sum =
            left_some t s p k z.k1
            ∙ packet_jump t good s p k f z.k1 z.run f1 z.within v some_v head_v a b (sym (J-is a b) ∙ e)
            ∙ ap (λ x. bits_run t s p (P t) + x) (sym (left_some t s (p + P t) (k - P t) (omega arith)));
        next = record { within = λ h. omega (arith, z.within); worth = λ h. raised_positive _ _ _ (sym (J-is a b) ∙ e) some_v };
      }

  pub standing_on : (b : Bool) → Goes (P t) f k J v b → b ≡ true → On
  standing_on b g e = goes_on (subst (Goes (P t) f k J v) e g)

  -- ---- or it ends with a packet of q slots

  abbrev top : ℕ
  top = min (P t) (min f k)

  entry_is : (q : ℕ) → 1 ≤ q → q ≤ top → raised (packet_words t q) (entry tl (p + q - 1) (k - q)) ≡ pack_end t s p k q
  entry_is q a b =
      ap (raised (packet_words t q)) (z.solved.tails.at (p + q - 1) (k - q) (omega arith) (omega (arith, z.within)) (omega (arith, z.kk)))
      ∙ sym (pack_end_lem t s p k q)

  peak : (E q : ℕ) (c : Chain (mid t s p k) (pack_end t s p k) top E) → (E ≡ v → ⊥) → Longest t p k top v tl q → Peak c v q
  peak E q c ne l =
      record {
        low = l.low;
        high = l.high;
        top = mid_v;
        here = sym (entry_is q l.low l.high) ∙ l.here;
        past = λ j a b e. l.past j a b (entry_is j (omega (arith, l.low)) b ∙ e);
        end = ne;
      }

  zero_less : 0 ≡ v → ⊥
  zero_less e = omega (arith, some_v)

  -- what is chosen after the packet
  abbrev rest : ℕ → ℕ
  rest q = bits_of t s (p + q + 1) (greedy t (ahead t s (p + q + 1)) 2 0 (k - q))

  short_end : (q : ℕ) → (f ≤ P t) ⊎ (k ≤ P t) → Longest t p k top v tl q → left t s p k ≡ bits_run t s p q + rest q
  short_end q a l =
      let c = peak 0 q (chain_short t good s p k f z.k1 z.run f1 z.within a) zero_less l in
      left_some t s p k z.k1 ∙ packet_stop_short t good s p k f z.k1 z.run f1 z.within v some_v q a c

  ends : (q : ℕ) → Goes (P t) f k J v false → Longest t p k top v tl q → left t s p k ≡ bits_run t s p q + rest q
  ends q (few a) l = short_end q (inl a) l
  ends q (short a) l = short_end q (inr a) l
  ends q (less a b ne) l =
      let c = peak _ q (chain_long t good s p k f z.k1 z.run f1 z.within a b) (λ e. ne (J-is a b ∙ e)) l in
      left_some t s p k z.k1 ∙ packet_stop_long t good s p k f z.k1 z.run f1 z.within v some_v q a b c

  -- a packet of some length comes to v
  some_packet : Goes (P t) f k J v false → LongestIf t p k top v tl None → ⊥
  some_packet (few a) l = some_part (chain_short t good s p k f z.k1 z.run f1 z.within (inl a)) v mid_v zero_less λ j a b d. l j a b (entry_is j a b ∙ d)
  some_packet (short a) l = some_part (chain_short t good s p k f z.k1 z.run f1 z.within (inr a)) v mid_v zero_less λ j a b d. l j a b (entry_is j a b ∙ d)
  some_packet (less a b ne) l =
      some_part (chain_long t good s p k f z.k1 z.run f1 z.within a b) v mid_v (λ e. ne (J-is a b ∙ e)) λ j a b d. l j a b (entry_is j a b ∙ d)

  module _ (q : ℕ) (g : Goes (P t) f k J v false) (l : Longest t p k top v tl q) where
    ends_all : k ≡ q → left t s p k ≡ bits_run t s p q
    ends_all e =
        let none : k - q ≡ 0 = omega arith in
        ends q g l ∙ ap (λ i. bits_run t s p q + bits_of t s (p + q + 1) (greedy t (ahead t s (p + q + 1)) 2 0 i)) none
        ∙ omega (arith, gap_none t s (ahead t s (p + q + 1)) (p + q + 1) 2 0)

    module _ (r w : ℕ) (lt : q < k) (ew : w ≡ entry tl (p + q - 1) (k - q)) (nx : NextHead hd (k - q) (p + q + 1) (N t - 1) w r) where
      some_w : 0 < w
      some_w = raised_positive (packet_words t q) w v (ap (raised (packet_words t q)) ew ∙ l.here) some_v

      tail_w : tail t s (p + q - 1) (k - q) ≡ w
      tail_w = sym (ew ∙ z.solved.tails.at (p + q - 1) (k - q) (omega arith) (omega (arith, l.high, l.low, z.within)) (omega (arith, z.kk)))

      missed : (x : ℕ) → p + q - 1 + 2 ≤ x → x < r → head t s x (k - q) ≡ w → ⊥
      missed x a b e = go (le_or_lt (N t) (x + 1))
        where
          go : (N t ≤ x + 1) ⊎ (x + 1 < N t) → ⊥
          go (inl c) = omega (arith, head_shut t s x (k - q) (opens_last t s x c), some_w)
          go (inr c) = nx.miss x (omega (arith, l.low)) b (z.solved.heads.at x (k - q) (omega arith) c (omega (arith, z.kk)) ∙ e)

      found : (r + 1 < N t) × (bits_of t s (p + q - 1 + 2) (greedy t (ahead t s (p + q - 1 + 2)) 2 0 (k - q)) ≡ bits_of t s r (begun t s r (k - q)))
      found =
          gap_next t s (p + q - 1) (k - q) w (omega arith) some_w r tail_w (omega (arith, l.low, nx.low)) missed
          (λ h. sym (z.solved.heads.at r (k - q) (omega arith) h (omega (arith, z.kk))) ∙ nx.hit (omega arith))

      goes_next : left t s p k ≡ bits_run t s p q + left t s r (k - q)
      goes_next =
          let i : p + q - 1 + 2 ≡ p + q + 1 = omega (arith, l.low) in
          let e = rw i at found.1 in
          ends q g l ∙ ap (λ x. bits_run t s p q + x) (e ∙ sym (left_some t s r (k - q) (omega arith)))

      due_next : Due t s r (k - q)
      due_next =
          record {
            within = λ h. found.0;
            worth = λ h.
                omega (
                  arith,
                  some_w,
                  sym (z.solved.heads.at r (k - q) (omega arith) found.0 (omega (arith, z.kk))) ∙ nx.hit (omega (arith, found.0)),
                );
          }

    -- the next packet begins somewhere
    some_next : (w : ℕ) → q < k → w ≡ entry tl (p + q - 1) (k - q) → NextHeadIf hd (k - q) (p + q + 1) (N t - 1) w None → ⊥
    some_next w lt ew none =
        let past = found (max (p + q + 1) (N t - 1)) w lt ew (record {
          low = omega arith;
          miss = λ x a b. none x a (omega arith);
          hit = λ h. absurd (omega arith);
        }) in
        omega (arith, past.0)

  pub record Off (q : ℕ) : Type 0 where
    pub low : 1 ≤ q
    pub le : q ≤ k
    pub fits : q ≤ f
    pub part : bits_run t s p q ≤ left t s p k
    pub end : k ≡ q → left t s p k ≡ bits_run t s p q
    pub some : (w : ℕ) → q < k → w ≡ entry tl (p + q - 1) (k - q) → NextHeadIf hd (k - q) (p + q + 1) (N t - 1) w None → ⊥
    pub next : (r w : ℕ) → q < k → w ≡ entry tl (p + q - 1) (k - q) → NextHead hd (k - q) (p + q + 1) (N t - 1) w r
        → (left t s p k ≡ bits_run t s p q + left t s r (k - q)) × Due t s r (k - q)

  pub standing_some : (b : Bool) → Goes (P t) f k J v b → b ≡ false → (m : ℕ) → m ≡ top → LongestIf t p k m v tl None → ⊥
  standing_some b g e m em l = some_packet (subst (Goes (P t) f k J v) e g) (subst (λ i. LongestIf t p k i v tl None) em l)

  pub standing_off : (b : Bool) → Goes (P t) f k J v b → b ≡ false → (m q : ℕ) → m ≡ top → Longest t p k m v tl q → Off q
  standing_off b g e m q em l = go (subst (Goes (P t) f k J v) e g) (subst (λ i. Longest t p k i v tl q) em l)
    where
      go : Goes (P t) f k J v false → Longest t p k top v tl q → Off q
      go g l =
          record {
            low = l.low;
            le = omega (arith, l.high);
            fits = omega (arith, l.high);
            part = omega (arith, ends q g l);
            end = ends_all q g l;
            some = some_next q g l;
            next = λ r w a c d. (goes_next q g l r w a c d, due_next q g l r w a c d);
          }

-- ---- the entries that are read are small

module _ (t : Task) (good : Sound t) (s K : ℕ) (hd tl : List ℕ) (z : Solved t s K hd tl) (k63 : K ≤ 63) where
  pub tails_small : (p k m : ℕ) → p + m < N t → m ≤ k → k ≤ K → (q : ℕ) → 1 ≤ q → q ≤ m → entry tl (p + q - 1) (k - q) ≤ 4097
  tails_small p k m a b c q d e =
      rw (z.tails.at (p + q - 1) (k - q) (omega arith) (omega arith) (omega arith))
      (small (k - q) (S t) _ (omega arith) good.legal.s64 (tail_most t s (p + q - 1) (k - q)))

  pub heads_small : (p k : ℕ) → p + 1 < N t → k ≤ K → entry hd p k ≤ 4097
  heads_small p k a b =
      rw (z.heads.at p k (omega arith) a b) (small k (S t) _ (omega arith) good.legal.s64 (head_most t s p k))

-- ---- steps of the loops

-- what a packet of the rebuilding leaves
pub record Stepped (t : Task) (s x p k x' p' k' : ℕ) : Type 0 where
  pub sum : x' + left t s p' k' ≡ x + left t s p k
  pub less : k' < k
  pub due : Due t s p' k'

pub run_next : (t : Task) (s d m i : ℕ) → i < m → bits_run t s (d + i) (m - i) ≡ 2 ^ ((s + (d + i)) % N t) + bits_run t s (d + (i + 1)) (m - (i + 1))
unfolding bits_run
run_next t s d m i h =
    let e : m - i ≡ suc (m - (i + 1)) = omega arith in
    let a : d + (i + 1) ≡ d + i + 1 = omega arith in
    rw (e, a)

pub run_end : (t : Task) (s d m i : ℕ) → m ≤ i → bits_run t s d (m - i) ≡ 0
unfolding bits_run
run_end t s d m i h =
    let e : m - i ≡ 0 = omega arith in
    rw e

-- one standing more at which A holds, going down
pub above_more : (A : ℕ → Type 0) (q m : ℕ) → 0 < q → A (q - 1) → ((j : ℕ) → q ≤ j → j ≤ m → A j) → (j : ℕ) → q - 1 ≤ j → j ≤ m → A j
above_more A q m h a f j l r = go (le_or_lt q j)
  where
    go : (q ≤ j) ⊎ (j < q) → A j
    go (inl e) = f j e r
    go (inr e) =
        let c : j ≡ q - 1 = omega arith in
        rw c a

-- and going up
pub between_more : (A : ℕ → Type 0) (from p : ℕ) → ((x : ℕ) → from ≤ x → x < p → A x) → A p → (x : ℕ) → from ≤ x → x < p + 1 → A x
between_more A from p f a x l r = below_more (λ x. from ≤ x → A x) p (λ x r l. f x l r) (λ l. a) x r l
