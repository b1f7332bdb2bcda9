-- How the tables are filled: from the last position to the first, first the row of tails and then the row of heads.
-- The function of one row does not know at which start the wheel is cut, and need not: what it computes is right for
-- every start whose tables the later rows hold.
use Rattle.std.specs.Prelude.{◌≡◌, refl, Bool, true, false, cond, List, ◌++◌, ◌⊎◌, leb, get_or, length, set, take, drop, ℕ, zero, suc, ◌+◌, ◌-◌, ◌*◌, ◌≤◌, ◌<◌, max, min}
use Rattle.std.proofs.Common.{rules, ap, ap₂, ◌∙◌, subst, inl, inr, ⊎_elim, add-zero, below_more, mul-le-mul_right, eq-or-lt_of_le, length-set, get_or-set_same, get_or-set_other, sym, arith}
use Rattle.std.proofs.Math.Nat.{max_comm}
use Rattle.std.proofs.Math.ListN.{get_or-append}
use Rattle.std.proofs.lemmas.List.{places, get_or-take, get_or-drop, get_or-append_right}
use Rattle.laws.specs.Logic.{le_or_lt}
use Rattle.line.specs.declared.Task.{Task}
use Rattle.line.specs.Values.{N, S, P, L, or_none, raised, raised_none}
use Rattle.line.specs.Packets.{packet_words, opens, opens_last, head, tail, head_most, tail_most, tail_done, tail_far, head_shut, head_zero}
use Rattle.line.specs.Tables.{Sound, entry, FreeRun, Heads, Tails, most_of, most_none, most_more, pack_most, pack_none, pack_more, pack_same, tail_window, head_long, head_short}

-- ---- one row of a table

-- `new` is `old` with the j entries from `base` on replaced: entry i of them is e i
pub record Filled (old new : List ℕ) (base j : ℕ) (e : ℕ → ℕ) : Type 0 where
  pub row : (i : ℕ) → i < j → get_or new (base + i) 0 ≡ e i
  pub below : (i : ℕ) → i < base → get_or new i 0 ≡ get_or old i 0
  pub above : (i : ℕ) → base + j ≤ i → get_or new i 0 ≡ get_or old i 0
  pub long : length new ≡ length old

-- a row becomes the better of heads and tails, entry by entry
abbrev pub Picked : List ℕ → List ℕ → List ℕ → Type 0
Picked new hd tl = (i : ℕ) → i < length new → get_or new i 0 ≡ max (get_or hd i 0) (get_or tl i 0)

-- a row becomes at least other values
abbrev pub RowLifted : List ℕ → List ℕ → List ℕ → Type 0
RowLifted old new vs = (i : ℕ) → i < length new → get_or new i 0 ≡ max (get_or vs i 0) (get_or old i 0)

-- a row becomes at least other values with `words` more on top
abbrev pub RowRaised : List ℕ → List ℕ → List ℕ → ℕ → Type 0
RowRaised old new vs words = (i : ℕ) → i < length new → get_or new i 0 ≡ max (get_or old i 0) (raised words (get_or vs i 0))

pub filled_none : (old : List ℕ) (base : ℕ) (e : ℕ → ℕ) → Filled old old base 0 e
filled_none old base e = record { row = λ i h. absurd (omega arith); below = λ i h. refl; above = λ i h. refl; long = refl }

pub filled_more : (old new : List ℕ) (base j v : ℕ) (e : ℕ → ℕ) → Filled old new base j e → base + j < length old
    → v ≡ e j → Filled old (set new (base + j) v) base (j + 1) e
filled_more old new base j v e h b q =
    record {
      row = below_more (λ i. get_or (set new (base + j) v) (base + i) 0 ≡ e i) j
          (λ i d. get_or-set_other new (base + j) (base + i) v 0 (omega arith) ∙ h.row i d)
          (get_or-set_same new (base + j) v 0 (omega (arith, h.long)) ∙ q);
      below = λ i d. get_or-set_other new (base + j) i v 0 (omega arith) ∙ h.below i d;
      above = λ i d. get_or-set_other new (base + j) i v 0 (omega arith) ∙ h.above i (omega arith);
      long = simp length-set h.long;
    }

-- the entries under another name
pub filled_as : (old new : List ℕ) (base j : ℕ) (d e : ℕ → ℕ) → Filled old new base j d → ((i : ℕ) → i < j → d i ≡ e i) → Filled old new base j e
filled_as old new base j d e h q = record { row = λ i l. h.row i l ∙ q i l; below = h.below; above = h.above; long = h.long }

-- the same row a second time
pub filled_then : (old mid new : List ℕ) (base j : ℕ) (d e : ℕ → ℕ) → Filled old mid base j d → Filled mid new base j e → Filled old new base j e
filled_then old mid new base j d e a b =
    record { row = b.row; below = λ i l. b.below i l ∙ a.below i l; above = λ i l. b.above i l ∙ a.above i l; long = b.long ∙ a.long }

-- and from its entry q on
pub filled_again : (old mid new : List ℕ) (base j q : ℕ) (d e g : ℕ → ℕ) → q ≤ j → Filled old mid base j d
    → Filled mid new (base + q) (j - q) e → ((i : ℕ) → i < q → d i ≡ g i) → ((i : ℕ) → i < j - q → e i ≡ g (q + i)) → Filled old new base j g
filled_again old mid new base j q d e g h a b low high =
    record {
      row = λ i l. row i l (le_or_lt q i);
      below = λ i l. b.below i (omega arith) ∙ a.below i l;
      above = λ i l. b.above i (omega arith) ∙ a.above i l;
      long = b.long ∙ a.long;
    }
  where
    row : (i : ℕ) → i < j → (q ≤ i) ⊎ (i < q) → get_or new (base + i) 0 ≡ g i
    row i l (inr c) = b.below (base + i) (omega arith) ∙ a.row i l ∙ low i c
    row i l (inl c) =
        let m : base + q + (i - q) ≡ base + i = omega arith in
        let n : q + (i - q) ≡ i = omega arith in
        ap (λ x. get_or new x 0) (sym m) ∙ b.row (i - q) (omega arith) ∙ high (i - q) (omega arith) ∙ ap g n

-- its first entry is written last
filled_first : (old new : List ℕ) (base j v : ℕ) (d e : ℕ → ℕ) → Filled old new base (j + 1) d → base < length old → v ≡ e 0
    → ((i : ℕ) → 1 ≤ i → i ≤ j → d i ≡ e i) → Filled old (set new base v) base (j + 1) e
filled_first old new base j v d e h b first more =
    record {
      row = λ i l. row i l;
      below = λ i l. get_or-set_other new base i v 0 (omega arith) ∙ h.below i l;
      above = λ i l. get_or-set_other new base i v 0 (omega arith) ∙ h.above i l;
      long = simp length-set h.long;
    }
  where
    row : (i : ℕ) → i < j + 1 → get_or (set new base v) (base + i) 0 ≡ e i
    row zero l = rw (add-zero base) (get_or-set_same new base v 0 (omega (arith, h.long)) ∙ first)
    row (suc i) l = get_or-set_other new base (base + suc i) v 0 (omega arith) ∙ h.row (suc i) l ∙ more (suc i) (omega arith) (omega arith)

-- entry i of a part of a table
pub part_entry : (tb : List ℕ) (base n i : ℕ) → i < n → get_or (take n (drop base tb)) i 0 ≡ get_or tb (base + i) 0
part_entry tb base n i h = get_or-take n (drop base tb) i 0 h ∙ get_or-drop base tb i 0

-- a part of a table came back as the row ys
pub filled_part : (old ys : List ℕ) (base j n : ℕ) (e : ℕ → ℕ) → base + j ≤ length old → n ≡ j → length ys ≡ j
    → ((i : ℕ) → i < j → get_or ys i 0 ≡ e i) → Filled old (take base old ++ (ys ++ drop n (drop base old))) base j e
filled_part old ys base j n e b same long h =
    record {
      row = λ i l. search (rules, places) ∙ h i l;
      below = λ i l. search (rules, places);
      above = λ i l. search (rules, places);
      long = search (rules, places);
    }

-- a table was split, and a part of its front changed
filled_front : (front front' back : List ℕ) (base j : ℕ) (e : ℕ → ℕ) → base + j ≤ length front → Filled front front' base j e
    → Filled (front ++ back) (front' ++ back) base j e
filled_front front front' back base j e b f =
    record {
      row = λ i l. get_or-append front' back 0 (base + i) (omega (arith, f.long)) ∙ f.row i l;
      below = λ i l. get_or-append front' back 0 i (omega (arith, f.long)) ∙ f.below i l ∙ sym (get_or-append front back 0 i (omega arith));
      above = λ i l. above i l (le_or_lt (length front) i);
      long = search (rules, places, f.long);
    }
  where
    above : (i : ℕ) → base + j ≤ i → (length front ≤ i) ⊎ (i < length front) → get_or (front' ++ back) i 0 ≡ get_or (front ++ back) i 0
    above i l (inl h) =
        get_or-append_right front' back (length front) i 0 f.long h ∙ sym (get_or-append_right front back (length front) i 0 refl h)
    above i l (inr h) =
        get_or-append front' back 0 i (omega (arith, f.long)) ∙ f.above i l ∙ sym (get_or-append front back 0 i h)

-- and came back as the row ys
pub filled_split : (old front back ys : List ℕ) (base j n : ℕ) (e : ℕ → ℕ) → old ≡ front ++ back → base + j ≤ length front → n ≡ j
    → length ys ≡ j → ((i : ℕ) → i < j → get_or ys i 0 ≡ e i)
    → Filled old ((take base front ++ (ys ++ drop n (drop base front))) ++ back) base j e
filled_split old front back ys base j n e q b same long h =
    subst (λ l. Filled l ((take base front ++ (ys ++ drop n (drop base front))) ++ back) base j e) (sym q)
    (filled_front front _ back base j e b (filled_part front ys base j n e b same long h))

-- rows that were picked or raised, the entries that they took in under other names
pub picked_is : (new hd tl : List ℕ) (j : ℕ) (d e : ℕ → ℕ) → length new ≡ j → Picked new hd tl → ((k : ℕ) → k < j → get_or hd k 0 ≡ d k)
    → ((k : ℕ) → k < j → get_or tl k 0 ≡ e k) → (k : ℕ) → k < j → get_or new k 0 ≡ max (d k) (e k)
picked_is new hd tl j d e long up a b k l = up k (omega arith) ∙ ap₂ max (a k l) (b k l)

pub raised_is : (old new vs : List ℕ) (words j : ℕ) (d e : ℕ → ℕ) → length new ≡ j → RowRaised old new vs words
    → ((k : ℕ) → k < j → get_or old k 0 ≡ d k) → ((k : ℕ) → k < j → get_or vs k 0 ≡ e k)
    → (k : ℕ) → k < j → get_or new k 0 ≡ max (d k) (raised words (e k))
raised_is old new vs words j d e long up a b k l = up k (omega arith) ∙ ap₂ max (a k l) (ap (raised words) (b k l))

-- the rows of later positions are as they were
module _ (t : Task) (s K p j : ℕ) (old new : List ℕ) (e : ℕ → ℕ) (h : j ≤ 64) (f : Filled old new (p * 64) j e) where
  heads_kept : Heads t s K (p + 1) old → Heads t s K (p + 1) new
  heads_kept z = record { at = λ q k a b c. f.above (q * 64 + k) (omega arith) ∙ z.at q k a b c }

  tails_kept : Tails t s K (p + 1) old → Tails t s K (p + 1) new
  tails_kept z = record { at = λ q k a b c. f.above (q * 64 + k) (omega arith) ∙ z.at q k a b c }

-- ---- a row of tails

-- the entries of 0 to m - 1 slots at e are the tails
pub record TailRow (t : Task) (cap m e : ℕ) (hd old new : List ℕ) : Type 0 where
  pub is : (s K : ℕ) → cap ≤ K → Heads t s K (e + 1) hd → Tails t s K (e + 1) old → Filled old new (e * 64) m (tail t s e)

-- those of 1 to cap slots are, and the one of no slot may still be anything
pub record TailsMore (t : Task) (cap e : ℕ) (hd old new : List ℕ) : Type 0 where
  pub filled : Filled old new (e * 64) (cap + 1) (entry new e)
  pub is : (s K k : ℕ) → cap ≤ K → Heads t s K (e + 1) hd → Tails t s K (e + 1) old → 1 ≤ k → k ≤ cap → entry new e k ≡ tail t s e k

-- a window of no position
pub window_none : (cap e : ℕ) (hd old new : List ℕ) → Filled old new (e * 64) (cap + 1) (λ k. 0)
    → Filled new new (e * 64) (cap + 1) (λ k. most_of hd k (e + 2) (e + 2 - (e + 2)))
window_none cap e hd old new h =
    record { row = λ k l. h.row k l ∙ sym (most_none hd k (e + 2) (e + 2) (omega arith)); below = λ i l. refl; above = λ i l. refl; long = refl }

-- and of one more, in a table
pub window_filled : (cap e from p : ℕ) (hd old mid new : List ℕ) → from ≤ p
    → Filled old mid (e * 64) (cap + 1) (λ k. most_of hd k from (p - from))
    → Filled mid new (e * 64) (cap + 1) (λ k. max (entry hd p k) (entry mid e k))
    → Filled old new (e * 64) (cap + 1) (λ k. most_of hd k from (p + 1 - from))
window_filled cap e from p hd old mid new h a b =
    filled_then old mid new (e * 64) (cap + 1) _ _ a
    (filled_as mid new (e * 64) (cap + 1) _ _ b (λ k l. ap (max (entry hd p k)) (a.row k l) ∙ max_comm _ _ ∙ sym (most_more hd k from p h)))

-- a row of the best heads of the positions before p, with those of position p too
pub window_more : (hd old new vs : List ℕ) (from p j : ℕ) → from ≤ p → length new ≡ j → ((k : ℕ) → k < j → get_or vs k 0 ≡ entry hd p k)
    → ((k : ℕ) → k < j → get_or old k 0 ≡ most_of hd k from (p - from)) → RowLifted old new vs
    → (k : ℕ) → k < j → get_or new k 0 ≡ most_of hd k from (p + 1 - from)
window_more hd old new vs from p j h long at best up k l =
    up k (omega arith) ∙ ap₂ max (at k l) (best k l) ∙ max_comm _ _ ∙ sym (most_more hd k from p h)

module _ (t : Task) (cap e : ℕ) (hd old new : List ℕ) (e2 : e + 2 ≤ N t) where
  -- the limit cuts nothing
  pub tails_far : cap < 64 → N t ≤ e + L t + 1 → e + 3 < N t
      → Filled old new (e * 64) (cap + 1) (λ k. max (entry hd (e + 2) k) (entry old (e + 1) k)) → TailsMore t cap e hd old new
  tails_far c63 h l f =
      record {
        filled = filled_as old new (e * 64) (cap + 1) _ (entry new e) f (λ k l. sym (f.row k l));
        is = λ s K k c hs ts k1 kc.
            f.row k (omega arith)
            ∙ ap₂ max (hs.at (e + 2) k (omega arith) (omega arith) (omega arith)) (ts.at (e + 1) k (omega arith) (omega arith) (omega arith))
            ∙ sym (tail_far t s e k (omega arith) h (omega arith) k1);
      }

  -- the window of the heads that the limit allows
  pub tails_near : 1 ≤ L t → (end : ℕ) → end ≡ min (e + L t + 1) (N t - 1)
      → Filled old new (e * 64) (cap + 1) (λ k. most_of hd k (e + 2) (end - (e + 2))) → TailsMore t cap e hd old new
  tails_near l1 end q f =
      record {
        filled = filled_as old new (e * 64) (cap + 1) _ (entry new e) f (λ k l. sym (f.row k l));
        is = λ s K k c hs ts k1 kc.
            f.row k (omega arith) ∙ ap (λ m. most_of hd k (e + 2) (m - (e + 2))) q ∙ sym (tail_window t s K e k hd k1 (omega arith) hs e2 l1);
      }

  pub tail_row_done : TailsMore t cap e hd old new → e * 64 < length old → (v : ℕ) → v ≡ or_none (leb (N t - e) (L t)) 1
      → TailRow t cap (cap + 1) e hd old (set new (e * 64) v)
  tail_row_done z b v q =
      record {
        is = λ s K c hs ts.
            filled_first old new (e * 64) cap v (entry new e) (tail t s e) z.filled b (q ∙ sym (tail_done t s e e2))
            (λ k k1 kc. z.is s K k c hs ts k1 kc);
      }

-- ---- the entries are small

-- the rows after the one at p are those of some start, for k slots and more, and f slots are open from p on
pub record Held (t : Task) (hd tl : List ℕ) (p f k : ℕ) : Type 0 where
  pub s : ℕ
  pub K : ℕ
  pub runs : p + f < N t
  pub kk : k ≤ K
  pub k63 : K ≤ 63
  pub heads : Heads t s K (p + 1) hd
  pub tails : Tails t s K p tl
  pub run : FreeRun t s p f

pub small : (k S v : ℕ) → k ≤ 63 → S ≤ 64 → v ≤ suc (k * S) → v ≤ 4097
small k S v a b h =
    let c : k * S ≤ 63 * S = mul-le-mul_right S a in
    omega arith

-- and leave room for the words of a packet
pub words_room : (t : Task) (q v : ℕ) → Sound t → q ≤ 64 → v ≤ 4097 → packet_words t q + v < 65536
words_room t q v good h l =
    let c : q * S t ≤ 64 * S t = mul-le-mul_right (S t) h in
    omega (arith, good.legal.s64)

module _ (t : Task) (good : Sound t) (hd tl : List ℕ) (p f k : ℕ) (z : Held t hd tl p f k) where
  pub held_tail : (q i : ℕ) → 1 ≤ q → q ≤ f → q + i ≤ k → entry tl (p + q - 1) i ≤ 4097
  held_tail q i a b c =
      rw (z.tails.at (p + q - 1) i (omega arith) (omega (arith, z.runs)) (omega (arith, z.kk)))
      (small i (S t) _ (omega (arith, z.kk, z.k63)) good.legal.s64 (tail_most t z.s (p + q - 1) i))

  pub held_head : (i : ℕ) → P t < f → P t + i ≤ k → entry hd (p + P t) i ≤ 4097
  held_head i b c =
      rw (z.heads.at (p + P t) i (omega (arith, good.legal.p1)) (omega (arith, z.runs)) (omega (arith, z.kk)))
      (small i (S t) _ (omega (arith, z.kk, z.k63)) good.legal.s64 (head_most t z.s (p + P t) i))

-- ---- a row of heads

-- the entries of 0 to m - 1 slots at p are the heads
pub record HeadRow (t : Task) (cap m p f : ℕ) (tl old new : List ℕ) : Type 0 where
  pub is : (s K : ℕ) → p + f < N t → cap ≤ K → Heads t s K (p + 1) old → Tails t s K p tl → FreeRun t s p f
      → Filled old new (p * 64) m (head t s p)

-- packets of no slot
pub packets_none : (t : Task) (cap p : ℕ) (tl old new : List ℕ) → Filled old new (p * 64) (cap + 1) (λ k. 0)
    → Filled new new (p * 64) (cap + 1) (λ k. pack_most t tl p k 1 (min (1 - 1) k))
packets_none t cap p tl old new h =
    record { row = λ k l. h.row k l ∙ sym (pack_none t tl p k); below = λ i l. refl; above = λ i l. refl; long = refl }

-- and of up to q, in a table
pub packets_filled : (t : Task) (cap p q w : ℕ) (tl old mid new : List ℕ) → 1 ≤ q → q ≤ cap → w ≡ packet_words t q
    → Filled old mid (p * 64) (cap + 1) (λ k. pack_most t tl p k 1 (min (q - 1) k))
    → Filled mid new (p * 64 + q) (cap + 1 - q) (λ i. max (get_or mid (p * 64 + q + i) 0) (raised w (entry tl (p + q - 1) i)))
    → Filled old new (p * 64) (cap + 1) (λ k. pack_most t tl p k 1 (min (q + 1 - 1) k))
packets_filled t cap p q w tl old mid new q1 qc e a b =
    let one : q + 1 - 1 ≡ q = omega arith in
    rw one
    (filled_again old mid new (p * 64) (cap + 1) q _ _ (λ k. pack_most t tl p k 1 (min q k)) (omega arith) a b
    (λ k l. pack_same t tl p k q l)
    (λ i l.
    let j : q + i - q ≡ i = omega arith in
    ap₂ max (ap (λ x. get_or mid x 0) (omega arith) ∙ a.row (q + i) (omega arith)) (ap₂ raised e (ap (entry tl (p + q - 1)) (sym j)))
    ∙ sym (pack_more t tl p (q + i) q q1 (omega arith))))

-- a row of what the packets of fewer than q slots come to, with those of q slots too
pub packets_more : (t : Task) (cap p q w : ℕ) (tl old new : List ℕ) → 1 ≤ q → q ≤ cap → w ≡ packet_words t q
    → ((k : ℕ) → k < cap + 1 → get_or old k 0 ≡ pack_most t tl p k 1 (min (q - 1) k))
    → Filled old new q (cap + 1 - q) (λ i. max (get_or old (q + i) 0) (raised w (entry tl (p + q - 1) i)))
    → (k : ℕ) → k < cap + 1 → get_or new k 0 ≡ pack_most t tl p k 1 (min (q + 1 - 1) k)
packets_more t cap p q w tl old new q1 qc e a b k l =
    let one : q + 1 - 1 ≡ q = omega arith in
    rw one (go (le_or_lt q k))
  where
    go : (q ≤ k) ⊎ (k < q) → get_or new k 0 ≡ pack_most t tl p k 1 (min q k)
    go (inr h) = b.below k h ∙ a k l ∙ pack_same t tl p k q h
    go (inl h) =
        let at : q + (k - q) ≡ k = omega arith in
        ap (λ i. get_or new i 0) (sym at)
        ∙ b.row (k - q) (omega arith)
        ∙ ap₂ max (ap (λ i. get_or old i 0) at ∙ a k l) (ap (λ v. raised v (entry tl (p + q - 1) (k - q))) e)
        ∙ sym (pack_more t tl p k q q1 h)

-- the most that a packet of at most P slots comes to is the head, unless the run may go on after a full one
module _ (t : Task) (good : Sound t) (s K p f k : ℕ) (tl : List ℕ) (fn : p + f < N t) (kk : k ≤ K) (ts : Tails t s K p tl) (run : FreeRun t s p f) where
  head_ends : (f ≤ P t) ⊎ (k ≤ P t) → pack_most t tl p k 1 (min (P t) (min f k)) ≡ head t s p k
  unfolding pack_most
  head_ends z = go (le_or_lt 1 f) (le_or_lt 1 k)
    where
      go : (1 ≤ f) ⊎ (f < 1) → (1 ≤ k) ⊎ (k < 1) → pack_most t tl p k 1 (min (P t) (min f k)) ≡ head t s p k
      go (inl a) (inl b) = sym (head_short t good s K p k f tl kk b ts run a fn z)
      go (inr a) b =
          let n : min (P t) (min f k) ≡ 0 = omega arith in
          rw n (sym (head_shut t s p k (ap (opens t s) (omega arith) ∙ run.stop)))
      go (inl a) (inr b) =
          let n : min (P t) (min f k) ≡ 0 = omega arith in
          rw n (sym (head_zero t s p k (omega arith)))

  head_goes_on : (hd : List ℕ) → Heads t s K (p + 1) hd → P t < f → P t ≤ k
      → max (pack_most t tl p k 1 (min (P t) (min f k))) (raised (packet_words t (P t)) (entry hd (p + P t) (k - P t))) ≡ head t s p k
  head_goes_on hd hs a b = go (le_or_lt k (P t))
    where
      go : (k ≤ P t) ⊎ (P t < k)
          → max (pack_most t tl p k 1 (min (P t) (min f k))) (raised (packet_words t (P t)) (entry hd (p + P t) (k - P t))) ≡ head t s p k
      go (inr c) = sym (head_long t good s K p k f tl kk (omega arith) ts run (omega arith) fn hd hs a c)
      go (inl c) =
          let none = hs.at (p + P t) (k - P t) (omega (arith, good.legal.p1)) (omega arith) (omega arith)
          ∙ head_zero t s (p + P t) (k - P t) (omega arith) in
          omega (arith, raised_none (packet_words t (P t)) _ none, head_ends (inr c))

module _ (t : Task) (good : Sound t) (cap p f m : ℕ) (tl old new : List ℕ) (c63 : cap < 64) (top : m ≡ min (P t) (min f cap))
    (packed : Filled old new (p * 64) (cap + 1) (λ k. pack_most t tl p k 1 (min m k))) where
  least : (k : ℕ) → k ≤ cap → pack_most t tl p k 1 (min m k) ≡ pack_most t tl p k 1 (min (P t) (min f k))
  least k h = ap (pack_most t tl p k 1) (omega arith)

  pub head_row_ends : (f ≤ P t) ⊎ (cap < P t) → HeadRow t cap (cap + 1) p f tl old new
  head_row_ends z =
      record {
        is = λ s K fn c hs ts run.
            filled_as old new (p * 64) (cap + 1) _ (head t s p) packed
            (λ k l. least k (omega arith)
            ∙ head_ends t good s K p f k tl fn (omega arith) ts run (⊎_elim (λ a. inl a) (λ a. inr (omega arith)) z));
      }

  packed_at : (i : ℕ) → P t + i ≤ cap → get_or new (p * 64 + P t + i) 0 ≡ pack_most t tl p (P t + i) 1 (min (P t) (min f (P t + i)))
  packed_at i h = ap (λ x. get_or new x 0) (omega arith) ∙ packed.row (P t + i) (omega arith) ∙ least (P t + i) h

  later_kept : (i : ℕ) → entry new (p + P t) i ≡ entry old (p + P t) i
  later_kept i = packed.above ((p + P t) * 64 + i) (omega (arith, good.legal.p1))

  pub head_room : Held t old tl p f cap → P t < f → (w : ℕ) → w ≡ packet_words t (P t) → (i : ℕ) → i < cap + 1 - P t
      → w + entry new (p + P t) i < 65536
  head_room z a w q i l =
      let v = held_head t good old tl p f cap z i a (omega arith) in
      omega (arith, later_kept i, words_room t (P t) _ good good.legal.p64 v)

  pub head_row_goes_on : (last : List ℕ) (w : ℕ) → P t < f → P t ≤ cap → w ≡ packet_words t (P t)
      → Filled new last (p * 64 + P t) (cap + 1 - P t) (λ i. max (get_or new (p * 64 + P t + i) 0) (raised w (entry new (p + P t) i)))
      → HeadRow t cap (cap + 1) p f tl old last
  head_row_goes_on last w a b q on =
      record {
        is = λ s K fn c hs ts run.
            filled_again old new last (p * 64) (cap + 1) (P t) _ _ (head t s p) (omega arith) packed on
            (λ k l. least k (omega arith) ∙ head_ends t good s K p f k tl fn (omega arith) ts run (inr (omega arith)))
            (λ i l.
            ap₂ max (packed_at i (omega arith)) (ap₂ raised q (later_kept i ∙ ap (entry old (p + P t)) (omega arith)))
            ∙ head_goes_on t good s K p f (P t + i) tl fn (omega arith) ts run old hs a (omega arith));
      }

-- ---- all positions

-- both tables from position d on, where f slots are open from d on
pub record SolvedFrom (t : Task) (s K d f : ℕ) (hd tl : List ℕ) : Type 0 where
  pub run : FreeRun t s d f
  pub within : d + f < N t
  pub heads : Heads t s K d hd
  pub tails : Tails t s K d tl

-- both tables, whole
pub record Solved (t : Task) (s K : ℕ) (hd tl : List ℕ) : Type 0 where
  pub heads : Heads t s K 0 hd
  pub tails : Tails t s K 0 tl

-- also for fewer slots
pub solved_fewer : (t : Task) (s K k : ℕ) (hd tl : List ℕ) → k ≤ K → Solved t s K hd tl → Solved t s k hd tl
solved_fewer t s K k hd tl h z =
    record {
      heads = record { at = λ p j a b c. z.heads.at p j a b (omega arith) };
      tails = record { at = λ e j a b c. z.tails.at e j a b (omega arith) };
    }

pub from_none : (t : Task) (s K : ℕ) (hd tl : List ℕ) → 1 ≤ N t → SolvedFrom t s K (N t - 1) 0 hd tl
from_none t s K hd tl h =
    record {
      run = record { clear = λ i l. absurd (omega arith); stop = opens_last t s (N t - 1 + 0) (omega arith) };
      within = omega arith;
      heads = record { at = λ p k a b c. absurd (omega arith) };
      tails = record { at = λ p k a b c. absurd (omega arith) };
    }

run_grown : (t : Task) (s d f : ℕ) (b : Bool) → FreeRun t s (d + 1) f → b ≡ opens t s d → FreeRun t s d (cond b (f + 1) 0)
run_grown t s d f true z e = record { clear = λ i l. clear i l; stop = ap (opens t s) (omega arith) ∙ z.stop }
  where
    clear : (i : ℕ) → i < f + 1 → opens t s (d + i) ≡ true
    clear zero l = ap (opens t s) (omega arith) ∙ sym e
    clear (suc i) l = ap (opens t s) (omega arith) ∙ z.clear i (omega arith)
run_grown t s d f false z e = record { clear = λ i l. absurd (omega arith); stop = ap (opens t s) (omega arith) ∙ sym e }

-- a row more
module _ (t : Task) (s K d : ℕ) (old new : List ℕ) (k : K < 64) where
  heads_more : Filled old new (d * 64) (K + 1) (head t s d) → Heads t s K (d + 1) old → Heads t s K d new
  heads_more f z = record { at = λ p j a b c. go p j (eq-or-lt_of_le a) b c }
    where
      go : (p j : ℕ) → (d ≡ p) ⊎ (d < p) → p + 1 < N t → j ≤ K → entry new p j ≡ head t s p j
      go p j (inl e) b c = subst (λ i. entry new i j ≡ head t s i j) e (f.row j (omega arith))
      go p j (inr e) b c = (heads_kept t s K d (K + 1) old new (head t s d) (omega arith) f z).at p j (omega arith) b c

  tails_more : Filled old new (d * 64) (K + 1) (tail t s d) → Tails t s K (d + 1) old → Tails t s K d new
  tails_more f z = record { at = λ p j a b c. go p j (eq-or-lt_of_le a) b c }
    where
      go : (p j : ℕ) → (d ≡ p) ⊎ (d < p) → p + 1 < N t → j ≤ K → entry new p j ≡ tail t s p j
      go p j (inl e) b c = subst (λ i. entry new i j ≡ tail t s i j) e (f.row j (omega arith))
      go p j (inr e) b c = (tails_kept t s K d (K + 1) old new (tail t s d) (omega arith) f z).at p j (omega arith) b c

-- the position before p is done: b says whether it is open, f' slots are open from it on, tl' has its row of tails
module _ (t : Task) (good : Sound t) (s K p f f' : ℕ) (b : Bool) (hd tl tl' : List ℕ) (k : K < 64) (one : 0 < p) (z : SolvedFrom t s K p f hd tl)
    (eb : b ≡ opens t s (p - 1)) (ef : f' ≡ cond b (f + 1) 0) (tr : TailRow t K (K + 1) (p - 1) hd tl tl') where
  abbrev d : ℕ
  d = p - 1

  later : SolvedFrom t s K (d + 1) f hd tl
  later = subst (λ i. SolvedFrom t s K i f hd tl) (omega arith) z

  grown_run : FreeRun t s d f'
  grown_run = rw ef (run_grown t s d f b later.run eb)

  grown_within : d + f' < N t
  grown_within = go b ef
    where
      go : (b : Bool) → f' ≡ cond b (f + 1) 0 → d + f' < N t
      go true e = omega (arith, later.within)
      go false e = omega (arith, later.within)

  grown_tails : Tails t s K d tl'
  grown_tails = tails_more t s K d tl tl' k (tr.is s K (omega arith) later.heads later.tails) later.tails

  pub from_held : Held t hd tl' d f' K
  from_held =
      record {
        s = s;
        K = K;
        runs = grown_within;
        kk = omega arith;
        k63 = omega arith;
        heads = later.heads;
        tails = grown_tails;
        run = grown_run;
      }

  pub from_room : d + f' < 64
  from_room = omega (arith, grown_within, good.legal.n64)

  pub from_more : (hd' : List ℕ) → HeadRow t K (K + 1) d f' tl' hd hd' → SolvedFrom t s K d f' hd' tl'
  from_more hd' hr =
      record {
        run = grown_run;
        within = grown_within;
        heads = heads_more t s K d hd hd' k (hr.is s K grown_within (omega arith) later.heads grown_tails grown_run) later.heads;
        tails = grown_tails;
      }
