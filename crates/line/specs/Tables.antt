-- The two tables as the code keeps them: 64 entries for each position, the one of k slots at position p at p * 64 + k.
-- An entry is the largest of some entries at later positions: a tail is the largest head that the gap allows, and a head
-- the largest of its packets, each with the tail after it or, after a full packet, the next head.
use Rattle.std.specs.Prelude.{◌≡◌, refl, true, false, List, ◌⊎◌, get_or, ℕ, zero, suc, ◌+◌, ◌-◌, ◌*◌, ◌≤◌, ◌<◌, max, min}
use Rattle.std.proofs.Common.{◌∙◌, inl, inr, ⊎_elim, add-zero, sym, ap, ap₂, arith}
use Rattle.laws.specs.Logic.{le_or_lt}
use Rattle.line.specs.declared.Task.{Task}
use Rattle.line.specs.Asked.{Asked}
use Rattle.line.specs.Values.{N, P, L, raised}
use Rattle.line.specs.Packets.{packet_words, opens, head, tail, reach, reach_first, reach_step, reach_cut, reach_end, mid, mid_first, mid_step, mid_stop, mid_full}

-- what is asked of a search holds: its wheel, its words, its limit and its free slots are sound
abbrev pub Sound : Task → Type 0
Sound t = Asked t.wheel t.free t.words t.limit

-- the entry of k slots at position p
abbrev pub entry : List ℕ → ℕ → ℕ → ℕ
entry tb p k = get_or tb (p * 64 + k) 0

-- the open slots from position p on are f
pub record FreeRun (t : Task) (s p f : ℕ) : Type 0 where
  pub clear : (i : ℕ) → i < f → opens t s (p + i) ≡ true
  pub stop : opens t s (p + f) ≡ false

-- the tables from position d on, for 0 to K slots at the start s
pub record Heads (t : Task) (s K d : ℕ) (hd : List ℕ) : Type 0 where
  pub at : (p k : ℕ) → d ≤ p → p + 1 < N t → k ≤ K → entry hd p k ≡ head t s p k

pub record Tails (t : Task) (s K d : ℕ) (tl : List ℕ) : Type 0 where
  pub at : (e k : ℕ) → d ≤ e → e + 1 < N t → k ≤ K → entry tl e k ≡ tail t s e k

-- ---- a tail

-- the largest entry of k slots over m positions from p on
unfoldable pub most_of : List ℕ → ℕ → ℕ → ℕ → ℕ
most_of tb k p zero = 0
most_of tb k p (suc m) = max (entry tb p k) (most_of tb k (p + 1) m)

-- one position more
pub most_more : (tb : List ℕ) (k p q : ℕ) → p ≤ q → most_of tb k p (q + 1 - p) ≡ max (most_of tb k p (q - p)) (entry tb q k)
unfolding most_of
most_more tb k p q h =
    let e : q + 1 - p ≡ suc (q - p) = omega arith in
    rw e (go (q - p) p (omega arith))
  where
    go : (m p : ℕ) → p + m ≡ q → most_of tb k p (suc m) ≡ max (most_of tb k p m) (entry tb q k)
    go zero p c =
        let d : p ≡ q = omega arith in
        rw d (omega arith)
    go (suc m) p c = omega (arith, go m (p + 1) (omega arith))

pub most_none : (tb : List ℕ) (k p end : ℕ) → end ≤ p → most_of tb k p (end - p) ≡ 0
unfolding most_of
most_none tb k p end h =
    let e : end - p ≡ 0 = omega arith in
    rw e

module _ (t : Task) (s K e k : ℕ) (hd : List ℕ) (k1 : 1 ≤ k) (kk : k ≤ K) (hs : Heads t s K (e + 1) hd) where
  reach_most : (m p : ℕ) → e < p → p + m ≡ min (e + L t + 1) (N t - 1) → reach t s e p k ≡ most_of hd k p m
  unfolding most_of
  reach_most zero p a c = go (le_or_lt p (e + L t))
    where
      go : (p ≤ e + L t) ⊎ (e + L t < p) → reach t s e p k ≡ 0
      go (inl b) = reach_end t s e p k (omega arith) k1
      go (inr b) = reach_cut t s e p k b
  reach_most (suc m) p a c =
      reach_step t s e p k a (omega arith) (omega arith)
      ∙ ap₂ max (sym (hs.at p k (omega arith) (omega arith) kk)) (reach_most m (p + 1) (omega arith) (omega arith))

  pub tail_window : e + 2 ≤ N t → 1 ≤ L t → tail t s e k ≡ most_of hd k (e + 2) (min (e + L t + 1) (N t - 1) - (e + 2))
  unfolding most_of
  tail_window h l1 = reach_first t s e k ∙ go (le_or_lt (e + 2) (min (e + L t + 1) (N t - 1)))
    where
      go : (e + 2 ≤ min (e + L t + 1) (N t - 1)) ⊎ (min (e + L t + 1) (N t - 1) < e + 2)
          → reach t s e (e + 2) k ≡ most_of hd k (e + 2) (min (e + L t + 1) (N t - 1) - (e + 2))
      go (inl b) = reach_most (min (e + L t + 1) (N t - 1) - (e + 2)) (e + 2) (omega arith) (omega arith)
      go (inr b) = far (le_or_lt (e + 2) (e + L t)) ∙ sym (most_none hd k (e + 2) (min (e + L t + 1) (N t - 1)) (omega arith))
        where
          far : (e + 2 ≤ e + L t) ⊎ (e + L t < e + 2) → reach t s e (e + 2) k ≡ 0
          far (inl c) = reach_end t s e (e + 2) k (omega arith) k1
          far (inr c) = reach_cut t s e (e + 2) k c

-- ---- a head

-- the most that a packet of q to q + m - 1 slots and the tail after it come to
unfoldable pub pack_most : Task → List ℕ → ℕ → ℕ → ℕ → ℕ → ℕ
pack_most t tl p k q zero = 0
pack_most t tl p k q (suc m) = max (raised (packet_words t q) (entry tl (p + q - 1) (k - q))) (pack_most t tl p k (q + 1) m)

pub pack_none : (t : Task) (tl : List ℕ) (p k : ℕ) → pack_most t tl p k 1 (min (1 - 1) k) ≡ 0
unfolding pack_most
pack_none t tl p k =
    let e : min (1 - 1) k ≡ 0 = omega arith in
    rw e

-- a packet of one slot more, where so many are to be taken
module _ (t : Task) (tl : List ℕ) (p k q : ℕ) where
  pub pack_more : 1 ≤ q → q ≤ k → pack_most t tl p k 1 (min q k)
      ≡ max (pack_most t tl p k 1 (min (q - 1) k)) (raised (packet_words t q) (entry tl (p + q - 1) (k - q)))
  unfolding pack_most
  pack_more h l =
      let a : min q k ≡ suc (q - 1) = omega arith in
      let b : min (q - 1) k ≡ q - 1 = omega arith in
      rw (a, b) (go (q - 1) 1 (omega arith))
    where
      go : (m i : ℕ) → i + m ≡ q → pack_most t tl p k i (suc m)
          ≡ max (pack_most t tl p k i m) (raised (packet_words t q) (entry tl (p + q - 1) (k - q)))
      go zero i c =
          let d : i ≡ q = omega arith in
          rw d (omega arith)
      go (suc m) i c = omega (arith, go m (i + 1) (omega arith))

  pub pack_same : k < q → pack_most t tl p k 1 (min (q - 1) k) ≡ pack_most t tl p k 1 (min q k)
  pack_same h = ap (pack_most t tl p k 1) (omega arith)

module _ (t : Task) (good : Sound t) (s K p k f : ℕ) (tl : List ℕ) (kk : k ≤ K) (k1 : 1 ≤ k)
    (ts : Tails t s K p tl) (fr : FreeRun t s p f) (f1 : 1 ≤ f) (fn : p + f < N t) where
  module _ (m J : ℕ) (mp : m ≤ P t) (mf : m ≤ f) (mk : m ≤ k)
      (last : mid t s p k m ≡ max (raised (packet_words t m) (tail t s (p + m - 1) (k - m))) J) where
    mid_most : (i q : ℕ) → 1 ≤ q → q + i ≡ m → mid t s p k q ≡ max (pack_most t tl p k q (suc i)) J
    unfolding pack_most
    mid_most zero q h e =
        let c : q ≡ m = omega arith in
        rw c (last ∙ ap (λ v. max v J)
        (ap (raised (packet_words t m)) (sym (ts.at (p + m - 1) (k - m) (omega arith) (omega arith) (omega arith))) ∙ omega arith))
    mid_most (suc i) q h e =
        let b : raised (packet_words t q) (entry tl (p + q - 1) (k - q)) ≡ raised (packet_words t q) (tail t s (p + q - 1) (k - q)) =
        ap (raised (packet_words t q)) (ts.at (p + q - 1) (k - q) (omega arith) (omega arith) (omega arith)) in
        omega (
          arith,
          mid_step t s p k q (omega (arith, good.legal.h)) h (omega arith) (omega arith) (omega arith) (fr.clear q (omega arith)),
          mid_most i (q + 1) (omega arith) (omega arith),
        )

  abbrev top : ℕ
  top = min (P t) (min f k)

  head_is : (J : ℕ) → mid t s p k top ≡ max (raised (packet_words t top) (tail t s (p + top - 1) (k - top))) J
      → head t s p k ≡ max (pack_most t tl p k 1 top) J
  head_is J last =
      let e : suc (top - 1) ≡ top = omega arith in
      mid_first t s p k (ap (opens t s) (sym (add-zero p)) ∙ fr.clear 0 f1) k1
      ∙ rw e at (mid_most top J (omega arith) (omega arith) (omega arith) last (top - 1) 1 (omega arith) (omega arith))

  -- a packet of at most P slots, and the run may go on
  pub head_long : (hd : List ℕ) → Heads t s K (p + 1) hd → P t < f → P t < k
      → head t s p k ≡ max (pack_most t tl p k 1 top) (raised (packet_words t (P t)) (entry hd (p + P t) (k - P t)))
  head_long hd h a b =
      let e : top ≡ P t = omega arith in
      head_is _ (rw (e, h.at (p + P t) (k - P t) (omega arith) (omega arith) (omega arith)) (mid_full t s p k good.legal.p1 (omega arith)))

  -- the run ends with this packet
  pub head_short : (f ≤ P t) ⊎ (k ≤ P t) → head t s p k ≡ pack_most t tl p k 1 top
  head_short z = omega (arith, head_is 0 (ends z (le_or_lt f k)))
    where
      ends : (f ≤ P t) ⊎ (k ≤ P t) → (f ≤ k) ⊎ (k < f) → mid t s p k top ≡ max (raised (packet_words t top) (tail t s (p + top - 1) (k - top))) 0
      ends z (inl a) =
          let e : top ≡ f = ⊎_elim (λ w. omega arith) (λ w. omega arith) z in
          rw e (omega (arith, mid_stop t s p k f f1 fn (inl fr.stop)))
      ends z (inr a) =
          let e : top ≡ k = ⊎_elim (λ w. omega arith) (λ w. omega arith) z in
          rw e (omega (arith, mid_stop t s p k k k1 (omega arith) (inr refl)))
