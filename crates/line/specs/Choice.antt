-- The greedy choice by packets, as the code rebuilds it from the tables. Where a packet begins, the choice goes on through
-- it to the next packet if that attains the value, and otherwise ends after the longest packet that does; the next packet
-- then begins at the first position whose head attains what is left.
use Rattle.std.specs.Prelude.{◌≡◌, refl, Bool, true, cond, List, [], ◌∷◌, ◌⊎◌, false, ℕ, zero, suc, pred, ◌+◌, ◌-◌, ◌*◌, ◌%◌, ◌^◌, ◌≤◌, ◌<◌, max, min}
use Rattle.std.proofs.Common.{sym, ◌∙◌, subst, ⊎_elim, add-zero, ap, ap₂, inl, inr, arith, mod-eq_of_lt, mul-le-mul_right, add-one}
use Rattle.std.proofs.Math.Nat.{mod_self}
use Rattle.std.proofs.lemmas.Bool.{lt-leb}
use Rattle.laws.specs.Logic.{le_or_lt}
use Rattle.laws.specs.Reading.{next}
use Rattle.line.specs.declared.Task.{Task}
use Rattle.line.specs.Values.{N, S, H, P, L, raised, slot_words, phase, worth, taking, skipping, greedy, greedy_take, greedy_skip, prefers, prefers_if}
use Rattle.line.specs.Packets.{ahead, ahead_cons, opens, packet_words, gain_later, head, tail, mid, mid_first, mid_step, mid_stop, mid_full, reach, reach_first, reach_step, reach_cut, reach_end, raised_twice, took_some, took_shut, took_zero}
use Rattle.line.specs.Tables.{Sound, FreeRun}
use Rattle.line.specs.Chains.{Chain, Peak, peak_all, peak_next, peak_end, through, part, lt_of_ne}

-- the set of the flags that are set, the first at position d from the start s
unfoldable pub bits_of : Task → ℕ → ℕ → List Bool → ℕ
bits_of t s d [] = 0
bits_of t s d (b ∷ l) = cond b (2 ^ ((s + d) % N t)) 0 + bits_of t s (suc d) l

-- the slots from position d on, m of them
unfoldable pub bits_run : Task → ℕ → ℕ → ℕ → ℕ
bits_run t s d zero = 0
bits_run t s d (suc m) = 2 ^ ((s + d) % N t) + bits_run t s (d + 1) m

run_bits : (t : Task) (s : ℕ) (w : ℕ → List Bool) (i d j : ℕ) → ((x : ℕ) → j ≤ x → x < j + i → w x ≡ true ∷ w (x + 1))
    → bits_of t s d (w j) ≡ bits_run t s d i + bits_of t s (d + i) (w (j + i))
unfolding bits_of bits_run
run_bits t s w zero d j h = ap₂ (λ a b. bits_of t s a (w b)) (sym (add-zero d)) (sym (add-zero j)) ∙ omega arith
run_bits t s w (suc i) d j h =
    let a : d + 1 + i ≡ d + suc i = omega arith in
    let b : j + 1 + i ≡ j + suc i = omega arith in
    let ih = run_bits t s w i (d + 1) (j + 1) (λ x p q. h x (omega arith) (omega arith)) in
    let ih2 = rw (a, b) at ih in
    ap (bits_of t s d) (h j (omega arith) (omega arith))
    ∙ ap (λ k. 2 ^ ((s + d) % N t) + bits_of t s k (w (j + 1))) (sym (add-one d)) ∙ omega arith

bits_off : (t : Task) (s d : ℕ) (l : List Bool) → bits_of t s d (false ∷ l) ≡ bits_of t s (d + 1) l
unfolding bits_of
bits_off t s d l = rw (add-one d) (omega arith)

prefers_not : (a b : ℕ) → (a ≡ 0) ⊎ (a < b) → prefers a b ≡ false
unfolding prefers
prefers_not zero b h = refl
prefers_not (suc a) b (inl h) = absurd (omega arith)
prefers_not (suc a) b (inr h) = lt-leb b (suc a) h

-- from raised values back to plain ones
raised_back : (a x y : ℕ) → raised a x ≤ raised a y → 0 < raised a y → (x ≤ y) × (0 < y)
unfolding raised
raised_back a zero zero h l = absurd (omega arith)
raised_back a zero (suc y) h l = (omega arith, omega arith)
raised_back a (suc x) zero h l = absurd (omega arith)
raised_back a (suc x) (suc y) h l = (omega arith, omega arith)

raised_less : (a x y : ℕ) → raised a x < raised a y → x < y
unfolding raised
raised_less a zero zero h = absurd (omega arith)
raised_less a zero (suc y) h = omega arith
raised_less a (suc x) zero h = absurd (omega arith)
raised_less a (suc x) (suc y) h = omega arith

module _ (t : Task) (s : ℕ) where
  -- the choice where a packet begins at p, with k slots
  unfoldable pub begun : ℕ → ℕ → List Bool
  begun p k = true ∷ greedy t (ahead t s (p + 1)) 1 (phase t 0) (pred k)

  -- what is chosen after q slots of it
  unfoldable went : ℕ → ℕ → ℕ → List Bool
  went p k q = greedy t (ahead t s (p + q)) 1 (q % P t) (k - q)

  greedy_on : (d g r k : ℕ) → d < N t → prefers (taking t (opens t s d) (ahead t s (d + 1)) r k) (skipping t (ahead t s (d + 1)) g k) ≡ true
      → greedy t (ahead t s d) g r k ≡ true ∷ greedy t (ahead t s (d + 1)) 1 (phase t r) (pred k)
  greedy_on d g r k h e = rw (ahead_cons t s d h) (greedy_take t (opens t s d) (ahead t s (d + 1)) g r k e)

  greedy_off : (d g r k : ℕ) → d < N t → prefers (taking t (opens t s d) (ahead t s (d + 1)) r k) (skipping t (ahead t s (d + 1)) g k) ≡ false
      → greedy t (ahead t s d) g r k ≡ false ∷ greedy t (ahead t s (d + 1)) (suc g) 0 k
  greedy_off d g r k h e = rw (ahead_cons t s d h) (greedy_skip t (opens t s d) (ahead t s (d + 1)) g r k e)

  went_first : (p k : ℕ) → begun p k ≡ true ∷ went p k 1
  unfolding begun went next
  went_first p k =
      let b : k - 1 ≡ pred k = omega arith in
      rw b

  tail_is : (p k q : ℕ) → 1 ≤ q → tail t s (p + q - 1) (k - q) ≡ skipping t (ahead t s (p + q + 1)) 1 (k - q)
  unfolding tail
  tail_is p k q h =
      let i : p + q - 1 + 2 ≡ p + q + 1 = omega arith in
      rw i

  mid_taking : (p k q : ℕ) → H t ≤ S t → 1 ≤ q → q < P t → q < k → opens t s (p + q) ≡ true
      → mid t s p k (q + 1) ≡ raised (packet_words t q) (taking t (opens t s (p + q)) (ahead t s (p + q + 1)) q (k - q))
  unfolding mid taking next
  mid_taking p k q hs h a c e =
      let j : k - (q + 1) ≡ pred (k - q) = omega arith in
      let l : p + (q + 1) ≡ p + q + 1 = omega arith in
      let m : (q + 1) * S t - H t ≡ q * S t - H t + S t = omega (arith, mul-le-mul_right (S t) h) in
      rw (j, l, m)
      (sym (raised_twice (packet_words t q) (S t) _)
      ∙ ap (raised (packet_words t q))
      (sym (took_some (opens t s (p + q)) (k - q) (slot_words t q) _ e (omega arith)
      ∙ ap₂ (λ g r. raised g (worth t (ahead t s (p + q + 1)) 1 r (pred (k - q))))
      (sym (gain_later (S t) (H t) q λ z. omega arith)) (ap (λ i. i % P t) (sym (add-one q))))))

  went_more : (p k q : ℕ) → H t ≤ S t → 1 ≤ q → q < P t → p + q < N t → q < k → opens t s (p + q) ≡ true
      → raised (packet_words t q) (tail t s (p + q - 1) (k - q)) ≤ mid t s p k (q + 1) → 0 < mid t s p k (q + 1)
      → went p k q ≡ true ∷ went p k (q + 1)
  unfolding went next
  went_more p k q hs h a b c e le lt =
      let j : k - (q + 1) ≡ pred (k - q) = omega arith in
      let l : p + (q + 1) ≡ p + q + 1 = omega arith in
      let go_on = taking t (opens t s (p + q)) (ahead t s (p + q + 1)) q (k - q) in
      let m = mid_taking p k q hs h a c e in
      let u = ap (raised (packet_words t q)) (tail_is p k q h) in
      let back = raised_back (packet_words t q) (skipping t (ahead t s (p + q + 1)) 1 (k - q)) go_on (omega arith) (omega arith) in
      rw (j, l, mod-eq_of_lt a, add-one q)
      (greedy_on (p + q) 1 q (k - q) b (prefers_if _ _ back.1 back.0))

  went_stop : (p k q : ℕ) → 1 ≤ q → p + q < N t
      → (taking t (opens t s (p + q)) (ahead t s (p + q + 1)) (q % P t) (k - q) ≡ 0)
      ⊎ (taking t (opens t s (p + q)) (ahead t s (p + q + 1)) (q % P t) (k - q) < tail t s (p + q - 1) (k - q))
      → went p k q ≡ false ∷ greedy t (ahead t s (p + q + 1)) 2 0 (k - q)
  unfolding went
  went_stop p k q h b z =
      greedy_off (p + q) 1 (q % P t) (k - q) b (prefers_not _ _ (⊎_elim (λ e. inl e) (λ l. inr (omega (arith, tail_is p k q h))) z))

  went_jump : (p k : ℕ) → 1 ≤ P t → p + P t < N t
      → raised (packet_words t (P t)) (tail t s (p + P t - 1) (k - P t)) ≤ raised (packet_words t (P t)) (head t s (p + P t) (k - P t))
      → 0 < raised (packet_words t (P t)) (head t s (p + P t) (k - P t))
      → went p k (P t) ≡ begun (p + P t) (k - P t)
  unfolding went begun head
  went_jump p k h b le lt =
      let back = raised_back (packet_words t (P t)) _ _ le lt in
      rw (mod_self (P t)) (greedy_on (p + P t) 1 0 (k - P t) b (prefers_if _ _ back.1 (omega (arith, tail_is p k (P t) h, back.0))))

-- what a packet of q slots and the tail after it come to
unfoldable pub pack_end : Task → ℕ → ℕ → ℕ → ℕ → ℕ
pack_end t s p k q = raised (packet_words t q) (tail t s (p + q - 1) (k - q))

pub pack_end_lem : (t : Task) (s p k q : ℕ) → pack_end t s p k q ≡ raised (packet_words t q) (tail t s (p + q - 1) (k - q))
unfolding pack_end
pack_end_lem t s p k q = refl

module _ (t : Task) (good : Sound t) (s p k f : ℕ) (k1 : 1 ≤ k) (fr : FreeRun t s p f) (f1 : 1 ≤ f) (fn : p + f < N t) where
  p1 : 1 ≤ P t
  p1 = good.legal.p1

  hs : H t ≤ S t
  hs = omega (arith, good.legal.h)

  abbrev pub top : ℕ
  top = min (P t) (min f k)

  abbrev jump : ℕ
  jump = raised (packet_words t (P t)) (head t s (p + P t) (k - P t))

  step_at : (j : ℕ) → 1 ≤ j → j < top → mid t s p k j ≡ max (pack_end t s p k j) (mid t s p k (j + 1))
  unfolding pack_end
  step_at j a b = mid_step t s p k j hs a (omega arith) (omega arith) (omega arith) (fr.clear j (omega arith))

  pub chain_long : P t < f → P t < k → Chain (mid t s p k) (pack_end t s p k) top jump
  unfolding pack_end
  chain_long a b =
      let e : top ≡ P t = omega arith in
      record { one = omega arith; step = step_at; last = rw e (mid_full t s p k p1 (omega arith)) }

  -- the run ends with the last packet
  ends : (f ≤ P t) ⊎ (k ≤ P t) → (opens t s (p + top) ≡ false) ⊎ (k ≡ top)
  ends z = go z (le_or_lt f k)
    where
      go : (f ≤ P t) ⊎ (k ≤ P t) → (f ≤ k) ⊎ (k < f) → (opens t s (p + top) ≡ false) ⊎ (k ≡ top)
      go z (inl a) =
          let e : top ≡ f = ⊎_elim (λ w. omega arith) (λ w. omega arith) z in
          inl (rw e fr.stop)
      go z (inr a) = inr (⊎_elim (λ w. omega arith) (λ w. omega arith) z)

  pub chain_short : (f ≤ P t) ⊎ (k ≤ P t) → Chain (mid t s p k) (pack_end t s p k) top 0
  unfolding pack_end
  chain_short z =
      record { one = omega arith; step = step_at; last = omega (arith, mid_stop t s p k top (omega arith) (omega arith) (ends z)) }

  module _ (v : ℕ) (some : 0 < v) where
    -- all slots before q are taken
    taken : (q : ℕ) → q ≤ top → ((j : ℕ) → 1 ≤ j → j ≤ q → (mid t s p k j ≡ v) × (pack_end t s p k j ≤ v))
        → (x : ℕ) → 1 ≤ x → x < q → went t s p k x ≡ true ∷ went t s p k (x + 1)
    unfolding pack_end
    taken q h all x a b =
        let c : mid t s p k (x + 1) ≡ v = (all (x + 1) (omega arith) (omega arith)).0 in
        let d = (all x a (omega arith)).1 in
        went_more t s p k x hs a (omega arith) (omega arith) (omega arith) (fr.clear x (omega arith)) (omega arith) (omega arith)

    run_of : (q : ℕ) → 1 ≤ q → q ≤ top → ((j : ℕ) → 1 ≤ j → j ≤ q → (mid t s p k j ≡ v) × (pack_end t s p k j ≤ v))
        → bits_of t s p (begun t s p k) ≡ bits_run t s p q + bits_of t s (p + q) (went t s p k q)
    unfolding bits_of bits_run
    run_of q a h all =
        let e : q ≡ suc (q - 1) = omega arith in
        let i : p + 1 + (q - 1) ≡ p + q = omega arith in
        let j : 1 + (q - 1) ≡ q = omega arith in
        let r = rw (i, j) at (run_bits t s (went t s p k) (q - 1) (p + 1) 1 (λ x b c. taken q h all x b (omega arith))) in
        let w : bits_run t s p q ≡ 2 ^ ((s + p) % N t) + bits_run t s (p + 1) (q - 1) = ap (bits_run t s p) e in
        ap (bits_of t s p) (went_first t s p k)
        ∙ ap (λ d. 2 ^ ((s + p) % N t) + bits_of t s d (went t s p k 1)) (sym (add-one p))
        ∙ omega arith

    -- the packet is full and the run goes on
    pub packet_jump : head t s p k ≡ v → P t < f → P t < k → jump ≡ v
        → bits_of t s p (begun t s p k) ≡ bits_run t s p (P t) + bits_of t s (p + P t) (begun t s (p + P t) (k - P t))
    packet_jump hv a b j =
        let c = chain_long a b in
        let e : top ≡ P t = omega arith in
        let m1 : mid t s p k 1 ≡ v = sym (mid_first t s p k (ap (opens t s) (sym (add-zero p)) ∙ fr.clear 0 f1) k1) ∙ hv in
        let all = through c v m1 j in
        let below : (i : ℕ) → 1 ≤ i → i ≤ top → pack_end t s p k i ≤ mid t s p k i = part c in
        run_of (P t) p1 (omega arith) (λ i x y. (all i x (omega arith), omega (arith, all i x (omega arith), below i x (omega arith))))
        ∙ ap (λ l. bits_run t s p (P t) + bits_of t s (p + P t) l)
        (went_jump t s p k p1 (omega arith) (le (P t) (below (P t) p1 (omega arith)) (all (P t) p1 (omega arith)) j) (omega arith))
      where
        le : (q : ℕ) → pack_end t s p k q ≤ mid t s p k q → mid t s p k q ≡ v → jump ≡ v → raised (packet_words t q) (tail t s (p + q - 1) (k - q)) ≤ jump
        le q x y j = omega (arith, pack_end_lem t s p k q)

    abbrev took_at : ℕ → ℕ
    took_at q = taking t (opens t s (p + q)) (ahead t s (p + q + 1)) (q % P t) (k - q)

    -- the packet of q slots is the last of its run
    stop_of : (J q : ℕ) (c : Chain (mid t s p k) (pack_end t s p k) top J) → Peak c v q
        → (q ≡ top → (took_at q ≡ 0) ⊎ (took_at q < tail t s (p + q - 1) (k - q)))
        → bits_of t s p (begun t s p k) ≡ bits_run t s p q + bits_of t s (p + q + 1) (greedy t (ahead t s (p + q + 1)) 2 0 (k - q))
    stop_of J q c z fin =
        let all = peak_all c v q z in
        let below : (i : ℕ) → 1 ≤ i → i ≤ top → pack_end t s p k i ≤ mid t s p k i = part c in
        let q1 = z.low in
        let qt = z.high in
        run_of q q1 qt (λ i x y. (all i x y, omega (arith, all i x y, below i x (omega arith))))
        ∙ ap (λ l. bits_run t s p q + bits_of t s (p + q) l) (went_stop t s p k q q1 (omega arith) (go (le_or_lt top q) q1 qt z.here (peak_next c v q z)))
        ∙ ap (λ d. bits_run t s p q + d) (bits_off t s (p + q) (greedy t (ahead t s (p + q + 1)) 2 0 (k - q)))
      where
        go : (top ≤ q) ⊎ (q < top) → 1 ≤ q → q ≤ top → pack_end t s p k q ≡ v → (q < top → mid t s p k (q + 1) < v)
            → (took_at q ≡ 0) ⊎ (took_at q < tail t s (p + q - 1) (k - q))
        go (inl a) q1 qt he ne = fin (omega arith)
        go (inr a) q1 qt he ne =
            let l = ne a in
            let w : q < P t = omega arith in
            let m = mid_taking t s p k q hs q1 w (omega arith) (fr.clear q (omega arith)) in
            let e = pack_end_lem t s p k q in
            inr (rw (mod-eq_of_lt w) (raised_less (packet_words t q) _ _ (omega arith)))

    pub packet_stop_short : (q : ℕ) (z : (f ≤ P t) ⊎ (k ≤ P t)) → Peak (chain_short z) v q
        → bits_of t s p (begun t s p k) ≡ bits_run t s p q + bits_of t s (p + q + 1) (greedy t (ahead t s (p + q + 1)) 2 0 (k - q))
    unfolding taking
    packet_stop_short q z pk = stop_of 0 q (chain_short z) pk (λ e. inl (go e (ends z)))
      where
        go : q ≡ top → (opens t s (p + top) ≡ false) ⊎ (k ≡ top) → took_at q ≡ 0
        go e (inl a) = took_shut (opens t s (p + q)) (k - q) _ _ (ap (λ i. opens t s (p + i)) e ∙ a)
        go e (inr a) = took_zero (opens t s (p + q)) (k - q) _ _ (omega arith)

    head_at : (q : ℕ) → q ≡ P t → took_at q ≡ head t s (p + q) (k - q)
    unfolding head
    head_at q e = ap (λ r. taking t (opens t s (p + q)) (ahead t s (p + q + 1)) r (k - q)) (ap (λ i. i % P t) e ∙ mod_self (P t))

    pub packet_stop_long : (q : ℕ) (a : P t < f) (b : P t < k) → Peak (chain_long a b) v q
        → bits_of t s p (begun t s p k) ≡ bits_run t s p q + bits_of t s (p + q + 1) (greedy t (ahead t s (p + q + 1)) 2 0 (k - q))
    packet_stop_long q a b pk = stop_of jump q (chain_long a b) pk (λ e. inr (go (omega arith) pk.here (peak_end (chain_long a b) v q pk)))
      where
        go : q ≡ P t → pack_end t s p k q ≡ v → jump < v → took_at q < tail t s (p + q - 1) (k - q)
        go e h j =
            let x = pack_end_lem t s p k q in
            let y = subst (λ i. raised (packet_words t i) (head t s (p + i) (k - i)) < v) (sym e) j in
            let w = raised_less (packet_words t q) (head t s (p + q) (k - q)) (tail t s (p + q - 1) (k - q)) (omega arith) in
            omega (arith, head_at q e)

-- ---- the gap after a run

module _ (t : Task) (s e k w : ℕ) (k1 : 1 ≤ k) (some : 0 < w) where
  abbrev gapped : ℕ → List Bool
  gapped d = greedy t (ahead t s d) (d - e) 0 k

  near : (d : ℕ) → reach t s e d k ≡ w → (d ≤ e + L t) × (d + 1 < N t)
  near d h = (go (le_or_lt d (e + L t)), end (le_or_lt (N t) (d + 1)))
    where
      go : (d ≤ e + L t) ⊎ (e + L t < d) → d ≤ e + L t
      go (inl a) = a
      go (inr a) = absurd (omega (arith, reach_cut t s e d k a))

      end : (N t ≤ d + 1) ⊎ (d + 1 < N t) → d + 1 < N t
      end (inl a) = absurd (omega (arith, reach_end t s e d k a k1))
      end (inr a) = a

  reach_is : (d : ℕ) → e < d → reach t s e (d + 1) k ≡ skipping t (ahead t s (d + 1)) (d - e) k
  unfolding reach
  reach_is d h =
      let i : d + 1 - suc e ≡ d - e = omega arith in
      rw i

  gap_step : (d : ℕ) → e < d → reach t s e d k ≡ w → (head t s d k ≡ w → ⊥) → (gapped d ≡ false ∷ gapped (d + 1)) × (reach t s e (d + 1) k ≡ w)
  unfolding head
  gap_step d h r ne =
      let (a, b) = near d r in
      let st = reach_step t s e d k h (omega arith) a in
      let l : head t s d k < w = lt_of_ne (omega arith) ne in
      let q : reach t s e (d + 1) k ≡ w = omega arith in
      let i : suc (d - e) ≡ d + 1 - e = omega arith in (
        greedy_off t s d (d - e) 0 k (omega arith) (prefers_not _ _ (inr (omega (arith, reach_is d h))))
            ∙ ap (λ g. false ∷ greedy t (ahead t s (d + 1)) g 0 k) i,
        q,
      )

  gap_take : (d : ℕ) → e < d → reach t s e d k ≡ w → head t s d k ≡ w → gapped d ≡ begun t s d k
  unfolding head begun
  gap_take d h r eq =
      let (a, b) = near d r in
      let st = reach_step t s e d k h (omega arith) a in
      greedy_on t s d (d - e) 0 k (omega arith) (prefers_if _ _ (omega arith) (omega (arith, reach_is d h)))

  gap_walk : (i d : ℕ) → e < d → reach t s e d k ≡ w → ((x : ℕ) → d ≤ x → x < d + i → head t s x k ≡ w → ⊥)
      → (reach t s e (d + i) k ≡ w) × (bits_of t s d (gapped d) ≡ bits_of t s (d + i) (gapped (d + i)))
  gap_walk zero d h r f = rw (add-zero d) (r, refl)
  gap_walk (suc i) d h r f =
      let (a, b) = gap_step d h r (f d (omega arith) (omega arith)) in
      let j : d + 1 + i ≡ d + suc i = omega arith in
      let (x, y) = rw j at (gap_walk i (d + 1) (omega arith) b (λ x p q. f x (omega arith) (omega arith))) in
      (x, ap (bits_of t s d) a ∙ bits_off t s d (gapped (d + 1)) ∙ y)

  pub gap_next : (r : ℕ) → tail t s e k ≡ w → e + 2 ≤ r → ((x : ℕ) → e + 2 ≤ x → x < r → head t s x k ≡ w → ⊥) → (r + 1 < N t → head t s r k ≡ w)
      → (r + 1 < N t) × (bits_of t s (e + 2) (greedy t (ahead t s (e + 2)) 2 0 k) ≡ bits_of t s r (begun t s r k))
  gap_next r q h f g =
      let i : e + 2 + (r - (e + 2)) ≡ r = omega arith in
      let j : e + 2 - e ≡ 2 = omega arith in
      let (x, y) = rw i at (gap_walk (r - (e + 2)) (e + 2) (omega arith) (sym (reach_first t s e k) ∙ q) (λ x p q. f x p (omega arith))) in
      let (a, b) = near r x in
      (b, rw j at y ∙ ap (bits_of t s r) (gap_take r (omega arith) x (g b)))

nil_bits : (t : Task) (s d g r k : ℕ) → bits_of t s d (greedy t [] g r k) ≡ 0
unfolding bits_of greedy
nil_bits t s d g r k = refl

-- no slot is left to take
pub gap_none : (t : Task) (s : ℕ) (fs : List Bool) (d g r : ℕ) → bits_of t s d (greedy t fs g r 0) ≡ 0
unfolding taking
gap_none t s [] d g r = nil_bits t s d g r 0
gap_none t s (f ∷ fs) d g r =
    ap (bits_of t s d) (greedy_skip t f fs g r 0 (prefers_not _ _ (inl (took_zero f 0 _ _ refl)))) ∙ bits_off t s d _ ∙ gap_none t s fs (d + 1) (suc g) 0
