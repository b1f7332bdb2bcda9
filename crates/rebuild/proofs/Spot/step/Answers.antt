-- What is known after the test whether the run goes on is a standing of the rebuilding; from there the two ways on are lemmas.
use Rattle.std.proofs.Common.{◌≡◌, refl, sym, subst, true, List, Option, Some, None, is_some, ◌+◌, ◌-◌, ◌<◌, ◌≤◌, min, ℕ, arith}
use Rattle.line.specs.declared.Task.{Task}
use Rattle.line.specs.Values.{N, P}
use Rattle.line.specs.Tables.{FreeRun, entry}
use Rattle.line.specs.Rows.{Solved}
use Rattle.line.specs.Chains.{lt_of_ne}
use Rattle.line.specs.Rebuild.{left_none, due_none, Due, LongestIf, NextHeadIf, Standing, On, Off, standing_on, standing_some, standing_off, tails_small, heads_small}
use Rattle.rebuild.proofs.Spot.step.Goals.{After-goes_on, After-unwrap-q}
use Rattle.rebuild.proofs.Spot.step.Goals as goal

standing : (t : Task) (s : ℕ) (hd tl : List ℕ) (p k f : ℕ)
    → Solved t s k hd tl × Due t s p k
    → 1 ≤ k
    → (p + f < N t) × FreeRun t s p f
    → Standing t s k hd tl p k f (entry hd p k)
standing t s hd tl p k f solved k1 run =
    record { solved = solved.0; k1 = k1; kk = omega arith; due = solved.1; run = run.1; within = run.0; value = refl }

-- what holds of no None holds of a Some
some_of : (A : Option ℕ → Type 0) (o : Option ℕ) → A o → (A None → ⊥) → is_some o ≡ true
some_of A None z n = absurd (n z)
some_of A (Some x) z n = refl

-- the run goes on
going : (c : After-goes_on)
    → c.goes_on.result ≡ true
    → On _ c.args.cut.task.sound _ _ _ _ _ _ _ _ (standing _ _ _ _ _ _ _ c.requires.solved c.requires.room.0 c.free_run-f.ensures)
going c e = standing_on _ c.args.cut.task.sound _ _ _ _ _ _ _ _ _ c.goes_on.result c.goes_on.ensures e

-- it ends with this packet
ended : (c : After-unwrap-q)
    → Off _ c.args.cut.task.sound _ _ _ _ _ _ _ _ (standing _ _ _ _ _ _ _ c.requires.solved c.requires.room.0 c.free_run-f.ensures)
    c.unwrap-q.result
ended c =
    let a = c.args in
    let m : c.min-m.result ≡ min (P a.cut.task) (min c.free_run-f.result a.self.k) = omega arith in
    let packet = subst (LongestIf a.cut.task a.self.p a.self.k c.min-m.result _ a.tables.now.tails) c.unwrap-q.ensures c.longest.ensures in
    standing_off _ a.cut.task.sound _ _ _ _ _ _ _ _ _ c.goes_on.result c.goes_on.ensures c.if-goes_on.false _ _ m packet

pub goes_on-requires-clause-p_bound : goal.goes_on-requires-clause-p_bound
goes_on-requires-clause-p_bound c = λ x y.
    let a = c.args in
    let good = a.cut.task.sound in
    heads_small a.cut.task good a.cut.start.0 a.self.k a.tables.now.heads a.tables.now.tails c.requires.solved.0 (omega arith)
    (a.self.p + P a.cut.task) (a.self.k - P a.cut.task) (omega (arith, good.legal.p1)) (omega arith)

pub add_run-requires : goal.add_run-requires
add_run-requires c =
    let o = going (goal.at.add_run-requires c).After-goes_on c.if-goes_on.true in
    omega (arith, o.sum, o.fits, c.args.cut.task.sound.legal.n64)

pub overflow_sub-result : goal.overflow_sub-result
overflow_sub-result c = omega (arith, (going (goal.at.overflow_sub-result c).After-goes_on c.if-goes_on.true).less)

pub returns-then-goes_on : goal.returns-then-goes_on
returns-then-goes_on c =
    let o = going (goal.at.returns-then-goes_on c).After-goes_on c.if-goes_on.true in
    record { sum = omega (arith, o.sum); less = omega (arith, o.less, c.args.cut.task.sound.legal.p1); due = o.next }

pub longest-requires-clause-by_index : goal.longest-requires-clause-by_index
longest-requires-clause-by_index c =
    let a = c.args in
    tails_small a.cut.task a.cut.task.sound a.cut.start.0 a.self.k a.tables.now.heads a.tables.now.tails c.requires.solved.0 (omega arith)
    a.self.p a.self.k c.min-m.result (omega arith) (omega arith) (omega arith)

pub unwrap-q-requires : goal.unwrap-q-requires
unwrap-q-requires c =
    let a = c.args in
    let m : c.min-m.result ≡ min (P a.cut.task) (min c.free_run-f.result a.self.k) = omega arith in
    some_of (LongestIf a.cut.task a.self.p a.self.k c.min-m.result _ a.tables.now.tails) c.longest.result c.longest.ensures
    (standing_some _ a.cut.task.sound _ _ _ _ _ _ _ _ (standing _ _ _ _ _ _ _ c.requires.solved c.requires.room.0 c.free_run-f.ensures)
    c.goes_on.result c.goes_on.ensures c.if-goes_on.false _ m)

pub add_run-slots-requires : goal.add_run-slots-requires
add_run-slots-requires c =
    let o = ended (goal.at.add_run-slots-requires c).After-unwrap-q in
    omega (arith, o.fits, o.part, c.args.cut.task.sound.legal.n64)

pub returns-then-k-q : goal.returns-then-k-q
returns-then-k-q c =
    let o = ended (goal.at.returns-then-k-q c).After-unwrap-q in
    let a = c.args in
    record {
      sum = omega (arith, o.end c.if-k-q.true, left_none a.cut.task a.cut.start.0 a.self.p 0 refl);
      less = omega arith;
      due = due_none _ _ _ _ refl;
    }

pub unwrap-requires : goal.unwrap-requires
unwrap-requires c =
    let o = ended (goal.at.unwrap-requires c).After-unwrap-q in
    let q = c.unwrap-q.result in
    let k = c.args.self.k in
    let lt : q < k = lt_of_ne o.le (λ e. c.if-k-q.false (sym e)) in
    some_of (NextHeadIf c.args.tables.now.heads (k - q) (c.args.self.p + q + 1) (N c.args.cut.task - 1) _) c.next_head.result c.next_head.ensures
    (o.some _ lt refl)

pub returns : goal.returns
returns c =
    let o = ended (goal.at.returns c).After-unwrap-q in
    let q = c.unwrap-q.result in
    let k = c.args.self.k in
    let lt : q < k = lt_of_ne o.le (λ e. c.if-k-q.false (sym e)) in
    let next = subst (NextHeadIf c.args.tables.now.heads (k - q) (c.args.self.p + q + 1) (N c.args.cut.task - 1) _) c.unwrap.ensures c.next_head.ensures in
    let (a, b) = o.next c.unwrap.result _ lt refl next.1 in
    record { sum = omega arith; less = omega (arith, o.low); due = b }
