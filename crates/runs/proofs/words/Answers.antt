-- The full wheel is one run of N slots, and any other set the sum over its runs; both are small enough for the result.
use Rattle.std.proofs.Common.{◌≡◌, sym, ◌∙◌, ℕ, arith}
use Rattle.rules.specs.declared.Wheel.{Wheel}
use Rattle.rules.specs.Sets.{sum, stretch}
use Rattle.rules.specs.Wheels.{chosen, full, run_words, words_at, words}
use Rattle.laws.specs.Logic.{not_true_false}
use Rattle.laws.specs.Counting.{stretch_all, all_stretch}
use Rattle.laws.specs.Bounds.{words_small}
use Rattle.laws.specs.Measured.{measured_good}
use Rattle.runs.proofs.words.Goals as goal

module _ (w : Wheel) (x q r : ℕ) (counted : q ≡ stretch (chosen w.n x) 0 w.n) where
  words_full : q ≡ w.n → r ≡ run_words w w.n → r ≡ words w x
  unfolding words full
  words_full e v = rw (stretch_all (chosen w.n x) w.n (sym counted ∙ e)) v

  words_cut : ¬ (q ≡ w.n) → r ≡ sum (words_at w x) 0 w.n → r ≡ words w x
  unfolding words full
  words_cut n v =
      rw (not_true_false (full w.n x) (λ e. n (counted ∙ all_stretch (chosen w.n x) w.n e))) v

pub overflow_cast-result : goal.overflow_cast-result
overflow_cast-result c =
    let legal = c.legal.ensures.yes c.if-not-legal.false in
    omega (arith, (words_full c.args.w c.args.x c.stretch.result c.run_words.result c.stretch.ensures.counted c.if-stretch-n.true c.run_words.ensures), words_small c.args.w legal c.args.x)

pub returns-then-stretch-n : goal.returns-then-stretch-n
returns-then-stretch-n c =
    measured_good (c.legal.ensures.yes c.if-not-legal.false) (words_full c.args.w c.args.x c.stretch.result c.run_words.result c.stretch.ensures.counted c.if-stretch-n.true c.run_words.ensures)

pub overflow_cast-result-2 : goal.overflow_cast-result-2
overflow_cast-result-2 c =
    let legal = c.legal.ensures.yes c.if-not-legal.false in
    omega (arith, (words_cut c.args.w c.args.x c.stretch.result c.words_of_runs.result c.stretch.ensures.counted c.if-stretch-n.false c.words_of_runs.ensures), words_small c.args.w legal c.args.x)

pub returns : goal.returns
returns c =
    measured_good (c.legal.ensures.yes c.if-not-legal.false) (words_cut c.args.w c.args.x c.stretch.result c.words_of_runs.result c.stretch.ensures.counted c.if-stretch-n.false c.words_of_runs.ensures)
