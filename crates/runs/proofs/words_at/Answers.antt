-- The run that starts at slot i is the stretch of chosen slots from there on.
use Rattle.std.proofs.Common.{ap, ◌∙◌}
use Rattle.rules.specs.Wheels.{run, run_words, words_at}
use Rattle.runs.proofs.words_at.Goals as goal

pub returns-then-is_start : goal.returns-then-is_start
unfolding words_at run
returns-then-is_start c =
    let a = c.args in
    rw (← c.is_start.ensures, c.if-is_start.true)
    (c.run_words.ensures ∙ ap (run_words a.w) c.stretch.ensures.counted)

pub returns-else-is_start : goal.returns-else-is_start
unfolding words_at
returns-else-is_start c = rw (← c.is_start.ensures, c.if-is_start.false)
