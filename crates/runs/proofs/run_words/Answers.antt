-- Rule 2 as it stands.
use Rattle.std.proofs.Common.{◌≡◌, ℕ, min, ◌+◌, ◌*◌, ◌-◌, ◌/◌, ◌%◌, ◌≤◌, ap, ◌∙◌}
use Rattle.rules.specs.declared.Wheel.{Wheel}
use Rattle.rules.specs.Wheels.{run_words}
use Rattle.runs.specs.Steps.{rounded_up}
use Rattle.runs.proofs.run_words.Goals as goal

-- so many slots, with so many words each, less so many headers
by_rule : (w : Wheel) (q s h headers : ℕ) → 1 ≤ w.p → s ≡ w.s.0 → h ≡ w.h.0 → headers ≡ q / w.p + min 1 (q % w.p) → q * s - headers * h ≡ run_words w q
unfolding run_words
by_rule w q s h headers p1 es eh e =
    rw (es, eh) (ap (λ k. q * w.s.0 - k * w.h.0) (e ∙ rounded_up q w.p p1))

pub returns : goal.returns
returns c =
    let a = c.args in
    by_rule a.w a.q c.from-s.result c.from-h.result c.div_ceil.result c.requires.legal.p1 c.from-s.ensures c.from-h.ensures c.div_ceil.ensures
