-- The text of each answer, without its line feed. "A no prints the verb, the flow if there is one, `refused` and the number."
use Rattle.std.specs.Prelude.{List, [], ◌∷◌, ◌++◌, ℕ, Result, Ok, Err}
use Rattle.rules.specs.declared.Refusal.{Refusal}
use Rattle.rules.specs.declared.Totals.{Totals}
use Rattle.rules.specs.declared.Grant.{Grant}
use Rattle.rules.specs.Sets.{has, places}
use Rattle.rules.specs.Numbers.{number}
use Rattle.grammar.specs.Text.{ascii, field, fields}

-- "the chosen slots at the first channel in rising order, then delivered words"
unfoldable pub open_text : ℕ → Result Grant Refusal → List ℕ
open_text f (Ok g) = ascii "open" ++ field f ++ ascii " slots" ++ fields (places (has g.slots) 0 64) ++ ascii " words" ++ field g.words.0
open_text f (Err r) = ascii "open" ++ field f ++ ascii " refused" ++ field (number r)

unfoldable pub close_text : ℕ → Result ℕ Refusal → List ℕ
close_text f (Ok k) = ascii "close" ++ field f ++ ascii " cells" ++ field k
close_text f (Err r) = ascii "close" ++ field f ++ ascii " refused" ++ field (number r)

unfoldable pub report_text : Result Totals Refusal → List ℕ
report_text (Ok c) = ascii "report free" ++ field c.free ++ ascii " held" ++ field c.held
report_text (Err r) = ascii "report refused" ++ field (number r)

-- "any other line prints `line K bad`"
unfoldable pub bad_text : ℕ → List ℕ
bad_text k = ascii "line" ++ field k ++ ascii " bad"

-- "otherwise it prints only `input too long`"; the one text with its line feed
unfoldable pub long_text : List ℕ
long_text = ascii "input too long" ++ (10 ∷ [])
