-- The text of an answer behind its verb and its flow.
use Rattle.std.specs.Prelude.{◌≡◌, List, ◌++◌, ℕ, Result, Ok, Err}
use Rattle.std.proofs.Common.{append_assoc}
use Rattle.rules.specs.declared.Refusal.{Refusal}
use Rattle.rules.specs.declared.Grant.{Grant}
use Rattle.rules.specs.declared.Totals.{Totals}
use Rattle.rules.specs.declared.Yes.{Yes}
use Rattle.rules.specs.declared.Yes.TheVariants as yes
use Rattle.rules.specs.Sets.{has, places}
use Rattle.rules.specs.Numbers.{number}
use Rattle.rules.specs.Promises.{of_opened, of_cleared}
use Rattle.grammar.specs.Text.{ascii, field, fields}
use Rattle.grammar.specs.Answers.{open_text, close_text, report_text}

-- the slots of a set
abbrev pub slots_text : ℕ → List ℕ
slots_text slots = fields (places (has slots) 0 64)

abbrev pub words_text : ℕ → List ℕ
words_text n = ascii " words" ++ field n

unfoldable pub grant_tail : Grant → List ℕ
grant_tail g = (ascii " slots" ++ slots_text g.slots) ++ words_text g.words.0

unfoldable pub tail : Result Yes Refusal → List ℕ
tail (Ok (yes.Granted g)) = grant_tail g
tail (Ok (yes.Cells k)) = ascii " cells" ++ field k
tail (Err r) = ascii " refused" ++ field (number r)

pub open_split : (f : ℕ) (a : Result Grant Refusal) → open_text f a ≡ (ascii "open" ++ field f) ++ tail (of_opened a)
unfolding open_text tail grant_tail
open_split f (Ok g) = simp append_assoc
open_split f (Err r) = simp append_assoc

pub close_split : (f : ℕ) (a : Result ℕ Refusal) → close_text f a ≡ (ascii "close" ++ field f) ++ tail (of_cleared a)
unfolding close_text tail
close_split f (Ok k) = simp append_assoc
close_split f (Err r) = simp append_assoc

-- the totals of the table
abbrev pub free_text : ℕ → List ℕ
free_text free = ascii "report free" ++ field free

abbrev pub held_text : ℕ → List ℕ
held_text held = ascii " held" ++ field held

pub report_split : (c : Totals) → report_text (Ok c) ≡ free_text c.free ++ held_text c.held
unfolding report_text
report_split c = simp append_assoc
