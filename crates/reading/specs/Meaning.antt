-- What the functions that read a line promise.
use Rattle.std.specs.Prelude.{◌≡◌, Option, Some, None, MatchOption, List, [], ◌∷◌, ℕ, ◌+◌, ◌-◌, ◌≤◌, ◌<◌, length, take, drop}
use Rattle.std.specs.Borrow.{Bor}
use Rattle.std.proofs.Common.{sym, ap, ◌∙◌}
use Rattle.rules.specs.declared.Path.{Path}
use Rattle.rules.specs.Paths.{trimmed}
use Rattle.grammar.specs.Text.{lines}
use Rattle.grammar.specs.Commands.{Command, opening, closing, reporting, Reads, Bad}
use Rattle.grammar.specs.Spelling.{reads_once}
use Rattle.reading.specs.declared.Request.{Request}
use Rattle.reading.specs.declared.Request.TheVariants as request

-- a text's first line, without its line feed, and the text behind it: the one stands at the text's start, the other at its end
pub record First (text line rest : List ℕ) : Type 0 where
  pub front : line ≡ take (length line) text
  pub back : rest ≡ drop (length text - length rest) text
  pub on : length rest < length text
  pub short : length line + length rest ≤ length text
  pub split : lines text ≡ line ∷ lines rest

abbrev pub Next : List ℕ → Option (Bor (List ℕ) × Bor (List ℕ)) → Type 0
Next text r = MatchOption r (text ≡ []) (λ p. First text p.0.now p.1.now)

-- the path through some channels
abbrev pub path : List ℕ → Path
path channels = record { entries = trimmed channels (length channels); len = length channels }

-- what a command is read as
unfoldable pub parsed : Command → Request
parsed (opening f W D channels) = request.Open f (record { words = record { 0 = W }; deadline = D }) (path channels)
parsed (closing f) = request.Close f
parsed reporting = request.Report

-- what a line is read as is what it says
pub data Means (line : List ℕ) (r : Option Request) : Type 0 where
  says : (c : Command) → Reads line c → r ≡ Some (parsed c) → Means line r
  says_nothing : Bad line → r ≡ None → Means line r

-- the line settles what it is read as
pub means_unique : (line : List ℕ) (r q : Option Request) → Means line r → Means line q → r ≡ q
means_unique line r q (says c a e) (says d b f) = e ∙ ap (λ k. Some (parsed k)) (reads_once c d a b) ∙ sym f
means_unique line r q (says c a e) (says_nothing b f) = absurd (b.none c a)
means_unique line r q (says_nothing a e) (says d b f) = absurd (a.none d b)
means_unique line r q (says_nothing a e) (says_nothing b f) = e ∙ sym f
