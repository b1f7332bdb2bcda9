-- What a line means, by what it is read as: for a caller that has matched on it.
use Rattle.std.specs.Prelude.{◌≡◌, refl, Option, Some, None, List, ℕ}
use Rattle.std.proofs.Common.{sym, subst}
use Rattle.rules.specs.declared.Demand.{Demand}
use Rattle.rules.specs.declared.Path.{Path}
use Rattle.grammar.specs.Commands.{Command, opening, closing, reporting, Reads, Bad}
use Rattle.reading.specs.Meaning.{path, parsed, Means, says, says_nothing}
use Rattle.reading.specs.declared.Request.{Request}
use Rattle.reading.specs.declared.Request.TheVariants as request

pub record Opening (line : List ℕ) (f : ℕ) (d : Demand) (p : Path) : Type 0 where
  pub channels : List ℕ
  pub reads : Reads line (opening f d.words.0 d.deadline channels)
  pub path : p ≡ path channels

abbrev pub Told : List ℕ → Option Request → Type 0
Told line (Some (request.Open f d p)) = Opening line f d p
Told line (Some (request.Close f)) = Reads line (closing f)
Told line (Some request.Report) = Reads line reporting
Told line None = Bad line

pub told : (line : List ℕ) (r : Option Request) → Means line r → Told line r
unfolding parsed
told line r (says c a e) = subst (Told line) (sym e) (go c a)
  where
    go : (c : Command) → Reads line c → Told line (Some (parsed c))
    go (opening f W D cs) a = record { channels = cs; reads = a; path = refl }
    go (closing f) a = a
    go reporting a = a
told line r (says_nothing b e) = subst (Told line) (sym e) b
