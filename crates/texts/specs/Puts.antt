-- What writing a text on a page means, and how texts behind one another make one.
use Rattle.std.specs.Prelude.{◌≡◌, refl, List, [], ◌++◌, ℕ, ◌+◌, ◌-◌, ◌≤◌, length, take, drop}
use Rattle.std.proofs.Common.{sym, ap, ◌∙◌, append_assoc, arith, length-append}
use Rattle.std.proofs.Math.Seq.{paste, take-length}
use borrow.Rule.Slice.PartMut.{put_mid, Post-is}
use Rattle.grammar.specs.Writing.{written, written_length, written_on, written_none}
use Rattle.texts.specs.declared.Page.{Page}

-- the page has room for the text
abbrev pub Room : Page → List ℕ → Type 0
Room p text = p.len + length text ≤ length p.out.now

-- `new` is `old` with the text behind what was written, in the same buffer
pub record Puts (old : Page) (text : List ℕ) (new : Page) : Type 0 where
  pub same : new.out.ghost_name ≡ old.out.ghost_name
  pub len : new.len ≡ old.len + length text
  pub out : new.out.now ≡ written old.out.now old.len text

-- no text
pub puts_nothing : (p : Page) → Puts p [] p
puts_nothing p = record { same = refl; len = omega arith; out = sym (written_none p.out.now p.len) }

-- a text that is copied to its place
pub copied : (old text : List ℕ) (at : ℕ) → put_mid at (at + length text - at) old text ≡ written old at text
unfolding written
copied old text at = ap (λ rest. take at old ++ (text ++ rest)) (Post-is at (at + length text) old (omega arith))

-- and one that is copied byte by byte
pub puts_copied : (old : Page) (text : List ℕ) (new : Page) (i : ℕ) → new.out.ghost_name ≡ old.out.ghost_name → new.len ≡ old.len + i
    → new.out.now ≡ paste old.out.now old.len text i → i ≡ length text → Puts old text new
unfolding written
puts_copied old text new i same len e all = record {
  same = same;
  len = len ∙ ap (λ n. old.len + n) all;
  out =
      e ∙ ap (paste old.out.now old.len text) all
      ∙ append_assoc (take old.len old.out.now) (take (length text) text) (drop (old.len + length text) old.out.now)
      ∙ ap (λ xs. take old.len old.out.now ++ (xs ++ drop (old.len + length text) old.out.now)) (take-length text);
}

-- one text, then another
pub puts_then : {old mid new : Page} (a b : List ℕ) → Puts old a mid → Puts mid b new → Room old (a ++ b) → Puts old (a ++ b) new
puts_then {old} {mid} {new} a b f g h = record {
  same = g.same ∙ f.same;
  len = g.len ∙ ap (λ n. n + length b) f.len ∙ omega (arith, length-append a b);
  out =
      g.out ∙ ap (λ l. written l mid.len b) f.out ∙ ap (λ n. written (written old.out.now old.len a) n b) f.len
      ∙ written_on old.out.now old.len a b h;
}

pub puts_same : {old new : Page} (a b : List ℕ) → a ≡ b → Puts old a new → Puts old b new
puts_same a b e f = rw e at f

-- the buffer keeps its length
pub puts_length : {old new : Page} (a : List ℕ) → Puts old a new → Room old a → length new.out.now ≡ length old.out.now
puts_length {old} {new} a f h = ap length f.out ∙ written_length old.out.now old.len a h

-- ---- room: where both texts fit, the first does, and then the second

pub room_first : (old : Page) (a b : List ℕ) → Room old (a ++ b) → Room old a
room_first old a b h = omega (arith, length-append a b)

pub room_second : {old mid : Page} (a b : List ℕ) → Puts old a mid → Room old (a ++ b) → Room mid b
room_second {old} {mid} a b f h =
    omega (arith, length-append a b, f.len, puts_length a f (room_first old a b h))

-- the same room for the same text
pub room_same : (p : Page) (a b : List ℕ) → a ≡ b → Room p a → Room p b
room_same p a b e h = rw e at h
