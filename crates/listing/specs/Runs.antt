-- The run through the lines. What is printed so far, with whatever the lines that are left print from the state that was
-- reached, is what all lines print; at the end nothing is left.
use Rattle.std.specs.Prelude.{◌≡◌, refl, List, [], ◌∷◌, ◌++◌, ℕ, zero, suc, ◌+◌, ◌*◌, ◌≤◌, ◌<◌, length, get_or, take, drop, replicate}
use Rattle.std.proofs.Common.{sym, ap, ◌∙◌, subst, arith, append_assoc, append-nil, length-append, drop-drop}
use Rattle.rules.specs.Sets.{all, list_of}
use Rattle.rules.specs.Paths.{trimmed}
use Rattle.rules.specs.Promises.{closed_record}
use Rattle.bytes_list.specs.Layout.{number_at, numbers_at, known_state, is_zero, formed, state_from, path_from, slots_from, record_from, decoded, records, list_in}
use Rattle.grammar.specs.Text.{lines, ascii}
use Rattle.grammar.specs.Answers.{long_text}
use Rattle.grammar.specs.Writing.{written_take, written_drop}
use Rattle.grammar.specs.Listing.{State, Prints, end, next, start, Writes}
use Rattle.reading.specs.Meaning.{First}
use Rattle.texts.specs.declared.Page.{Page}
use Rattle.texts.specs.Puts.{Puts, puts_length}
use Rattle.answering.specs.Lines.{state, RoomFor, count_sixteen, Fed}
use Rattle.answering.specs.declared.Board.{Board}

-- an input that is not too long, and an empty page with room for every listing
pub record Room (input : List ℕ) (page : Page) : Type 0 where
  pub small : length input ≤ 4096
  pub empty : page.len ≡ 0
  pub large : 65536 ≤ length page.out.now

-- every line has been answered on the page, and what stands past its texts is as before
pub record Ran (input : List ℕ) (s : State) (old new : Page) : Type 0 where
  pub same : new.out.ghost_name ≡ old.out.ghost_name
  pub prints : Prints s 1 (lines input) (take new.len new.out.now)
  pub inside : new.len ≤ length new.out.now
  pub long : length new.out.now ≡ length old.out.now
  pub rest : drop new.len new.out.now ≡ drop new.len old.out.now

-- ---- the loop

-- the lines up to the rest are answered: the page had p₀, and has p
pub record Going (input : List ℕ) (s₀ : State) (p₀ : Page) (s : State) (rest : List ℕ) (k : ℕ) (p : Page) : Type 0 where
  pub same : p.out.ghost_name ≡ p₀.out.ghost_name
  pub count : k + length rest ≤ length input + 1
  pub fair : p.len + 14 * length rest ≤ 14 * length input
  pub long : length p.out.now ≡ length p₀.out.now
  pub back : drop p.len p.out.now ≡ drop p.len p₀.out.now
  pub prints : (more : List ℕ) → Prints s k (lines rest) more → Prints s₀ 1 (lines input) (take p.len p.out.now ++ more)

-- no text stands on an empty page
none_written : (n : ℕ) (xs : List ℕ) → n ≡ 0 → take n xs ≡ []
none_written n xs e = ap (λ k. take k xs) e

pub going_start : (input : List ℕ) (s : State) (p : Page) → Room input p → Going input s p s input 1 p
going_start input s p room = record {
  same = refl;
  count = omega arith;
  fair = omega (arith, room.empty);
  long = refl;
  back = refl;
  prints = λ more q. subst (λ xs. Prints s 1 (lines input) (xs ++ more)) (sym (none_written p.len p.out.now room.empty)) q;
}

module _ (input : List ℕ) (s₀ : State) (p₀ : Page) (room : Room input p₀) (s : State) (rest : List ℕ) (k : ℕ) (p : Page)
    (g : Going input s₀ p₀ s rest k p) where
  -- there is room for one more line, and its number is small
  pub line_room : 0 < length rest → RoomFor 84 p × (k < 10000)
  line_room some = (omega (arith, g.fair, g.long, room.small, room.large), omega (arith, g.count, room.small))

  pub going_on : (line others : List ℕ) (s' : State) (new : Page) → First rest line others → Fed s k line s' p new
      → Going input s₀ p₀ s' others (k + 1) new
  going_on line others s' new first fed =
      let text = fed.text ++ (10 ∷ []) in
      let long : length text ≡ length fed.text + 1 = length-append fed.text (10 ∷ []) in
      let fits : p.len + length text ≤ length p.out.now = omega (arith, fed.fair, g.fair, g.long, room.small, room.large, first.on, first.short) in
      let took : take new.len new.out.now ≡ take p.len p.out.now ++ text =
      ap (λ n. take n new.out.now) fed.puts.len ∙ ap (take (p.len + length text)) fed.puts.out ∙ written_take p.out.now p.len text fits in
      let left : drop new.len new.out.now ≡ drop new.len p.out.now =
      ap (λ n. drop n new.out.now) fed.puts.len ∙ ap (drop (p.len + length text)) fed.puts.out ∙ written_drop p.out.now p.len text fits
      ∙ ap (λ n. drop n p.out.now) (sym fed.puts.len) in
      let past : p.len + length text ≡ new.len = sym fed.puts.len in
      record {
        same = fed.puts.same ∙ g.same;
        count = omega (arith, g.count, first.on);
        fair = omega (arith, g.fair, fed.fair, fed.puts.len, first.on, first.short);
        long = puts_length text fed.puts fits ∙ g.long;
        back =
            left ∙ ap (λ n. drop n p.out.now) (sym past) ∙ sym (drop-drop (length text) p.len p.out.now) ∙ ap (drop (length text)) g.back
            ∙ drop-drop (length text) p.len p₀.out.now ∙ ap (λ n. drop n p₀.out.now) past;
        prints = λ more q.
            let all = g.prints (fed.text ++ (10 ∷ more)) (subst (λ ls. Prints s k ls (fed.text ++ (10 ∷ more))) (sym first.split) (next fed.step q)) in
            subst (Prints s₀ 1 (lines input))
            (ap (λ xs. take p.len p.out.now ++ xs) (sym (append_assoc fed.text (10 ∷ []) more)) ∙ sym (append_assoc (take p.len p.out.now) text more)
            ∙ ap (λ xs. xs ++ more) (sym took))
            all;
      }

  pub going_end : rest ≡ [] → Ran input s₀ p₀ p
  unfolding lines
  going_end none = record {
    same = g.same;
    prints = subst (Prints s₀ 1 (lines input)) (append-nil (take p.len p.out.now)) (g.prints [] (subst (λ xs. Prints s k (lines xs) []) (sym none) end));
    inside = omega (arith, g.long, g.fair, room.small, room.large);
    long = g.long;
    rest = g.back;
  }

-- ---- the whole

-- bytes that are all 0 are closed records
abbrev zeros : ℕ → List ℕ
zeros n = replicate n 0

zeros_at : (n k : ℕ) → get_or (zeros n) k 0 ≡ 0
zeros_at zero k = refl
zeros_at (suc n) zero = refl
zeros_at (suc n) (suc k) = zeros_at n k

zeros_record : (n at : ℕ) → decoded (zeros n) at ≡ closed_record
unfolding decoded number_at state_from formed known_state is_zero all path_from slots_from closed_record trimmed list_of
zeros_record n at =
    let none : numbers_at (zeros n) at ≡ (λ j. 0) = λ i j. zeros_at n (at + 2 * j) i + 256 * zeros_at n (at + 2 * j + 1) i in
    ap record_from none

zeros_records : (n m i : ℕ) → records (zeros n) i m ≡ replicate m closed_record
unfolding records
zeros_records n zero i = refl
zeros_records n (suc m) i = rw (zeros_record n (64 * i), zeros_records n m (suc i))

start_is : (b : Board 1024) → b.table ≡ zeros 1024 → b.list ≡ zeros 1024 → state b ≡ start
unfolding start list_in
start_is b table list =
    let closed : list_in (zeros 1024) ≡ replicate 16 closed_record =
    ap (records (zeros 1024) 0) (count_sixteen (zeros 1024) refl) ∙ zeros_records 1024 16 0 in
    let is : list_in b.list ≡ replicate 16 closed_record = ap list_in list ∙ closed in
    λ i. record { table = table i; list = is i }

pub writes_nothing : (input old : List ℕ) → length old < 65536 → Writes input old old 0
writes_nothing input old h = record {
  short = λ l. (refl, refl);
  lists = λ l. absurd (omega arith);
  inside = omega arith;
  long = refl;
  rest = refl;
}

pub writes_long : (input out : List ℕ) (old new : Page) → out ≡ new.out.now → old.len ≡ 0 → 65536 ≤ length old.out.now → 4096 < length input
    → Puts old long_text new → Writes input old.out.now out new.len
unfolding long_text ascii list_of
writes_long input out old new is empty room long p =
    let fits : old.len + length long_text ≤ length old.out.now = omega arith in
    let took : take new.len new.out.now ≡ long_text =
    ap (λ n. take n new.out.now) p.len ∙ ap (take (old.len + length long_text)) p.out ∙ written_take old.out.now old.len long_text fits
    ∙ ap (λ xs. xs ++ long_text) (none_written old.len old.out.now empty) in
    let left : drop new.len new.out.now ≡ drop new.len old.out.now =
    ap (λ n. drop n new.out.now) p.len ∙ ap (drop (old.len + length long_text)) p.out ∙ written_drop old.out.now old.len long_text fits
    ∙ ap (λ n. drop n old.out.now) (sym p.len) in
    rw is
    (record {
      short = λ l. absurd (omega arith);
      lists = λ l. record { printed = λ m. absurd (omega arith); too_long = λ m. took };
      inside = omega (arith, p.len, puts_length long_text p fits);
      long = puts_length long_text p fits;
      rest = left;
    })

pub writes_lines : (input out : List ℕ) (b : Board 1024) (old new : Page) → out ≡ new.out.now → 65536 ≤ length old.out.now → length input ≤ 4096
    → b.table ≡ replicate 1024 0 → b.list ≡ replicate 1024 0 → Ran input (state b) old new → Writes input old.out.now out new.len
writes_lines input out b old new is room small table list ran =
    rw is
    (record {
      short = λ l. absurd (omega arith);
      lists = λ l. record { printed = λ m. rw (start_is b table list) at ran.prints; too_long = λ m. absurd (omega arith) };
      inside = ran.inside;
      long = ran.long;
      rest = ran.rest;
    })
