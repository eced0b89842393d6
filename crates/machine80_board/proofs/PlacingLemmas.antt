-- Devices, and the data in which they lie.
use Rattle.std.proofs.Common.{◌≡◌, ℕ, zero, suc, ◌+◌, ◌-◌, ◌<◌, ◌≤◌, Bool, true, false, List, [], ◌∷◌, ◌++◌, length, get_or, take, drop, refl, ap, sym, subst, ◌∙◌, arith}
use Rattle.std.specs.Prelude.{◌&&◌, ◌||◌, nat_le, nat_lt}
use Rattle.std.proofs.lemmas.Bool.{leb-true, ltb-true}
use Rattle.image80.specs.declared.range.Range.{Range}
use Rattle.image80.specs.Range.{in_range}
use Rattle.image80.specs.Regions.{Areas, in_data}
use Rattle.board80.specs.declared.line.Line.{Line}
use Rattle.board80.specs.Board.{IsBoard, IsProper, gives_device, in_device}
use Rattle.machine80_board.specs.BoardRun.{DevicesAreData, IsMisplaced}

-- lines before one, it, and those behind it
pub cut : (lines : List Line) (i : ℕ) (line : Line) → i < length lines → line ≡ get_or lines i line → lines ≡ take i lines ++ line ∷ drop (i + 1) lines
cut [] i line inside is = absurd (omega arith)
cut (x ∷ xs) zero line inside is = ap (λ y. y ∷ xs) (sym is)
cut (x ∷ xs) (suc i) line inside is = ap (λ l. x ∷ l) (cut xs i line (omega arith) is) ∙ ap (λ k. x ∷ (take i xs ++ line ∷ drop k (x ∷ xs))) (let e : suc (i + 1) ≡ suc i + 1 = omega arith in e)

pub taken : (lines : List Line) (i : ℕ) → i < length lines → length (take i lines) ≡ i
taken [] i inside = absurd (omega arith)
taken (x ∷ xs) zero inside = refl
taken (x ∷ xs) (suc i) inside = ap suc (taken xs i (omega arith))

-- a line of a board is proper
pub proper_at : (lines : List Line) (i : ℕ) (line : Line) → IsBoard lines → i < length lines → line ≡ get_or lines i line → IsProper line
proper_at lines i line rules inside is = (rules (take i lines) line (drop (i + 1) lines) (cut lines i line inside is)).proper

-- one more line
either : (a b : Bool) → (a || b) ≡ true → (a ≡ false → b ≡ true)
either true b h = λ no. absurd (cc)
either false b h = λ no. h

pub more_devices : (lines : List Line) (i : ℕ) (line : Line) (address : ℕ) → i < length lines → line ≡ get_or lines i line →
    in_device (take (i + 1) lines) address ≡ (in_device (take i lines) address || gives_device line address)
more_devices [] i line address inside is = absurd (omega arith)
more_devices (x ∷ xs) zero line address inside is = ap (λ (y : Line). gives_device y address || false) (sym is) ∙ no_more (gives_device line address)
  where
    no_more : (a : Bool) → (a || false) ≡ (false || a)
    no_more true = refl
    no_more false = refl
more_devices (x ∷ xs) (suc i) line address inside is =
    ap (λ k. in_device (take k (x ∷ xs)) address) (let e : suc i + 1 ≡ suc (i + 1) = omega arith in e)
    ∙ ap (λ b. gives_device x address || b) (more_devices xs i line address (omega arith) is)
    ∙ moved (gives_device x address) (in_device (take i xs) address) (gives_device line address)
  where
    moved : (a b c : Bool) → (a || (b || c)) ≡ ((a || b) || c)
    moved true b c = refl
    moved false b c = refl

pub right_more : (lines : List Line) (regions : Areas) (i : ℕ) (line : Line) → i < length lines → line ≡ get_or lines i line → DevicesAreData (take i lines) regions →
    ((address : ℕ) → gives_device line address ≡ true → in_data regions address ≡ true) → DevicesAreData (take (i + 1) lines) regions
right_more lines regions i line inside is so_far here address device = by_test (in_device (take i lines) address) refl (sym (more_devices lines i line address inside is) ∙ device)
  where
    by_test : (b : Bool) → in_device (take i lines) address ≡ b → (b || gives_device line address) ≡ true → in_data regions address ≡ true
    by_test true e h = so_far address e
    by_test false e h = here address h

taken_all : (lines : List Line) (i : ℕ) → length lines ≤ i → take i lines ≡ lines
taken_all [] zero past = refl
taken_all [] (suc i) past = refl
taken_all (x ∷ xs) zero past = absurd (omega arith)
taken_all (x ∷ xs) (suc i) past = ap (λ l. x ∷ l) (taken_all xs i (omega arith))

pub right_all : (lines : List Line) (regions : Areas) (i : ℕ) → length lines ≤ i → DevicesAreData (take i lines) regions → DevicesAreData lines regions
right_all lines regions i past so_far = subst (λ l. DevicesAreData l regions) (taken_all lines i past) so_far

pub none_yet : (lines : List Line) (regions : Areas) → DevicesAreData (take 0 lines) regions
none_yet [] regions address device = absurd (cc)
none_yet (x ∷ xs) regions address device = absurd (cc)

pub misplaced : (lines : List Line) (regions : Areas) (i : ℕ) (line : Line) (address : ℕ) → i < length lines → line ≡ get_or lines i line → DevicesAreData (take i lines) regions →
    gives_device line address ≡ true → in_data regions address ≡ false → IsMisplaced lines regions (i + 2)
misplaced lines regions i line address inside is so_far device outside = record {
  before = take i lines;
  line = line;
  after = drop (i + 1) lines;
  cut = cut lines i line inside is;
  counted = ap (λ n. n + 2) (sym (taken lines i inside));
  right = so_far;
  address = address;
  device = device;
  outside = outside;
}

first_of : (a b : Bool) → (a && b) ≡ true → a ≡ true
first_of true b h = refl
first_of false b h = absurd (cc)

second_of : (a b : Bool) → (a && b) ≡ true → b ≡ true
second_of true b h = h
second_of false b h = absurd (cc)

-- each address of a range is one of its offsets
pub all_offsets : (range : Range) (regions : Areas) (checked : ℕ) → range.length ≤ checked → ((offset : ℕ) → offset < checked → in_data regions (range.first + offset) ≡ true) → (address : ℕ) → in_range range address ≡ true → in_data regions address ≡ true
all_offsets range regions checked all each address inside =
    let low : range.first ≤ address = leb-true range.first address (first_of (nat_le range.first address) (nat_lt address (range.first + range.length)) inside) in
    let high : address < range.first + range.length = ltb-true address (range.first + range.length) (second_of (nat_le range.first address) (nat_lt address (range.first + range.length)) inside) in
    subst (λ (a : ℕ). in_data regions a ≡ true) (let e : range.first + (address - range.first) ≡ address = omega (arith, low) in e) (each (address - range.first) (omega (arith, low, high, all)))
