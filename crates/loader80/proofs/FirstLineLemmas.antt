-- The first line that is no line of inputs.
use Rattle.std.specs.Prelude.{◌≡◌, ◌<◌, ◌+◌, ◌==◌, ℕ, Bool, true, false, Option, None, Some, is_some, List, [], ◌∷◌, ◌++◌, length, IsTrue, if◌then◌else◌, refl}
use Rattle.std.specs.List.{AllByRecursion}
use Rattle.std.proofs.Common.{◌∙◌, ap, arith}
use Rattle.std.proofs.lemmas.Bool.Decides.{nat_tests}
use Rattle.std.proofs.lemmas.Option.{same_Some}
use Rattle.image80.specs.Lines.{parts}
use Rattle.loader80.specs.InputsText.{line_input, bad_part, bad_line}
use Rattle.loader80.specs.FirstLineLaws.{IsNoLine, IsFirstOther, BadLineIsTheFirst}

-- the first of these parts, the first of which has the number n
record OtherIn (ps : List (List ℕ)) (n m : ℕ) : Type 0 where
  pub earlier : List (List ℕ)
  pub line : List ℕ
  pub later : List (List ℕ)
  pub whole : ps ≡ earlier ++ line ∷ later
  pub number : m ≡ n + length earlier
  pub others : AllByRecursion (λ l. IsTrue (is_some (line_input l))) earlier
  pub is : IsNoLine line later

is_none : (o : Option (List (ℕ × ℕ))) → is_some o ≡ false → o ≡ None
is_none None e = refl
is_none (Some x) e = absurd cc

not_empty : (n : ℕ) → (n == 0) ≡ false → 0 < n
not_empty n e = grind (arith, nat_tests)

some_length : (n : ℕ) → 0 < n → (n == 0) ≡ false
some_length n h = grind (arith, nat_tests)

-- ---- what is answered is the first

last_step : (last : List ℕ) (n m : ℕ) (b : Bool) → (length last == 0) ≡ b → (if b then None else Some n) ≡ Some m → OtherIn (last ∷ []) n m
last_step last n m true is e = absurd cc
last_step last n m false is e =
    let same : n ≡ m = same_Some n m e in
    record { earlier = []; line = last; later = []; whole = refl; number = omega (arith, same); others = tt; is = not_empty (length last) is }

line_step : (line next : List ℕ) (lines : List (List ℕ)) (n m : ℕ) (b : Bool) → is_some (line_input line) ≡ b → (bad_part (n + 1) (next ∷ lines) ≡ Some m → OtherIn (next ∷ lines) (n + 1) m)
    → (if b then bad_part (n + 1) (next ∷ lines) else Some n) ≡ Some m → OtherIn (line ∷ next ∷ lines) n m
line_step line next lines n m true is later e =
    let r : OtherIn (next ∷ lines) (n + 1) m = later e in
    record {
      earlier = line ∷ r.earlier;
      line = r.line;
      later = r.later;
      whole = ap (λ ls. line ∷ ls) r.whole;
      number = omega (arith, r.number);
      others = (is, r.others);
      is = r.is;
    }
line_step line next lines n m false is later e =
    let same : n ≡ m = same_Some n m e in
    record { earlier = []; line = line; later = next ∷ lines; whole = refl; number = omega (arith, same); others = tt; is = is_none (line_input line) is }

found : (ps : List (List ℕ)) (n m : ℕ) → bad_part n ps ≡ Some m → OtherIn ps n m
found [] n m e = absurd cc
found (last ∷ []) n m e = last_step last n m (length last == 0) refl e
found (line ∷ next ∷ lines) n m e = line_step line next lines n m (is_some (line_input line)) refl (found (next ∷ lines) (n + 1) m) e

-- ---- the first is answered

past : (line next : List ℕ) (lines : List (List ℕ)) (n : ℕ) → is_some (line_input line) ≡ true → bad_part n (line ∷ next ∷ lines) ≡ bad_part (n + 1) (next ∷ lines)
past line next lines n is = ap (λ (b : Bool). if b then bad_part (n + 1) (next ∷ lines) else Some n) is

answered : (earlier : List (List ℕ)) (line : List ℕ) (later : List (List ℕ)) (n : ℕ) → AllByRecursion (λ l. IsTrue (is_some (line_input l))) earlier → IsNoLine line later
    → bad_part n (earlier ++ line ∷ later) ≡ Some (n + length earlier)
answered [] line [] n others is = ap (λ (b : Bool). if b then None else Some n) (some_length (length line) is) ∙ ap (λ (i : ℕ). Some i) (omega arith)
answered [] line (next ∷ later) n others is = ap (λ (o : Option (List (ℕ × ℕ))). if is_some o then bad_part (n + 1) (next ∷ later) else Some n) is ∙ ap (λ (i : ℕ). Some i) (omega arith)
answered (x ∷ []) line later n others is =
    let same : n + 1 + length {A = List ℕ} [] ≡ n + length (x ∷ []) = omega arith in
    past x line later n others.0 ∙ answered [] line later (n + 1) tt is ∙ ap (λ (i : ℕ). Some i) same
answered (x ∷ y ∷ ys) line later n others is =
    let same : n + 1 + length (y ∷ ys) ≡ n + length (x ∷ y ∷ ys) = omega arith in
    past x y (ys ++ line ∷ later) n others.0 ∙ answered (y ∷ ys) line later (n + 1) others.1 is ∙ ap (λ (i : ℕ). Some i) same

first_found : (text : List ℕ) (n : ℕ) → bad_line text ≡ Some n → IsFirstOther text n
first_found text n e =
    let r : OtherIn (parts text) 1 n = found (parts text) 1 n e in
    record { earlier = r.earlier; line = r.line; later = r.later; whole = r.whole; number = omega (arith, r.number); others = r.others; is = r.is }

first_answered : (text : List ℕ) (n : ℕ) → IsFirstOther text n → bad_line text ≡ Some n
first_answered text n r = ap (bad_part 1) r.whole ∙ answered r.earlier r.line r.later 1 r.others r.is ∙ ap (λ (i : ℕ). Some i) (omega (arith, r.number))

pub bad_line_is_the_first : BadLineIsTheFirst
bad_line_is_the_first text n = (first_found text n, first_answered text n)
