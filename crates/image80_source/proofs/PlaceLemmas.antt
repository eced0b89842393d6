-- Lines and the bytes of the contents that they stand for.
use Rattle.std.specs.Prelude.{◌≡◌, ℕ, zero, suc, ◌+◌, ◌-◌, ◌<◌, ◌≤◌, ◌==◌, Bool, true, false, List, [], ◌∷◌, ◌++◌, length, take, drop, slice_index, if◌then◌else◌, refl}
use Rattle.std.specs.List.{flat_map, range_with_len}
use Rattle.std.proofs.Common.{◌∙◌, ap, sym, arith, append_assoc, append-nil}
use Rattle.std.proofs.lemmas.Grind.{common_steps, flat_map-append}
use Rattle.std.specs.Prelude.{All}
use Rattle.std.proofs.lemmas.List.Elements.{All-append}
use Rattle.decode80.specs.declared.instr.Instr.{Instr}
use Rattle.decode80.specs.Spelling.{spelling, BeginsWith}
use Rattle.image80.specs.Image.{PlacedBytes, byte_at, memory_of}
use Rattle.image80_source.specs.declared.line.Line.{Line}
use Rattle.image80_source.specs.Lines.{bytes_of, content_at, contents_of, is_covered, line_bytes, placed}
use Rattle.image80_source.specs.Placed.{AreMarked, AreMarksOf, marked_at, marked_from}

-- what is marked is in the table
pub marked_inside : (marks : List ℕ) (at : ℕ) → slice_index marks at ≡ 1 → at < length marks
marked_inside [] at marked = absurd (omega (arith, marked))
marked_inside (m ∷ marks) zero marked = omega arith
marked_inside (m ∷ marks) (suc at) marked = let inside : at < length marks = marked_inside marks at marked in omega arith

-- an item of a list that begins another one
pub item_before : (xs rest whole : List ℕ) (k : ℕ) → whole ≡ xs ++ rest → k < length xs → slice_index whole k ≡ slice_index xs k
item_before xs rest whole k is inside = grind (arith, common_steps, is)

-- the bytes of an instruction
pub instruction_marked : (marks memory : List ℕ) (at : ℕ) (bytes : List ℕ) (i : Instr) →
    slice_index bytes 0 ≡ slice_index memory at → slice_index bytes 1 ≡ slice_index memory (at + 1) → slice_index bytes 2 ≡ slice_index memory (at + 2) →
    BeginsWith bytes i → length (spelling i) ≤ 3 → ((k : ℕ) → k < length (spelling i) → slice_index marks (at + k) ≡ 1) →
    AreMarked marks memory at (spelling i)
instruction_marked marks memory at bytes i first second third begins few marked = record {
  marked = marked;
  same = λ k inside. of_three k (omega (arith, inside, few)) ∙ item_before (spelling i) begins.0 bytes k begins.1 inside;
}
  where
    of_three : (k : ℕ) → k < 3 → slice_index memory (at + k) ≡ slice_index bytes k
    of_three zero below = let same : at + 0 ≡ at = omega arith in ap (λ (a : ℕ). slice_index memory a) same ∙ sym first
    of_three (suc zero) below = sym second
    of_three (suc (suc zero)) below = sym third
    of_three (suc (suc (suc k))) below = absurd (omega (arith, below))

-- bytes of the memory
pub slice_marked : (marks memory : List ℕ) (at room n : ℕ) → ((k : ℕ) → k < room → slice_index marks (at + k) ≡ 1) → n ≤ room →
    AreMarked marks memory at (take n (take room (drop at memory)))
slice_marked marks memory at room n marked within = record {
  marked = λ k inside. marked k (grind (arith, common_steps, inside, within));
  same = λ k inside. grind (arith, common_steps, inside, within);
}

-- the bytes of a word
pub word_marked : (marks memory : List ℕ) (at room low high : ℕ) → ((k : ℕ) → k < room → slice_index marks (at + k) ≡ 1) → 2 ≤ room →
    low ≡ slice_index memory at → high ≡ slice_index memory (at + 1) → AreMarked marks memory at (low ∷ high ∷ [])
word_marked marks memory at room low high marked two first second = record {
  marked = λ k inside. marked k (omega (arith, inside, two));
  same = of_two;
}
  where
    of_two : (k : ℕ) → k < 2 → slice_index memory (at + k) ≡ slice_index (low ∷ high ∷ []) k
    of_two zero below = let same : at + 0 ≡ at = omega arith in ap (λ (a : ℕ). slice_index memory a) same ∙ sym first
    of_two (suc zero) below = sym second
    of_two (suc (suc k)) below = absurd (omega (arith, below))

-- ---- one line after another

-- an address that isn't marked
pub marked_skip : (marks memory : List ℕ) (at left : ℕ) → 0 < left → (slice_index marks at == 1) ≡ false →
    marked_from marks memory at left ≡ marked_from marks memory (at + 1) (left - 1)
unfolding marked_from
marked_skip marks memory at zero some not_marked = absurd (omega (arith, some))
marked_skip marks memory at (suc left) some not_marked =
    let less : suc left - 1 ≡ left = omega arith in
    ap (λ (b : Bool). (if b then (at, slice_index memory at) ∷ [] else []) ++ flat_map (marked_at marks memory) (range_with_len (at + 1) left)) not_marked
    ∙ ap (λ (n : ℕ). flat_map (marked_at marks memory) (range_with_len (at + 1) n)) (sym less)

marked_one : (marks memory : List ℕ) (at left byte : ℕ) → slice_index marks at ≡ 1 → slice_index memory at ≡ byte →
    marked_from marks memory at (suc left) ≡ (at, byte) ∷ marked_from marks memory (at + 1) left
unfolding marked_from
marked_one marks memory at left byte marked is =
    ap (λ (m : ℕ). (if m == 1 then (at, slice_index memory at) ∷ [] else []) ++ flat_map (marked_at marks memory) (range_with_len (at + 1) left)) marked
    ∙ ap (λ (b : ℕ). (at, b) ∷ flat_map (marked_at marks memory) (range_with_len (at + 1) left)) is

marked_tail : (marks memory : List ℕ) (at byte : ℕ) (bytes : List ℕ) → AreMarked marks memory at (byte ∷ bytes) → AreMarked marks memory (at + 1) bytes
marked_tail marks memory at byte bytes all = record {
  marked = λ k inside. let next : at + 1 + k ≡ at + suc k = omega arith in ap (λ (a : ℕ). slice_index marks a) next ∙ all.marked (suc k) (omega (arith, inside));
  same = λ k inside. let next : at + 1 + k ≡ at + suc k = omega arith in ap (λ (a : ℕ). slice_index memory a) next ∙ all.same (suc k) (omega (arith, inside));
}

-- the bytes of a line
pub marked_line : (marks memory : List ℕ) (bytes : List ℕ) (at left : ℕ) → AreMarked marks memory at bytes → length bytes ≤ left →
    marked_from marks memory at left ≡ placed at bytes ++ marked_from marks memory (at + length bytes) (left - length bytes)
marked_line marks memory [] at left all within =
    let here : at ≡ at + 0 = omega arith in let less : left ≡ left - 0 = omega arith in
    ap (λ (a : ℕ). marked_from marks memory a left) here ∙ ap (λ (n : ℕ). marked_from marks memory (at + 0) n) less
marked_line marks memory (byte ∷ bytes) at zero all within = absurd (omega (arith, within))
marked_line marks memory (byte ∷ bytes) at (suc left) all within =
    let here : at + 0 ≡ at = omega arith in
    let next : at + 1 + length bytes ≡ at + suc (length bytes) = omega arith in
    let less : left - length bytes ≡ suc left - suc (length bytes) = omega arith in
    marked_one marks memory at left byte (ap (λ (a : ℕ). slice_index marks a) (sym here) ∙ all.marked 0 (omega arith)) (ap (λ (a : ℕ). slice_index memory a) (sym here) ∙ all.same 0 (omega arith))
    ∙ ap (λ (l : List (ℕ × ℕ)). (at, byte) ∷ l) (marked_line marks memory bytes (at + 1) left (marked_tail marks memory at byte bytes all) (omega (arith, within)))
    ∙ ap (λ (a : ℕ). (at, byte) ∷ (placed (at + 1) bytes ++ marked_from marks memory a (left - length bytes))) next
    ∙ ap (λ (n : ℕ). (at, byte) ∷ (placed (at + 1) bytes ++ marked_from marks memory (at + suc (length bytes)) n)) less

-- a line more
pub lines_more : (marks memory : List ℕ) (lines new : List Line) (line : Line) (at left : ℕ) (whole : List (ℕ × ℕ)) →
    line.at ≡ at → AreMarked marks memory at (bytes_of line.content) → length (bytes_of line.content) ≤ left → new ≡ lines ++ line ∷ [] →
    flat_map line_bytes lines ++ marked_from marks memory at left ≡ whole →
    flat_map line_bytes new ++ marked_from marks memory (at + length (bytes_of line.content)) (left - length (bytes_of line.content)) ≡ whole
lines_more marks memory lines new line at left whole here all within made so_far =
    let rest : List (ℕ × ℕ) = marked_from marks memory (at + length (bytes_of line.content)) (left - length (bytes_of line.content)) in
    let these : flat_map line_bytes (line ∷ []) ≡ placed at (bytes_of line.content) =
    append-nil (line_bytes line) ∙ ap (λ (a : ℕ). placed a (bytes_of line.content)) here in
    ap (λ (l : List Line). flat_map line_bytes l ++ rest) made
    ∙ ap (λ (l : List (ℕ × ℕ)). l ++ rest) (flat_map-append line_bytes lines (line ∷ []))
    ∙ append_assoc (flat_map line_bytes lines) (flat_map line_bytes (line ∷ [])) rest
    ∙ ap (λ (l : List (ℕ × ℕ)). flat_map line_bytes lines ++ (l ++ rest)) these
    ∙ ap (λ (l : List (ℕ × ℕ)). flat_map line_bytes lines ++ l) (sym (marked_line marks memory (bytes_of line.content) at left all within))
    ∙ so_far

-- the same of all that is left of memory
pub lines_step : (marks memory : List ℕ) (lines new : List Line) (line : Line) (at size : ℕ) (whole : List (ℕ × ℕ)) →
    line.at ≡ at → AreMarked marks memory at (bytes_of line.content) → size ≡ length (bytes_of line.content) → at + size ≤ 65536 → new ≡ lines ++ line ∷ [] →
    flat_map line_bytes lines ++ marked_from marks memory at (65536 - at) ≡ whole →
    flat_map line_bytes new ++ marked_from marks memory (at + size) (65536 - (at + size)) ≡ whole
lines_step marks memory lines new line at size whole here all is within made so_far =
    let next : at + size ≡ at + length (bytes_of line.content) = omega (arith, is) in
    let less : 65536 - (at + size) ≡ 65536 - at - length (bytes_of line.content) = omega (arith, is) in
    ap (λ (n : ℕ). flat_map line_bytes new ++ marked_from marks memory (at + size) n) less
    ∙ ap (λ (a : ℕ). flat_map line_bytes new ++ marked_from marks memory a (65536 - at - length (bytes_of line.content))) next
    ∙ lines_more marks memory lines new line at (65536 - at) whole here all (omega (arith, is, within)) made so_far

pub skip_step : (marks memory : List ℕ) (lines : List Line) (at : ℕ) (whole : List (ℕ × ℕ)) → at < 65536 → (slice_index marks at == 1) ≡ false →
    flat_map line_bytes lines ++ marked_from marks memory at (65536 - at) ≡ whole →
    flat_map line_bytes lines ++ marked_from marks memory (at + 1) (65536 - (at + 1)) ≡ whole
skip_step marks memory lines at whole inside not_marked so_far =
    let less : 65536 - (at + 1) ≡ 65536 - at - 1 = omega arith in
    ap (λ (n : ℕ). flat_map line_bytes lines ++ marked_from marks memory (at + 1) n) less
    ∙ ap (λ (l : List (ℕ × ℕ)). flat_map line_bytes lines ++ l) (sym (marked_skip marks memory at (65536 - at) (omega (arith, inside)) not_marked))
    ∙ so_far

-- a line ends in memory
pub line_within : (marks memory : List ℕ) (at : ℕ) (bytes : List ℕ) → length marks ≡ 65536 → 0 < length bytes → AreMarked marks memory at bytes → at + length bytes ≤ 65536
line_within marks memory at bytes whole some all =
    let last : at + (length bytes - 1) < length marks = marked_inside marks (at + (length bytes - 1)) (all.marked (length bytes - 1) (omega (arith, some))) in
    omega (arith, last, whole, some)

pub marked_none : (marks memory : List ℕ) (at left : ℕ) (lines whole : List (ℕ × ℕ)) → left ≡ 0 → lines ++ marked_from marks memory at left ≡ whole → lines ≡ whole
unfolding marked_from
marked_none marks memory at zero lines whole none so_far = sym (append-nil lines) ∙ so_far
marked_none marks memory at (suc left) lines whole none so_far = absurd (omega (arith, none))

-- ---- the contents

same_from : (f g : ℕ → List (ℕ × ℕ)) (at left : ℕ) → ((a : ℕ) → a < at + left → f a ≡ g a) → flat_map f (range_with_len at left) ≡ flat_map g (range_with_len at left)
same_from f g at zero same = refl
same_from f g at (suc left) same =
    ap (λ (l : List (ℕ × ℕ)). l ++ flat_map f (range_with_len (at + 1) left)) (same at (omega arith))
    ∙ ap (λ (l : List (ℕ × ℕ)). g at ++ l) (same_from f g (at + 1) left (λ a inside. same a (omega (arith, inside))))

abbrev byte_if : Bool → (at byte : ℕ) → List (ℕ × ℕ)
byte_if b at byte = if b then (at, byte) ∷ [] else []

one_byte : (b : Bool) (at mark byte other : ℕ) → mark ≡ (if b then 1 else 0) → byte ≡ other → byte_if (mark == 1) at byte ≡ byte_if b at other
one_byte true at mark byte other is same = ap (λ (m : ℕ). byte_if (m == 1) at byte) is ∙ ap (λ (x : ℕ). byte_if true at x) same
one_byte false at mark byte other is same = ap (λ (m : ℕ). byte_if (m == 1) at byte) is

-- what is marked is what the chunks have
pub marked_contents : (chunks : List PlacedBytes) (marks memory : List ℕ) → AreMarksOf (is_covered chunks) marks → memory ≡ memory_of chunks →
    ((chunks : List PlacedBytes) (address : ℕ) → address < 65536 → slice_index (memory_of chunks) address ≡ byte_at chunks address) →
    marked_from marks memory 0 65536 ≡ contents_of chunks
unfolding marked_from contents_of
marked_contents chunks marks memory are is law =
    same_from (marked_at marks memory) (content_at chunks) 0 65536
    (λ address inside. one_byte (is_covered chunks address) address (slice_index marks address) (slice_index memory address) (byte_at chunks address)
    (are.marks_are address) (ap (λ (l : List ℕ). slice_index l address) is ∙ law chunks address inside))

-- what holds of all lines and of one more
pub one_more : (P : Line → Type 0) (lines : List Line) (line : Line) → All P lines → P line → All P (lines ++ line ∷ [])
one_more P lines line all holds = All-append P lines (line ∷ []) all alone
  where
    alone : All P (line ∷ [])
    alone zero d inside = holds
    alone (suc k) d inside = absurd (omega (arith, inside))
