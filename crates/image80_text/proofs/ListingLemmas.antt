-- The lines of a range, one after another.
use Rattle.std.specs.Prelude.{◌≡◌, ℕ, zero, suc, ◌+◌, ◌-◌, ◌%◌, ◌<◌, ◌≤◌, Bool, true, false, nat_le, List, [], ◌∷◌, ◌++◌, None, Some, Option, length, take, codes, if◌then◌else◌}
use Rattle.std.specs.Option.{option_map}
use Rattle.std.proofs.lemmas.Bool.Decides.{nat_tests}
use Rattle.std.proofs.Common.{◌∙◌, ap, arith, append_assoc, refl, subst, sym}
use Rattle.decode80.specs.declared.instr.Instr.{Instr}
use Rattle.decode80.specs.Decoded.{completed, decoded}
use Rattle.decode80.specs.Spelling.{spelling}
use Rattle.image80_text.specs.Listing.{bytes_from, columns, fitting, instruction_of, line_length, list_line, lines_from}
use Rattle.image80_text.specs.ListingLaws.{AreLines, no_line, line}

-- the address one more than a given number of bytes further on
address-next : (at n : ℕ) → ((at + 1) % 65536 + n) % 65536 ≡ (at + suc n) % 65536
address-next at n = omega arith

-- bytes that belong to the line before are passed over
pub lines_from-inside : (memory : List ℕ) (at inside left rest : ℕ) → at < 65536 → left ≡ inside + rest →
    lines_from memory at inside left ≡ lines_from memory ((at + inside) % 65536) 0 rest
unfolding lines_from
lines_from-inside memory at zero left rest below e =
    let same : at ≡ (at + 0) % 65536 = omega arith in
    let all : left ≡ rest = omega arith in
    ap (λ (a : ℕ). lines_from memory a 0 left) same ∙ ap (λ (n : ℕ). lines_from memory ((at + 0) % 65536) 0 n) all
lines_from-inside memory at (suc inside) zero rest below e = absurd (omega arith)
lines_from-inside memory at (suc inside) (suc left) rest below e =
    lines_from-inside memory ((at + 1) % 65536) inside left rest (omega arith) (omega arith)
    ∙ ap (λ (a : ℕ). lines_from memory a 0 rest) (address-next at inside)

-- a line, and the lines after its bytes
pub lines_from-line : (memory : List ℕ) (at left n rest : ℕ) → at < 65536 → n ≡ line_length (instruction_of (bytes_from memory at) left) → 1 ≤ n → left ≡ n + rest →
    lines_from memory at 0 left ≡ list_line at (bytes_from memory at) (instruction_of (bytes_from memory at) left) ++ lines_from memory ((at + n) % 65536) 0 rest
unfolding lines_from
lines_from-line memory at zero n rest below e some sum = absurd (omega arith)
lines_from-line memory at (suc left) zero rest below e some sum = absurd (omega arith)
lines_from-line memory at (suc left) (suc n) rest below e some sum =
    let line : List ℕ = list_line at (bytes_from memory at) (instruction_of (bytes_from memory at) (suc left)) in
    let inside : line_length (instruction_of (bytes_from memory at) (suc left)) - 1 ≡ n = omega arith in
    ap (λ (k : ℕ). line ++ lines_from memory ((at + 1) % 65536) k left) inside
    ∙ ap (λ (after : List ℕ). line ++ after) (lines_from-inside memory ((at + 1) % 65536) n left rest (omega arith) (omega arith)
    ∙ ap (λ (a : ℕ). lines_from memory a 0 rest) (address-next at n))

-- the line of a byte that begins no instruction
pub list_line-alone : (at : ℕ) (bytes before : List ℕ) (found : Option (Instr × ℕ)) → found ≡ None →
    (before ++ columns at (take 1 bytes)) ++ (codes "??" ++ 10 ∷ []) ≡ before ++ list_line at bytes found
list_line-alone at bytes before None none = append_assoc before (columns at (take 1 bytes)) (codes "??" ++ 10 ∷ [])
list_line-alone at bytes before (Some i) none = cc

-- a line has one byte at least, and no more than are left
abbrev Fits : (left : ℕ) → Option (Instr × ℕ) → Type 0
Fits left found = (0 < line_length found) × (line_length found ≤ left)

fits-if : (b : Bool) (left n : ℕ) (i : Instr) → nat_le n left ≡ b → 0 < n → 0 < left → Fits left (if b then Some (i, n) else None)
fits-if true left n i e some there = (some, grind (arith, nat_tests))
fits-if false left n i e some there = (omega arith, omega arith)

fits : (left low high : ℕ) (o : Option Instr) → ((i : Instr) → 1 ≤ length (spelling i)) → 0 < left → Fits left (fitting left (option_map (completed low high) o))
fits left low high None sizes there = (omega arith, there)
fits left low high (Some i) sizes there = fits-if (nat_le (length (spelling i)) left) left (length (spelling i)) (completed low high i).0 refl (sizes i) there

line-fits : (bytes : List ℕ) (left : ℕ) → ((i : Instr) → 1 ≤ length (spelling i)) → 0 < left → Fits left (instruction_of bytes left)
unfolding decoded
line-fits bytes left sizes there = fits left _ _ _ sizes there

-- the lines of what is left of a range
pub lines_from-are_lines : ((i : Instr) → 1 ≤ length (spelling i)) → (memory : List ℕ) (most at left : ℕ) → at < 65536 → left ≤ most → AreLines memory at left (lines_from memory at 0 left)
unfolding lines_from
lines_from-are_lines sizes memory most at zero below enough = no_line at
lines_from-are_lines sizes memory zero at (suc left) below enough = absurd (omega arith)
lines_from-are_lines sizes memory (suc most) at (suc left) below enough =
    let found : Option (Instr × ℕ) = instruction_of (bytes_from memory at) (suc left) in
    let n : ℕ = line_length found in
    let fitted : (0 < n) × (n ≤ suc left) = line-fits (bytes_from memory at) (suc left) sizes (omega arith) in
    subst (λ (t : List ℕ). AreLines memory at (suc left) t) (sym (lines_from-line memory at (suc left) n (suc left - n) below refl (omega arith) (omega arith)))
    (line at (suc left) n found _ refl refl fitted.0 fitted.1 (lines_from-are_lines sizes memory most ((at + n) % 65536) (suc left - n) (omega arith) (omega arith)))
