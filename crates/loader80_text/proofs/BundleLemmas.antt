-- How the texts round the line `INPUTS` go on behind a line.
use Rattle.std.proofs.Common.{◌≡◌, ℕ, ◌+◌, ◌-◌, ◌<◌, true, false, Option, None, Some, List, [], ◌∷◌, ◌++◌, length, take}
use Rattle.std.proofs.Common.{drop, refl, sym, ap, ◌∙◌, arith, append-nil, append_assoc, codes, length-append, length-drop}
use Rattle.std.specs.Option.{option_map}
use Rattle.std.specs.Str.{bytes_eq}
use Rattle.std.proofs.Math.Seq.{take-add}
use Rattle.std.proofs.lemmas.List.{take_at, drop_at, drop-drop, take_all}
use Rattle.std.proofs.lemmas.List.Splits.{join_with_byte-slice_split, length-slice_split}
use Rattle.image80.specs.Lines.{is_line_feed, parts}
use Rattle.loader80_text.specs.BundleText.{Sides, sides_after, sides_of, text_joined}

-- a text has a part, be it an empty one
parts-some : (text : List ℕ) → 0 < length (parts text)
parts-some text = omega (arith, length-slice_split is_line_feed text)

-- a line `INPUTS` parts the text
sides_of-found : (line : List ℕ) (lines : List (List ℕ)) → 0 < length lines → bytes_eq line (codes "INPUTS") ≡ true
    → sides_of (line ∷ lines) ≡ Some (record { before = []; after = text_joined lines })
sides_of-found line [] some same = absurd (omega arith)
sides_of-found line (next ∷ lines) some same = rw same refl

-- another line stands before it
sides_of-other : (line : List ℕ) (lines : List (List ℕ)) → 0 < length lines → bytes_eq line (codes "INPUTS") ≡ false
    → sides_of (line ∷ lines) ≡ option_map (sides_after (line ++ 10 ∷ [])) (sides_of lines)
sides_of-other line [] some other = absurd (omega arith)
sides_of-other line (next ∷ lines) some other = rw other refl

-- the slice of a text from a place to the end
pub slice_to_end : (text : List ℕ) (at : ℕ) → take (length text - at) (drop at text) ≡ drop at text
slice_to_end text at = take_all (length text - at) (drop at text) (omega (arith, length-drop at text))

-- one front after another is one front
sides_after-twice : (a b : List ℕ) (sides : Option Sides)
    → option_map (sides_after a) (option_map (sides_after b) sides) ≡ option_map (sides_after (a ++ b)) sides
sides_after-twice a b None = refl
sides_after-twice a b (Some sides) = ap (λ front. Some (record { before = front; after = sides.after })) (sym (append_assoc a b sides.before))

-- where the line at a place is `INPUTS`, what stands before it and behind it are the two texts
pub sides_of-here : (text line rest : List ℕ) (at : ℕ) → parts (drop at text) ≡ line ∷ parts rest
    → bytes_eq line (codes "INPUTS") ≡ true
    → sides_of (parts text) ≡ option_map (sides_after (take at text)) (sides_of (parts (drop at text)))
    → Some (record { before = take at text; after = rest }) ≡ sides_of (parts text)
sides_of-here text line rest at first same parted =
    let found = ap sides_of first ∙ sides_of-found line (parts rest) (parts-some rest) same in
    let whole : text_joined (parts rest) ≡ rest = join_with_byte-slice_split 10 rest in
    sym (parted ∙ ap (λ sides. option_map (sides_after (take at text)) sides) found
    ∙ ap (λ front. Some (record { before = front; after = text_joined (parts rest) })) (append-nil (take at text))
    ∙ ap (λ behind. Some (record { before = take at text; after = behind })) whole)

-- where it is another line, that line is put to what stands before
pub sides_of-further : (text line rest : List ℕ) (at : ℕ) → parts (drop at text) ≡ line ∷ parts rest
    → drop at text ≡ line ++ 10 ∷ rest → bytes_eq line (codes "INPUTS") ≡ false
    → sides_of (parts text) ≡ option_map (sides_after (take at text)) (sides_of (parts (drop at text)))
    → sides_of (parts text) ≡ option_map (sides_after (take (at + (length line + 1)) text)) (sides_of (parts (drop (at + (length line + 1)) text)))
sides_of-further text line rest at first joined other parted =
    let split : drop at text ≡ (line ++ 10 ∷ []) ++ rest = joined ∙ sym (append_assoc line (10 ∷ []) rest) in
    let size : length (line ++ 10 ∷ []) ≡ length line + 1 = simp length-append refl in
    let behind : drop (at + (length line + 1)) text ≡ rest =
    sym (drop-drop (length line + 1) at text) ∙ ap (drop (length line + 1)) split ∙ drop_at (line ++ 10 ∷ []) rest (length line + 1) size in
    let front : take (at + (length line + 1)) text ≡ take at text ++ (line ++ 10 ∷ []) =
    take-add at (length line + 1) text ∙ ap (λ s. take at text ++ take (length line + 1) s) split
    ∙ ap (λ s. take at text ++ s) (take_at (line ++ 10 ∷ []) rest (length line + 1) size) in
    let next = ap sides_of first ∙ sides_of-other line (parts rest) (parts-some rest) other in
    parted ∙ ap (λ sides. option_map (sides_after (take at text)) sides) next
    ∙ sides_after-twice (take at text) (line ++ 10 ∷ []) (sides_of (parts rest))
    ∙ ap (λ s. option_map (sides_after s) (sides_of (parts rest))) (sym front)
    ∙ ap (λ s. option_map (sides_after (take (at + (length line + 1)) text)) (sides_of (parts s))) (sym behind)
