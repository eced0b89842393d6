-- How the definitions of an inputs text go on behind its first line.
use Rattle.std.proofs.Common.{◌≡◌, ℕ, ◌+◌, ◌<◌, true, None, Some, unwrap_or, is_some, List, [], ◌∷◌, ◌++◌, length, cond, refl, ap, ◌∙◌, arith}
use Rattle.std.specs.List.{flat_map}
use Rattle.std.proofs.lemmas.List.Splits.{length-slice_split}
use Rattle.image80.specs.Lines.{is_line_feed, parts}
use Rattle.loader80.specs.InputsText.{bad_part, inputs_of, line_input}

-- a text has a part, be it an empty one
pub parts-some : (text : List ℕ) → 0 < length (parts text)
parts-some text = omega (arith, length-slice_split is_line_feed text)

-- behind a line of inputs it goes on with the next part
pub bad_part-good : (n : ℕ) (line : List ℕ) (lines : List (List ℕ)) → 0 < length lines
    → is_some (line_input line) ≡ true → bad_part n (line ∷ lines) ≡ bad_part (n + 1) lines
bad_part-good n line [] some good = absurd (omega arith)
bad_part-good n line (next ∷ lines) some good = rw good refl

-- a line that spells no input is the bad one
pub bad_part-bad : (n : ℕ) (line : List ℕ) (lines : List (List ℕ)) → 0 < length lines
    → line_input line ≡ None → bad_part n (line ∷ lines) ≡ Some n
bad_part-bad n line [] some bad = absurd (omega arith)
bad_part-bad n line (next ∷ lines) some bad = ap (λ o. cond (is_some o) (bad_part (n + 1) (next ∷ lines)) (Some n)) bad

-- the pairs of the first line come first
pub inputs_of-next : (text line rest : List ℕ) (pairs : List (ℕ × ℕ)) → parts text ≡ line ∷ parts rest
    → line_input line ≡ Some pairs → inputs_of text ≡ pairs ++ inputs_of rest
inputs_of-next text line rest pairs first spelled =
    ap (λ lines. flat_map (λ l. unwrap_or (line_input l) []) lines) first
    ∙ ap (λ o. unwrap_or o [] ++ inputs_of rest) spelled
