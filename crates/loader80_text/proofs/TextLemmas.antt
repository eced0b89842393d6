-- How long the text of repeated bytes is.
use Rattle.std.proofs.Common.{◌≡◌, ℕ, ◌+◌, ◌*◌, ◌<◌, ◌≤◌, false, nat_le, List, [], ◌∷◌, ◌++◌, length, get_or, take, replicate, ap, ◌∙◌, arith, length-append}
use Rattle.std.proofs.lemmas.Bool.Decides.{nat_tests}
use Rattle.std.proofs.lemmas.Grind.{flat_map-append}
use Rattle.std.proofs.lemmas.List.{append-nil, length-replicate, take_more}
use Rattle.std.proofs.lemmas.List.Folds.{length-flat_map-take}
use Rattle.hex.specs.Hex.{encode_upper, upper_digits}
use Rattle.hex.proofs.HexLemmas.{length-encode_with}
use Rattle.loader80_text.specs.declared.inputs.repeated.Repeated.{Repeated}
use Rattle.loader80_text.specs.Text.{content_of, line_of, text_of}
use Rattle.stream80.specs.WholeText.{text_limit}

-- how long a line is
pub length-line_of : (r : Repeated) → length (line_of r) ≡ 4 + 2 * r.count
length-line_of r =
    let digits : length (encode_upper (replicate r.count r.byte)) ≡ 2 * length (replicate r.count r.byte) = length-encode_with upper_digits (replicate r.count r.byte) in
    let times : length (replicate r.count r.byte) ≡ r.count = length-replicate r.count r.byte in
    let port : length (encode_upper (r.port ∷ [])) ≡ 2 = length-encode_with upper_digits (r.port ∷ []) in
    let content : length (content_of r) ≡ length (encode_upper (r.port ∷ [])) + (1 + length (encode_upper (replicate r.count r.byte))) =
    length-append (encode_upper (r.port ∷ [])) (32 ∷ encode_upper (replicate r.count r.byte)) ∙ omega arith in
    let line : length (line_of r) ≡ length (content_of r) + 1 = length-append (content_of r) (10 ∷ []) in
    omega (arith, digits, times, port, content, line)

-- the text of one item more
pub text_more : (inputs : List Repeated) (i : ℕ) (d : Repeated) → i < length inputs →
    text_of (take (i + 1) inputs) ≡ text_of (take i inputs) ++ line_of (get_or inputs i d)
text_more inputs i d inside =
    ap text_of (take_more inputs i d inside)
    ∙ flat_map-append line_of (take i inputs) (get_or inputs i d ∷ [])
    ∙ ap (λ (l : List ℕ). text_of (take i inputs) ++ l) (append-nil (line_of (get_or inputs i d)))

pub length_more : (inputs : List Repeated) (i : ℕ) (d : Repeated) → i < length inputs →
    length (text_of (take (i + 1) inputs)) ≡ length (text_of (take i inputs)) + (4 + 2 * (get_or inputs i d).count)
length_more inputs i d inside =
    ap length (text_more inputs i d inside)
    ∙ length-append (text_of (take i inputs)) (line_of (get_or inputs i d))
    ∙ ap (λ (n : ℕ). length (text_of (take i inputs)) + n) (length-line_of (get_or inputs i d))

-- each line is within the text
pub line_within : (inputs : List Repeated) (i : ℕ) (d : Repeated) → i < length inputs →
    length (text_of (take i inputs)) + (4 + 2 * (get_or inputs i d).count) ≤ length (text_of inputs)
line_within inputs i d inside =
    let within : length (text_of (take i inputs)) + length (line_of (get_or inputs i d)) ≤ length (text_of inputs) = length-flat_map-take line_of inputs i d inside in
    let line = length-line_of (get_or inputs i d) in
    omega (arith, within, line)

pub not_within : (length' : ℕ) → text_limit < length' → false ≡ nat_le length' text_limit
not_within length' over = grind (arith, nat_tests)

pub too_long : (inputs : List Repeated) (i left : ℕ) (d : Repeated) → i < length inputs →
    left + length (text_of (take i inputs)) ≡ text_limit → left < 4 + 2 * (get_or inputs i d).count →
    false ≡ nat_le (length (text_of inputs)) text_limit
too_long inputs i left d inside sum less =
    let within = line_within inputs i d inside in
    not_within (length (text_of inputs)) (omega (arith, within, sum, less))
