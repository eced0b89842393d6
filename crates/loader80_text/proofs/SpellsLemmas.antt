-- The text of repeated bytes is a text of inputs.
use Rattle.std.proofs.Common.{◌≡◌, ℕ, zero, suc, ◌+◌, ◌/◌, ◌%◌, ◌<◌, Bool, true, false, None, Some, unwrap_or, is_some, List, [], ◌∷◌, ◌++◌, length, replicate, refl, ap, sym, ◌∙◌, arith, append_assoc}
use Rattle.std.specs.Prelude.{slice_index, All}
use Rattle.std.specs.List.{flat_map}
use Rattle.std.specs.Result.{result_ok}
use Rattle.std.proofs.lemmas.Bool.Decides.{nat_tests}
use Rattle.std.proofs.lemmas.List.Elements.{All-append, All-cons, All-head, All-tail, All-weaker}
use Rattle.std.proofs.lemmas.List.Splits.{length-slice_split, slice_split_at}
use Rattle.hex.specs.Hex.{encode_upper, encode_with, is_hex_digit, IsBytes, upper_digits}
use Rattle.hex.proofs.HexLemmas.{decode_of-encode_upper, decode_of-ok}
use Rattle.image80.specs.Lines.{is_line_feed, parts}
use Rattle.loader80.specs.HexText.{bytes_spelled}
use Rattle.loader80.specs.InputsText.{bad_part, input_from, inputs_of, line_input, pairs_of as pairs_at}
use Rattle.loader80_text.specs.declared.inputs.repeated.Repeated.{Repeated}
use Rattle.loader80_text.specs.Laws.{SpellsInputs}
use Rattle.loader80_text.specs.Text.{content_of, text_of, pairs_of, IsRepeated}

-- a byte a given number of times is bytes
bytes_replicate : (count byte : ℕ) → byte < 256 → IsBytes (replicate count byte)
bytes_replicate zero byte small i = omega arith
bytes_replicate (suc count) byte small zero = small
bytes_replicate (suc count) byte small (suc i) = bytes_replicate count byte small i

-- hexadecimal digits are no line feeds
digit_no_feed_by : (b : Bool) (character : ℕ) → is_line_feed character ≡ b → is_hex_digit character ≡ true → b ≡ false
digit_no_feed_by true character feed digit =
    let ten : character ≡ 10 = grind (arith, nat_tests) in
    let none : is_hex_digit 10 ≡ true = sym (ap is_hex_digit ten) ∙ digit in
    cc none
digit_no_feed_by false character feed digit = refl

digit_no_feed : (character : ℕ) → is_hex_digit character ≡ true → is_line_feed character ≡ false
digit_no_feed character digit = digit_no_feed_by (is_line_feed character) character refl digit

no_feeds : (bytes : List ℕ) → IsBytes bytes → All (λ character. is_line_feed character ≡ false) (encode_upper bytes)
no_feeds bytes are =
    All-weaker (λ character. is_hex_digit character ≡ true) (λ character. is_line_feed character ≡ false) digit_no_feed (encode_upper bytes)
    (decode_of-ok (encode_upper bytes) bytes (decode_of-encode_upper bytes are)).1

one_byte : (byte : ℕ) → byte < 256 → IsBytes (byte ∷ [])
one_byte byte small zero = small
one_byte byte small (suc i) = omega arith

content_no_feeds : (r : Repeated) → IsRepeated r → All (λ character. is_line_feed character ≡ false) (content_of r)
content_no_feeds r is =
    All-append (λ character. is_line_feed character ≡ false) (encode_upper (r.port ∷ [])) (32 ∷ encode_upper (replicate r.count r.byte))
    (no_feeds (r.port ∷ []) (one_byte r.port is.port))
    (All-cons (λ character. is_line_feed character ≡ false) 32 (encode_upper (replicate r.count r.byte)) refl
    (no_feeds (replicate r.count r.byte) (bytes_replicate r.count r.byte is.byte)))

-- the first part of a text
parts_next : (r : Repeated) (later : List Repeated) → IsRepeated r → parts (text_of (r ∷ later)) ≡ content_of r ∷ parts (text_of later)
parts_next r later is =
    ap parts (append_assoc (content_of r) (10 ∷ []) (text_of later))
    ∙ slice_split_at is_line_feed (content_of r) 10 (text_of later) (content_no_feeds r is) refl

-- bytes are spelled by their digits
spelled : (bytes : List ℕ) → IsBytes bytes → bytes_spelled (encode_upper bytes) ≡ Some bytes
spelled bytes are = ap result_ok (decode_of-encode_upper bytes are)

-- a line of a port's digits, a space and others
line_is : (a b : ℕ) (digits : List ℕ) → line_input (a ∷ b ∷ 32 ∷ digits) ≡ input_from (bytes_spelled (a ∷ b ∷ [])) (bytes_spelled digits)
line_is a b digits = refl

port_digits : (port : ℕ) → encode_upper (port ∷ []) ≡ slice_index upper_digits (port / 16) ∷ slice_index upper_digits (port % 16) ∷ []
unfolding encode_with
port_digits port = refl

pairs_replicate : (port count byte : ℕ) → pairs_at port (replicate count byte) ≡ replicate count (port, byte)
pairs_replicate port zero byte = refl
pairs_replicate port (suc count) byte = ap (λ later. (port, byte) ∷ later) (pairs_replicate port count byte)

from_bytes : (port count byte : ℕ) → 0 < count → input_from (Some (port ∷ [])) (Some (replicate count byte)) ≡ Some (replicate count (port, byte))
from_bytes port zero byte some = absurd (omega arith)
from_bytes port (suc count) byte some = ap Some (pairs_replicate port (suc count) byte)

line_spells : (r : Repeated) → IsRepeated r → line_input (content_of r) ≡ Some (replicate r.count (r.port, r.byte))
line_spells r is =
    ap (λ front. line_input (front ++ 32 ∷ encode_upper (replicate r.count r.byte))) (port_digits r.port)
    ∙ line_is (slice_index upper_digits (r.port / 16)) (slice_index upper_digits (r.port % 16)) (encode_upper (replicate r.count r.byte))
    ∙ ap (λ front. input_from (bytes_spelled front) (bytes_spelled (encode_upper (replicate r.count r.byte)))) (sym (port_digits r.port))
    ∙ ap (λ port. input_from port (bytes_spelled (encode_upper (replicate r.count r.byte)))) (spelled (r.port ∷ []) (one_byte r.port is.port))
    ∙ ap (input_from (Some (r.port ∷ []))) (spelled (replicate r.count r.byte) (bytes_replicate r.count r.byte is.byte))
    ∙ from_bytes r.port r.count r.byte is.some

parts_some : (text : List ℕ) → 0 < length (parts text)
parts_some text = omega (arith, length-slice_split is_line_feed text)

-- behind a line of inputs it goes on with the next part
bad_part_good : (n : ℕ) (line : List ℕ) (lines : List (List ℕ)) → 0 < length lines →
    is_some (line_input line) ≡ true → bad_part n (line ∷ lines) ≡ bad_part (n + 1) lines
bad_part_good n line [] some good = absurd (omega arith)
bad_part_good n line (next ∷ lines) some good = rw good refl

lines_good : (n : ℕ) (inputs : List Repeated) → All IsRepeated inputs → bad_part n (parts (text_of inputs)) ≡ None
lines_good n [] are = refl
lines_good n (r ∷ later) are =
    let is = All-head IsRepeated r later are in
    ap (bad_part n) (parts_next r later is)
    ∙ bad_part_good n (content_of r) (parts (text_of later)) (parts_some (text_of later)) (ap is_some (line_spells r is))
    ∙ lines_good (n + 1) later (All-tail IsRepeated r later are)

pairs_are : (inputs : List Repeated) → All IsRepeated inputs → inputs_of (text_of inputs) ≡ pairs_of inputs
pairs_are [] are = refl
pairs_are (r ∷ later) are =
    let is = All-head IsRepeated r later are in
    ap (λ lines. flat_map (λ l. unwrap_or (line_input l) []) lines) (parts_next r later is)
    ∙ ap (λ o. unwrap_or o [] ++ inputs_of (text_of later)) (line_spells r is)
    ∙ ap (λ more. replicate r.count (r.port, r.byte) ++ more) (pairs_are later (All-tail IsRepeated r later are))

pub spells_inputs : (inputs : List Repeated) → All IsRepeated inputs → SpellsInputs inputs (text_of inputs)
spells_inputs inputs are = record { lines = lines_good 1 inputs are; pairs = pairs_are inputs are }

pub spells_text : (inputs lines inside : List Repeated) (text : List ℕ) → text ≡ text_of lines → lines ≡ inside → inputs ≡ inside →
    All IsRepeated inside → SpellsInputs inputs text
spells_text inputs lines inside text is same view are = rw (is, same, view) (spells_inputs inside are)
