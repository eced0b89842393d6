-- A hole `{:02X}` writes the two digits of a byte.
use Rattle.std.proofs.Common.{◌≡◌, ◌∙◌, ℕ, ◌/◌, ◌%◌, ◌<◌, ap, sym, true, false, [], ◌∷◌, Some, arith}
use Rattle.std.specs.Prelude.{codes, slice_index}
use Rattle.std.specs.Fmt.{digit_glyph, format_spec, padded_integral, styled_digits_output}
use Rattle.std.specs.Option.{option_map}
use Rattle.std.proofs.lemmas.Fmt.{hex_byte}
use Rattle.std.proofs.lemmas.List.FromFn.{get_or-map-range_with_len}
use Rattle.text80.specs.Digits.{byte_text}
use Rattle.loader80.proofs.digits.ByteDigitsDisplay.fmt.Goals as goal

-- std's digits are those of the table
digit_is : (n : ℕ) → n < 16 → digit_glyph true n ≡ slice_index (codes "0123456789ABCDEF") n
digit_is n below = sym (get_or-map-range_with_len (digit_glyph true) 0 16 n n 0 below (omega arith))

digits_are : (byte : ℕ) → byte < 256 → digit_glyph true (byte / 16) ∷ digit_glyph true (byte % 16) ∷ [] ≡ byte_text byte
digits_are byte below =
    ap (λ (d : ℕ). d ∷ digit_glyph true (byte % 16) ∷ []) (digit_is (byte / 16) (omega arith))
    ∙ ap (λ (d : ℕ). slice_index (codes "0123456789ABCDEF") (byte / 16) ∷ d ∷ []) (digit_is (byte % 16) (omega arith))

pub returns-clause-writes : goal.returns-clause-writes
returns-clause-writes g c =
    let shown = ap (styled_digits_output c.in_radix.result) c.laid_out.ensures
    ∙ ap (option_map (padded_integral (format_spec 32 0 4 2 18446744073709551615) false [])) c.in_radix.ensures
    ∙ ap Some (hex_byte true c.args.self.now.0 (omega arith) ∙ digits_are c.args.self.now.0 (omega arith)) in
    rw shown at c.write.ensures.writes
