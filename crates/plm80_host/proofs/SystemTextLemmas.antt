-- Where a label stands in a text, and the number behind it.
use Rattle.std.proofs.Common.{◌≡◌, ℕ, List, ◌++◌, Option, None, Some, IfSome, take, drop, sym, ◌∙◌, ap}
use Rattle.std.proofs.lemmas.List.{take-append-drop}
use Rattle.std.specs.Char.{is_not_whitespace}
use Rattle.std.specs.Str.{NoCharPasses}
use Rattle.std.specs.Str.Pattern.{FindsText, SplitsAroundMatch}
use Rattle.plm80_console.specs.NumberText.{IsCountText, count_value}
use Rattle.plm80_host.specs.SystemTexts.{IsCountBehind}

around : (label text before behind : List ℕ) → SplitsAroundMatch (FindsText label) text before behind → text ≡ before ++ (label ++ behind)
around label text before behind split =
    sym (take-append-drop split.0 text) ∙ ap (λ l. take split.0 text ++ l) split.2.1.split
    ∙ ap (λ l. l ++ (label ++ drop split.1 text)) (sym split.3)
    ∙ ap (λ l. before ++ (label ++ l)) (sym split.4)

counted : (label text before behind gap word rest : List ℕ) (count : ℕ) → SplitsAroundMatch (FindsText label) text before behind
    → behind ≡ gap ++ (word ++ rest) → NoCharPasses is_not_whitespace gap → IsCountText word → count ≡ count_value word
    → IsCountBehind text label count
counted label text before behind gap word rest count split parted blank digits is = record {
  before = before;
  gap = gap;
  digits = word;
  rest = rest;
  is = around label text before behind split ∙ ap (λ l. before ++ (label ++ l)) parted;
  blank = blank;
  digits_are = digits;
  count_is = is;
}

pub each_counted : (count : Option ℕ) (label text before behind gap word rest : List ℕ) → SplitsAroundMatch (FindsText label) text before behind
    → behind ≡ gap ++ (word ++ rest) → NoCharPasses is_not_whitespace gap
    → IfSome count (λ number. IsCountText word × (number ≡ count_value word)) → IfSome count (IsCountBehind text label)
each_counted None label text before behind gap word rest split parted blank is = tt
each_counted (Some count) label text before behind gap word rest split parted blank is =
    counted label text before behind gap word rest count split parted blank is.0 is.1
