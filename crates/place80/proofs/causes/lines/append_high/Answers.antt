use Rattle.std.specs.Prelude.{◌≡◌, ◌++◌, ◌∷◌, [], codes, List}
use Rattle.std.proofs.Common.{rules, ◌∙◌, ap}
use Rattle.text80.specs.Digits.{word_text}
use Rattle.omf_model.specs.declared.symbols.Common.{Common}
use Rattle.place80.specs.Causes.{high_line}
use Rattle.omf_text.specs.Places.{place_words}
use Rattle.place80.proofs.TextLemmas.{joined, some_piece}
use Rattle.place80.proofs.causes.lines.append_high.Goals as goal

pub returns : goal.returns
returns c =
    let name = c.args.program.now.name in
    let word = word_text c.in-Some.found.word in
    let place = place_words c.args.program.now.commons c.in-Some.found.segment c.in-Some.found.offset in
    let first : c.extend_from_slice.new.self.items ≡ c.args.text.now.items ++ codes "  " =
    search (rules, c.in_ok-extend_from_slice.ensures, c.as_slice.ensures) in
    let second : c.extend_from_slice-2.new.self.items ≡ c.extend_from_slice.new.self.items ++ name =
    search (rules, c.in_ok-extend_from_slice-2.ensures, c.bytes.ensures, c.name.ensures) in
    let third : c.extend_from_slice-3.new.self.items ≡ c.extend_from_slice-2.new.self.items ++ codes " uses the high byte of " =
    c.in_ok-extend_from_slice-3.ensures.items ∙ ap (λ l. c.extend_from_slice-2.new.self.items ++ l) c.as_slice-2.ensures in
    let fourth : c.extend_from_slice-4.new.self.items ≡ c.extend_from_slice-3.new.self.items ++ word =
    search (rules, c.in_ok-extend_from_slice-4.ensures, c.word_digits.ensures) in
    let fifth : c.extend_from_slice-5.new.self.items ≡ c.extend_from_slice-4.new.self.items ++ codes " at " =
    search (rules, c.in_ok-extend_from_slice-5.ensures, c.as_slice-3.ensures) in
    let sixth : c.append_place.new.text.items ≡ c.extend_from_slice-5.new.self.items ++ place =
    c.in_ok-append_place.ensures
    ∙ ap (λ (l : List Common). c.extend_from_slice-5.new.self.items ++ place_words l c.in-Some.found.segment c.in-Some.found.offset)
    c.commons.ensures.value in
    let all = c.push.new.self.items in
    some_piece (high_line c.args.program.now) c.args.found c.in-Some.found c.args.text.now.items all c.in-Some.is
    (joined c.args.text.now.items (codes "  ") c.extend_from_slice.new.self.items
    (name ++ (codes " uses the high byte of " ++ (word ++ (codes " at " ++ (place ++ 10 ∷ []))))) all first
    (joined c.extend_from_slice.new.self.items name c.extend_from_slice-2.new.self.items
    (codes " uses the high byte of " ++ (word ++ (codes " at " ++ (place ++ 10 ∷ [])))) all second
    (joined c.extend_from_slice-2.new.self.items (codes " uses the high byte of ") c.extend_from_slice-3.new.self.items
    (word ++ (codes " at " ++ (place ++ 10 ∷ []))) all third
    (joined c.extend_from_slice-3.new.self.items word c.extend_from_slice-4.new.self.items (codes " at " ++ (place ++ 10 ∷ [])) all fourth
    (joined c.extend_from_slice-4.new.self.items (codes " at ") c.extend_from_slice-5.new.self.items (place ++ 10 ∷ []) all fifth
    (joined c.extend_from_slice-5.new.self.items place c.append_place.new.text.items (10 ∷ []) all sixth c.in_ok-push.ensures.items))))))
