use Rattle.std.specs.Prelude.{◌≡◌, ◌++◌, ◌∷◌, [], codes, map}
use Rattle.std.proofs.Common.{rules}
use Rattle.omf_text.specs.Places.{place_words}
use Rattle.link80_text.specs.Causes.{module_words}
use Rattle.link80_text.proofs.TextLemmas.{joined}
use Rattle.link80_text.proofs.causes.lines.append_use.Goals as goal

pub returns : goal.returns
returns c =
    let words = module_words (map (λ f. f.now) c.args.files.now) c.args.high.source c.args.name.now in
    let part = place_words c.args.commons.now c.args.high.target c.args.high.start in
    let place = place_words c.args.commons.now c.args.high.segment c.args.high.offset in
    let first : c.extend_from_slice.new.self.items ≡ c.args.text.now.items ++ codes "  " =
    search (rules, c.in_ok-extend_from_slice.ensures, c.as_slice.ensures) in
    let third : c.extend_from_slice-2.new.self.items ≡ c.append_module.new.text.items ++ codes " uses the high byte of " =
    search (rules, c.in_ok-extend_from_slice-2.ensures, c.as_slice-2.ensures) in
    let fifth : c.extend_from_slice-3.new.self.items ≡ c.append_place.new.text.items ++ codes " at " =
    search (rules, c.in_ok-extend_from_slice-3.ensures, c.as_slice-3.ensures) in
    let all = c.push.new.self.items in
    joined c.args.text.now.items (codes "  ") c.extend_from_slice.new.self.items
    (words ++ (codes " uses the high byte of " ++ (part ++ (codes " at " ++ (place ++ 10 ∷ []))))) all first
    (joined c.extend_from_slice.new.self.items words c.append_module.new.text.items
    (codes " uses the high byte of " ++ (part ++ (codes " at " ++ (place ++ 10 ∷ [])))) all c.in_ok-append_module.ensures
    (joined c.append_module.new.text.items (codes " uses the high byte of ") c.extend_from_slice-2.new.self.items
    (part ++ (codes " at " ++ (place ++ 10 ∷ []))) all third
    (joined c.extend_from_slice-2.new.self.items part c.append_place.new.text.items (codes " at " ++ (place ++ 10 ∷ [])) all
    c.in_ok-append_place.ensures
    (joined c.append_place.new.text.items (codes " at ") c.extend_from_slice-3.new.self.items (place ++ 10 ∷ []) all fifth
    (joined c.extend_from_slice-3.new.self.items place c.append_place-2.new.text.items (10 ∷ []) all c.in_ok-append_place-2.ensures
    c.in_ok-push.ensures.items)))))
