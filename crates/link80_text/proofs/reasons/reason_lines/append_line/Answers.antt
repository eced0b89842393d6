use Rattle.std.specs.Prelude.{◌++◌, codes}
use Rattle.std.proofs.Common.{◌∙◌, ap}
use Rattle.link80_text.specs.ShownPaths.{shown_path}
use Rattle.link80_text.proofs.TextLemmas.{grown_by_four, joined}
use Rattle.link80_text.proofs.reasons.reason_lines.append_line.Goals as goal

pub returns : goal.returns
returns c =
    let first = c.in_ok-append_word.ensures ∙ ap (λ w. c.args.text.now.items ++ (w ++ c.bytes.result.now)) c.as_slice.ensures
    ∙ ap (λ v. c.args.text.now.items ++ (codes "TAKEN " ++ v)) c.bytes.ensures.value in
    let second = c.in_ok-append_word-2.ensures
    ∙ ap (λ w. c.append_word.new.text.items ++ (w ++ c.bytes-2.result.now)) c.as_slice-2.ensures
    ∙ ap (λ v. c.append_word.new.text.items ++ (codes " FOR " ++ v)) c.bytes-2.ensures.value in
    let third = c.in_ok-append_word-3.ensures
    ∙ ap (λ w. c.append_word-2.new.text.items ++ (w ++ c.bytes-3.result.now)) c.as_slice-3.ensures
    ∙ ap (λ v. c.append_word-2.new.text.items ++ (codes " BY " ++ v)) c.bytes-3.ensures.value in
    let word = c.in_ok-extend_from_slice.ensures.items ∙ ap (λ w. c.append_word-3.new.text.items ++ w) c.as_slice-4.ensures in
    let fourth = joined c.append_word-3.new.text.items (codes " FROM ") c.extend_from_slice.new.self.items
    (shown_path c.args.path.now) c.append_path.new.text.items word c.in_ok-append_path.ensures in
    grown_by_four c.args.text.now.items (codes "TAKEN " ++ c.args.taken.now) (codes " FOR " ++ c.args.name.now)
    (codes " BY " ++ c.args.by.now) (codes " FROM " ++ shown_path c.args.path.now) c.append_word.new.text.items
    c.append_word-2.new.text.items c.append_word-3.new.text.items c.append_path.new.text.items c.push.new.self.items first second
    third fourth c.in_ok-push.ensures.items
