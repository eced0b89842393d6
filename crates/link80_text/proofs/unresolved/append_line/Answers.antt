use Rattle.std.specs.Prelude.{◌++◌, codes}
use Rattle.std.proofs.Common.{◌∙◌, ap}
use Rattle.link80_text.proofs.TextLemmas.{grown_by_two}
use Rattle.link80_text.proofs.unresolved.append_line.Goals as goal

pub returns : goal.returns
returns c =
    let first = c.in_ok-append_word.ensures ∙ ap (λ w. c.args.text.now.items ++ (w ++ c.bytes.result.now)) c.as_slice.ensures
    ∙ ap (λ v. c.args.text.now.items ++ (codes "UNRESOLVED " ++ v)) c.bytes.ensures.value in
    let second = c.in_ok-append_word-2.ensures
    ∙ ap (λ w. c.append_word.new.text.items ++ (w ++ c.bytes-2.result.now)) c.as_slice-2.ensures
    ∙ ap (λ v. c.append_word.new.text.items ++ (codes " BY " ++ v)) c.bytes-2.ensures.value in
    grown_by_two c.args.text.now.items (codes "UNRESOLVED " ++ c.args.name.now) (codes " BY " ++ c.args.by.now)
    c.append_word.new.text.items c.append_word-2.new.text.items c.push.new.self.items first second c.in_ok-push.ensures.items
