use Rattle.std.specs.Prelude.{◌++◌, List, ℕ, codes}
use Rattle.std.specs.Fmt.{decimal}
use Rattle.std.proofs.Common.{◌∙◌, ap}
use Rattle.text80.specs.Digits.{word_text}
use Rattle.verify80_follow.specs.FollowText.{handler_line}
use Rattle.verify80_follow.proofs.LineLemmas.{behind}
use Rattle.verify80_follow.proofs.lines.append_handler.Goals as goal

pub returns : goal.returns
unfolding handler_line
returns c =
    let at = word_text c.args.handler.now.at in
    let rest = codes " STACK " ++ (decimal c.args.handler.now.table.bytes ++ codes "\n") in
    let x = c.extend_from_slice.new.self.items in
    let y = c.extend_from_slice-2.new.self.items in
    c.in_ok-extend_from_slice-3.ensures.items
    ∙ ap (λ (l : List ℕ). y ++ l) (c.deref.ensures.value ∙ ap (λ v. v.items) c.into_bytes.ensures.value ∙ c.in_ok-rest.ensures.ok)
    ∙ behind y x at rest (c.in_ok-extend_from_slice-2.ensures.items ∙ ap (λ (l : List ℕ). x ++ l) c.word_digits.ensures)
    ∙ behind x c.args.text.now.items (codes "HANDLER ") (at ++ rest)
    (c.in_ok-extend_from_slice.ensures.items ∙ ap (λ (l : List ℕ). c.args.text.now.items ++ l) c.as_slice.ensures)
