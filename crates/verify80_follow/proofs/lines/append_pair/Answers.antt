use Rattle.std.specs.Prelude.{◌++◌, ℕ, List, [], ◌∷◌}
use Rattle.std.proofs.Common.{◌∙◌, ap}
use Rattle.text80.specs.Digits.{word_text}
use Rattle.verify80_follow.specs.FollowText.{pair_line}
use Rattle.verify80_follow.proofs.LineLemmas.{behind}
use Rattle.verify80_follow.proofs.lines.append_pair.Goals as goal

pub returns : goal.returns
unfolding pair_line
returns c =
    let first = word_text c.args.first in
    let second = word_text c.args.second in
    let x = c.extend_from_slice.new.self.items in
    let y = c.push.new.self.items in
    c.in_ok-push-2.ensures.items
    ∙ behind _ y second (10 ∷ []) (c.in_ok-extend_from_slice-3.ensures.items ∙ ap (λ (l : List ℕ). y ++ l) c.word_digits-2.ensures)
    ∙ behind y _ (32 ∷ []) (second ++ 10 ∷ []) c.in_ok-push.ensures.items
    ∙ behind _ x first (32 ∷ (second ++ 10 ∷ [])) (c.in_ok-extend_from_slice-2.ensures.items ∙ ap (λ (l : List ℕ). x ++ l) c.word_digits.ensures)
    ∙ behind x c.args.text.now.items c.args.word.now (first ++ 32 ∷ (second ++ 10 ∷ [])) c.in_ok-extend_from_slice.ensures.items
