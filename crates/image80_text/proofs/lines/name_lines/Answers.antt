use Rattle.std.proofs.Common.{rules, ◌≡◌, ◌++◌, [], ◌∷◌, ap, ◌∙◌}
use Rattle.image80_text.specs.NameText.{named_line, named_text}
use Rattle.image80_text.proofs.TextLemmas.{line_read}
use Rattle.image80_text.proofs.lines.name_lines.Goals as goal

pub loop-line-preserved : goal.loop-line-preserved
loop-line-preserved c =
    let shown = named_line c.args.code.now c.args.publics.now c.args.word.now in
    let grown : c.push.new.self.items ≡ (c.loop-line.named.items ++ shown c.in-Some.line.now) ++ 10 ∷ [] = search rules in
    ap (λ t. t ++ named_text c.args.code.now c.args.publics.now c.args.word.now c.in-Some.after.now) grown
    ∙ line_read shown c.loop-line.named.items c.in-Some.line.now c.in-Some.after.now c.loop-line.rest.now
    (named_text c.args.code.now c.args.publics.now c.args.word.now c.args.text.now) c.in-Some.ensures.found c.loop-line.invariant
