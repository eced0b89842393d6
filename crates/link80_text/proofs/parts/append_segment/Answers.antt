use Rattle.std.specs.Prelude.{map}
use Rattle.std.proofs.Common.{rules, ◌∙◌, ap, sym}
use Rattle.link80_text.specs.Words.{laid_text, joined_text}
use Rattle.link80_text.proofs.LaidLemmas.{laid_is, joined_is}
use Rattle.link80_text.proofs.parts.append_segment.Goals as goal

pub append_laid-requires : goal.append_laid-requires
append_laid-requires c = c.laid_parts_end_at_words.ensures.words (map (λ m. m.now) c.args.modules.now) c.args.id c.requires.no_fault
    (sym c.is_laid_out.ensures ∙ c.if-is_laid_out.true)

pub returns-then-is_laid_out : goal.returns-then-is_laid_out
returns-then-is_laid_out c =
    let same = ap (λ cs. laid_text cs c.args.id 0 (map (λ m. m.now) c.args.modules.now)) c.requires.commons
    ∙ laid_is (map (λ m. m.now) c.args.modules.now) c.args.id (sym c.is_laid_out.ensures ∙ c.if-is_laid_out.true) in
    search (rules, c.append_laid.ensures, same)

pub returns-else-is_laid_out : goal.returns-else-is_laid_out
returns-else-is_laid_out c =
    let same = ap (λ cs. joined_text cs c.args.id (map (λ m. m.now) c.args.modules.now)) c.requires.commons
    ∙ joined_is (map (λ m. m.now) c.args.modules.now) c.args.id (sym c.is_laid_out.ensures ∙ c.if-is_laid_out.false) in
    search (rules, c.append_joined.ensures, same)
