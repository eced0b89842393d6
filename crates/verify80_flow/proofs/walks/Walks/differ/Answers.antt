use Rattle.std.proofs.Common.{◌∙◌, ap, Err}
use Rattle.verify80_flow.proofs.WalkedLemmas.{all_stay, differs}
use Rattle.verify80_flow.proofs.walks.Walks.differ.Goals as goal

pub returns-in-Ok-clause-walked : goal.returns-in-Ok-clause-walked
returns-in-Ok-clause-walked g c = all_stay (g.C.Code.code c.args.program.now) c.args.self.now c.meet.new.self c.meet.ensures.stays c.requires.walked

pub returns-in-Err-HeightsDiffer-clause-refused : goal.returns-in-Err-HeightsDiffer-clause-refused
returns-in-Err-HeightsDiffer-clause-refused g c =
    let code = g.C.Code.code c.args.program.now in
    let is = c.is_one_point.ensures c.if-not-is_one_point.false in
    differs code c.args.self.now.frames c.args.one.now c.args.other.now c.requires.one c.requires.other is.0 is.1 (c.meet.ensures.differ (c.in-Err-HeightsDiffer.is ∙ ap Err c.in-Err-HeightsDiffer.field-0-is))
