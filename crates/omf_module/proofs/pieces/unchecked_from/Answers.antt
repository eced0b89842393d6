use Rattle.std.proofs.Common.{List, sym, subst}
use Rattle.std.specs.Prelude.{IfOk, IfSome}
use Rattle.omf_model.specs.declared.symbols.Common.{Common}
use Rattle.omf_module.specs.Pieces.{BegunModule}
use Rattle.omf_module.proofs.StayLemmas.{none_declared}
use Rattle.omf_module.proofs.pieces.unchecked_from.Goals as goal

pub returns-clause-begun : goal.returns-clause-begun
returns-clause-begun c =
    let u = c.args.unfinished.now in
    subst (λ (commons : List Common). IfOk c.after_header.result
    (λ from. IfSome from (λ here. BegunModule c.args.bytes.now u.begin here commons)))
    (sym (none_declared c.args.bytes.now u.begin u.here u.commons.items c.requires c.if-unfinished.false))
    c.after_header.ensures.begun
