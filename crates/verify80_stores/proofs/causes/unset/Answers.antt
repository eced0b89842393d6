use Rattle.verify80_stores.proofs.Names.{◌∙◌, sym, writes_to}
use Rattle.verify80_stores.proofs.CauseLemmas.{has_written, none_reached}
use Rattle.verify80_stores.proofs.causes.unset.Goals as goal

pub returns-else-has : goal.returns-else-has
returns-else-has c = λ code reached are written.
    none_reached code reached are (writes_to c.args.pair) (sym (has_written reached c.args.written c.args.pair written) ∙ sym c.has.ensures ∙ c.if-has.false)
