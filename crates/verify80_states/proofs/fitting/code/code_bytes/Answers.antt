use Rattle.verify80_states.proofs.Names.{◌∙◌, ap, Located}
use Rattle.verify80_states.proofs.CodeLemmas.{code_are}
use Rattle.verify80_states.proofs.fitting.code.code_bytes.Goals as goal

pub returns : goal.returns
returns c = code_are c.args.image.now c.image.inside.regions c.deref.result.now c.in_ok-code.code.items (ap (λ (i : Located). i.regions) c.image.view_is) (c.deref.ensures.value ∙ c.in_ok-memory.ensures.bytes) c.in_ok-code.ensures
