use Rattle.std.proofs.Common.{sym, string_bytes}
use Rattle.loader80_text.proofs.SpellsLemmas.{spells_text}
use Rattle.loader80_text.proofs.inputs.word_inputs.WordInputs.text.Goals as goal

pub returns-clause-spells : goal.returns-clause-spells
returns-clause-spells c =
    spells_text c.args.self.now c.deref-2.result.now c.self.inside.inputs.items (string_bytes c.in_ok-lines_of.field-0) c.in_ok-lines_of.ensures c.deref-2.ensures.value (sym c.self.view_is) c.self.invariant
