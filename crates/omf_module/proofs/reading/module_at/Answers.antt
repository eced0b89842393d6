use Rattle.std.proofs.Common.{sym, subst, IsTrue}
use Rattle.std.proofs.lemmas.Result.{err_from_is_err_and}
use Rattle.omf_model.specs.Modules.{ModuleValue}
use Rattle.omf_model.specs.Rules.{keeps_rules}
use Rattle.omf_module.specs.Reading.{records_of}
use Rattle.omf_module.proofs.KeepsLemmas.{keeps}
use Rattle.omf_module.proofs.UsedLemmas.{uses_then}
use Rattle.omf_module.proofs.reading.module_at.Goals as goal

pub returns-in_err-parts-clause-fault : goal.returns-in_err-parts-clause-fault
returns-in_err-parts-clause-fault c =
    let p = err_from_is_err_and c.from_residual-in_err-parts.result c.from_residual-in_err-parts.ensures.1 in
    rw (p.1, p.2) (uses_then c.args.bytes.now c.args.at c.in_ok-file.field-0.after
    (records_of c.in_ok-file.field-0.file) c.in_err-parts.field-0.0 c.in_ok-file.ensures.begins c.in_ok-file.ensures.read
    c.in_err-parts.ensures.fault)

pub from_sound_parts-requires : goal.from_sound_parts-requires
from_sound_parts-requires c =
    subst (λ (m : ModuleValue). IsTrue (keeps_rules m)) (sym c.in_ok-parts.ensures.parts)
    (keeps c.args.bytes.now c.in_ok-file.field-0.after
    (records_of c.in_ok-file.field-0.file) c.in_ok-file.ensures.read c.in_ok-parts.ensures.sound)
