use Rattle.std.proofs.Common.{inl, ap, ◌∙◌, Err}
use Rattle.omf_module.specs.declared.fault.ModuleFault.{ModuleFault}
use Rattle.omf_module.specs.Uses.{fault_by}
use Rattle.omf_module.specs.Spelled.{FaultsModule, in_header}
use Rattle.omf_module.proofs.WithinLemmas.{by_cause}
use Rattle.omf_module.proofs.AnswerLemmas.{every_module, real_fault}
use Rattle.omf_module.proofs.reading.read_module.Goals as goal

pub returns-in-Ok-clause-every_module : goal.returns-in-Ok-clause-every_module
returns-in-Ok-clause-every_module c =
    every_module c.one_reading.ensures.module c.one_reading.ensures.never_both c.args.bytes.now c.args.at c.module_at.result
    c.module_at.ensures.read c.module_at.ensures.fault

pub returns-in-Err-clause-fault : goal.returns-in-Err-clause-fault
returns-in-Err-clause-fault c =
    rw c.at.ensures (by_cause (FaultsModule c.args.bytes.now c.args.at) c.args.at c.in-Err.why
    (λ _. in_header c.in-Err.why c.in-Err.ensures.fault))

pub returns-in-Err-clause-every_fault : goal.returns-in-Err-clause-every_fault
returns-in-Err-clause-every_fault c = λ fault f.
    inl (ap (λ (g : ModuleFault). Err g) (c.at.ensures ∙ (real_fault c.args.at c.in-Err.why c.in-Err.ensures.memory
    ∙ c.one_reading.ensures.fault c.args.bytes.now c.args.at (fault_by c.args.at c.in-Err.why) fault
    (in_header c.in-Err.why c.in-Err.ensures.fault) f)))
