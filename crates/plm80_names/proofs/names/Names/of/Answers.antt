use Rattle.std.specs.Prelude.{◌≡◌, ◌⊎◌, ◌≢◌, ℕ, Bool, true, false, not, List}
use Rattle.std.proofs.Common.{inl, inr, ap, rules}
use Rattle.omf_model.specs.declared.symbols.Public.{Public}
use Rattle.omf_module.specs.declared.fault.Cause.TheVariants.{Memory as OutOfMemory}
use Rattle.omf_module.specs.declared.fault.ModuleFault.{ModuleFault}
use Rattle.omf_module.specs.{Fault.no_memory, ReadingLaws.NeverBothFile, Spelled.FaultsFile}
use Rattle.place80_text.specs.ImagePublics.{HasPublics}
use Rattle.std.proofs.lemmas.Result.{IfErr-weaker}
use Rattle.plm80_names.specs.Printed.{HasNoNames}
use Rattle.plm80_console.specs.{AnswerLaws.blames_so, Journal.Blames.other}
use Rattle.plm80_names.proofs.names.Names.of.Goals as goal

-- bytes with a fault have no publics
no_publics : (bytes : List ℕ) (fault : ModuleFault) → NeverBothFile → (fault ≡ no_memory) ⊎ FaultsFile bytes fault → fault.cause ≢ OutOfMemory
    → (publics : List Public) → HasPublics bytes publics → ⊥
no_publics bytes fault never (inl is) lacks publics has = lacks (ap (λ (f : ModuleFault). f.cause) is)
no_publics bytes fault never (inr faults) lacks publics has = never bytes has.modules fault has.file faults

-- memory may run out behind them
pub returns-in-Ok-clause-fault : goal.returns-in-Ok-clause-fault
returns-in-Ok-clause-fault g c = IfErr-weaker c.names_of.result _ _ (λ _. other) c.names_of.ensures.fault

-- names were asked for
asked_names : (asked : Bool) (bytes : List ℕ) → not asked ≡ false → ((publics : List Public) → HasPublics bytes publics → ⊥) → HasNoNames asked bytes
asked_names true bytes at lacks = lacks
asked_names false bytes at lacks = absurd cc

pub returns-in-Err-clause-fault : goal.returns-in-Err-clause-fault
returns-in-Err-clause-fault g c =
    let at : not c.args.asked ≡ false = search rules in
    blames_so
    (λ no_memory. asked_names c.args.asked c.args.bytes.now at
    (no_publics c.args.bytes.now c.in-Err.fault c.one_file_reading.ensures.never_both c.in-Err.ensures.fault no_memory))
    c.report_publics.ensures
