use Rattle.std.specs.Prelude.{List}
use Rattle.std.proofs.Common.{rules, ◌≡◌, Err, subst}
use Rattle.std.proofs.lemmas.Result.{err_from_is_err_and}
use Rattle.omf_model.specs.Modules.{ModuleValue}
use Rattle.image80_file.specs.declared.image_fault.ImageFault.TheVariants.{NotOneModule}
use Rattle.image80_file.specs.ImageFile.{program_of, program_of_one, of_modules}
use Rattle.image80_file.proofs.ImageFileLemmas.{fault_of_file, program_of_first, read_by_module, refused_by_module}
use Rattle.image80_file.proofs.image_file.read_program.Goals as goal

pub returns-in_err-modules-clause-fault : goal.returns-in_err-modules-clause-fault
returns-in_err-modules-clause-fault c =
    let p = err_from_is_err_and c.from_residual.result c.from_residual.ensures.1 in
    rw (p.1, p.2) (λ real. fault_of_file c.args.bytes.now c.in_err-modules.field-0.0 c.in_err-modules.ensures.fault real)

pub returns-in-len1-clause-read : goal.returns-in-len1-clause-read
returns-in-len1-clause-read c =
    let m = c.module-item.result in
    let same = subst (λ (ms : List ModuleValue). program_of_one ms ≡ program_of m) c.as_slice.ensures.value
    (program_of_first c.as_slice.result.now m c.in-len1.len_at_least c.in-len1.len_below c.module-item.is) in
    read_by_module c.args.bytes.now m c.in_ok-modules.modules.items c.program_of.result c.in_ok-modules.ensures.read same
    c.program_of.ensures.read

pub returns-in-len1-clause-fault : goal.returns-in-len1-clause-fault
returns-in-len1-clause-fault c =
    let m = c.module-item.result in
    let same = subst (λ (ms : List ModuleValue). program_of_one ms ≡ program_of m) c.as_slice.ensures.value
    (program_of_first c.as_slice.result.now m c.in-len1.len_at_least c.in-len1.len_below c.module-item.is) in
    refused_by_module c.args.bytes.now m c.in_ok-modules.modules.items c.program_of.result c.in_ok-modules.ensures.read same
    c.program_of.ensures.fault

pub returns-clause-fault : goal.returns-clause-fault
returns-clause-fault c =
    let other : program_of_one c.in_ok-modules.modules.items ≡ Err NotOneModule = search rules in
    λ _. of_modules c.in_ok-modules.modules.items NotOneModule c.in_ok-modules.ensures.read other
