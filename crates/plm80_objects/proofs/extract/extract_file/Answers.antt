use Rattle.plm80_console.specs.AnswerLaws.{err_from, gives_or_gives_up, wrong_arguments, wrong_files}
use Rattle.plm80_files.specs.{Wrong.SpellsNoImage, WrongLaws.no_image}
use Rattle.plm80_objects.proofs.Names.{ℕ, List, [], ◌∷◌, refl, ◌∙◌, ap, subst, SpellsImage, without_regions, Journal, and_read, file_value}
use Rattle.rom80.specs.declared.fault.RomFault.TheVariants.{PastMemory}
use Rattle.plm80_objects.proofs.Names.{ExtractsFile, Err, arith, ◌≡◌, ◌<◌, ◌+◌}
use Rattle.plm80_objects.specs.{Arguments.IsExtentOf, declared.extract.Extent.Extent, declared.extract.ExtractArguments.ExtractArguments}
use Rattle.plm80_objects.proofs.extract.extract_file.Goals as goal

pub returns-in-Ok : goal.returns-in-Ok
returns-in-Ok g c =
    let path = c.args.arguments.image.now in
    let bytes = c.in_ok-file.file.bytes.items in
    let both = gives_or_gives_up (ExtractsFile c.args.arguments) (path ∷ []) (g.C.Console.journal c.args.console.now)
    (g.C.Console.journal c.image_of.new.console) (g.C.Console.journal c.give-given.new.self) (file_value path bytes ∷ []) refl
    (c.in_ok-image.ensures.unchanged ∙ c.in_ok-file.ensures.read ∙ ap (λ (j : Journal). and_read j path bytes) c.in_ok-extent.ensures.unchanged)
    c.in-Ok.answer c.give-given.result
    (record {
      file = file_value path bytes;
      files_are = refl;
      image = c.in_ok-image.image;
      contents = subst (λ (bs : List ℕ). SpellsImage bs (without_regions c.in_ok-image.image)) c.deref.ensures.value c.in_ok-image.ensures.image;
      extent = c.in_ok-extent.extent;
      is_extent = c.in_ok-extent.ensures.extent;
      in_memory = (λ past. cc (c.in-Ok.ensures.past.1 past));
      answer_is = c.in-Ok.ensures.answer;
    })
    c.give-given.ensures.given c.give-given.ensures.fault in
    record { done = both.0; fault = both.1 }

pub returns-in_err-extent-clause-fault : goal.returns-in_err-extent-clause-fault
returns-in_err-extent-clause-fault g c =
    err_from c.from_residual.result
    (wrong_arguments (ExtractsFile c.args.arguments) (λ files answer is. c.in_err-extent.ensures.wrong is.extent is.is_extent)
    c.in_err-extent.ensures.failed)

pub returns-in_err-image-clause-fault : goal.returns-in_err-image-clause-fault
returns-in_err-image-clause-fault g c =
    let path = c.args.arguments.image.now in
    let bytes = c.in_ok-file.file.bytes.items in
    err_from c.from_residual-in_err-image.result
    (wrong_files (ExtractsFile c.args.arguments) (path ∷ []) (g.C.Console.journal c.args.console.now) (g.C.Console.journal c.read_file.new.self)
    (g.C.Console.journal c.image_of.new.console) (file_value path bytes ∷ []) refl
    (c.in_ok-file.ensures.read ∙ ap (λ (j : Journal). and_read j path bytes) c.in_ok-extent.ensures.unchanged)
    (λ lacks others answer named is.
    no_image (file_value path bytes ∷ []) others [] is.file is.files_are (subst SpellsNoImage c.deref.ensures.value lacks) (without_regions is.image) is.contents)
    c.in_err-image.ensures.fault)

-- the range is that of every answer
in_memory : (asked : ExtractArguments) (a b : Extent) → IsExtentOf asked a → IsExtentOf asked b → ¬ (65536 < a.first + a.length) → 65536 < b.first + b.length → ⊥
in_memory asked a b is are within past = within (omega (arith, past, is.first.1, are.first.1, is.length.1, are.length.1))

pub returns-clause-fault : goal.returns-clause-fault
returns-clause-fault g c =
    let path = c.args.arguments.image.now in
    let bytes = c.in_ok-file.file.bytes.items in
    wrong_files (ExtractsFile c.args.arguments) (path ∷ []) (g.C.Console.journal c.args.console.now) (g.C.Console.journal c.image_of.new.console)
    (g.C.Console.journal c.report_range.new.console) (file_value path bytes ∷ []) refl
    (c.in_ok-image.ensures.unchanged ∙ c.in_ok-file.ensures.read ∙ ap (λ (j : Journal). and_read j path bytes) c.in_ok-extent.ensures.unchanged)
    (λ (past : c.in-Err.fault ≡ PastMemory) others answer named is.
    in_memory c.args.arguments is.extent c.in_ok-extent.extent is.is_extent c.in_ok-extent.ensures.extent is.in_memory (c.in-Err.ensures.past.0 (ap Err past)))
    c.report_range.ensures
