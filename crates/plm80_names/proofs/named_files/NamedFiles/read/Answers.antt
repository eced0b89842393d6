use Rattle.std.proofs.Common.{◌≡◌, ℕ, Bool, List, [], ◌∷◌, Result, Ok, Err, IfErr, IfOk, refl, ◌∙◌}
use Rattle.std.proofs.lemmas.Result.{IfErr-weaker}
use Rattle.omf_model.specs.declared.symbols.Public.{Public}
use Rattle.image80.specs.{Image.Located, RegionsText.Spells}
use Rattle.image80_file.specs.ImageFile.{SpellsImage, without_regions}
use Rattle.plm80_console.specs.Journal.{Blames, Journal, OnlyBlames, OnlyBlames.other, and_read, file_value}
use Rattle.plm80_console.specs.AnswerLaws.{blamed_after, err_from}
use Rattle.plm80_names.specs.{Printed.AreNamesOf, Verdict.AreOfNone, Verdict.HaveNoProgram, Verdict.IsProgramRead, declared.named_files.NamedFiles.NamedFiles}
use Rattle.plm80_names.proofs.named_files.NamedFiles.read.Goals as goal

-- what was read of two files is a program's
program_read : {E : Type 0} (files : NamedFiles) (file text : List ℕ) (old between new : Journal) (r : Result (Located × List Public) E)
    → between ≡ and_read (and_read old files.image.now file) files.regions.now text
    → IfOk r (λ read. SpellsImage file (without_regions read.0)) → IfOk r (λ read. Spells text read.0.regions)
    → IfOk r (λ read. AreNamesOf files.names file read.1) → IfOk r (λ _. new ≡ between)
    → IfOk r (λ read. IsProgramRead files.image.now files.regions.now files.names old new read.0 read.1)
program_read files file text old between new (Ok read) were contents regions names unchanged = record {
  file = file;
  text = text;
  are_read = record { contents = contents; regions = regions; names = names };
  journal = unchanged ∙ were;
}
program_read files file text old between new (Err e) were contents regions names unchanged = tt

pub returns-clause-read : goal.returns-clause-read
returns-clause-read g c =
    let texts = c.in_ok-texts.texts in
    program_read c.args.self texts.image.bytes.items texts.regions.bytes.items (g.C.Console.journal c.args.console.now)
    (g.C.Console.journal c.read.new.console) (g.C.Console.journal c.program.new.console) c.program.result c.in_ok-texts.ensures.read
    c.program.ensures.contents c.program.ensures.regions c.program.ensures.names c.program.ensures.unchanged

-- a fault behind both files
behind_both : {A E : Type 0} (r : Result A E) (asked : Bool) (image regions file text : List ℕ) (old between new : Journal)
    → between ≡ and_read (and_read old image file) regions text → IfErr r (λ _. Blames (AreOfNone asked file text) between new)
    → IfErr r (λ _. OnlyBlames (HaveNoProgram asked) (image ∷ regions ∷ []) old new)
behind_both r asked image regions file text old between new were blames =
    IfErr-weaker r _ _
    (λ _. blamed_after old between new (file_value image file ∷ file_value regions text ∷ []) (image ∷ regions ∷ []) refl were (HaveNoProgram asked)
    (λ lacks. lacks))
    blames

pub returns-clause-fault : goal.returns-clause-fault
returns-clause-fault g c =
    let texts = c.in_ok-texts.texts in
    behind_both c.program.result c.args.self.names c.args.self.image.now c.args.self.regions.now texts.image.bytes.items texts.regions.bytes.items
    (g.C.Console.journal c.args.console.now) (g.C.Console.journal c.read.new.console) (g.C.Console.journal c.program.new.console)
    c.in_ok-texts.ensures.read c.program.ensures.fault

pub returns-in_err-texts-clause-fault : goal.returns-in_err-texts-clause-fault
returns-in_err-texts-clause-fault g c = err_from c.from_residual.result (other c.in_err-texts.ensures.fault)
