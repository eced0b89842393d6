use Rattle.plm80_regions.proofs.Names.{[], ◌∷◌, refl, subst, file_value}
use Rattle.plm80_console.specs.AnswerLaws.{blamed_after, err_from}
use Rattle.plm80_console.specs.Journal.OnlyBlames.{other}
use Rattle.plm80_console.specs.Journal.OnlyReports.{unread}
use Rattle.plm80_files.specs.Wrong.{HaveNoImage, SpellsNoImage}
use Rattle.plm80_regions.proofs.suggest.bare_image.Goals as goal

pub returns-in_err-file-clause-fault : goal.returns-in_err-file-clause-fault
returns-in_err-file-clause-fault g c = err_from c.from_residual.result (other (unread c.in_err-file.ensures.fault))

pub returns-in_err-image-clause-fault : goal.returns-in_err-image-clause-fault
returns-in_err-image-clause-fault g c =
    let path = c.args.path.now in
    err_from c.from_residual-in_err-image.result
    (blamed_after (g.C.Console.journal c.args.console.now) (g.C.Console.journal c.read_file.new.self) (g.C.Console.journal c.image_of.new.console)
    (file_value path c.in_ok-file.file.bytes.items ∷ []) (path ∷ []) refl c.in_ok-file.ensures.read HaveNoImage
    (subst SpellsNoImage c.deref.ensures.value) c.in_err-image.ensures.fault)
