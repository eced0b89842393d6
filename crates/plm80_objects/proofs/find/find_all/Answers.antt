use Rattle.plm80_objects.proofs.Names.{◌≡◌, ℕ, ◌+◌, ◌<◌, Bool, true, ◌&&◌, List, [], ◌∷◌, ◌++◌, length, take, ◌∙◌, ap, sym, subst, get_or}
use Rattle.plm80_objects.proofs.Names.{take_more, DumpValue, LinkFile, dump_of, PrintsFile, PrintsFiles}
use Rattle.plm80_objects.specs.Find.{more, none}
use Rattle.plm80_objects.proofs.find.find_all.Goals as goal

pub loop-file-init : goal.loop-file-init
loop-file-init c = subst (λ (text : List ℕ). PrintsFiles (dump_of c.args.dump) [] true text) (sym c.new-text.ensures.items) none

-- one more file
files_more : (dump : DumpValue) (files : List LinkFile) (i : ℕ) (file : LinkFile) (were_there is_there : Bool) (before after : List ℕ)
    → i < length files → file ≡ get_or files i file → PrintsFiles dump (take i files) were_there before
    → PrintsFile dump file is_there before after → PrintsFiles dump (take (i + 1) files) (were_there && is_there) after
files_more dump files i file were_there is_there before after lt at so_far one =
    subst (λ (l : List LinkFile). PrintsFiles dump l (were_there && is_there) after)
    (ap (λ (f : LinkFile). take i files ++ f ∷ []) at ∙ sym (take_more files i file lt))
    (more (take i files) file were_there is_there before after so_far one)

pub loop-file-preserved : goal.loop-file-preserved
loop-file-preserved c =
    files_more (dump_of c.args.dump) c.args.files.now c.loop-file.file-index c.file-item.result c.loop-file.are_there
    c.in_ok-is_there.is_there c.loop-file.text.items c.look_for.new.text.items c.loop-file-test.true c.file-item.is c.loop-file.invariant
    c.in_ok-is_there.ensures
