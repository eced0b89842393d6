use Rattle.plm80_objects.proofs.Names.{◌≡◌, ℕ, ◌+◌, ◌<◌, List, [], ◌∷◌, ◌++◌, length, take, Bor, all_zipped_more, ◌∙◌, sym, subst, get_or, take_more}
use Rattle.plm80_objects.proofs.Names.{AreRomFiles, IsRomFile, RomFile}
use Rattle.plm80_objects.proofs.Names.{ap, and_reported, arith, suc, zero}
use Rattle.std.specs.List.{AllZip}
use Rattle.plm80_console.specs.{AnswerLaws.err_from, Journal.Blames.other, Journal.Blames.wrong, Journal.and_blamed, NumberText.IsWordText}
use Rattle.plm80_objects.proofs.absolute.files_of.Goals as goal

-- one more file behind the first
pushed : (path first : List ℕ) (xs : List (Bor (List ℕ))) (files : List RomFile) (text : Bor (List ℕ)) (file : RomFile)
    → AreRomFiles path first xs files → IsRomFile text.now file → AreRomFiles path first (xs ++ text ∷ []) (files ++ file ∷ [])
pushed path first xs [] text file are is = absurd are
pushed path first xs (f ∷ files) text file are is =
    (are.0, are.1, all_zipped_more (λ (t : Bor (List ℕ)) (rom : RomFile). IsRomFile t.now rom) xs files text file are.2 is)

rom_more : (path first : List ℕ) (xs ys : List (Bor (List ℕ))) (i : ℕ) (d : Bor (List ℕ)) (file : RomFile)
    (files after : List RomFile) → ys ≡ xs → i < length ys → AreRomFiles path first (take i xs) files
    → IsRomFile (get_or ys i d).now file → after ≡ files ++ file ∷ [] → AreRomFiles path first (take (i + 1) xs) after
rom_more path first xs ys i d file files after same below so_far named is =
    let lt : i < length xs = subst (λ (zs : List (Bor (List ℕ))). i < length zs) same below in
    let one : IsRomFile (get_or xs i d).now file = subst (λ (zs : List (Bor (List ℕ))). IsRomFile (get_or zs i d).now file) same named in
    subst (λ (fs : List RomFile). AreRomFiles path first (take (i + 1) xs) fs) (sym is)
    (subst (λ (ts : List (Bor (List ℕ))). AreRomFiles path first ts (files ++ file ∷ [])) (sym (take_more xs i d lt))
    (pushed path first (take i xs) files (get_or xs i d) file so_far one))

pub loop-further-preserved : goal.loop-further-preserved
loop-further-preserved g c = record {
  files =
      rom_more c.args.arguments.now.bytes.now c.args.arguments.now.first.text.now c.args.arguments.now.further.items
      c.deref-further-items.result.now c.loop-further.further-index _ c.in_ok-file.file c.loop-further.files.items
      c.add_file-in-loop-further.new.files.items c.deref-further-items.ensures.value c.loop-further-test.true c.loop-further.invariant.files
      c.in_ok-file.ensures.file c.in_ok-add_file-2.ensures.added;
  unchanged = c.in_ok-add_file-2.ensures.unchanged ∙ c.in_ok-file.ensures.unchanged ∙ c.loop-further.invariant.unchanged;
}

-- the first dump has no address
no_first : (path first : List ℕ) (further : List (Bor (List ℕ))) → (IsWordText first → ⊥) → (roms : List RomFile)
    → AreRomFiles path first further roms → ⊥
no_first path first further lacks [] are = are
no_first path first further lacks (rom ∷ roms) are = lacks are.1.0

pub returns-in_err-word-clause-fault : goal.returns-in_err-word-clause-fault
returns-in_err-word-clause-fault g c =
    let asked = c.args.arguments.now in
    err_from c.from_residual.result
    (wrong (no_first asked.bytes.now asked.first.text.now asked.further.items c.in_err-word.ensures.fault) c.in_err-word.ensures.failed)

pub returns-in_err-add_file-clause-fault : goal.returns-in_err-add_file-clause-fault
returns-in_err-add_file-clause-fault g c =
    err_from c.from_residual-in_err-add_file.result (other (c.in_err-add_file.ensures.fault ∙ ap and_reported c.in_ok-word.ensures.unchanged))

zipped_at : {A B : Type 0} (R : A → B → Type 0) (xs : List A) (ys : List B) (i : ℕ) (d : A) (e : B) → AllZip R xs ys → i < length xs
    → R (get_or xs i d) (get_or ys i e)
zipped_at R [] ys i d e all below = absurd (omega (arith, below))
zipped_at R (x ∷ xs) [] i d e all below = absurd all
zipped_at R (x ∷ xs) (y ∷ ys) zero d e all below = all.0
zipped_at R (x ∷ xs) (y ∷ ys) (suc i) d e all below = zipped_at R xs ys i d e all.1 (omega (arith, below))

-- a further text names none
no_further : (path first : List ℕ) (xs ys : List (Bor (List ℕ))) (i : ℕ) (d : Bor (List ℕ)) → ys ≡ xs → i < length ys
    → ((file : RomFile) → IsRomFile (get_or ys i d).now file → ⊥) → (roms : List RomFile) → AreRomFiles path first xs roms → ⊥
no_further path first xs ys i d same below lacks [] are = are
no_further path first xs ys i d same below lacks (rom ∷ roms) are =
    lacks (get_or roms i rom)
    (zipped_at (λ (text : Bor (List ℕ)) (file : RomFile). IsRomFile text.now file) ys roms i d rom
    (subst (λ (texts : List (Bor (List ℕ))). AllZip (λ (text : Bor (List ℕ)) (file : RomFile). IsRomFile text.now file) texts roms) (sym same) are.2) below)

pub returns-in_err-file-clause-fault : goal.returns-in_err-file-clause-fault
returns-in_err-file-clause-fault g c =
    let asked = c.args.arguments.now in
    err_from c.from_residual-in_err-file.result
    (wrong
    (no_further asked.bytes.now asked.first.text.now asked.further.items c.deref-further-items.result.now c.loop-further.further-index _
    c.deref-further-items.ensures.value c.loop-further-test.true c.in_err-file.ensures.wrong)
    (c.in_err-file.ensures.failed ∙ ap and_blamed c.loop-further.invariant.unchanged))

pub returns-in_err-add_file-2-clause-fault : goal.returns-in_err-add_file-2-clause-fault
returns-in_err-add_file-2-clause-fault g c =
    err_from c.from_residual-in_err-add_file-2.result
    (other (c.in_err-add_file-2.ensures.fault ∙ ap and_reported (c.in_ok-file.ensures.unchanged ∙ c.loop-further.invariant.unchanged)))
