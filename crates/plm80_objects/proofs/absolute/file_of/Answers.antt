use Rattle.std.specs.Prelude.{◌≡◌, Option, None, Some, MatchOption}
use Rattle.std.proofs.lemmas.Str.Pattern.{IsSplitOnceResult, split_after}
use Rattle.plm80_console.specs.{NumberLaws.digits_without, NumberText.IsWordText}
use Rattle.plm80_objects.proofs.Names.{Bor, ℕ, List, arith, subst, sym, IsRomFile, RomFile}
use Rattle.plm80_objects.proofs.absolute.file_of.Goals as goal

-- the first equals sign stands behind the digits
split_of : (text : List ℕ) (file : RomFile) (r : Option (Bor (List ℕ) × Bor (List ℕ))) → IsSplitOnceResult 61 text r → (is : IsRomFile text file)
    → MatchOption r ⊥ (λ x. (x.0.now ≡ is.digits) × (x.1.now ≡ file.path.now))
split_of text file r split is =
    split_after 61 text is.digits file.path.now r split (omega arith) is.text_is (digits_without 61 (omega arith) is.digits is.is_word.0.1)

pub returns-in_default-clause-wrong : goal.returns-in_default-clause-wrong
returns-in_default-clause-wrong g c = λ file is. split_of c.args.text.now file None c.in_default.ensures.cases is

pub returns-in-None-clause-wrong : goal.returns-in-None-clause-wrong
returns-in-None-clause-wrong g c = λ file is.
    let cut = split_of c.args.text.now file (Some (c.in-Some.first, c.in-Some.path)) c.in-Some.ensures.cases is in
    c.in-None.ensures.none (subst IsWordText (sym cut.0) is.is_word)
