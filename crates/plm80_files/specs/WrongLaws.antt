-- What follows for files that are blamed: laws, whatever the answers are.
use Rattle.std.specs.Prelude.{◌≡◌, ℕ, List, [], ◌∷◌, ◌++◌, slice_index_or}
use Rattle.std.proofs.Common.{ap, subst}
use Rattle.plm80_console.specs.Journal.{FileValue}
use Rattle.plm80_files.specs.Wrong.{HaveNoImage, OfFirst, SpellsNoImage}

-- the file is the first of these
pub of_first : (Wrong : List ℕ → Type 0) (files others behind : List FileValue) (file : FileValue) → files ++ others ≡ file ∷ behind
    → OfFirst Wrong files → Wrong file.bytes
of_first Wrong [] others behind file same lacks = absurd lacks
of_first Wrong (first ∷ files) others behind file same lacks =
    subst (λ (f : FileValue). Wrong f.bytes) (ap (λ (fs : List FileValue). slice_index_or fs 0 first) same) lacks

-- it is the image's
pub no_image : (files others behind : List FileValue) (image : FileValue) → files ++ others ≡ image ∷ behind → HaveNoImage files
    → SpellsNoImage image.bytes
no_image = of_first SpellsNoImage
