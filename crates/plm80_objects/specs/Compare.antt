-- What `compare` prints of an image and a dump.
-- (The form of the lines and the status are this project's own.)
use Rattle.std.specs.Prelude.{◌≡◌, ◌≢◌, ◌+◌, ◌<◌, ℕ, Bool, List, [], ◌∷◌, length, codes}
use Rattle.omf_model.specs.declared.symbols.Public.{Public}
use Rattle.image80.specs.Image.{Located, PlacedBytes}
use Rattle.image80_file.specs.ImageFile.{SpellsImage, without_regions}
use Rattle.image80_text.specs.NameText.{named_text}
use Rattle.rom80.specs.Compare.{AreDifferences, comparison_text}
use Rattle.rom80.specs.{declared.comparing.Difference.Difference, Ranges.byte_ranges, Rom.bytes_over}
use Rattle.plm80_console.specs.{Answer.AnswerValue, Answer.prints, Journal.FileValue}
use Rattle.plm80_names.specs.Printed.{AreNamesOf}
use Rattle.plm80_objects.specs.{declared.compare.CompareArguments.CompareArguments, Arguments.WritesByte, Arguments.WritesWord}

-- bytes can be a dump's from an address on: there are some, and they don't go past FFFF
abbrev pub IsDump : (first : ℕ) → (bytes : List ℕ) → Type 0
IsDump first bytes = (length bytes ≢ 0) × ¬ (65536 < first + length bytes)

-- the status is 0 if no bytes differ
abbrev pub status_of : List Difference → ℕ
status_of [] = 0
status_of (range ∷ ranges) = 1

-- the ranges at which an image's bytes, over a dump's addresses, and the dump's differ, each with the name of its first address: that of
-- the nearest public at or below it, if the chunks lie side by side there
pub record PrintsDifferences (chunks : List PlacedBytes) (image dump : List ℕ) (first : ℕ) (publics : List Public) (answer : AnswerValue)
    : Type 0 where
  pub ranges : List Difference
  pub are : AreDifferences image dump first ranges
  pub answer_is : answer ≡ prints (named_text (byte_ranges chunks) publics (codes "DIFFERS ") (comparison_text image dump first ranges))
      (status_of ranges)

-- what is printed of the bytes of an image's file and of a dump's, from its first address on; with the image's publics if asked for
pub record ComparesBytes (asked : Bool) (file : List ℕ) (first : ℕ) (dump : List ℕ) (fill : ℕ) (answer : AnswerValue) : Type 0 where
  pub whole : IsDump first dump
  pub image : Located
  pub contents : SpellsImage file (without_regions image)
  pub publics : List Public
  pub names : AreNamesOf asked file publics
  pub answer_is : PrintsDifferences image.chunks (bytes_over fill image.chunks first (length dump)) dump first publics answer

-- nothing is
abbrev pub ComparesNone : (asked : Bool) (file : List ℕ) (first : ℕ) (dump : List ℕ) (fill : ℕ) → Type 0
ComparesNone asked file first dump fill = (answer : AnswerValue) → ComparesBytes asked file first dump fill answer → ⊥

-- the same of the files of the image and of the dump, by the options
pub record ComparesFiles (arguments : CompareArguments) (files : List FileValue) (answer : AnswerValue) : Type 0 where
  pub file : FileValue
  pub dump : FileValue
  pub files_are : files ≡ file ∷ dump ∷ []
  pub first : ℕ
  pub first_is : WritesWord arguments.first first
  pub fill : ℕ
  pub fill_is : WritesByte arguments.fill fill
  pub answer_is : ComparesBytes arguments.names file.bytes first dump.bytes fill answer
