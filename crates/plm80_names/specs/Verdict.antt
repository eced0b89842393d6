-- What is answered of a program by what the verifier says of it.
-- (That a refusal is printed alone, and its exit status, are this project's own.)
use Rattle.std.specs.Prelude.{◌≡◌, ◌≢◌, ℕ, Bool, List, [], ◌∷◌}
use Rattle.omf_model.specs.declared.symbols.Public.{Public}
use Rattle.image80.specs.{Image.Located, RegionsText.Spells}
use Rattle.image80_file.specs.ImageFile.{SpellsImage, without_regions}
use Rattle.verify80_flow.specs.{declared.refusal.Refusal.Refusal, declared.refusal.Refusal.TheVariants.Memory, Faults.Holds}
use Rattle.verify80.specs.{Looking.code_of, Vouched.IsVouched, Vouched.Voucher}
use Rattle.plm80_console.specs.{Answer.AnswerValue, Answer.prints, Journal.FileValue, Journal.Journal, Journal.and_read}
use Rattle.plm80_names.specs.Printed.{AreNamesOf, named_refusal_line}
use Rattle.plm80_names.specs.declared.refusing.Verdict.{Verdict, TheVariants.Accepted, TheVariants.Refused}

-- An image, its regions and its names are those of two files: the names are the image's file's, if they are asked for.
pub record AreOfFiles (asked : Bool) (file text : List ℕ) (image : Located) (publics : List Public) : Type 0 where
  pub contents : SpellsImage file (without_regions image)
  pub regions : Spells text image.regions
  pub names : AreNamesOf asked file publics

-- they are those of no image
abbrev pub AreOfNone : (asked : Bool) → (file text : List ℕ) → Type 0
AreOfNone asked file text = (image : Located) (publics : List Public) → AreOfFiles asked file text image publics → ⊥

-- the first two of these files are those of no image
abbrev pub HaveNoProgram : (asked : Bool) → List FileValue → Type 0
HaveNoProgram asked (file ∷ text ∷ files) = AreOfNone asked file.bytes text.bytes
HaveNoProgram asked files = ⊥

-- the files of two paths were read, and these are the image, its regions and its names
pub record IsProgramRead (image_path regions_path : List ℕ) (asked : Bool) (old new : Journal) (image : Located) (publics : List Public) : Type 0 where
  pub file : List ℕ
  pub text : List ℕ
  pub are_read : AreOfFiles asked file text image publics
  pub journal : new ≡ and_read (and_read old image_path file) regions_path text

-- the verifier accepts the image, with what is known of the program then
pub record IsAccepted (image : Located) (program : Voucher) : Type 0 where
  pub image_is : program.image ≡ image
  pub vouched : IsVouched image program.rows program.stack_bytes

-- the line of a refusal that holds of the image, with a name; out of memory is none
pub record IsRefusal (image : Located) (publics : List Public) (line : List ℕ) : Type 0 where
  pub refusal : Refusal
  pub holds : Holds (code_of image) refusal
  pub no_memory : refusal ≢ Memory
  pub line_is : line ≡ named_refusal_line image.regions.code publics refusal

abbrev pub IsVerdict : Located → List Public → Verdict → Type 0
IsVerdict image publics (Accepted program) = IsAccepted image program
IsVerdict image publics (Refused line) = IsRefusal image publics line.items

-- A program that is accepted has such an answer; of another one the line of its refusal is printed alone, and the status is 1.
pub data AnswersVerdict (Answers : Voucher → AnswerValue → Type 0) (image : Located) (publics : List Public) (answer : AnswerValue) : Type 0 where
  accepted : (program : Voucher) → IsAccepted image program → Answers program answer → AnswersVerdict Answers image publics answer
  refused : (line : List ℕ) → IsRefusal image publics line → answer ≡ prints line 1 → AnswersVerdict Answers image publics answer

-- an answer to an image, its regions and its names, as two files have them
pub record AnswersProgram (Answers : Located → List Public → AnswerValue → Type 0) (asked : Bool) (files : List FileValue)
    (answer : AnswerValue) : Type 0 where
  pub image_file : FileValue
  pub regions_file : FileValue
  pub files_are : files ≡ image_file ∷ regions_file ∷ []
  pub image : Located
  pub publics : List Public
  pub are_read : AreOfFiles asked image_file.bytes regions_file.bytes image publics
  pub answers : Answers image publics answer
