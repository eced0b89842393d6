-- What `suggest` prints of an image, and reports.
-- (The status is this project's own.)
use Rattle.std.specs.Prelude.{◌≡◌, ◌≤◌, ℕ, List, [], ◌∷◌, ◌++◌, Option, None, Some, All, codes, length, map}
use Rattle.clap.specs.declared.parser.matches.ArgMatches.{ArgMatches}
use Rattle.image80.specs.{declared.range.Range.Range, Case.DeclaredCase, Image.Located, RegionsText.regions_text}
use Rattle.image80_file.specs.ImageFile.{SpellsImage, without_regions}
use Rattle.stream80.specs.WholeText.{text_limit}
use Rattle.verify80_suggest.specs.{declared.known.Known.Known, declared.suggesting.Advice.Advice, declared.setters.Setter.Setter, Known.Fits, Suggestion.IsSuggestion}
use Rattle.plm80_console.specs.{Arguments.argument_text, Arguments.argument_values, NumberText.IsWordText, NumberText.word_value}
use Rattle.board80.specs.declared.line.Kind.TheVariants.{Rom}
use Rattle.board80.specs.declared.line.Line.{Line}
use Rattle.plm80_boards.specs.Boards.{AreDataRangesIn, AreRangesIn, IsBoardPath, interrupts_in}
use Rattle.plm80_console.specs.{Answer.AnswerValue, Answer.prints, Journal.FileValue}
use Rattle.plm80_regions.specs.declared.suggest.SuggestArguments.{SuggestArguments}
use Rattle.plm80_regions.specs.declared.suggest.AdviceFault.{AdviceFault}
use Rattle.plm80_regions.specs.declared.suggest.AdviceFault.TheVariants.{Memory, TooLong, Unfit}
use Rattle.plm80_regions.specs.declared.suggest.StackWords.{StackWords}
use Rattle.plm80_regions.specs.CaseTexts.{AreCasesWritten}
use Rattle.plm80_regions.specs.Cases.{notes_status}
use Rattle.plm80_regions.specs.declared.suggest.StackWords.TheVariants as words
use Rattle.loader80_text.specs.declared.inputs.fault.LengthFault.{LengthFault}
use Rattle.loader80_text.specs.declared.inputs.fault.LengthFault.TheVariants as too

-- of which stacks there are words: of one that no LXI SP sets, and of one that several set
abbrev pub stack_words : (first second : Option Setter) → Option StackWords
stack_words None second = Some words.Missing
stack_words (Some first) (Some second) = Some (words.Several first.at second.at)
stack_words (Some first) None = None

-- the regions that an image suggests are printed, of which what is known fits the image; the status is that of the notes
pub record AdvisesRegions (image : Located) (known : Known) (advice : Advice) (answer : AnswerValue) : Type 0 where
  pub new : Located
  pub suggested : IsSuggestion image known advice.first advice.second advice.tableless.items advice.notes.items new
  pub fits : Fits image known.rom.now known.entries.now known.cases.now
  pub within : length (regions_text new.regions) ≤ text_limit
  pub answer_is : answer ≡ prints (regions_text new.regions) (notes_status advice.notes.items)

-- what is known by the options, or the board in their place: ranges, where data is RAM and devices, entries and cases; the handler of an
-- interrupt and the address of a case are entries, too
pub record AreOptions (arguments : SuggestArguments) (board : Option (List Line)) (rom ram : List Range) (entries : List ℕ) (cases : List DeclaredCase) : Type 0 where
  pub is_rom : AreRangesIn Rom board (map (λ range. range.now) arguments.rom.items) rom
  pub is_ram : AreDataRangesIn board (map (λ range. range.now) arguments.ram.items) ram
  pub are_cases : AreCasesWritten (map (λ case. case.now) arguments.cases.items) cases
  pub entries_written : All (λ entry. IsWordText entry.now) arguments.entries.items
  pub are_entries : entries ≡ map (λ entry. word_value entry.now) arguments.entries.items
      ++ (interrupts_in board [] ++ map (λ case. case.at) cases)

-- they write nothing such
abbrev pub HaveNoOptions : SuggestArguments → Option (List Line) → Type 0
HaveNoOptions arguments board = (rom ram : List Range) (entries : List ℕ) (cases : List DeclaredCase) → AreOptions arguments board rom ram entries cases → ⊥

-- the advice on the image of a file, with what is known by the options or the board
pub record AnswersAdvice (arguments : SuggestArguments) (board : Option (List Line)) (files : List FileValue) (answer : AnswerValue) : Type 0 where
  pub file : FileValue
  pub files_are : files ≡ file ∷ []
  pub image : Located
  pub contents : SpellsImage file.bytes (without_regions image)
  pub known : Known
  pub options : AreOptions arguments board known.rom.now known.ram.now known.entries.now known.cases.now
  pub advice : Advice
  pub advises : AdvisesRegions image known advice answer

pub record AreSuggestArguments (matches : ArgMatches) (arguments : SuggestArguments) : Type 0 where
  pub image : arguments.image.now ≡ argument_text matches (codes "IMAGE")
  pub rom : map (λ range. range.now) arguments.rom.items ≡ argument_values matches (codes "rom-range")
  pub ram : map (λ range. range.now) arguments.ram.items ≡ argument_values matches (codes "ram-range")
  pub board : IsBoardPath matches arguments.board
  pub entries : map (λ entry. entry.now) arguments.entries.items ≡ argument_values matches (codes "entry")
  pub cases : map (λ case. case.now) arguments.cases.items ≡ argument_values matches (codes "case")

-- ---- faults

-- a fault of what the options say of the image
abbrev pub IsUnfit : AdviceFault → Type 0
IsUnfit (Unfit fault) = Unit {0}
IsUnfit TooLong = ⊥
IsUnfit Memory = ⊥

abbrev pub advice_fault : LengthFault → AdviceFault
advice_fault too.TooLong = TooLong
advice_fault too.Memory = Memory
