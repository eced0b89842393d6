-- What is printed of an image that the verifier refuses, if a table of states follows its program. (That it is followed then, and the form of
-- the lines, are this project's own.)
use Rattle.std.specs.Prelude.{◌≡◌, ◌≢◌, ℕ, Bool, false, List, [], ◌++◌, Option, codes, length}
use Rattle.std.specs.Fmt.{decimal}
use Rattle.omf_model.specs.declared.symbols.Public.{Public}
use Rattle.decode80.specs.declared.fetching.Fetched.{Fetched}
use Rattle.image80.specs.Image.{Located, memory_of}
use Rattle.image80_source.specs.Source.{IsSourceOf}
use Rattle.image80_text.specs.NameText.{labelled_text}
use Rattle.loader80_trace.specs.Cover.{cover_lines}
use Rattle.verify80.specs.{Looking.code_of, Vouched.Voucher}
use Rattle.verify80_flow.specs.{declared.refusal.Refusal.Refusal, declared.refusal.Refusal.TheVariants.Memory, Faults.Holds}
use Rattle.verify80_follow.specs.{Promise.PromiseOf, Reaching.AreFollowed, Reaching.places_of, Tables.IsFit}
use Rattle.verify80_stores.specs.Boards.{is_quiet}
use Rattle.plm80_console.specs.Answer.{AnswerValue, prints}
use Rattle.plm80_names.specs.Verdict.{IsAccepted}
use Rattle.plm80_programs.specs.declared.followed.FollowedCode.{FollowedCode}
use Rattle.plm80_programs.specs.declared.reached.Unproved.{Unproved}
use Rattle.plm80_programs.specs.Reached.{ShowsRefusals}

-- a table fits, and keeps the promise of followed programs on every board whose devices write to data alone; and the image's instructions at
-- which its states stand
pub record IsFollowedCode (image : Located) (code : FollowedCode) : Type 0 where
  pub is_set : Bool
  pub promise : PromiseOf false image (is_quiet image.regions []) is_set (places_of code.table []) code.table.ways.items
      code.table.listed code.table.bytes
  pub fit : IsFit image false (is_quiet image.regions []) is_set code.table []
  pub reached : AreFollowed image (places_of code.table []) code.reached.items

-- what is printed of an image that is refused: the code that is followed, with status 0, or what walks reach, with status 1
pub data SaysRefused (Shows : Unproved → (text : List ℕ) → Type 0) (Lists : FollowedCode → (text : List ℕ) → Type 0) (image : Located) (refusal : Refusal)
    (answer : AnswerValue) : Type 0 where
  followed : refusal ≢ Memory → (code : FollowedCode) (text : List ℕ) → IsFollowedCode image code → Lists code text → answer ≡ prints text 0
      → SaysRefused Shows Lists image refusal answer
  shown : ShowsRefusals Shows image refusal answer → SaysRefused Shows Lists image refusal answer

-- A program that is accepted has such an answer; of another one that is printed.
pub data AnswersFollowed (Answers : Voucher → AnswerValue → Type 0) (Shows : Unproved → (text : List ℕ) → Type 0)
    (Lists : FollowedCode → (text : List ℕ) → Type 0) (image : Located) (answer : AnswerValue) : Type 0 where
  accepted : (program : Voucher) → IsAccepted image program → Answers program answer → AnswersFollowed Answers Shows Lists image answer
  refused : (refusal : Refusal) → Holds (code_of image) refusal → SaysRefused Shows Lists image refusal answer → AnswersFollowed Answers Shows Lists image answer

-- that a table follows the program, and how many states it has
abbrev pub followed_words : FollowedCode → List ℕ
followed_words code = codes "FOLLOWED " ++ (decimal (length code.table.states.items) ++ codes " STATES\n")

-- instructions by their addresses, each behind the line of its name
abbrev pub code_lines : Located → List Public → (reached : List (Option Fetched)) → List ℕ
code_lines image publics reached = labelled_text publics false (cover_lines false [] image.regions (memory_of image.chunks) reached)

-- those at which its states stand
abbrev pub ListsFollowedCode : Located → List Public → FollowedCode → (text : List ℕ) → Type 0
ListsFollowedCode image publics code text = text ≡ followed_words code ++ code_lines image publics code.reached.items

-- a source, behind a comment of that, in which nothing else is an instruction
pub record ListsFollowedSource (image : Located) (publics : List Public) (code : FollowedCode) (text : List ℕ) : Type 0 where
  pub source : List ℕ
  pub is_source : IsSourceOf image publics code.reached.items source
  pub text_is : text ≡ codes "; " ++ (followed_words code ++ source)
