-- What commands print of an image, and their exit statuses. (The texts are those of the crates below; that a refusal is printed alone,
-- with status 1, is this project's own.)
use Rattle.std.specs.Prelude.{◌≡◌, ◌<◌, ◌==◌, ◌&&◌, ℕ, Bool, true, false, List, [], Option, None, Some, All, codes, length, map, slice_index_or, if◌then◌else◌}
use Rattle.omf_model.specs.declared.symbols.Public.{Public}
use Rattle.decode80.specs.declared.fetching.Fetched.{Fetched}
use Rattle.image80.specs.{declared.range.Range.Range, Image.Located, Range.in_range, Regions.Areas, Regions.in_code, Regions.in_data}
use Rattle.image80_source.specs.Source.{IsSourceOf}
use Rattle.image80_text.specs.{Listing.listing_of, NameText.labelled_text, NameText.named_text}
use Rattle.verify80.specs.{Looking.code_of, Boards.SetsStack, Reached.AreReached, Vouched.Voucher}
use Rattle.verify80_calls.specs.Nodes.{HasItsCalls, heading_of, headings}
use Rattle.verify80_calls.specs.{declared.graph.call_graph.Node.Node, GraphText.graph_text, ListText.list_text}
use Rattle.verify80_stores.specs.Boards.{PromiseHoldsOnBoards, PromiseHoldsOnQuietBoards, is_quiet}
use Rattle.verify80_stores.specs.{declared.stores.Stores.Stores, Stores.AreStoresOf, StoresText.stores_text_of}
use Rattle.loader80_trace.specs.Cover.{ListsReached}
use Rattle.plm80_console.specs.{Answer.AnswerValue, Answer.prints, Journal.FileValue, Ranges.AreRangesOf}
use Rattle.board80.specs.declared.line.Line.{Line}
use Rattle.plm80_boards.specs.Quiet.{IsQuietIn}
use Rattle.plm80_names.specs.{Printed.named_report, Verdict.AnswersProgram, Verdict.AnswersVerdict, Arguments.asks_names}
use Rattle.plm80_programs.specs.Followed.{AnswersFollowed, ListsFollowedCode, ListsFollowedSource}
use Rattle.plm80_programs.specs.Reached.{AnswersReach, ShowsCalls, ShowsCode, ShowsSource}
use Rattle.plm80_programs.specs.declared.stores.StoresArguments.{StoresArguments}

-- a text that says something is printed, with status 0
pub record PrintsText (Says : List ℕ → Type 0) (answer : AnswerValue) : Type 0 where
  pub text : List ℕ
  pub says : Says text
  pub answer_is : answer ≡ prints text 0

-- ---- check

-- the report, with the names of procedures
abbrev pub Reports : List Public → Voucher → (text : List ℕ) → Type 0
Reports publics program text = text ≡ named_report program publics

abbrev pub PrintsReport : Located → List Public → AnswerValue → Type 0
PrintsReport image publics answer = AnswersVerdict (λ program. PrintsText (Reports publics program)) image publics answer

-- ---- list

-- the instructions to which the program may come, each with the line of its name
pub record ListsCode (publics : List Public) (program : Voucher) (text : List ℕ) : Type 0 where
  pub listed : List ℕ
  pub reached : ListsReached program.image listed
  pub text_is : text ≡ labelled_text publics false listed

-- a source of the image in which nothing is an instruction but those to which the program may come
pub record ListsSource (publics : List Public) (program : Voucher) (text : List ℕ) : Type 0 where
  pub table : List (Option Fetched)
  pub reached : AreReached (code_of program.image) table
  pub source : IsSourceOf program.image publics table text

-- a source of an image in which only code is instructions
pub record IsCodeSource (image : Located) (publics : List Public) (text : List ℕ) : Type 0 where
  pub table : List (Option Fetched)
  pub code : (at : ℕ) → in_code image.regions at ≡ false → slice_index_or table at None ≡ None
  pub source : IsSourceOf image publics table text

-- the code, or a source: what the program reaches of it, or all of it, whether the verifier accepts it or not; of what walks reach of a
-- program that is refused, and not followed, nothing is proved
abbrev pub PrintsListing : (reached source : Bool) → Located → List Public → AnswerValue → Type 0
PrintsListing true false image publics answer =
    AnswersFollowed (λ program. PrintsText (ListsCode publics program)) (ShowsCode image publics) (ListsFollowedCode image publics) image answer
PrintsListing false false image publics answer = answer ≡ prints (labelled_text publics false (listing_of image)) 0
PrintsListing true true image publics answer =
    AnswersFollowed (λ program. PrintsText (ListsSource publics program)) (ShowsSource image publics) (ListsFollowedSource image publics) image answer
PrintsListing false true image publics answer = PrintsText (IsCodeSource image publics) answer

-- ---- calls

-- the text of a program's calls: a graph, or lines
abbrev pub calls_text : (dot : Bool) → Located → List Public → List Node → List ℕ
calls_text true image publics nodes = graph_text image publics nodes
calls_text false image publics nodes = list_text image publics nodes

-- the procedures of a program, each with its bound and exactly its calls
pub record IsCallsText (dot : Bool) (publics : List Public) (program : Voucher) (text : List ℕ) : Type 0 where
  pub nodes : List Node
  pub procedures : map heading_of nodes ≡ headings program
  pub calls : All (HasItsCalls (code_of program.image)) nodes
  pub text_is : text ≡ calls_text dot program.image publics nodes

abbrev pub PrintsCalls : (dot : Bool) → Located → List Public → AnswerValue → Type 0
PrintsCalls dot image publics answer = AnswersReach (λ program. PrintsText (IsCallsText dot publics program)) (ShowsCalls dot image publics) image answer

-- ---- stores

-- the exit status of the stores of a program: 0 if none of them, no jump and no use of SP is listed
abbrev pub stores_status : Stores → ℕ
stores_status stores =
    if (length stores.open.items == 0 && length stores.open_jumps.items == 0) && stores.sets_stack then 0 else 1

-- the lines of a program's stores, with the names of their addresses
abbrev pub stores_lines : (quiet : List Range) → Located → List Public → Stores → List ℕ
stores_lines quiet image publics stores =
    named_text image.regions.code publics (codes "JUMP ") (named_text image.regions.code publics (codes "STORE ")
    (stores_text_of image.start quiet stores.sets_stack stores.addresses.items stores.open.items stores.jumps.items
    stores.open_jumps.items))

-- What is listed of a program is so in all of its runs, and on every board whose devices leave the quiet addresses as they are; on every
-- board if there are none.
pub record ListsStores (quiet : List Range) (publics : List Public) (program : Voucher) (answer : AnswerValue) : Type 0 where
  pub stores : Stores
  pub listed : AreStoresOf program.image stores.addresses.items stores.open.items stores.jumps.items stores.open_jumps.items
  pub boards : quiet ≡ [] → PromiseHoldsOnBoards program.image program.stack_bytes stores.open.items stores.open_jumps.items
  pub quiet_boards : PromiseHoldsOnQuietBoards program.image (is_quiet program.image.regions quiet) program.stack_bytes
      stores.open.items stores.open_jumps.items
  pub stack : stores.sets_stack ≡ true → SetsStack program.image
  pub answer_is : answer ≡ prints (stores_lines quiet program.image publics stores) (stores_status stores)

-- each address of a range is data
abbrev pub IsAllData : Areas → Range → Type 0
IsAllData regions range = (at : ℕ) → at < 65536 → in_range range at ≡ true → in_data regions at ≡ true

-- the ranges that the options name are data; on a board they name none
abbrev pub AreNamedData : Option (List Line) → Areas → (named : List Range) → Type 0
AreNamedData None regions named = All (IsAllData regions) named
AreNamedData (Some board) regions named = Unit {0}

-- the quiet ranges are data; the stores are listed, or the refusal
pub record PrintsStores (quiet : List Range) (image : Located) (publics : List Public) (answer : AnswerValue) : Type 0 where
  pub are_data : All (IsAllData image.regions) quiet
  pub verdict : AnswersVerdict (ListsStores quiet publics) image publics answer

-- the same with quiet ranges that are named, or on a board with RAM of it
pub record PrintsStoresOn (board : Option (List Line)) (named : List Range) (image : Located) (publics : List Public) (answer : AnswerValue) : Type 0 where
  pub quiet : List Range
  pub is_quiet : IsQuietIn board image.regions named quiet
  pub prints_stores : PrintsStores quiet image publics answer

-- the same of two files, with the ranges that the options write
pub record AnswersStores (arguments : StoresArguments) (board : Option (List Line)) (files : List FileValue) (answer : AnswerValue) : Type 0 where
  pub named : List Range
  pub written : AreRangesOf (map (λ range. range.now) arguments.quiet.items) named
  pub is : AnswersProgram (PrintsStoresOn board named) (asks_names arguments.files) files answer
