-- What `report` writes and prints of an image. (The page, and that it has a file of its own, are this project's own.)
use Rattle.std.specs.Prelude.{◌≡◌, ◌≢◌, ℕ, true, List, [], ◌++◌, All, map}
use Rattle.omf_model.specs.declared.symbols.Public.{Public}
use Rattle.image80.specs.Image.{Located}
use Rattle.page80.specs.Reading.{shown_in}
use Rattle.report80.specs.PageText.{image_text, program_text, refused_text}
use Rattle.verify80.specs.{Boards.SetsStack, Looking.code_of, Vouched.Voucher}
use Rattle.verify80_calls.specs.Nodes.{HasItsCalls, heading_of, headings}
use Rattle.verify80_calls.specs.declared.graph.call_graph.Node.{Node}
use Rattle.verify80_explain_text.specs.Reaching.{reach_text}
use Rattle.verify80_flow.specs.{declared.refusal.Refusal.Refusal, declared.refusal.Refusal.TheVariants.Memory, Faults.Holds}
use Rattle.verify80_stores.specs.{Boards.PromiseHoldsOnBoards, declared.stores.Stores.Stores, Stores.AreStoresOf}
use Rattle.plm80_console.specs.Answer.{AnswerValue, behind_file, prints, writes}
use Rattle.plm80_names.specs.{Printed.named_report, Verdict.IsAccepted}
use Rattle.plm80_programs.specs.declared.reached.Unproved.{Unproved}
use Rattle.plm80_programs.specs.{Printed.stores_lines, Reached.IsUnproved, Reached.head_lines}

-- a page shows the report of a program, its procedures with exactly their calls, its stores and jumps, and its names; what is listed of
-- the program is so in all of its runs, and on every board
pub record IsPageOf (publics : List Public) (program : Voucher) (html : List ℕ) : Type 0 where
  pub nodes : List Node
  pub procedures : map heading_of nodes ≡ headings program
  pub calls : All (HasItsCalls (code_of program.image)) nodes
  pub stores : Stores
  pub listed : AreStoresOf program.image stores.addresses.items stores.open.items stores.jumps.items stores.open_jumps.items
  pub boards : PromiseHoldsOnBoards program.image program.stack_bytes stores.open.items stores.open_jumps.items
  pub stack : stores.sets_stack ≡ true → SetsStack program.image
  pub shows : shown_in html ≡ image_text program.image (named_report program publics)
      ++ program_text program.image publics nodes (stores_lines [] program.image publics stores)

-- a page shows the refusals of an image, and the calls that are reached on the conditions that stand with these
abbrev pub IsRefusedPage : Located → List Public → Unproved → (html : List ℕ) → Type 0
IsRefusedPage image publics unproved html =
    shown_in html ≡ image_text image (head_lines image publics unproved) ++ refused_text publics (reach_text image publics unproved.reach.points.items)

-- the page goes to a file; that of an image that is refused is followed by its refusals, and the status is 1
pub data AnswersPage (out : List ℕ) (image : Located) (publics : List Public) (answer : AnswerValue) : Type 0 where
  accepted : (program : Voucher) (html : List ℕ) → IsAccepted image program → IsPageOf publics program html → answer ≡ writes out html []
      → AnswersPage out image publics answer
  refused : (refusal : Refusal) (unproved : Unproved) (html : List ℕ) → Holds (code_of image) refusal → refusal ≢ Memory → IsUnproved image refusal unproved
      → IsRefusedPage image publics unproved html → answer ≡ behind_file out html (prints (head_lines image publics unproved) 1)
      → AnswersPage out image publics answer
