-- What `explain` prints of an image. (This project's own.)
use Rattle.std.specs.Prelude.{◌≡◌, ◌≢◌, ◌+◌, ◌++◌, ◌∷◌, ◌&&◌, ◌==◌, ℕ, zero, suc, Bool, true, false, List, [], Option, None, Some, All, codes, length}
use Rattle.std.specs.{Fmt.decimal, List.flat_map, List.list_any}
use Rattle.omf_model.specs.declared.symbols.Public.{Public}
use Rattle.image80.specs.Image.{Located}
use Rattle.verify80_flow.specs.declared.refusal.Refusal.TheVariants.{Memory, StackTooSmall}
use Rattle.verify80_flow.specs.Refusal.{refusal_address, refusal_code}
use Rattle.verify80_flow.specs.{declared.refusal.Refusal.Refusal, declared.report.ProcRow.ProcRow, Accepted.IsMeasured, Faults.Holds}
use Rattle.verify80.specs.{Looking.code_of, Vouched.Voucher}
use Rattle.verify80_explain.specs.{declared.conditions.Conditions.Conditions, declared.explaining_all.FurtherRefusals.FurtherRefusals}
use Rattle.verify80_explain.specs.{declared.explaining_all.ShownRefusal.ShownRefusal, Conditions.AreShownIf, Order.AreShownInOrder, Shows.IsShown}
use Rattle.verify80_explain_text.specs.{Conditions.conditions_text, Explained.explanation_text, Printed.GoesOnWithChain, Printed.GoesOnWithWays, Printed.too_many}
use Rattle.plm80_console.specs.Answer.{AnswerValue, prints}
use Rattle.plm80_names.specs.{Printed.named_refusal_line, Printed.named_refusal_report, Printed.named_report, Verdict.IsAccepted}

-- ---- one refusal

-- the refusal of an image whose stack is too small: the line of each procedure, and the chain of calls that needs most
pub record ShowsOverrun (image : Located) (publics : List Public) (refusal : Refusal) (need : ℕ) (text : List ℕ) : Type 0 where
  pub rows : List ProcRow
  pub bytes : ℕ
  pub measured : IsMeasured (code_of image) rows bytes
  pub goes_on : GoesOnWithChain image publics need (named_refusal_report image.regions.code publics refusal rows) text

-- the bytes of stack that an image needs whose stack is too small
abbrev pub needed_stack : Refusal → Option ℕ
needed_stack (StackTooSmall need has) = Some need
needed_stack _ = None

-- the line of a refusal, and what shows it: that depends on whether its stack is too small
abbrev pub ShowsWith : Located → List Public → Refusal → (need : Option ℕ) → (text : List ℕ) → Type 0
ShowsWith image publics refusal (Some need) text = ShowsOverrun image publics refusal need text
ShowsWith image publics refusal None text =
    GoesOnWithWays image publics refusal (named_refusal_line image.regions.code publics refusal) text

abbrev pub ShowsRefusal : Located → List Public → Refusal → (text : List ℕ) → Type 0
ShowsRefusal image publics refusal text = ShowsWith image publics refusal (needed_stack refusal) text

-- ---- all refusals

-- the line of a refusal, and what shows it
abbrev pub shown_lines : Located → List Public → ShownRefusal → List ℕ
shown_lines image publics one =
    named_refusal_line image.regions.code publics one.refusal ++ explanation_text image publics one.refusal one.explanation

-- the line of a refusal, the conditions on which it is reached, and what shows it
abbrev pub conditional_lines : Located → List Public → Conditions → ShownRefusal → List ℕ
conditional_lines image publics conditions one =
    named_refusal_line image.regions.code publics one.refusal
    ++ (conditions_text image publics conditions ++ explanation_text image publics one.refusal one.explanation)

-- refusals that are reached on the same conditions
abbrev pub further_lines : Located → List Public → FurtherRefusals → List ℕ
further_lines image publics group = flat_map (conditional_lines image publics group.conditions) group.shown.items

-- that there is more to show than the limit allows
abbrev pub limit_line : (are_all : Bool) → List ℕ
limit_line true = []
limit_line false = too_many

-- how many refusals there are
abbrev pub count_line : ℕ → List ℕ
count_line count = codes "REFUSALS " ++ (decimal count ++ 10 ∷ [])

-- how many refusals are reached on conditions, if any are
abbrev pub further_count : List FurtherRefusals → ℕ
further_count further = length (flat_map (λ (group : FurtherRefusals). group.shown.items) further)

abbrev pub further_count_line : ℕ → List ℕ
further_count_line zero = []
further_count_line (suc count) = codes "ON CONDITIONS " ++ (decimal (suc count) ++ 10 ∷ [])

abbrev pub same_address : (one other : Option ℕ) → Bool
same_address None None = true
same_address (Some a) (Some b) = a == b
same_address _ _ = false

-- whether a refusal is another one: it has its number and its address
abbrev pub is_same_refusal : Refusal → Refusal → Bool
is_same_refusal refusal one = (refusal_code one == refusal_code refusal) && same_address (refusal_address one) (refusal_address refusal)

-- whether what is shown is a refusal
abbrev pub is_of : Refusal → ShownRefusal → Bool
is_of refusal one = is_same_refusal refusal one.refusal

-- a text goes on with the verifier's refusal and what shows it, unless that is shown already
pub data ShowsRest (image : Located) (publics : List Public) (refusal : Refusal) (shown : List ShownRefusal) (further : ℕ)
    (before text : List ℕ) : Type 0 where
  among : list_any (is_of refusal) shown ≡ true → further ≡ 0 → text ≡ before → ShowsRest image publics refusal shown further before text
  behind : (rest : List ℕ) → list_any (is_of refusal) shown ≡ false → ShowsRefusal image publics refusal rest → further ≡ 1
      → text ≡ before ++ rest → ShowsRest image publics refusal shown further before text

-- refusals by address and number, each once and with what shows it; that there are more, if a search says so; the verifier's refusal, if it is
-- none of these; how many are shown; and behind them those that are reached on conditions, with these
pub record ShowsAll (image : Located) (publics : List Public) (refusal : Refusal) (text : List ℕ) : Type 0 where
  pub shown : List ShownRefusal
  pub are_all : Bool
  pub further : List FurtherRefusals
  pub are_all_further : Bool
  pub own : ℕ
  pub lines : List ℕ
  pub in_order : AreShownInOrder shown
  pub each : All (IsShown (code_of image)) shown
  pub each_further : All (AreShownIf (code_of image)) further
  pub rest : ShowsRest image publics refusal shown own (flat_map (shown_lines image publics) shown ++ limit_line are_all) lines
  pub text_is : text ≡ lines ++ (count_line (length shown + own) ++ (flat_map (further_lines image publics) further
      ++ (limit_line are_all_further ++ further_count_line (further_count further))))

-- one refusal, or all that are found
abbrev pub ShowsRefused : (all : Bool) → Located → List Public → Refusal → (text : List ℕ) → Type 0
ShowsRefused true image publics refusal text = ShowsAll image publics refusal text
ShowsRefused false image publics refusal text = ShowsRefusal image publics refusal text

-- of a program that is accepted the report, and the chain of calls that needs most; of another one its refusal, or all, and what shows it
pub data PrintsExplanation (all : Bool) (image : Located) (publics : List Public) (answer : AnswerValue) : Type 0 where
  accepted : (program : Voucher) (text : List ℕ) → IsAccepted image program
      → GoesOnWithChain image publics program.stack_bytes (named_report program publics) text
      → answer ≡ prints text 0 → PrintsExplanation all image publics answer
  refused : (refusal : Refusal) (text : List ℕ) → Holds (code_of image) refusal → refusal ≢ Memory
      → ShowsRefused all image publics refusal text
      → answer ≡ prints text 1 → PrintsExplanation all image publics answer
