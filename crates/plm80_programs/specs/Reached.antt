-- What is printed of what walks reach of an image that the verifier refuses. (That it is printed, that nothing of it is proved to be all,
-- and the form of the lines, are this project's own.)
use Rattle.std.specs.Prelude.{◌≡◌, ◌≢◌, ◌==◌, if◌then◌else◌, ℕ, Bool, true, false, List, [], ◌∷◌, ◌++◌, Option, codes, length, map, slice_index_or}
use Rattle.std.specs.{Fmt.decimal, List.filter_map, List.flat_map, List.list_any}
use Rattle.omf_model.specs.declared.symbols.Public.{Public}
use Rattle.decode80.specs.declared.fetching.Fetched.{Fetched}
use Rattle.image80.specs.{Image.Located, Image.memory_of}
use Rattle.image80_source.specs.Source.{IsSourceOf}
use Rattle.image80_text.specs.NameText.{labelled_text}
use Rattle.loader80_trace.specs.Cover.{marked_lines}
use Rattle.verify80.specs.{Looking.code_of, Vouched.Voucher}
use Rattle.verify80_flow.specs.{declared.refusal.Refusal.Refusal, declared.refusal.Refusal.TheVariants.Memory, Faults.Holds, Refusal.refusal_address}
use Rattle.verify80_explain.specs.{declared.reaching.ReachedPoint.ReachedPoint, Reaching.AreReachedOn, Reaching.AreRefusalsOf}
use Rattle.verify80_explain_text.specs.{Conditions.reach_conditions, Reaching.reach_text, ReachGraph.graph_text}
use Rattle.verify80_follow.specs.Reaching.{AreFollowed}
use Rattle.plm80_console.specs.{Answer.AnswerValue, Answer.prints}
use Rattle.plm80_names.specs.{Printed.named_refusal_line, Verdict.IsAccepted}
use Rattle.plm80_programs.specs.declared.reached.Unproved.{Unproved}
use Rattle.plm80_programs.specs.Explanations.{is_same_refusal, limit_line}

-- refusals, and last the verifier's own, if none of them has its number and its address
abbrev pub with_own : (own : Refusal) → List Refusal → List Refusal
with_own own refusals = if list_any (is_same_refusal own) refusals then refusals else refusals ++ own ∷ []

-- what walks reach of an image that is refused, on the conditions that stand with it; and the refusals of these points, each once, with
-- the verifier's own
pub record IsUnproved (image : Located) (refusal : Refusal) (unproved : Unproved) : Type 0 where
  pub reached : AreReachedOn (code_of image) unproved.reach
  pub of_points : List Refusal
  pub are_of_points : AreRefusalsOf unproved.reach.points.items of_points
  pub refusals : unproved.refusals.items ≡ with_own refusal of_points

-- such a text is printed of what walks reach, and the status is 1
pub record ShowsRefusals (Shows : Unproved → (text : List ℕ) → Type 0) (image : Located) (refusal : Refusal) (answer : AnswerValue) : Type 0 where
  pub no_memory : refusal ≢ Memory
  pub unproved : Unproved
  pub is_unproved : IsUnproved image refusal unproved
  pub text : List ℕ
  pub shows : Shows unproved text
  pub answer_is : answer ≡ prints text 1

-- A program that is accepted has such an answer; of another one that is printed.
pub data AnswersReach (Answers : Voucher → AnswerValue → Type 0) (Shows : Unproved → (text : List ℕ) → Type 0) (image : Located) (answer : AnswerValue) : Type 0 where
  accepted : (program : Voucher) → IsAccepted image program → Answers program answer → AnswersReach Answers Shows image answer
  refused : (refusal : Refusal) → Holds (code_of image) refusal → ShowsRefusals Shows image refusal answer → AnswersReach Answers Shows image answer

-- that nothing is proved, and how many refusals there are
abbrev pub count_words : Unproved → List ℕ
count_words unproved = codes "NOT PROVED REFUSALS " ++ (decimal (length unproved.refusals.items) ++ 10 ∷ [])

-- the lines before what walks reach: the refusals; that not all was followed, if the search says so; and the conditions
abbrev pub head_lines : Located → List Public → Unproved → List ℕ
head_lines image publics unproved =
    count_words unproved ++ (flat_map (named_refusal_line image.regions.code publics) unproved.refusals.items
    ++ (limit_line unproved.reach.is_whole ++ reach_conditions image publics unproved.reach))

-- ---- calls

-- the calls that walks reach, as lines or as a graph
abbrev pub reached_calls : (dot : Bool) → Located → List Public → Unproved → List ℕ
reached_calls false image publics unproved = head_lines image publics unproved ++ reach_text image publics unproved.reach.points.items
reached_calls true image publics unproved = graph_text image publics (length unproved.refusals.items) unproved.reach.points.items

abbrev pub ShowsCalls : (dot : Bool) → Located → List Public → Unproved → (text : List ℕ) → Type 0
ShowsCalls dot image publics unproved text = text ≡ reached_calls dot image publics unproved

-- ---- list

-- whether an address is this one
abbrev pub is_place : (at place : ℕ) → Bool
is_place at place = place == at

-- the addresses that refusals name are marked, and no others
abbrev pub AreMarksOf : List Refusal → List Bool → Type 0
AreMarksOf refusals marks = (at : ℕ) → slice_index_or marks at false ≡ list_any (is_place at) (filter_map refusal_address refusals)

abbrev pub places_of : List ReachedPoint → List ℕ
places_of points = map (λ (point : ReachedPoint). point.standing.at) points

-- the instructions at which walks stand, each with the line of its name, those that are refused behind a line that says so
pub record ShowsCode (image : Located) (publics : List Public) (unproved : Unproved) (text : List ℕ) : Type 0 where
  pub table : List (Option Fetched)
  pub marks : List Bool
  pub reached : AreFollowed image (places_of unproved.reach.points.items) table
  pub marked : AreMarksOf unproved.refusals.items marks
  pub text_is : text ≡ head_lines image publics unproved
      ++ labelled_text publics false (marked_lines marks image.regions (memory_of image.chunks) table)

-- a source, behind a comment that nothing is proved, in which nothing is an instruction but those at which walks stand
pub record ShowsSource (image : Located) (publics : List Public) (unproved : Unproved) (text : List ℕ) : Type 0 where
  pub table : List (Option Fetched)
  pub source : List ℕ
  pub reached : AreFollowed image (places_of unproved.reach.points.items) table
  pub is_source : IsSourceOf image publics table source
  pub text_is : text ≡ codes "; " ++ (count_words unproved ++ source)
