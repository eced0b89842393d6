-- What `cases` prints, writes and reports of an image.
-- (That each PCHL has its line, its note or both, is this project's own.)
use Rattle.std.specs.Prelude.{◌≡◌, ◌≤◌, ◌<◌, ℕ, Bool, true, false, List, [], ◌∷◌, All, None, Option, Some, length, map, filter, filter_map, if◌then◌else◌}
use Rattle.std.specs.List.{list_any, range_with_len}
use Rattle.image80.specs.{Case.DeclaredCase, Image.Located, Regions.Areas, RegionsText.cases_text}
use Rattle.stream80.specs.WholeText.{text_limit}
use Rattle.verify80_cases.specs.Suggested.{Finding, IsFinding, IsSearched, case_of, is_open}
use Rattle.verify80_cases.specs.declared.search.Note.TheVariants.{MayEnd, Tableless, Returns}
use Rattle.verify80_cases.specs.{declared.search.Note.Note, declared.search.SuggestedCase.SuggestedCase, Added.AddsCases}
use Rattle.plm80_console.specs.{Answer.AnswerValue, Answer.prints, Journal.FileValue}
use Rattle.plm80_names.specs.Verdict.{AnswersProgram}
use Rattle.plm80_regions.specs.declared.cases.FoundCase.{FoundCase}

-- whether a note is that of a PCHL without a table
abbrev pub lacks_table : Note → Bool
lacks_table (MayEnd table _) = false
lacks_table (Tableless at) = true
lacks_table (Returns at) = true

-- the exit status of notes: 1 if there is one of a PCHL without a table
abbrev pub notes_status : List Note → ℕ
notes_status notes = if list_any lacks_table notes then 1 else 0

-- what is found of a PCHL at an address that is reached and not declared: its case, if a table is seen for it, and its note; elsewhere
-- nothing is
pub data IsFoundAt (image : Located) (reached taken : List Bool) (at : ℕ) (found : FoundCase) : Type 0 where
  here : is_open image reached at ≡ true → (suggested : Option SuggestedCase)
      → IsFinding image reached taken (record { at = at; found = suggested; note = found.note }) → found.case ≡ case_of suggested
      → IsFoundAt image reached taken at found
  nothing : is_open image reached at ≡ false → found.case ≡ None → found.note ≡ None → IsFoundAt image reached taken at found

-- the cases and the notes of the PCHLs below an address: of exactly those that are reached and not declared, by address
pub record AreFoundBelow (image : Located) (reached taken : List Bool) (limit : ℕ) (cases : List DeclaredCase) (notes : List Note) : Type 0 where
  pub findings : List Finding
  pub each : All (IsFinding image reached taken) findings
  pub of_all : map (λ (finding : Finding). finding.at) findings ≡ filter (is_open image reached) (range_with_len 0 limit)
  pub cases_are : cases ≡ filter_map (λ (finding : Finding). case_of finding.found) findings
  pub notes_are : notes ≡ filter_map (λ (finding : Finding). finding.note) findings

-- the cases that the tables of an image suggest that is gone through from its start and from further entries, and what there is to say of
-- its PCHLs
pub record FindsCases (image : Located) (entries : List ℕ) (cases : List DeclaredCase) (notes : List Note) : Type 0 where
  pub reached : List Bool
  pub taken : List Bool
  pub searched : IsSearched image entries reached taken
  pub found : AreFoundBelow image reached taken 65536 cases notes

-- the lines of the cases that the tables of an image suggest, up to an address, have more bytes than a text of regions may have
pub record HasLongCases (image : Located) (entries : List ℕ) : Type 0 where
  pub reached : List Bool
  pub taken : List Bool
  pub searched : IsSearched image entries reached taken
  pub limit : ℕ
  pub cases : List DeclaredCase
  pub notes : List Note
  pub found : AreFoundBelow image reached taken limit cases notes
  pub too_long : text_limit < length (cases_text cases)

-- the regions with cases, as a file that is written; none if no path is given
abbrev pub AreAddedTo : (out : Option (List ℕ)) → Areas → List DeclaredCase → List FileValue → Type 0
AreAddedTo None areas cases files = files ≡ []
AreAddedTo (Some path) areas cases files =
    (text : List ℕ) × AddsCases areas cases text × (length text ≤ text_limit) × (files ≡ record { path = path; bytes = text } ∷ [])

-- What is answered of an image: the lines of its cases are printed; with a path, its regions with them go to the file there, as a text
-- of version 2. The status is that of the notes.
pub record PrintsCases (out : Option (List ℕ)) (image : Located) (answer : AnswerValue) : Type 0 where
  pub cases : List DeclaredCase
  pub notes : List Note
  pub found : FindsCases image [] cases notes
  pub files : List FileValue
  pub added : AreAddedTo out image.regions cases files
  pub answer_is : answer ≡ record { first = []; files = files; lines = cases_text cases; status = notes_status notes }

-- the lines of the cases of an image up to an address, each of which is right
pub record BeginsCases (image : Located) (text : List ℕ) : Type 0 where
  pub reached : List Bool
  pub taken : List Bool
  pub searched : IsSearched image [] reached taken
  pub limit : ℕ
  pub cases : List DeclaredCase
  pub notes : List Note
  pub found : AreFoundBelow image reached taken limit cases notes
  pub text_is : text ≡ cases_text cases

-- what is given up: that, or such lines, which are printed as they are found
pub data PrintsCasesInPart (out : Option (List ℕ)) (image : Located) (answer : AnswerValue) : Type 0 where
  whole : PrintsCases out image answer → PrintsCasesInPart out image answer
  begun : BeginsCases image answer.lines → answer ≡ prints answer.lines 0 → PrintsCasesInPart out image answer

-- the same of two files
pub record AnswersCases (out : Option (List ℕ)) (files : List FileValue) (answer : AnswerValue) : Type 0 where
  pub is : AnswersProgram (λ image publics. PrintsCases out image) false files answer

pub record AnswersCasesInPart (out : Option (List ℕ)) (files : List FileValue) (answer : AnswerValue) : Type 0 where
  pub is : AnswersProgram (λ image publics. PrintsCasesInPart out image) false files answer
