-- What options say of an image, of which there is one reading.
use Rattle.plm80_regions.proofs.Names.{◌≡◌, ◌∙◌, ℕ, ◌<◌, ◌++◌, List, [], All, Bool, true, Option, None, Some, DeclaredCase, Journal, Range, ap, arith, inl, inr, length, refl, subst, sym}
use Rattle.std.specs.Prelude.{Contains, Result, Ok, Err, map, nat_lt, ◌&&◌, ◌∷◌, ◌⊎◌}
use Rattle.std.specs.Result.{is_ok}
use Rattle.std.proofs.Common.{get_or}
use Rattle.std.proofs.lemmas.Bool.{false≢true}
use Rattle.std.proofs.lemmas.List.{get_or-map, length-map}
use Rattle.std.proofs.lemmas.List.Elements.{All-append, All-contains, All-contains_itself, Contains-append_left, Contains-append_right}
use Rattle.board80.specs.declared.line.{Kind.TheVariants.Rom, Line.Line}
use Rattle.image80.specs.{Image.Located, Image.PlacedBytes, Regions.Areas, Regions.in_code}
use Rattle.loader80_text.specs.declared.inputs.fault.LengthFault.{LengthFault}
use Rattle.loader80_text.specs.declared.inputs.fault.LengthFault.TheVariants.{Memory, TooLong}
use Rattle.plm80_boards.specs.Boards.{AreInterruptsIn, interrupts_in}
use Rattle.plm80_boards.specs.RangeLaws.{one_list_in}
use Rattle.plm80_console.specs.{Answer.AnswerValue, Answer.GivesUp, AnswerLaws.wrong_files, NumberText.word_value}
use Rattle.plm80_console.specs.Journal.{Blames, FileValue, and_read_files, paths_of}
use Rattle.verify80_cases.specs.Suggested.{holds_pchl}
use Rattle.verify80_suggest.specs.Bytes.{may_be_code}
use Rattle.verify80_suggest.specs.Known.{Fits, FitsCase, FitsIn, fetch_in}
use Rattle.verify80_suggest.specs.Ranges.{Covers}
use Rattle.plm80_regions.specs.Suggest.{AreOptions, IsUnfit, advice_fault}
use Rattle.plm80_regions.specs.declared.suggest.SuggestArguments.{SuggestArguments}
use Rattle.plm80_regions.proofs.CaseTextLemmas.{each_fits}

-- without values none is wrong
pub no_interrupts : (board : Option (List Line)) → AreInterruptsIn board []
no_interrupts None = λ k d below. absurd (omega (arith, below))
no_interrupts (Some board) = tt

either : {A B C : Type 0} → (A → C) → (B → C) → A ⊎ B → C
either left right (inl a) = left a
either left right (inr b) = right b

ok_or_err : {A E : Type 0} (r : Result A E) → ((a : A) × (r ≡ Ok a)) ⊎ ((e : E) × (r ≡ Err e))
ok_or_err (Ok a) = inl (a, refl)
ok_or_err (Err e) = inr (e, refl)

-- a PCHL is an instruction
is_fetched : (code : ℕ → Bool) (image : Located) (at : ℕ) → holds_pchl (fetch_in code image at) ≡ true → is_ok (fetch_in code image at) ≡ true
is_fetched code image at is =
    either (λ found. ap is_ok found.1) (λ fault. absurd (false≢true (sym (ap holds_pchl fault.1) ∙ is))) (ok_or_err (fetch_in code image at))

-- what holds of a list holds of a part of it
of_part : {X : Type 0} (P : X → Type 0) (xs ys : List X) → ((x : X) → Contains xs x → Contains ys x) → All P ys → All P xs
of_part P xs ys part all = λ k d below. All-contains P ys (get_or xs k d) all (part (get_or xs k d) (All-contains_itself xs k d below))

-- an instruction begins at the address of each case that fits
each_at : (code : ℕ → Bool) (image : Located) (cases : List DeclaredCase) → All (FitsCase code image) cases
    → All (λ at. is_ok (fetch_in code image at) ≡ true) (map (λ (case : DeclaredCase). case.at) cases)
each_at code image cases fit = λ k e below.
    let at_of : DeclaredCase → ℕ = λ case. case.at in
    let d : DeclaredCase = record { at = 0; targets = [] } in
    let inside : k < length cases = omega (arith, below, length-map cases at_of) in
    subst (λ (at : ℕ). is_ok (fetch_in code image at) ≡ true) (sym (get_or-map at_of cases k d e inside))
    (is_fetched code image (get_or cases k d).at (fit k d inside).pchl)

-- what fits by one reading of the options fits by another
pub fits_by : (image : Located) (arguments : SuggestArguments) (board : Option (List Line)) (rom rom' ram ram' : List Range) (entries entries' : List ℕ)
    (cases cases' : List DeclaredCase) → AreOptions arguments board rom ram entries cases → AreOptions arguments board rom' ram' entries' cases'
    → Fits image rom' entries' cases' → Fits image rom entries cases
fits_by image arguments board rom rom' ram ram' entries entries' cases cases' is are fits' =
    let fits : Fits image rom entries' cases' =
    subst (λ (r : List Range). Fits image r entries' cases') (one_list_in Rom board (map (λ range. range.now) arguments.rom.items) rom' rom are.is_rom is.is_rom) fits' in
    let Begins : ℕ → Type 0 = λ at. is_ok (fetch_in (λ place. nat_lt place 65536 && may_be_code image.chunks rom place) image at) ≡ true in
    let words = map (λ entry. word_value entry.now) arguments.entries.items in
    let handlers = interrupts_in board [] in
    let ats = map (λ (case : DeclaredCase). case.at) cases' in
    let each = each_fits _ image (map (λ case. case.now) arguments.cases.items) cases cases' is.are_cases are.are_cases fits.each_case in
    let all = subst (All Begins) are.are_entries fits.each_entry in
    let behind = of_part Begins (handlers ++ ats) (words ++ (handlers ++ ats)) (Contains-append_right words (handlers ++ ats)) all in
    record {
      each_case = each;
      each_entry =
          subst (All Begins) (sym is.are_entries)
          (All-append Begins words (handlers ++ map (λ (case : DeclaredCase). case.at) cases)
          (of_part Begins words (words ++ (handlers ++ ats)) (Contains-append_left words (handlers ++ ats)) all)
          (All-append Begins handlers (map (λ (case : DeclaredCase). case.at) cases)
          (of_part Begins handlers (handlers ++ ats) (Contains-append_left handlers ats) behind) (each_at _ image cases each)));
    }

-- it is the bytes of an image alone that they fit
of_bytes : (code : ℕ → Bool) (image other : Located) → image.chunks ≡ other.chunks → (entries : List ℕ) (cases : List DeclaredCase)
    → FitsIn code image entries cases → FitsIn code other entries cases
of_bytes code image other same entries cases fits =
    let With : List PlacedBytes → Located = λ chunks. record image { chunks = chunks } in
    record {
      each_case = λ k d below. record {
        pchl = subst (λ (chunks : List PlacedBytes). holds_pchl (fetch_in code (With chunks) (get_or cases k d).at) ≡ true) same (fits.each_case k d below).pchl;
        targets = subst (λ (chunks : List PlacedBytes). All (λ at. is_ok (fetch_in code (With chunks) at) ≡ true) (get_or cases k d).targets) same
            (fits.each_case k d below).targets;
      };
      each_entry = subst (λ (chunks : List PlacedBytes). All (λ at. is_ok (fetch_in code (With chunks) at) ≡ true) entries) same fits.each_entry;
    }

pub fits_of : (image other : Located) → image.chunks ≡ other.chunks → (rom : List Range) (entries : List ℕ) (cases : List DeclaredCase)
    → Fits image rom entries cases → Fits other rom entries cases
fits_of image other same rom entries cases fits =
    subst (λ (chunks : List PlacedBytes). FitsIn (λ place. nat_lt place 65536 && may_be_code chunks rom place) other entries cases) same
    (of_bytes _ image other same entries cases fits)

-- with regions whose code is all bytes that may be
module _ (image value : Located) (areas : Areas) (rom : List Range) (entries : List ℕ) (cases : List DeclaredCase)
    (covers : Covers (may_be_code value.chunks rom) areas.code) where
  pub fits_base : image.chunks ≡ value.chunks → FitsIn (in_code areas) image entries cases → Fits value rom entries cases
  fits_base same fits =
      subst (λ (code : ℕ → Bool). FitsIn code value entries cases) (λ k at. covers.exact at k) (of_bytes (in_code areas) image value same entries cases fits)

  pub base_fits : image.chunks ≡ value.chunks → Fits value rom entries cases → FitsIn (in_code areas) image entries cases
  base_fits same fits =
      of_bytes (in_code areas) value image (sym same) entries cases
      (subst (λ (code : ℕ → Bool). FitsIn code value entries cases) (λ k at. sym (covers.exact at) k) fits)

-- a text of regions is none of what options say
pub of_length : (fault : LengthFault) → IsUnfit (advice_fault fault) → ⊥
of_length TooLong is = is
of_length Memory is = is

-- what is wrong of the one file that was read
pub wrong_one : {Wrong : Type 0} (Answers : List FileValue → AnswerValue → Type 0) (path : List ℕ) (old between new : Journal) (file : FileValue)
    → file.path ≡ path → between ≡ and_read_files old (file ∷ []) → (Wrong → (answer : AnswerValue) → Answers (file ∷ []) answer → ⊥)
    → Blames Wrong between new → GivesUp Answers (path ∷ []) old new
wrong_one {Wrong = Wrong} Answers path old between new file named read none blames =
    wrong_files Answers (path ∷ []) old between new (file ∷ []) (ap (λ (p : List ℕ). p ∷ []) named) read
    (λ w others answer all answers. by_others others w answer all answers) blames
  where
    by_others : (others : List FileValue) → Wrong → (answer : AnswerValue) → paths_of ((file ∷ []) ++ others) ≡ path ∷ []
        → Answers ((file ∷ []) ++ others) answer → ⊥
    by_others [] w answer all answers = none w answer answers
    by_others (other ∷ others) w answer all answers = omega (arith, ap length all)
