-- What follows for texts that are written as they come, and for an output that was taken back: laws whatever the texts are. (This project's own.)
use Rattle.std.specs.Prelude.{◌≡◌, ℕ, List, [], ◌++◌, Option, None, Some, Result, Ok, Err, OnErr, length, take, drop}
use Rattle.std.specs.Io.KnownBytes.{Appends}
use Rattle.std.proofs.Common.{refl, subst, sym, ap, append-nil, append_assoc, inl, inr, ◌∙◌}
use Rattle.std.proofs.lemmas.List.{take-append-drop}
use Rattle.std.proofs.Math.Seq.{take-append_seam}
use Rattle.std.proofs.KnownBytes.{Appends-nil, Appends-trans}
use Rattle.loader80_trace.specs.Traces.{AppendsFront}
use Rattle.plm80_console.specs.Answer.{AnswerValue, GaveUp, IsGivenUp, prints}
use Rattle.plm80_console.specs.Answer.GaveUp.{printing}
use Rattle.plm80_console.specs.Answer.IsGivenUp.{before as unmade}
use Rattle.plm80_console.specs.Journal.{IsTakenBack, Journal, StopsPrinting, and_printed, and_reported}
use Rattle.plm80_names.specs.Fronts.{LeavesFront}

pub on_err : {A E P : Type 0} (r : Result A E) → P → OnErr r P
on_err (Ok x) p = tt
on_err (Err e) p = p

-- nothing
pub no_front : (old : Option (List ℕ)) (whole : List ℕ) → AppendsFront old old whole
no_front old whole = record { front = []; rest = whole; parts = refl; appended = Appends-nil old }

-- all
pub all_front : (old new : Option (List ℕ)) (whole : List ℕ) → Appends old new whole → AppendsFront old new whole
all_front old new whole all = record { front = whole; rest = []; parts = sym (append-nil whole); appended = all }

-- as many bytes
pub first_bytes : (old new : Option (List ℕ)) (whole : List ℕ) (count : ℕ) → Appends old new (take count whole) → AppendsFront old new whole
first_bytes old new whole count some =
    record { front = take count whole; rest = drop count whole; parts = sym (take-append-drop count whole); appended = some }

-- a front part of the first of two texts
pub front_of_first : (old new : Option (List ℕ)) (first second : List ℕ) → AppendsFront old new first → AppendsFront old new (first ++ second)
front_of_first old new first second part = record {
  front = part.front;
  rest = part.rest ++ second;
  parts = ap (λ (l : List ℕ). l ++ second) part.parts ∙ append_assoc part.front part.rest second;
  appended = part.appended;
}

-- the first one, and a front part of the second
pub front_of_second : (old between new : Option (List ℕ)) (first second : List ℕ) → Appends old between first → AppendsFront between new second
    → AppendsFront old new (first ++ second)
front_of_second old between new first second whole part = record {
  front = first ++ part.front;
  rest = part.rest;
  parts = ap (λ (l : List ℕ). first ++ l) part.parts ∙ sym (append_assoc first part.front part.rest);
  appended = Appends-trans old between new first part.front whole part.appended;
}

-- ---- what was printed

-- to print no bytes does nothing
pub nothing_printed : (journal : Journal) → and_printed journal [] ≡ journal
nothing_printed journal = ap (λ (bytes : List ℕ). record journal { printed = bytes }) (append-nil journal.printed)

-- these bytes, which are printed then
pub printed : (before after : Option (List ℕ)) (lines : List ℕ) (old between new : Journal) → before ≡ Some [] → between ≡ old
    → Appends before after lines → IsTakenBack after between new → new ≡ and_printed old lines
printed before (Some bytes) lines old between new empty same appended taken =
    let all : bytes ≡ lines = subst (λ (w : Option (List ℕ)). Appends w (Some bytes) lines) empty appended in
    taken.1 ∙ ap (and_printed between) (sym taken.2 ∙ all) ∙ ap (λ (j : Journal). and_printed j lines) same
printed before None lines old between new empty same appended taken =
    absurd (subst (λ (w : Option (List ℕ)). Appends w None lines) empty appended)

-- a front part of them, behind which a fault was reported
pub front_stopped : (before after : Option (List ℕ)) (whole : List ℕ) (old lent between new : Journal) → before ≡ Some [] → lent ≡ old
    → AppendsFront before after whole → IsTakenBack after lent between → new ≡ and_reported between → StopsPrinting whole old new
front_stopped before after whole old lent between new empty same part taken is =
    let cut : take (length part.front) whole ≡ part.front =
    ap (take (length part.front)) part.parts ∙ take-append_seam part.front part.rest in (
      length part.front,
      is ∙ ap and_reported (printed before after part.front old lent between empty same part.appended taken
          ∙ ap (and_printed old) (sym cut)),
    )

-- the bytes of an answer that prints alone
pub stops_as_answer : (lines : List ℕ) (status : ℕ) (old new : Journal) → StopsPrinting lines old new → GaveUp (prints lines status) old new
stops_as_answer lines status old new stops = printing (subst (λ (j : Journal). StopsPrinting lines j new) (sym (nothing_printed old)) stops)

-- nothing was written, or a front part of a text with which an answer begins
pub stopped : (Part : List ℕ → Type 0) (Whole : AnswerValue → Type 0) (before after : Option (List ℕ)) (old lent between new : Journal)
    → before ≡ Some [] → lent ≡ old → LeavesFront Part before after → IsTakenBack after lent between → new ≡ and_reported between
    → ((text : List ℕ) → Part text → StopsPrinting text old new → IsGivenUp Whole old new) → IsGivenUp Whole old new
stopped Part Whole before after old lent between new empty same (inl none) taken is make =
    unmade (is ∙ ap and_reported (printed before after [] old lent between empty same none taken ∙ nothing_printed old))
stopped Part Whole before after old lent between new empty same (inr part) taken is make =
    make part.0 part.1 (front_stopped before after part.0 old lent between new empty same part.2 taken is)
