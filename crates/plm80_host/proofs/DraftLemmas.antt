-- Files of which one couldn't be written.
use Rattle.std.proofs.Common.{◌≡◌, Bool, true, false, ◌&&◌, if◌then◌else◌, not, List, [], ◌∷◌, Result, Ok, Err, IfErr, refl, ◌∙◌, ap, inl, inr, subst}
use Rattle.plm80_console.specs.{Answer.StopsWriting, Journal.FileValue, Journal.Journal}
use Rattle.plm80_console.specs.{Journal.and_written, Replaced.NotSettled, Replaced.new_file_value}
use Rattle.plm80_console.specs.declared.new_file.NewFile.{NewFile}
use Rattle.plm80_host.specs.Drafts.{NotBothSettled, in_order, is_in_place}
use Rattle.plm80_host.specs.declared.replacing.Draft.{Draft}

pub on_fault : {A E P : Type 0} (r : Result A E) → P → IfErr r (λ _. P)
on_fault (Ok x) p = tt
on_fault (Err e) p = p

abbrev pub both_values : (first second : NewFile) → List FileValue
both_values first second = new_file_value first ∷ new_file_value second ∷ []

-- one of two wasn't written, and the other one wasn't tried
pub first_unwritten : (first second : NewFile) (old new : Journal) → NotSettled first.path.now old new → StopsWriting (both_values first second) old new
first_unwritten first second old new fault = record {
  done = [];
  failed = new_file_value first;
  rest = new_file_value second ∷ [];
  are = inl refl;
  spoiled = fault.0;
  journal = fault.1;
}

pub second_unwritten : (first second : NewFile) (old new : Journal) → NotSettled second.path.now old new → StopsWriting (both_values first second) old new
second_unwritten first second old new fault = record {
  done = [];
  failed = new_file_value second;
  rest = new_file_value first ∷ [];
  are = inr refl;
  spoiled = fault.0;
  journal = fault.1;
}

-- two that were brought to their places in one order or the other
in_turn : (first second : NewFile) (old new : Journal) → NotBothSettled first second old new → StopsWriting (both_values first second) old new
in_turn first second old new (inl fault) = first_unwritten first second old new fault
in_turn first second old new (inr later) = record {
  done = new_file_value first ∷ [];
  failed = new_file_value second;
  rest = [];
  are = inl refl;
  spoiled = later.1.0;
  journal = later.2 ∙ ap (λ (j : Journal). and_written j first.path.now first.bytes.now) later.1.1;
}

in_reverse : (first second : NewFile) (old new : Journal) → NotBothSettled second first old new → StopsWriting (both_values first second) old new
in_reverse first second old new (inl fault) = second_unwritten first second old new fault
in_reverse first second old new (inr later) = record {
  done = new_file_value second ∷ [];
  failed = new_file_value first;
  rest = [];
  are = inr refl;
  spoiled = later.1.0;
  journal = later.2 ∙ ap (λ (j : Journal). and_written j second.path.now second.bytes.now) later.1.1;
}

abbrev ordered_by : (swapped : Bool) (first second : Draft) → Draft × Draft
ordered_by swapped first second = if swapped then (second, first) else (first, second)

by_order : (swapped : Bool) (first second : Draft) (old new : Journal)
    → NotBothSettled (ordered_by swapped first second).0.file (ordered_by swapped first second).1.file old new
    → StopsWriting (both_values first.file second.file) old new
by_order true first second old new fault = in_reverse first.file second.file old new fault
by_order false first second old new fault = in_turn first.file second.file old new fault

pub not_both : (first second : Draft) (ordered : Draft × Draft) (old new : Journal) → ordered ≡ in_order first second
    → NotBothSettled ordered.0.file ordered.1.file old new → StopsWriting (both_values first.file second.file) old new
not_both first second ordered old new is fault =
    by_order (is_in_place second && not (is_in_place first)) first second old new
    (subst (λ (p : Draft × Draft). NotBothSettled p.0.file p.1.file old new) is fault)
