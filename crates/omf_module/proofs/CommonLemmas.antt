-- Commons of a record are taken one after another.
use Rattle.std.proofs.Common.{◌≡◌, ℕ, ◌<◌, true, ◌&&◌, List, [], ◌∷◌, ◌++◌, length, map, Ok, Err, refl, sym, ap, subst, ◌∙◌, append_assoc, IsTrue, arith}
use Rattle.std.specs.List.{flat_map, list_all}
use Rattle.std.proofs.lemmas.Bool.{and_from}
use Rattle.std.proofs.lemmas.List.{append-nil, map-append}
use Rattle.std.proofs.lemmas.List.Folds.{list_all-append}
use Rattle.std.proofs.lemmas.Grind.{flat_map-append}
use Rattle.omf_core.specs.Name.{is_name}
use Rattle.omf_core.specs.SegmentId.{is_common_id}
use Rattle.omf_body.specs.declared.entries.CommonEntry.{CommonEntry}
use Rattle.omf_body.specs.declared.fault.FieldFault.{FieldFault}
use Rattle.omf_body.specs.Entries.{common_bytes, common_layout}
use Rattle.omf_module.specs.declared.fault.Cause.{Cause}
use Rattle.omf_model.specs.declared.symbols.Common.{Common}
use Rattle.omf_model.specs.Rules.{each_after, is_new_common}
use Rattle.omf_module.specs.Spelled.{read_new_common, FaultsCommons, here, later, commons_cause}
use Rattle.omf_module.specs.Reading.{common_of, RefusesCommons}
use Rattle.omf_module.proofs.ListLemmas.{each_after_push}
use Rattle.omf_model.specs.SoundParts.{new_common}

-- what was taken, and what is left
pub record CommonsSoFar (before : List Common) (bytes : List ℕ) (now : List Common) (rest : List ℕ) : Type 0 where
  pub front : List CommonEntry
  pub joined : bytes ≡ flat_map common_bytes front ++ rest
  pub sound : IsTrue (list_all common_layout.is_sound front)
  pub all : now ≡ before ++ map common_of front
  pub new : IsTrue (each_after is_new_common before (map common_of front))
  pub later_fault : (fault : FieldFault) → FaultsCommons now rest fault → FaultsCommons before bytes fault

pub one_taken : (before : List Common) (bytes : List ℕ) (now : List Common) (rest after : List ℕ) (e : CommonEntry)
    → CommonsSoFar before bytes now rest
    → read_new_common now rest ≡ Ok (common_of e, after)
    → rest ≡ common_bytes e ++ after
    → IsTrue (is_name e.name)
    → IsTrue (is_new_common now (common_of e))
    → CommonsSoFar before bytes (now ++ common_of e ∷ []) after
one_taken before bytes now rest after e s read spelled named new =
    let flat : flat_map common_bytes (s.front ++ e ∷ []) ≡ flat_map common_bytes s.front ++ common_bytes e =
    flat_map-append common_bytes s.front (e ∷ [])
    ∙ ap (λ (b : List ℕ). flat_map common_bytes s.front ++ b) (append-nil (common_bytes e)) in
    let mapped : map common_of (s.front ++ e ∷ []) ≡ map common_of s.front ++ common_of e ∷ [] =
    map-append common_of s.front (e ∷ []) in
    record {
      front = s.front ++ e ∷ [];
      joined = s.joined ∙ (ap (λ (b : List ℕ). flat_map common_bytes s.front ++ b) spelled
          ∙ (sym (append_assoc (flat_map common_bytes s.front) (common_bytes e) after)
          ∙ ap (λ (b : List ℕ). b ++ after) (sym flat)));
      sound = list_all-append common_layout.is_sound s.front (e ∷ [])
          ∙ and_from (list_all common_layout.is_sound s.front) ((is_common_id e.id && is_name e.name) && true) s.sound
          (and_from (is_common_id e.id && is_name e.name) true
          (and_from (is_common_id e.id) (is_name e.name) (new_common now (common_of e) new).id named) refl);
      all = ap (λ (b : List Common). b ++ common_of e ∷ []) s.all
          ∙ (append_assoc before (map common_of s.front) (common_of e ∷ []) ∙ ap (λ (b : List Common). before ++ b) (sym mapped));
      new = subst (λ (b : List Common). each_after is_new_common before b ≡ true) (sym mapped)
          (each_after_push is_new_common before (map common_of s.front) (common_of e) s.new
          (subst (λ (b : List Common). is_new_common b (common_of e) ≡ true) s.all new));
      later_fault = λ fault f. s.later_fault fault (later now (common_of e) rest after fault read f);
    }

pub refused : (before : List Common) (bytes : List ℕ) (now : List Common) (rest : List ℕ) (fault : FieldFault) (why : Cause)
    → CommonsSoFar before bytes now rest → 0 < length rest → read_new_common now rest ≡ Err fault → why ≡ commons_cause fault
    → RefusesCommons before bytes why
refused before bytes now rest fault why s some faulted is =
    record { fault = fault; is = is; faults = s.later_fault fault (here now rest fault some faulted) }

pub not_empty : (rest : List ℕ) → (rest ≡ [] → ⊥) → 0 < length rest
not_empty [] some = absurd (some refl)
not_empty (b ∷ bs) some = omega arith
