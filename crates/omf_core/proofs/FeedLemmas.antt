-- The count of the records that bytes hold, their first fault, and what stays of it whatever bytes follow.
use Rattle.std.proofs.Common.{◌≡◌, inl, inr, Option, ℕ, ◌+◌, ◌<◌, ◌≤◌, ◌==◌, ◌&&◌, not, Bool, true, false, if◌then◌else◌, List, [], ◌∷◌}
use Rattle.std.proofs.Common.{◌++◌, length, drop, None, Some, IsTrue, suc, refl, sym, subst, ap, ◌∙◌, arith, true≢false, get_or, Fits, w8}
use Rattle.std.specs.List.{All, list_all}
use Rattle.std.proofs.lemmas.Bool.{and_parts, cases_lt, eqb-true}
use Rattle.std.proofs.lemmas.List.{drop_all, drop-append-le, get_or_default, length-append}
use Rattle.std.proofs.lemmas.List.Elements.{All-drop}
use Rattle.std.proofs.lemmas.List.Folds.{list_all-append}
use Rattle.omf_core.specs.declared.fault.RecordFault.{RecordFault}
use Rattle.omf_core.specs.declared.fault.RecordFault.TheVariants.{Truncated, BadSum, ZeroLength}
use Rattle.omf_core.specs.Fault.{is_truncation}
use Rattle.omf_core.specs.Record.{SpellsRecord, fault_at, is_truncated, has_zero_length, has_zero_sum}
use Rattle.omf_core.specs.Records.{RecordValue, SpellsRecords}
use Rattle.omf_core.specs.Feed.{goes_on, OpenRecords, OpenCount, EndedCount, ended, cut_off, FirstRecordFault, LastingRecordFault, ReadsUpTo}
use Rattle.omf_core.specs.Laws.{OtherFaultsStay, TruncatedCanBeSpoilt}
use Rattle.omf_core.specs.Lasting.{stay_lasting, last_now}
use Rattle.omf_core.specs.FeedLaws.{OneRecordFault, OneCount, LastingFaultsLast, CountedHaveNone}
use Rattle.omf_core.proofs.Spelled.{no_fault_at_record, faults_stay, one_record, records_stay}
use Rattle.omf_core.proofs.SpelledRecords.{list_grows, lists_stay, same_first}
use Rattle.omf_core.proofs.Completed.{truncated_can_be_completed, can_be_spoilt}

no_record : (bytes : List ℕ) (at : ℕ) (f : RecordFault) → fault_at (drop at bytes) at ≡ Some f → (to kind : ℕ) (body : List ℕ) → SpellsRecord bytes at to kind body → ⊥
no_record bytes at f fault to kind body s =
    let none = no_fault_at_record bytes at to kind body s in
    cc

-- no record at this place goes on: a fault is there, or the end of the file
abbrev Stops : List ℕ → ℕ → Type 0
Stops bytes at = (r : RecordValue) → SpellsRecord bytes at (at + 4 + length r.body) r.kind r.body → IsTrue (goes_on r) → ⊥

fault_stops : (bytes : List ℕ) (at : ℕ) (f : RecordFault) → fault_at (drop at bytes) at ≡ Some f → Stops bytes at
fault_stops bytes at f fault r s going = no_record bytes at f fault (at + 4 + length r.body) r.kind r.body s

end_stops : (bytes : List ℕ) (at to : ℕ) (body : List ℕ) → SpellsRecord bytes at to 14 body → Stops bytes at
end_stops bytes at to body e r s going =
    impossible (r.kind == 14) (eq-true r.kind (one_record bytes at (at + 4 + length r.body) to r.kind 14 r.body body s e).0) going
  where
    eq-true : (k : ℕ) → k ≡ 14 → (k == 14) ≡ true
    eq-true k e = subst (λ (n : ℕ). (n == 14) ≡ true) (sym e) refl

    impossible : (b : Bool) → b ≡ true → IsTrue (not b) → ⊥
    impossible true e going = cc
    impossible false e going = cc

-- Records that go on are followed by those that do, up to one place at most.
one_stop : (bytes : List ℕ) (from to to' : ℕ) (records records' : List RecordValue)
    → SpellsRecords bytes from to records → SpellsRecords bytes from to' records'
    → IsTrue (list_all goes_on records) → IsTrue (list_all goes_on records')
    → Stops bytes to → Stops bytes to' → (to ≡ to') × (length records ≡ length records')
one_stop bytes from to to' [] [] a b going going' x y = (sym a ∙ b, refl)
one_stop bytes from to to' [] (s ∷ ss) a b going going' x y =
    absurd (subst (Stops bytes) (sym a) x s b.0 (and_parts (goes_on s) (list_all goes_on ss) going').0)
one_stop bytes from to to' (r ∷ rs) [] a b going going' x y =
    absurd (subst (Stops bytes) (sym b) y r a.0 (and_parts (goes_on r) (list_all goes_on rs) going).0)
one_stop bytes from to to' (r ∷ rs) (s ∷ ss) a b going going' x y =
    let first : r ≡ s = same_first bytes from r s a.0 b.0 in
    let rest : SpellsRecords bytes (from + 4 + length r.body) to' ss =
    subst (λ (v : RecordValue). SpellsRecords bytes (from + 4 + length v.body) to' ss) (sym first) b.1 in
    let same = one_stop bytes (from + 4 + length r.body) to to' rs ss a.1 rest (and_parts (goes_on r) (list_all goes_on rs) going).1 (and_parts (goes_on s) (list_all goes_on ss) going').1 x y in
    (same.0, ap (λ (n : ℕ). suc n) same.1)

-- the same of open records
stops_once : (bytes : List ℕ) (to to' : ℕ) (records records' : List RecordValue)
    → OpenRecords bytes to records → OpenRecords bytes to' records' → Stops bytes to → Stops bytes to' → (to ≡ to') × (length records ≡ length records')
stops_once bytes to to' records records' a b = one_stop bytes 0 to to' records records' a.spelled b.spelled a.going_on b.going_on

-- the place where records end, as the place where they begin
moved : (bytes : List ℕ) (a b : ℕ) (f : RecordFault) → a ≡ b → fault_at (drop b bytes) b ≡ Some f → fault_at (drop a bytes) a ≡ Some f
moved bytes a b f same fault = subst (λ (p : ℕ). fault_at (drop p bytes) p ≡ Some f) (sym same) fault

pub one_record_fault : OneRecordFault
one_record_fault bytes f g x y =
    let same = (stops_once bytes x.at y.at x.records y.records x.before y.before (fault_stops bytes x.at f x.faults) (fault_stops bytes y.at g y.faults)).0 in
    let there = moved bytes x.at y.at g same y.faults in
    let here = x.faults in
    cc

-- Where a record ends the file, none of those before has a fault.
none_before_end : (bytes : List ℕ) (to count : ℕ) (f : RecordFault) → EndedCount bytes to count → FirstRecordFault bytes f → ⊥
none_before_end bytes to count f e x =
    let same = (stops_once bytes e.at x.at e.records x.records e.before x.before (end_stops bytes e.at to e.body e.ends) (fault_stops bytes x.at f x.faults)).0 in
    no_record bytes e.at f (moved bytes e.at x.at f same x.faults) to 14 e.body e.ends

cut_off_fault : (bytes : List ℕ) (to count : ℕ) → OpenCount bytes to count → fault_at (drop to bytes) to ≡ Some (Truncated to) → FirstRecordFault bytes (Truncated to)
cut_off_fault bytes to count o cut = record { at = to; records = o.records; before = o.before; faults = cut }

pub one_count : OneCount
one_count bytes count count' (ended to e) (ended to' e') =
    let same = (stops_once bytes e.at e'.at e.records e'.records e.before e'.before (end_stops bytes e.at to e.body e.ends) (end_stops bytes e'.at to' e'.body e'.ends)).1 in
    omega (arith, e.counted, e'.counted)
one_count bytes count count' (ended to e) (cut_off to' o cut) = absurd (none_before_end bytes to count (Truncated to') e (cut_off_fault bytes to' count' o cut))
one_count bytes count count' (cut_off to o cut) (ended to' e) = absurd (none_before_end bytes to' count' (Truncated to) e (cut_off_fault bytes to count o cut))
one_count bytes count count' (cut_off to o cut) (cut_off to' o' cut') =
    let same = (stops_once bytes to to' o.records o'.records o.before o'.before (fault_stops bytes to (Truncated to) cut) (fault_stops bytes to' (Truncated to') cut')).1 in
    omega (arith, o.counted, o'.counted)

pub lasting_faults_last : LastingFaultsLast
lasting_faults_last = stay_lasting FirstRecordFault

pub spelled_within : (bytes : List ℕ) (from to : ℕ) (records : List RecordValue) → from ≤ length bytes → SpellsRecords bytes from to records → to ≤ length bytes
spelled_within bytes from to [] inside a = omega (arith, a)
spelled_within bytes from to (r ∷ rs) inside a = spelled_within bytes (from + 4 + length r.body) to rs (omega (arith, a.0.within)) a.1

pub spelled_counted : (bytes : List ℕ) (from to : ℕ) (records : List RecordValue) → SpellsRecords bytes from to records → from + length records ≤ to
spelled_counted bytes from to [] a = omega (arith, a)
spelled_counted bytes from to (r ∷ rs) a = omega (arith, spelled_counted bytes (from + 4 + length r.body) to rs a.1)

-- the place of a fault
abbrev place_in : RecordFault → ℕ
place_in (Truncated place) = place
place_in (BadSum place) = place
place_in (ZeroLength place) = place

abbrev place_or : ℕ → Option RecordFault → ℕ
place_or at None = at
place_or at (Some f) = place_in f

-- is where its record should stand
place_is : (t z s : Bool) (at : ℕ) (f : RecordFault)
    → (if t then Some (Truncated at) else (if z then Some (ZeroLength at) else (if s then None else Some (BadSum at)))) ≡ Some f → place_in f ≡ at
place_is true z s at f e = ap (place_or at) (sym e)
place_is false true s at f e = ap (place_or at) (sym e)
place_is false false true at f e = cc
place_is false false false at f e = ap (place_or at) (sym e)

here_in : (rest : List ℕ) (at : ℕ) (f : RecordFault) → fault_at rest at ≡ Some f → place_in f ≡ at
here_in rest at f x = place_is (is_truncated rest) (has_zero_length rest) (has_zero_sum rest) at f x

-- A fault that isn't of a record cut off stays.
fault_stays : (rest more : List ℕ) (at : ℕ) (f : RecordFault) → fault_at rest at ≡ Some f → is_truncation f ≡ false → fault_at (rest ++ more) at ≡ Some f
fault_stays rest more at (Truncated place) x other = absurd (true≢false other)
fault_stays rest more at (BadSum place) x other =
    subst (λ (p : ℕ). fault_at rest p ≡ Some (BadSum place) → fault_at (rest ++ more) p ≡ Some (BadSum place)) (here_in rest at (BadSum place) x)
    (faults_stay rest more place).0 x
fault_stays rest more at (ZeroLength place) x other =
    subst (λ (p : ℕ). fault_at rest p ≡ Some (ZeroLength place) → fault_at (rest ++ more) p ≡ Some (ZeroLength place)) (here_in rest at (ZeroLength place) x)
    (faults_stay rest more place).1 x

is_inside : (bytes : List ℕ) (at : ℕ) (f : RecordFault) → fault_at (drop at bytes) at ≡ Some f → is_truncation f ≡ false → at < length bytes
is_inside bytes at f x other =
    elim (cases_lt at (length bytes)) [
      | inl within ↦ within
      | inr past ↦
          let none : fault_at (drop at bytes) at ≡ Some (Truncated at) = ap (λ (r : List ℕ). fault_at r at) (drop_all at bytes past) in
          absurd (other_than_cut f at other (sym x ∙ none))
    ]
  where
    other_than_cut : (g : RecordFault) (at : ℕ) → is_truncation g ≡ false → Some g ≡ Some (Truncated at) → ⊥
    other_than_cut (Truncated p) at is e = true≢false is
    other_than_cut (BadSum p) at is e = cc
    other_than_cut (ZeroLength p) at is e = cc

stays : (bytes more : List ℕ) (at : ℕ) (f : RecordFault) → fault_at (drop at bytes) at ≡ Some f → is_truncation f ≡ false
    → (is_truncation f ≡ false) × (at < length bytes) × (fault_at (drop at (bytes ++ more)) at ≡ Some f)
stays bytes more at f x other =
    let inside = is_inside bytes at f x other in (
      other,
      inside,
      ap (λ (rest : List ℕ). fault_at rest at) (drop-append-le at bytes more (omega arith)) ∙ fault_stays (drop at bytes) more at f x other,
    )

pub other_faults_stay : OtherFaultsStay
other_faults_stay bytes more at (Truncated place) x = inl (ap Truncated (here_in (drop at bytes) at (Truncated place) x))
other_faults_stay bytes more at (BadSum place) x = inr (stays bytes more at (BadSum place) x refl)
other_faults_stay bytes more at (ZeroLength place) x = inr (stays bytes more at (ZeroLength place) x refl)

pub truncated_can_be_spoilt : TruncatedCanBeSpoilt
truncated_can_be_spoilt bytes at inside cut =
    let more = can_be_spoilt (drop at bytes) at cut in
    let there : fault_at (drop at (bytes ++ more.0)) at ≡ Some (BadSum at) =
    ap (λ (rest : List ℕ). fault_at rest at) (drop-append-le at bytes more.0 inside) ∙ more.2 in
    (more.0, more.1, is_inside (bytes ++ more.0) at (BadSum at) there refl, there)

-- what is left from a place on, where more bytes follow
rest_grows : (bytes more : List ℕ) (at : ℕ) (records : List RecordValue) → SpellsRecords bytes 0 at records → drop at (bytes ++ more) ≡ drop at bytes ++ more
rest_grows bytes more at records s = drop-append-le at bytes more (spelled_within bytes 0 at records (omega arith) s)

pub open_stay : (bytes more : List ℕ) (at : ℕ) (records : List RecordValue) → OpenRecords bytes at records → OpenRecords (bytes ++ more) at records
open_stay bytes more at records o = record { spelled = lists_stay bytes more 0 at records o.spelled; going_on = o.going_on }

pub lasting : (bytes : List ℕ) (at count : ℕ) (f : RecordFault) → OpenCount bytes at count → fault_at (drop at bytes) at ≡ Some f → is_truncation f ≡ false → LastingRecordFault bytes f
lasting bytes at count f o x other more small = record {
  at = at;
  records = o.records;
  before = open_stay bytes more at o.records o.before;
  faults = ap (λ (rest : List ℕ). fault_at rest at) (rest_grows bytes more at o.records o.before.spelled) ∙ fault_stays (drop at bytes) more at f x other;
}

all_dropped : (bytes : List ℕ) (at : ℕ) → All (λ byte. byte < 256) bytes → All (λ byte. byte < 256) (drop at bytes)
all_dropped bytes at small = All-drop (λ byte. byte < 256) at bytes small

pub counted_have_none : CountedHaveNone
counted_have_none bytes count f small (ended to e) lasts =
    none_before_end bytes to count f e (last_now FirstRecordFault bytes f lasts)
counted_have_none bytes count f small (cut_off to o cut) lasts =
    let same : f ≡ Truncated to = one_record_fault bytes f (Truncated to) (last_now FirstRecordFault bytes f lasts) (cut_off_fault bytes to count o cut) in
    let whole = truncated_can_be_completed (drop to bytes) to (all_dropped bytes to small) cut in
    let x = lasts whole.0 whole.1 in
    let cut' : fault_at (drop x.at (bytes ++ whole.0)) x.at ≡ Some (Truncated to) = x.faults ∙ ap Some same in
    let rest = drop x.at (bytes ++ whole.0) in
    let here : to ≡ x.at = here_in rest x.at (Truncated to) cut' in
    let there : fault_at (drop to (bytes ++ whole.0)) to ≡ Some (Truncated to) = moved (bytes ++ whole.0) to x.at (Truncated to) here cut' in
    let none : fault_at (drop to (bytes ++ whole.0)) to ≡ None = ap (λ (r : List ℕ). fault_at r to) (rest_grows bytes whole.0 to o.records o.before.spelled) ∙ whole.2 in
    cc

-- ---- reading on

pub reads_stay : (bytes more : List ℕ) (at count : ℕ) (ends : Bool) → ReadsUpTo bytes at count ends → ReadsUpTo (bytes ++ more) at count ends
reads_stay bytes more at count false r = record { records = r.records; before = open_stay bytes more at r.records r.before; counted = r.counted }
reads_stay bytes more at count true r = record {
  at = r.at;
  records = r.records;
  body = r.body;
  before = open_stay bytes more r.at r.records r.before;
  ends = records_stay bytes more r.at at 14 r.body r.ends;
  counted = r.counted;
}

next_by : (bytes : List ℕ) (at to count kind : ℕ) (body : List ℕ) (ends : Bool) → (kind == 14) ≡ ends
    → OpenCount bytes at count → SpellsRecord bytes at to kind body → ReadsUpTo bytes to (count + 1) ends
next_by bytes at to count kind body false other o s =
    let next : RecordValue = record { kind = kind; body = body } in
    record {
      records = o.records ++ next ∷ [];
      before = record {
        spelled = list_grows bytes 0 at to o.records next o.before.spelled s;
        going_on = list_all-append goes_on o.records (next ∷ []) ∙ both (list_all goes_on o.records) (kind == 14) o.before.going_on other;
      };
      counted = omega (arith, o.counted, length-append o.records (next ∷ []));
    }
  where
    both : (a b : Bool) → a ≡ true → b ≡ false → (a && (not b && true)) ≡ true
    both true false e f = refl
    both true true e f = cc
    both false b e f = cc
next_by bytes at to count kind body true is o s = record {
  at = at;
  records = o.records;
  body = body;
  before = o.before;
  ends = subst (λ (k : ℕ). SpellsRecord bytes at to k body) (eqb-true kind 14 is) s;
  counted = omega (arith, o.counted);
}

pub reads_next : (bytes : List ℕ) (at to count kind : ℕ) (body : List ℕ) → OpenCount bytes at count → SpellsRecord bytes at to kind body → ReadsUpTo bytes to (count + 1) (kind == 14)
reads_next bytes at to count kind body o s = next_by bytes at to count kind body (kind == 14) refl o s

pub to_open : (bytes : List ℕ) (at count : ℕ) (ends : Bool) → not ends ≡ true → ReadsUpTo bytes at count ends → OpenCount bytes at count
to_open bytes at count false is r = r
to_open bytes at count true is r = absurd (true≢false (sym is))

pub to_ended : (bytes : List ℕ) (at count : ℕ) (ends : Bool) → not ends ≡ false → ReadsUpTo bytes at count ends → EndedCount bytes at count
to_ended bytes at count true is r = r
to_ended bytes at count false is r = absurd (true≢false is)

-- there are no more records than bytes
pub counted_below : (bytes : List ℕ) (at count : ℕ) → OpenCount bytes at count → count ≤ at
counted_below bytes at count o = omega (arith, o.counted, spelled_counted bytes 0 at o.records o.before.spelled)

pub cut_off_here : (rest : List ℕ) (at : ℕ) (f : RecordFault) → Some f ≡ fault_at rest at → is_truncation f ≡ true → fault_at rest at ≡ Some (Truncated at)
cut_off_here rest at (Truncated place) x is = sym x ∙ ap (λ (p : ℕ). Some (Truncated p)) (here_in rest at (Truncated place) (sym x))
cut_off_here rest at (BadSum place) x is = absurd (true≢false (sym is))
cut_off_here rest at (ZeroLength place) x is = absurd (true≢false (sym is))

-- the bytes of a slice
pub all_bytes : (bytes : List ℕ) → ((i : ℕ) → Fits w8 (get_or bytes i 0)) → All (λ byte. byte < 256) bytes
all_bytes bytes fits k d within =
    let same = get_or_default bytes k d 0 within in
    let fit = fits k in
    omega arith
