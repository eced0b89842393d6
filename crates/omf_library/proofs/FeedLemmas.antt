-- What stays of a library whatever bytes follow, and what changes where its bytes end.
use Rattle.std.proofs.Common.{◌≡◌, ◌≢◌, inl, inr, ℕ, ◌+◌, ◌<◌, ◌≤◌, Bool, true, false, Some, None, List, [], ◌∷◌, ◌++◌, length, drop, refl, sym, ap, subst, ◌∙◌, arith, true≢false}
use Rattle.std.specs.List.{All}
use Rattle.std.proofs.lemmas.Bool.{cases_lt}
use Rattle.std.proofs.lemmas.List.{length-append}
use Rattle.omf_core.specs.declared.fault.RecordFault.{RecordFault}
use Rattle.omf_core.specs.declared.fault.RecordFault.TheVariants.{Truncated, BadSum}
use Rattle.omf_core.specs.Fault.{is_truncation}
use Rattle.omf_core.specs.Record.{fault_at}
use Rattle.omf_core.specs.Records.{RecordValue, SpellsRecords}
use Rattle.omf_core.specs.Lasting.{last_now, stay_lasting}
use Rattle.omf_core.specs.Laws.{RecordsStay, ListsStay, OtherFaultsStay, TruncatedCanBeSpoilt}
use Rattle.omf_body.specs.declared.body.Body.TheVariants.{ModuleHeader}
use Rattle.omf_body.specs.Bodies.{body_bytes}
use Rattle.omf_model.specs.Modules.{ModuleValue}
use Rattle.omf_model.specs.declared.symbols.Common.{Common}
use Rattle.omf_module.specs.declared.fault.Cause.{Cause}
use Rattle.omf_module.specs.declared.fault.Cause.TheVariants as cause
use Rattle.omf_module.specs.declared.pieces.UnfinishedModule.{UnfinishedModule}
use Rattle.omf_module.specs.Pieces.{BegunModule, IsCutOff}
use Rattle.omf_module.specs.Spelled.{SpellsModules, FaultsWithin, no_byte as no_byte_within, no_record as no_record_within}
use Rattle.omf_module.specs.StayLaws.{ModulesStay, ModulesStand}
use Rattle.omf_module.specs.Uses.{fault_by}
use Rattle.omf_library.specs.declared.fault.LibraryFault.{LibraryFault}
use Rattle.omf_library.specs.declared.fault.LibraryFault.TheVariants.{Module, NotLibrary, CountDiffers, NoEnd, Memory}
use Rattle.omf_library.specs.declared.unfinished.Progress.{Progress}
use Rattle.omf_library.specs.declared.unfinished.Progress.TheVariants.{Header, Modules, Index, Ended}
use Rattle.omf_library.specs.Fault.{of_module, OrNoMemory}
use Rattle.omf_library.specs.FeedLaws.{LastingFaultsLast, CountedHaveNone}
use Rattle.omf_library.specs.Laws.{OneLibraryFault, NeverBothLibrary}
use Rattle.omf_library.specs.LibraryFeed.{LibraryFeedValue, LastingLibraryFault, OpenLibrary, in_header as counted_in_header, at_record as counted_at_record, in_module as counted_in_module, ended}
use Rattle.omf_library.specs.Spelled.{is_indexed, BeginsLibrary, SpellsLibrary, FaultsLibraryHeader, no_header_byte, no_header_record}
use Rattle.omf_library.specs.Spelled.{FaultsAt, no_byte, no_record, in_module, FaultsLibrary, in_header, after_header}
use Rattle.omf_library.specs.Unfinished.{ReadsTo, FaultsWhereCut, truncated_at, no_end_in_module}

-- ---- what stays

-- the laws of records and modules whatever bytes follow
pub record Stay : Type 0 where
  pub records : RecordsStay
  pub lists : ListsStay
  pub modules : ModulesStay
  pub stand : ModulesStand

pub of_stay : RecordsStay → ListsStay → ModulesStay → ModulesStand → Stay
of_stay r l m o = record { records = r; lists = l; modules = m; stand = o }

begins_stays : Stay → (bytes more : List ℕ) (first said : ℕ) → BeginsLibrary bytes first said
    → BeginsLibrary (bytes ++ more) first said
begins_stays s bytes more first said b =
    record {
      kind = b.kind;
      body = b.body;
      framed = s.records bytes more 0 first b.kind b.body b.framed;
      header = b.header;
      count = b.count;
    }

pub open_stays : Stay → (bytes more : List ℕ) (said index at : ℕ) (ms : List ModuleValue) (rs : List RecordValue)
    → OpenLibrary bytes said index at ms rs → OpenLibrary (bytes ++ more) said index at ms rs
open_stays s bytes more said index at ms rs o = record {
  first = o.first;
  begins = begins_stays s bytes more o.first said o.begins;
  spelled = s.modules.all bytes more o.first index ms o.spelled;
  indexed = record { spelled = s.lists bytes more index at rs o.indexed.spelled; kinds = o.indexed.kinds };
}

library_stays : Stay → (bytes more : List ℕ) (ms : List ModuleValue) → SpellsLibrary bytes ms → SpellsLibrary (bytes ++ more) ms
library_stays s bytes more ms l = record {
  first = l.first;
  index = l.index;
  end = l.end;
  records = l.records;
  begins = begins_stays s bytes more l.first (length ms) l.begins;
  spelled = s.modules.all bytes more l.first l.index ms l.spelled;
  indexed = record { spelled = s.lists bytes more l.index l.end l.records l.indexed.spelled; kinds = l.indexed.kinds };
  ends = record {
    next = l.ends.next;
    body = l.ends.body;
    spelled = s.records bytes more l.end l.ends.next 0x0E l.ends.body l.ends.spelled;
  };
}

pub reads_stay : Stay → (bytes more : List ℕ) (ms : List ModuleValue) (next : UnfinishedModule) (p : Progress)
    → ReadsTo bytes ms next p → ReadsTo (bytes ++ more) ms next p
reads_stay s bytes more ms next Header r = r
reads_stay s bytes more ms next (Modules said) r = record {
  so_far = open_stays s bytes more said next.begin next.begin ms [] r.so_far;
  next_module = s.modules.reads bytes more next.begin next.here next.commons.items r.next_module;
}
reads_stay s bytes more ms next (Index said at) r =
    record {
      index = r.index;
      records = r.records;
      so_far = open_stays s bytes more said r.index at ms r.records r.so_far;
      some = r.some;
    }
reads_stay s bytes more ms next Ended r = library_stays s bytes more ms r

-- ---- faults of records

-- one that isn't of a record cut off, after more bytes
pub record_fault_stays : OtherFaultsStay → (bytes more : List ℕ) (at : ℕ) (f : RecordFault) → is_truncation f ≡ false
    → fault_at (drop at bytes) at ≡ Some f
    → (at < length (bytes ++ more)) × (fault_at (drop at (bytes ++ more)) at ≡ Some f)
record_fault_stays law bytes more at f other x =
    elim (law bytes more at f x) [
      | inl cut ↦ absurd (true≢false (sym (ap is_truncation cut) ∙ other))
      | inr stays ↦ (omega (arith, stays.1, length-append bytes more), stays.2)
    ]

pub cut_off_here : OtherFaultsStay → (bytes : List ℕ) (at : ℕ) (f : RecordFault) → fault_at (drop at bytes) at ≡ Some f
    → is_truncation f ≡ true → IsCutOff bytes at
cut_off_here law bytes at f x is =
    elim (law bytes [] at f x) [
      | inl cut ↦ x ∙ ap Some cut
      | inr stays ↦ absurd (true≢false (sym is ∙ stays.0))
    ]

-- ---- a library read so far is inside the bytes

modules_inside : Stay → (bytes : List ℕ) (from to : ℕ) (ms : List ModuleValue) → from ≤ length bytes → SpellsModules bytes from to ms
    → to ≤ length bytes
modules_inside l bytes from to [] inside s = omega (arith, s)
modules_inside l bytes from to (m ∷ ms) inside s =
    modules_inside l bytes s.0 to ms (l.stand.further bytes from s.0 m s.1).1 s.2

records_inside : (bytes : List ℕ) (from to : ℕ) (rs : List RecordValue) → from ≤ length bytes → SpellsRecords bytes from to rs
    → to ≤ length bytes
records_inside bytes from to [] inside s = omega (arith, s)
records_inside bytes from to (r ∷ rs) inside s = records_inside bytes (from + 4 + length r.body) to rs s.0.within s.1

open_inside : Stay → (bytes : List ℕ) (said index at : ℕ) (ms : List ModuleValue) (rs : List RecordValue)
    → OpenLibrary bytes said index at ms rs → at ≤ length bytes
open_inside l bytes said index at ms rs o =
    records_inside bytes index at rs (modules_inside l bytes o.first index ms o.begins.framed.within o.spelled) o.indexed.spelled

-- ---- the fault of bytes that end

faults_so_far : (bytes : List ℕ) (said index at : ℕ) (ms : List ModuleValue) (rs : List RecordValue) (f : LibraryFault)
    → OpenLibrary bytes said index at ms rs
    → FaultsAt bytes at said (length ms) (is_indexed rs) f → FaultsLibrary bytes f
faults_so_far bytes said index at ms rs f o x = after_header o.first said index at ms rs f o.begins o.spelled o.indexed x

pub header_faults : (bytes : List ℕ) (f : LibraryFault) → IsCutOff bytes 0 → FaultsWhereCut bytes 0 NotLibrary f
    → FaultsLibraryHeader bytes f
header_faults bytes f cut w =
    elim (cases_lt 0 (length bytes)) [
      | inl within ↦ subst (λ (g : LibraryFault). FaultsLibraryHeader bytes g) (sym (w.no_record within))
          (no_header_record (Truncated 0) within cut)
      | inr past ↦ subst (λ (g : LibraryFault). FaultsLibraryHeader bytes g) (sym (w.no_byte past)) (no_header_byte past)
    ]

pub header_cut : (bytes : List ℕ) (f : LibraryFault) → IsCutOff bytes 0 → FaultsWhereCut bytes 0 NotLibrary f
    → FaultsLibrary bytes f
header_cut bytes f cut w = in_header f (header_faults bytes f cut w)

pub at_cut : (bytes : List ℕ) (at said found : ℕ) (indexed : Bool) (f : LibraryFault) → IsCutOff bytes at
    → FaultsWhereCut bytes at (NoEnd at) f → FaultsAt bytes at said found indexed f
at_cut bytes at said found indexed f cut w =
    elim (cases_lt at (length bytes)) [
      | inl within ↦ subst (λ (g : LibraryFault). FaultsAt bytes at said found indexed g) (sym (w.no_record within))
          (no_record (Truncated at) within cut)
      | inr past ↦ subst (λ (g : LibraryFault). FaultsAt bytes at said found indexed g) (sym (w.no_byte past)) (no_byte past)
    ]

pub record_cut : (bytes : List ℕ) (said index at : ℕ) (ms : List ModuleValue) (rs : List RecordValue) (f : LibraryFault)
    → OpenLibrary bytes said index at ms rs → IsCutOff bytes at
    → FaultsWhereCut bytes at (NoEnd at) f → FaultsLibrary bytes f
record_cut bytes said index at ms rs f o cut w =
    faults_so_far bytes said index at ms rs f o (at_cut bytes at said (length ms) (is_indexed rs) f cut w)

begun_faults_at : ModulesStand → (bytes : List ℕ) (begin here said found : ℕ) (commons : List Common) (why : Cause)
    → BegunModule bytes begin here commons → FaultsWithin bytes here commons why
    → FaultsAt bytes begin said found false (of_module (fault_by here why))
begun_faults_at l bytes begin here said found commons why b x =
    in_module b.first (body_bytes (ModuleHeader b.header)) (fault_by here why) refl b.begins.framed
    (l.faults bytes begin here commons why b x)

pub within_cut : ModulesStand → (bytes : List ℕ) (begin here said found : ℕ) (commons : List Common) (f : LibraryFault)
    → BegunModule bytes begin here commons → IsCutOff bytes here
    → FaultsWhereCut bytes here (no_end_in_module here) f → FaultsAt bytes begin said found false f
within_cut l bytes begin here said found commons f b cut w =
    elim (cases_lt here (length bytes)) [
      | inl within ↦
          subst (λ (g : LibraryFault). FaultsAt bytes begin said found false g) (sym (w.no_record within))
          (begun_faults_at l bytes begin here said found commons (cause.Record (Truncated here)) b
          (no_record_within (Truncated here) within cut))
      | inr past ↦
          subst (λ (g : LibraryFault). FaultsAt bytes begin said found false g) (sym (w.no_byte past))
          (begun_faults_at l bytes begin here said found commons cause.NoEnd b (no_byte_within past))
    ]

pub module_cut : ModulesStand → (bytes : List ℕ) (said begin here : ℕ) (ms : List ModuleValue) (commons : List Common) (f : LibraryFault)
    → OpenLibrary bytes said begin begin ms [] → BegunModule bytes begin here commons
    → IsCutOff bytes here → FaultsWhereCut bytes here (no_end_in_module here) f → FaultsLibrary bytes f
module_cut l bytes said begin here ms commons f o b cut w =
    faults_so_far bytes said begin begin ms [] f o (within_cut l bytes begin here said (length ms) commons f b cut w)

-- ---- where bytes end, no fault lasts

pub lasting_faults_last : LastingFaultsLast
lasting_faults_last = stay_lasting FaultsLibrary

pub first_fault : (bytes : List ℕ) (f : LibraryFault) → OrNoMemory (LastingLibraryFault bytes) f
    → OrNoMemory (FaultsLibrary bytes) f
first_fault bytes f (inl none) = inl none
first_fault bytes f (inr lasts) = inr (last_now FaultsLibrary bytes f lasts)

-- the fault of a piece that isn't taken
pub piece_fault : (bytes : List ℕ) (f : LibraryFault) → (f ≢ Memory → LastingLibraryFault bytes f)
    → OrNoMemory (FaultsLibrary bytes) f
piece_fault bytes (Module g) x = inr (last_now FaultsLibrary bytes (Module g) (x (λ e. cc)))
piece_fault bytes NotLibrary x = inr (last_now FaultsLibrary bytes NotLibrary (x (λ e. cc)))
piece_fault bytes (CountDiffers said found) x = inr (last_now FaultsLibrary bytes (CountDiffers said found) (x (λ e. cc)))
piece_fault bytes (NoEnd at) x = inr (last_now FaultsLibrary bytes (NoEnd at) (x (λ e. cc)))
piece_fault bytes Memory x = inl refl

-- that of the first one
pub first_piece_fault : (feed : LibraryFeedValue) (bytes : List ℕ) (f : LibraryFault) → feed ≡ record { bytes = []; kept = None }
    → (feed.kept ≡ None → f ≢ Memory → LastingLibraryFault (feed.bytes ++ bytes) f) → OrNoMemory (FaultsLibrary bytes) f
first_piece_fault feed bytes f is x =
    piece_fault bytes f
    (λ real. subst (λ (b : List ℕ). LastingLibraryFault (b ++ bytes) f) (ap (λ (v : LibraryFeedValue). v.bytes) is)
    (x (ap (λ (v : LibraryFeedValue). v.kept) is) real))

-- what a feed has of one piece
pub one_piece : (feed after : LibraryFeedValue) (bytes : List ℕ) → feed ≡ record { bytes = []; kept = None }
    → after ≡ record { bytes = feed.bytes ++ bytes; kept = None }
    → (after.kept ≡ None) × (after.bytes ≡ bytes)
one_piece feed after bytes is taken = (
  ap (λ (v : LibraryFeedValue). v.kept) taken,
  ap (λ (v : LibraryFeedValue). v.bytes) taken
      ∙ ap (λ (v : LibraryFeedValue). v.bytes ++ bytes) is,
)

changes : OneLibraryFault → (bytes more : List ℕ) (f now later : LibraryFault) → LastingLibraryFault bytes f
    → All (λ byte. byte < 256) more
    → FaultsLibrary bytes now → FaultsLibrary (bytes ++ more) later → (now ≡ later → ⊥) → ⊥
changes one bytes more f now later lasts small x y other =
    other (one bytes now f x (last_now FaultsLibrary bytes f lasts) ∙ one (bytes ++ more) f later (lasts more small) y)

abbrev pub spoilt_at : ℕ → LibraryFault
spoilt_at at = Module (fault_by at (cause.Record (BadSum at)))

abbrev cause_in : LibraryFault → Cause
cause_in (Module f) = f.cause
cause_in _ = cause.NoHeader

truncated_not_spoilt : (at : ℕ) → truncated_at at ≡ spoilt_at at → ⊥
truncated_not_spoilt at e = let same : cause.Record (Truncated at) ≡ cause.Record (BadSum at) = ap cause_in e in cc

pub no_end_not_spoilt : (at : ℕ) → no_end_in_module at ≡ spoilt_at at → ⊥
no_end_not_spoilt at e = let same : cause.NoEnd ≡ cause.Record (BadSum at) = ap cause_in e in cc

pub record Cut (bytes : List ℕ) (at : ℕ) (none : LibraryFault) : Type 0 where
  pub fault : LibraryFault
  pub is : FaultsWhereCut bytes at none fault
  pub other : fault ≡ spoilt_at at → ⊥

pub cut_at : (bytes : List ℕ) (at : ℕ) (none : LibraryFault) → (none ≡ spoilt_at at → ⊥) → Cut bytes at none
cut_at bytes at none other =
    elim (cases_lt at (length bytes)) [
      | inl within ↦ record {
        fault = truncated_at at;
        is = record { no_byte = λ past. absurd (omega (arith, within, past)); no_record = λ _. refl };
        other =
            truncated_not_spoilt at;
      }
      | inr past ↦ record {
        fault = none;
        is = record { no_byte = λ _. refl; no_record = λ within. absurd (omega (arith, within, past)) };
        other = other;
      }
    ]

-- the laws by which a fault changes
pub record Change : Type 0 where
  pub stay : Stay
  pub spoilt : TruncatedCanBeSpoilt
  pub one_fault : OneLibraryFault
  pub never_both : NeverBothLibrary

pub of_change : Stay → TruncatedCanBeSpoilt → OneLibraryFault → NeverBothLibrary → Change
of_change s t o n = record { stay = s; spoilt = t; one_fault = o; never_both = n }

pub counted_have_none : Change → CountedHaveNone
counted_have_none l bytes count f (counted_in_header cut none) lasts =
    let now = cut_at bytes 0 NotLibrary (λ e. cc) in
    let later = l.spoilt bytes 0 (omega arith) cut in
    changes l.one_fault bytes later.0 f now.fault (spoilt_at 0) lasts later.1 (header_cut bytes now.fault cut now.is)
    (in_header (spoilt_at 0) (no_header_record (BadSum 0) later.2 later.3)) now.other
counted_have_none l bytes count f (counted_at_record said index at ms rs o cut counted) lasts =
    let now = cut_at bytes at (NoEnd at) (λ e. cc) in
    let later = l.spoilt bytes at (open_inside l.stay bytes said index at ms rs o) cut in
    changes l.one_fault bytes later.0 f now.fault (spoilt_at at) lasts later.1
    (record_cut bytes said index at ms rs now.fault o cut now.is)
    (faults_so_far (bytes ++ later.0) said index at ms rs (spoilt_at at)
    (open_stays l.stay bytes later.0 said index at ms rs o) (no_record (BadSum at) later.2 later.3)) now.other
counted_have_none l bytes count f (counted_in_module said at ms o w counted) lasts =
    let now = cut_at bytes w.here (no_end_in_module w.here) (no_end_not_spoilt w.here) in
    let later = l.spoilt bytes w.here (l.stay.stand.inside bytes at w.here w.commons w.begun) w.cut_off in
    changes l.one_fault bytes later.0 f now.fault (spoilt_at w.here) lasts later.1
    (module_cut l.stay.stand bytes said at w.here ms w.commons now.fault o w.begun w.cut_off now.is)
    (faults_so_far (bytes ++ later.0) said at at ms [] (spoilt_at w.here)
    (open_stays l.stay bytes later.0 said at at ms [] o)
    (begun_faults_at l.stay.stand (bytes ++ later.0) at w.here said (length ms) w.commons (cause.Record (BadSum w.here))
    (l.stay.modules.begun bytes later.0 at w.here w.commons w.begun)
    (no_record_within (BadSum w.here) later.2 later.3))) now.other
counted_have_none l bytes count f (ended ms s counted) lasts = l.never_both bytes ms f s (last_now FaultsLibrary bytes f lasts)
