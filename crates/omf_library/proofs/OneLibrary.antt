-- A library is read in one way.
use Rattle.std.proofs.Common.{◌≡◌, ℕ, ◌+◌, ◌<◌, ◌≤◌, Bool, true, false, List, [], ◌∷◌, length, drop, Option, Some, None, refl, sym, ap, subst, ◌∙◌, arith, rules, true≢false}
use Rattle.std.specs.Prelude.{◌==◌}
use Rattle.std.specs.List.{list_all}
use Rattle.std.proofs.lemmas.Bool.{and_parts}
use Rattle.std.proofs.lemmas.Option.{none-some}
use Rattle.omf_core.specs.declared.fault.RecordFault.{RecordFault}
use Rattle.omf_core.specs.Record.{SpellsRecord, fault_at, word_at}
use Rattle.omf_core.specs.Records.{RecordValue, SpellsRecords}
use Rattle.omf_core.specs.Laws.{OneRecordAtEachPlace, NoFaultExactlyAtRecords}
use Rattle.omf_body.specs.declared.body.Body.TheVariants.{ModuleHeader}
use Rattle.omf_body.specs.Bodies.{body_bytes}
use Rattle.omf_module.specs.declared.fault.Cause.TheVariants as cause
use Rattle.omf_module.specs.declared.fault.ModuleFault.{ModuleFault}
use Rattle.omf_model.specs.Modules.{ModuleValue}
use Rattle.omf_module.specs.Uses.{fault_by}
use Rattle.omf_module.specs.Spelled.{SpellsModule, SpellsModules, FaultsModule, EndsFile}
use Rattle.omf_module.specs.ReadingLaws.{OneModule, OneFault, NeverBoth}
use Rattle.omf_library.specs.declared.fault.LibraryFault.{LibraryFault}
use Rattle.omf_library.specs.declared.fault.LibraryFault.TheVariants.{Module, NotLibrary, NoEnd}
use Rattle.omf_library.specs.Fault.{of_module}
use Rattle.omf_library.specs.FeedLaws.{OneModuleCount}
use Rattle.omf_library.specs.LibraryFeed.{OpenLibrary, CountsModules, in_header as counted_in_header, at_record as counted_at_record, in_module as counted_in_module, ended}
use Rattle.omf_library.specs.Unfinished.{no_end_in_module}
use Rattle.omf_module.specs.StayLaws.{ModulesStand}
use Rattle.omf_library.proofs.FeedLemmas.{cut_at, no_end_not_spoilt, header_faults, at_cut, within_cut}
use Rattle.omf_library.specs.Spelled.{is_library_header, is_index_kind, is_indexed, goes_on, fault_of_record, BeginsLibrary}
use Rattle.omf_library.specs.Spelled.{SpellsLibrary, FaultsLibraryHeader, no_header_byte, no_header_record, no_header}
use Rattle.omf_library.specs.Spelled.{FaultsAt, no_byte, no_record, in_module, at_record, in_header, after_header}
use Rattle.omf_library.specs.Laws.{OneLibrary, OneLibraryFault, NeverBothLibrary}

-- the laws of records and modules
pub record Below : Type 0 where
  pub one_record : OneRecordAtEachPlace
  pub no_fault : NoFaultExactlyAtRecords
  pub one_module : OneModule
  pub one_fault : OneFault
  pub never_both : NeverBoth

pub of_laws : OneRecordAtEachPlace → NoFaultExactlyAtRecords → OneModule → OneFault → NeverBoth → Below
of_laws one_record no_fault one_module one_fault never_both =
    record {
      one_record = one_record;
      no_fault = no_fault;
      one_module = one_module;
      one_fault = one_fault;
      never_both = never_both;
    }

past_spelled : (bytes : List ℕ) (at next kind : ℕ) (body : List ℕ) → length bytes ≤ at → SpellsRecord bytes at next kind body → ⊥
past_spelled bytes at next kind body past s = omega (arith, past, s.all_counted, s.within)

unframed_spelled : Below → (bytes : List ℕ) (at next kind : ℕ) (body : List ℕ) (f : RecordFault)
    → fault_at (drop at bytes) at ≡ Some f → SpellsRecord bytes at next kind body → ⊥
unframed_spelled b bytes at next kind body f e s = none-some f (sym ((b.no_fault bytes at).1 (next, kind, body, s)) ∙ e)

same_kind : Below → (bytes : List ℕ) (at next next' kind kind' : ℕ) (body body' : List ℕ) → SpellsRecord bytes at next kind body
    → SpellsRecord bytes at next' kind' body' → kind ≡ kind'
same_kind b bytes at next next' kind kind' body body' s t = (b.one_record bytes at next next' kind kind' body body' s t).0

header_of : (bytes : List ℕ) (at after : ℕ) (m : ModuleValue) (s : SpellsModule bytes at after m)
    → SpellsRecord bytes at s.spelled.first 0x02 (body_bytes (ModuleHeader s.records.header))
header_of bytes at after m s =
    subst (λ (a : ℕ). SpellsRecord bytes a s.spelled.first 0x02 (body_bytes (ModuleHeader s.records.header))) s.begins
    s.spelled.header.framed

-- ---- where a library stops: it ends, or has a fault

data Stop (bytes : List ℕ) (at said found : ℕ) (indexed : Bool) : Option LibraryFault → Type 0 where
  past : length bytes ≤ at → Stop bytes at said found indexed (Some (NoEnd at))
  unframed : (f : RecordFault) → at < length bytes → fault_at (drop at bytes) at ≡ Some f
      → Stop bytes at said found indexed (Some (Module (fault_by at (cause.Record f))))
  inside : (next : ℕ) (body : List ℕ) (f : ModuleFault) → indexed ≡ false → SpellsRecord bytes at next 0x02 body
      → FaultsModule bytes at f → Stop bytes at said found indexed (Some (of_module f))
  framed : (next kind : ℕ) (body : List ℕ) (o : Option LibraryFault) → SpellsRecord bytes at next kind body
      → goes_on indexed kind ≡ false → fault_of_record at said found kind ≡ o
      → Stop bytes at said found indexed o

stop_of_fault : (bytes : List ℕ) (at said found : ℕ) (indexed : Bool) (f : LibraryFault) → FaultsAt bytes at said found indexed f
    → Stop bytes at said found indexed (Some f)
stop_of_fault bytes at said found indexed _ (no_byte p) = past p
stop_of_fault bytes at said found indexed _ (no_record f within e) = unframed f within e
stop_of_fault bytes at said found indexed _ (in_module next body f not s x) = inside next body f not s x
stop_of_fault bytes at said found indexed f (at_record next kind body _ s stops e) = framed next kind body (Some f) s stops e

end_stops : (indexed : Bool) → goes_on indexed 0x0E ≡ false
end_stops true = refl
end_stops false = refl

eqb_self : (n : ℕ) → (n == n) ≡ true
eqb_self n = search rules

stop_of_end : (bytes : List ℕ) (at count : ℕ) (indexed : Bool) → EndsFile bytes at → Stop bytes at count count indexed None
stop_of_end bytes at count indexed e = framed e.next 0x0E e.body None e.spelled (end_stops indexed) (rw (eqb_self count) refl)

-- no module header is one by which the library goes on, after which it stops
header_goes_on : (indexed : Bool) → indexed ≡ false → goes_on indexed 0x02 ≡ true
header_goes_on true e = absurd (true≢false e)
header_goes_on false e = refl

header_stops : Below → (bytes : List ℕ) (at next next' kind : ℕ) (body body' : List ℕ) (indexed : Bool) → indexed ≡ false
    → SpellsRecord bytes at next 0x02 body
    → SpellsRecord bytes at next' kind body' → goes_on indexed kind ≡ false → ⊥
header_stops b bytes at next next' kind body body' indexed not s t stops =
    true≢false (sym (header_goes_on indexed not) ∙ ap (goes_on indexed) (same_kind b bytes at next next' 0x02 kind body body' s t)
    ∙ stops)

one_stop : Below → (bytes : List ℕ) (at said found : ℕ) (i : Bool) (o p : Option LibraryFault) → Stop bytes at said found i o
    → Stop bytes at said found i p → o ≡ p
one_stop b bytes at said found i _ _ (past x) (past y) = refl
one_stop b bytes at said found i _ _ (past x) (unframed f w e) = absurd (omega (arith, x, w))
one_stop b bytes at said found i _ _ (past x) (inside n body f not s y) = absurd (past_spelled bytes at n 0x02 body x s)
one_stop b bytes at said found i _ _ (past x) (framed n k body p s stops e) = absurd (past_spelled bytes at n k body x s)
one_stop b bytes at said found i _ _ (unframed f w e) (past x) = absurd (omega (arith, x, w))
one_stop b bytes at said found i _ _ (unframed f w e) (unframed g w' e') =
    ap (λ (r : Option RecordFault). Some (Module (fault_by at (cause.Record (value f r))))) (sym e ∙ e')
  where
    value : RecordFault → Option RecordFault → RecordFault
    value d None = d
    value d (Some x) = x
one_stop b bytes at said found i _ _ (unframed f w e) (inside n body g not s y) =
    absurd (unframed_spelled b bytes at n 0x02 body f e s)
one_stop b bytes at said found i _ _ (unframed f w e) (framed n k body p s stops e') =
    absurd (unframed_spelled b bytes at n k body f e s)
one_stop b bytes at said found i _ _ (inside n body f not s y) (past x) = absurd (past_spelled bytes at n 0x02 body x s)
one_stop b bytes at said found i _ _ (inside n body f not s y) (unframed g w e) =
    absurd (unframed_spelled b bytes at n 0x02 body g e s)
one_stop b bytes at said found i _ _ (inside n body f not s y) (inside n' body' g not' s' y') =
    ap (λ (x : ModuleFault). Some (of_module x)) (b.one_fault bytes at f g y y')
one_stop b bytes at said found i _ _ (inside n body f not s y) (framed n' k body' p t stops e) =
    absurd (header_stops b bytes at n n' k body body' i not s t stops)
one_stop b bytes at said found i _ _ (framed n k body o s stops e) (past x) = absurd (past_spelled bytes at n k body x s)
one_stop b bytes at said found i _ _ (framed n k body o s stops e) (unframed g w e') =
    absurd (unframed_spelled b bytes at n k body g e' s)
one_stop b bytes at said found i _ _ (framed n k body o s stops e) (inside n' body' g not t y) =
    absurd (header_stops b bytes at n' n k body' body i not t s stops)
one_stop b bytes at said found i o p (framed n k body _ s stops e) (framed n' k' body' _ s' stops' e') =
    sym e ∙ ap (fault_of_record at said found) (same_kind b bytes at n n' k k' body body' s s') ∙ e'

-- ---- index records, and where the library stops after them

abbrev IndexRun : List ℕ → ℕ → ℕ → Bool → ℕ → List RecordValue → Option LibraryFault → Type 0
IndexRun bytes said found i at [] o = Stop bytes at said found i o
IndexRun bytes said found i at (r ∷ rs) o =
    SpellsRecord bytes at (at + 4 + length r.body) r.kind r.body × (is_index_kind r.kind ≡ true)
    × IndexRun bytes said found true (at + 4 + length r.body) rs o

abbrev indexed_after : Bool → List RecordValue → Bool
indexed_after i [] = i
indexed_after i (r ∷ rs) = true

all_indexed : (i : Bool) (rs : List RecordValue) → indexed_after true rs ≡ true
all_indexed i [] = refl
all_indexed i (r ∷ rs) = refl

to_index_run : (bytes : List ℕ) (said found : ℕ) (i : Bool) (from to : ℕ) (rs : List RecordValue) (o : Option LibraryFault)
    → SpellsRecords bytes from to rs
    → list_all (λ r. is_index_kind r.kind) rs ≡ true → Stop bytes to said found (indexed_after i rs) o
    → IndexRun bytes said found i from rs o
to_index_run bytes said found i from to [] o s all stop = subst (λ (a : ℕ). Stop bytes a said found i o) (sym s) stop
to_index_run bytes said found i from to (r ∷ rs) o s all stop =
    let parts = and_parts (is_index_kind r.kind) (list_all (λ r. is_index_kind r.kind) rs) all in (
      s.0,
      parts.0,
      to_index_run bytes said found true (from + 4 + length r.body) to rs o s.1 parts.1
          (subst (λ (j : Bool). Stop bytes to said found j o) (sym (all_indexed i rs)) stop),
    )

index_goes_on : (i : Bool) (kind : ℕ) → is_index_kind kind ≡ true → goes_on i kind ≡ true
index_goes_on i kind e = rw e refl

stop_index : Below → (bytes : List ℕ) (at said found : ℕ) (i : Bool) (o : Option LibraryFault) (next kind : ℕ) (body : List ℕ)
    → Stop bytes at said found i o
    → SpellsRecord bytes at next kind body → is_index_kind kind ≡ true → ⊥
stop_index b bytes at said found i _ next kind body (past x) s e = past_spelled bytes at next kind body x s
stop_index b bytes at said found i _ next kind body (unframed f w x) s e = unframed_spelled b bytes at next kind body f x s
stop_index b bytes at said found i _ next kind body (inside n body' f not t x) s e =
    true≢false (sym e ∙ ap is_index_kind (same_kind b bytes at next n kind 0x02 body body' s t))
stop_index b bytes at said found i _ next kind body (framed n k body' o t stops x) s e =
    true≢false (sym (index_goes_on i kind e) ∙ ap (goes_on i) (same_kind b bytes at next n kind k body body' s t) ∙ stops)

one_index : Below → (bytes : List ℕ) (said found : ℕ) (i : Bool) (at : ℕ) (rs ss : List RecordValue) (o p : Option LibraryFault)
    → IndexRun bytes said found i at rs o
    → IndexRun bytes said found i at ss p → o ≡ p
one_index b bytes said found i at [] [] o p x y = one_stop b bytes at said found i o p x y
one_index b bytes said found i at [] (s ∷ ss) o p x y =
    absurd (stop_index b bytes at said found i o (at + 4 + length s.body) s.kind s.body x y.0 y.1)
one_index b bytes said found i at (r ∷ rs) [] o p x y =
    absurd (stop_index b bytes at said found i p (at + 4 + length r.body) r.kind r.body y x.0 x.1)
one_index b bytes said found i at (r ∷ rs) (s ∷ ss) o p x y =
    let same = b.one_record bytes at (at + 4 + length r.body) (at + 4 + length s.body) r.kind s.kind r.body s.body x.0 y.0 in
    one_index b bytes said found true (at + 4 + length s.body) rs ss o p
    (subst (λ (a : ℕ). IndexRun bytes said found true a rs o) same.2 x.2) y.2

-- ---- modules before them

abbrev Run : List ℕ → ℕ → ℕ → ℕ → List ModuleValue → List RecordValue → Option LibraryFault → Type 0
Run bytes said found at [] rs o = IndexRun bytes said found false at rs o
Run bytes said found at (m ∷ ms) rs o = (next : ℕ) × SpellsModule bytes at next m × Run bytes said (found + 1) next ms rs o

to_run : (bytes : List ℕ) (said found from to : ℕ) (ms : List ModuleValue) (rs : List RecordValue) (o : Option LibraryFault)
    → SpellsModules bytes from to ms
    → IndexRun bytes said (found + length ms) false to rs o → Run bytes said found from ms rs o
to_run bytes said found from to [] rs o s r =
    subst (λ (n : ℕ). IndexRun bytes said n false from rs o) (omega arith)
    (subst (λ (a : ℕ). IndexRun bytes said (found + length (the_none)) false a rs o) (sym s) r)
  where
    the_none : List ModuleValue
    the_none = []
to_run bytes said found from to (m ∷ ms) rs o s r = (
  s.0,
  s.1,
  to_run bytes said (found + 1) s.0 to ms rs o s.2
      (subst (λ (n : ℕ). IndexRun bytes said n false to rs o) (omega arith) r),
)

index_module : Below → (bytes : List ℕ) (said found at after : ℕ) (m : ModuleValue) (rs : List RecordValue)
    (o : Option LibraryFault) → IndexRun bytes said found false at rs o
    → SpellsModule bytes at after m → ⊥
index_module b bytes said found at after m (r ∷ rs) o x s =
    true≢false (sym x.1 ∙ ap is_index_kind
    (same_kind b bytes at (at + 4 + length r.body) s.spelled.first r.kind 0x02 r.body
    (body_bytes (ModuleHeader s.records.header)) x.0 (header_of bytes at after m s)))
index_module b bytes said found at after m [] _ (past x) s =
    past_spelled bytes at s.spelled.first 0x02 (body_bytes (ModuleHeader s.records.header)) x (header_of bytes at after m s)
index_module b bytes said found at after m [] _ (unframed f w x) s =
    unframed_spelled b bytes at s.spelled.first 0x02 (body_bytes (ModuleHeader s.records.header)) f x
    (header_of bytes at after m s)
index_module b bytes said found at after m [] _ (inside n body f not t x) s = b.never_both bytes at after m f s x
index_module b bytes said found at after m [] _ (framed n k body o t stops x) s =
    header_stops b bytes at s.spelled.first n k (body_bytes (ModuleHeader s.records.header)) body false refl
    (header_of bytes at after m s) t stops

record Same (ms ns : List ModuleValue) (o p : Option LibraryFault) : Type 0 where
  modules : ms ≡ ns
  out : o ≡ p

one_run : Below → (bytes : List ℕ) (said found at : ℕ) (ms ns : List ModuleValue) (rs ss : List RecordValue)
    (o p : Option LibraryFault) → Run bytes said found at ms rs o
    → Run bytes said found at ns ss p → Same ms ns o p
one_run b bytes said found at [] [] rs ss o p x y =
    record { modules = refl; out = one_index b bytes said found false at rs ss o p x y }
one_run b bytes said found at [] (n ∷ ns) rs ss o p x y = absurd (index_module b bytes said found at y.0 n rs o x y.1)
one_run b bytes said found at (m ∷ ms) [] rs ss o p x y = absurd (index_module b bytes said found at x.0 m ss p y x.1)
one_run b bytes said found at (m ∷ ms) (n ∷ ns) rs ss o p x y =
    let same = b.one_module bytes at x.0 y.0 m n x.1 y.1 in
    let rest = one_run b bytes said (found + 1) y.0 ms ns rs ss o p
    (subst (λ (a : ℕ). Run bytes said (found + 1) a ms rs o) same.1 x.2) y.2 in
    record {
      modules = ap (λ (z : ModuleValue). z ∷ ms) same.0
          ∙ ap (λ (zs : List ModuleValue). n ∷ zs) rest.modules;
      out = rest.out;
    }

-- ---- the header before them

record Whole (bytes : List ℕ) (ms : List ModuleValue) (o : Option LibraryFault) : Type 0 where
  first : ℕ
  said : ℕ
  records : List RecordValue
  begins : BeginsLibrary bytes first said
  run : Run bytes said 0 first ms records o

whole : (bytes : List ℕ) (first said index end : ℕ) (ms : List ModuleValue) (rs : List RecordValue) (o : Option LibraryFault)
    → BeginsLibrary bytes first said → SpellsModules bytes first index ms
    → SpellsRecords bytes index end rs → list_all (λ r. is_index_kind r.kind) rs ≡ true
    → Stop bytes end said (length ms) (is_indexed rs) o → Whole bytes ms o
whole bytes first said index end ms rs o begins s t all stop = record {
  first = first;
  said = said;
  records = rs;
  begins = begins;
  run = to_run bytes said 0 first index ms rs o s
      (to_index_run bytes said (0 + length ms) false index end rs o t all
      (subst (λ (j : Bool). Stop bytes end said (0 + length ms) j o) (first_index rs)
      (subst (λ (n : ℕ). Stop bytes end said n (is_indexed rs) o) (omega arith) stop)));
}
  where
    first_index : (rs : List RecordValue) → is_indexed rs ≡ indexed_after false rs
    first_index [] = refl
    first_index (r ∷ rs) = refl

one_whole : Below → (bytes : List ℕ) (ms ns : List ModuleValue) (o p : Option LibraryFault) → Whole bytes ms o → Whole bytes ns p
    → Same ms ns o p
one_whole b bytes ms ns o p x y =
    let same = b.one_record bytes 0 x.first y.first x.begins.kind y.begins.kind x.begins.body y.begins.body x.begins.framed
    y.begins.framed in
    let said : x.said ≡ y.said = x.begins.count ∙ ap (λ (body : List ℕ). word_at body 0) same.1 ∙ sym y.begins.count in
    one_run b bytes y.said 0 y.first ms ns x.records y.records o p
    (subst (λ (n : ℕ). Run bytes n 0 y.first ms x.records o) said
    (subst (λ (a : ℕ). Run bytes x.said 0 a ms x.records o) same.2 x.run)) y.run

whole_library : (bytes : List ℕ) (ms : List ModuleValue) → SpellsLibrary bytes ms → Whole bytes ms None
whole_library bytes ms s =
    whole bytes s.first (length ms) s.index s.end ms s.records None s.begins s.spelled s.indexed.spelled s.indexed.kinds
    (stop_of_end bytes s.end (length ms) (is_indexed s.records) s.ends)

-- a header that has a fault begins no library
header_fault_begins : Below → (bytes : List ℕ) (first said : ℕ) (f : LibraryFault) → FaultsLibraryHeader bytes f
    → BeginsLibrary bytes first said → ⊥
header_fault_begins b bytes first said _ (no_header_byte x) begins =
    past_spelled bytes 0 first begins.kind begins.body x begins.framed
header_fault_begins b bytes first said _ (no_header_record f w e) begins =
    unframed_spelled b bytes 0 first begins.kind begins.body f e begins.framed
header_fault_begins b bytes first said _ (no_header next kind body s not) begins =
    let same = b.one_record bytes 0 first next begins.kind kind begins.body body begins.framed s in
    true≢false (sym begins.header ∙ ap (λ (k : ℕ). is_library_header k begins.body) same.0 ∙ ap (is_library_header kind) same.1
    ∙ not)

one_header_fault : Below → (bytes : List ℕ) (f g : LibraryFault) → FaultsLibraryHeader bytes f → FaultsLibraryHeader bytes g
    → f ≡ g
one_header_fault b bytes _ _ (no_header_byte x) (no_header_byte y) = refl
one_header_fault b bytes _ _ (no_header_byte x) (no_header_record f w e) = absurd (omega (arith, x, w))
one_header_fault b bytes _ _ (no_header_byte x) (no_header n k body s not) = refl
one_header_fault b bytes _ _ (no_header_record f w e) (no_header_byte x) = absurd (omega (arith, x, w))
one_header_fault b bytes _ _ (no_header_record f w e) (no_header_record g w' e') =
    ap (λ (r : Option RecordFault). Module (fault_by 0 (cause.Record (value f r)))) (sym e ∙ e')
  where
    value : RecordFault → Option RecordFault → RecordFault
    value d None = d
    value d (Some x) = x
one_header_fault b bytes _ _ (no_header_record f w e) (no_header n k body s not) =
    absurd (unframed_spelled b bytes 0 n k body f e s)
one_header_fault b bytes _ _ (no_header n k body s not) (no_header_byte x) = refl
one_header_fault b bytes _ _ (no_header n k body s not) (no_header_record f w e) =
    absurd (unframed_spelled b bytes 0 n k body f e s)
one_header_fault b bytes _ _ (no_header n k body s not) (no_header n' k' body' s' not') = refl

-- ---- the three

pub one_library : Below → OneLibrary
one_library b bytes ms ns s t = (one_whole b bytes ms ns None None (whole_library bytes ms s) (whole_library bytes ns t)).modules

record FaultWhole (bytes : List ℕ) (f : LibraryFault) : Type 0 where
  modules : List ModuleValue
  run : Whole bytes modules (Some f)

fault_whole : (bytes : List ℕ) (first said index at : ℕ) (ms : List ModuleValue) (rs : List RecordValue) (f : LibraryFault)
    → BeginsLibrary bytes first said → SpellsModules bytes first index ms
    → SpellsRecords bytes index at rs → list_all (λ r. is_index_kind r.kind) rs ≡ true
    → FaultsAt bytes at said (length ms) (is_indexed rs) f → FaultWhole bytes f
fault_whole bytes first said index at ms rs f begins s t all x =
    record {
      modules = ms;
      run =
          whole bytes first said index at ms rs (Some f) begins s t all
          (stop_of_fault bytes at said (length ms) (is_indexed rs) f x);
    }

some_same : (f g : LibraryFault) (o p : Option LibraryFault) → o ≡ p → o ≡ Some f → p ≡ Some g → f ≡ g
some_same f g o p e x y = ap (value f) (sym x ∙ e ∙ y)
  where
    value : LibraryFault → Option LibraryFault → LibraryFault
    value d None = d
    value d (Some x) = x

pub one_library_fault : Below → OneLibraryFault
one_library_fault b bytes f g (in_header _ x) (in_header _ y) = one_header_fault b bytes f g x y
one_library_fault b bytes f g (in_header _ x) (after_header first said index at ms rs _ begins s t y) =
    absurd (header_fault_begins b bytes first said f x begins)
one_library_fault b bytes f g (after_header first said index at ms rs _ begins s t x) (in_header _ y) =
    absurd (header_fault_begins b bytes first said g y begins)
one_library_fault b bytes f g (after_header first said index at ms rs _ begins s t x)
    (after_header first' said' index' at' ms' rs' _ begins' s' t' x') =
    let v = fault_whole bytes first said index at ms rs f begins s t.spelled t.kinds x in
    let w = fault_whole bytes first' said' index' at' ms' rs' g begins' s' t'.spelled t'.kinds x' in
    some_same f g (Some f) (Some g) (one_whole b bytes v.modules w.modules (Some f) (Some g) v.run w.run).out refl refl

pub never_both_library : Below → NeverBothLibrary
never_both_library b bytes ms f s (in_header _ x) = header_fault_begins b bytes s.first (length ms) f x s.begins
never_both_library b bytes ms f s (after_header first said index at ns rs _ begins t u x) =
    let w = fault_whole bytes first said index at ns rs f begins t u.spelled u.kinds x in
    none-some f (one_whole b bytes ms w.modules None (Some f) (whole_library bytes ms s) w.run).out

-- ---- how many whole modules bytes hold

-- they have no header, or these modules stand after it
data Counted (bytes : List ℕ) (count : ℕ) : Type 0 where
  none : (f : LibraryFault) → FaultsLibraryHeader bytes f → count ≡ 0 → Counted bytes count
  some : (ms : List ModuleValue) (o : Option LibraryFault) → Whole bytes ms o → count ≡ length ms → Counted bytes count

fault_counted : (bytes : List ℕ) (said index at count : ℕ) (ms : List ModuleValue) (rs : List RecordValue) (f : LibraryFault)
    → OpenLibrary bytes said index at ms rs
    → FaultsAt bytes at said (length ms) (is_indexed rs) f → count ≡ length ms → Counted bytes count
fault_counted bytes said index at count ms rs f o x n =
    some ms (Some f) (whole bytes o.first said index at ms rs (Some f) o.begins o.spelled o.indexed.spelled o.indexed.kinds
    (stop_of_fault bytes at said (length ms) (is_indexed rs) f x)) n

counted : ModulesStand → (bytes : List ℕ) (count : ℕ) → CountsModules bytes count → Counted bytes count
counted l bytes count (counted_in_header cut zero) =
    let now = cut_at bytes 0 NotLibrary (λ e. cc) in
    none now.fault (header_faults bytes now.fault cut now.is) zero
counted l bytes count (counted_at_record said index at ms rs o cut n) =
    let now = cut_at bytes at (NoEnd at) (λ e. cc) in
    fault_counted bytes said index at count ms rs now.fault o
    (at_cut bytes at said (length ms) (is_indexed rs) now.fault cut now.is) n
counted l bytes count (counted_in_module said at ms o w n) =
    let now = cut_at bytes w.here (no_end_in_module w.here) (no_end_not_spoilt w.here) in
    fault_counted bytes said at at count ms [] now.fault o
    (within_cut l bytes at w.here said (length ms) w.commons now.fault w.begun w.cut_off now.is) n
counted l bytes count (ended ms s n) = some ms None (whole_library bytes ms s) n

same_count : Below → (bytes : List ℕ) (m n : ℕ) → Counted bytes m → Counted bytes n → m ≡ n
same_count b bytes m n (none f x zero) (none g y zero') = zero ∙ sym zero'
same_count b bytes m n (none f x zero) (some ms o w e) = absurd (header_fault_begins b bytes w.first w.said f x w.begins)
same_count b bytes m n (some ms o w e) (none f x zero) = absurd (header_fault_begins b bytes w.first w.said f x w.begins)
same_count b bytes m n (some ms o v d) (some ns p w e) = d
    ∙ ap (λ (l : List ModuleValue). length l) (one_whole b bytes ms ns o p v w).modules ∙ sym e

pub one_module_count : Below → ModulesStand → OneModuleCount
one_module_count b l bytes m n x y = same_count b bytes m n (counted l bytes m x) (counted l bytes n y)
