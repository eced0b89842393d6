-- The steps of reading a library that comes in pieces.
use Rattle.std.proofs.Common.{◌≡◌, ◌≢◌, inl, inr, ℕ, ◌+◌, ◌-◌, ◌<◌, Bool, true, false, List, [], ◌∷◌, ◌++◌, length, take, drop, Some, refl, sym, ap, subst, ◌∙◌, arith}
use Rattle.std.specs.List.{All}
use Rattle.std.proofs.lemmas.Bool.Decides.{eqb_tells}
use Rattle.std.proofs.lemmas.List.{append-nil}
use Rattle.std.proofs.Math.Seq.{take-append_seam}
use Rattle.omf_core.specs.declared.fault.RecordFault.{RecordFault}
use Rattle.omf_core.specs.Fault.{is_truncation}
use Rattle.omf_core.specs.Record.{SpellsRecord, fault_at}
use Rattle.omf_core.specs.Records.{RecordValue}
use Rattle.omf_core.specs.Laws.{RecordsStay, OtherFaultsStay, ListGrows}
use Rattle.omf_model.specs.Modules.{ModuleValue}
use Rattle.omf_model.specs.declared.symbols.Common.{Common}
use Rattle.omf_module.specs.declared.fault.Cause.TheVariants as cause
use Rattle.omf_module.specs.declared.fault.ModuleFault.{ModuleFault}
use Rattle.omf_module.specs.declared.pieces.UnfinishedModule.{UnfinishedModule}
use Rattle.omf_module.specs.Pieces.{BegunModule, IsCutOff, ReadsModule, LastingModuleFault}
use Rattle.omf_module.specs.Reading.{OrNoMemory as OrNoModuleMemory}
use Rattle.omf_module.specs.Spelled.{SpellsModule}
use Rattle.omf_module.specs.Uses.{fault_by}
use Rattle.omf_library.specs.declared.fault.LibraryFault.{LibraryFault}
use Rattle.omf_library.specs.declared.fault.LibraryFault.TheVariants.{Module, NotLibrary, NoEnd}
use Rattle.omf_library.specs.declared.unfinished.Progress.{Progress}
use Rattle.omf_library.specs.declared.unfinished.Progress.TheVariants.{Header, Modules, Index, Ended}
use Rattle.omf_library.specs.Fault.{of_module, OrNoMemory}
use Rattle.omf_library.specs.LibraryFeed.{LastingLibraryFault, OpenLibrary, CountsModules, in_header as counted_in_header, at_record as counted_at_record, in_module as counted_in_module, ended}
use Rattle.omf_library.specs.Spelled.{is_index_kind, is_indexed, goes_on, is_library_header, BeginsLibrary, no_header_record}
use Rattle.omf_library.specs.Spelled.{no_header, FaultsAt, no_record, in_module, at_record, FaultsLibrary, in_header, after_header}
use Rattle.omf_library.specs.Unfinished.{ReadsModules, ReadsIndexed, ReadsTo, WaitsTo, left_after, ReadsFurther, ReadsAll, Extends, OtherRecord}
use Rattle.omf_library.specs.Unfinished.{HeaderStands, LastingHeaderFault, LastingFaultAt, LeadsTo, LeadsNowhere, FaultsWhereCut, no_end_in_module}
use Rattle.omf_module.specs.StayLaws.{ModulesStand}
use Rattle.omf_library.proofs.ReadingLemmas.{other_is, all_with}
use Rattle.omf_library.proofs.FeedLemmas.{Stay, open_stays, record_fault_stays, record_cut, module_cut}

-- ---- faults that last

pub no_header_lasts : RecordsStay → (bytes : List ℕ) (next kind : ℕ) (body : List ℕ) → SpellsRecord bytes 0 next kind body
    → is_library_header kind body ≡ false → LastingHeaderFault bytes NotLibrary
no_header_lasts law bytes next kind body s other =
    λ more small. no_header next kind body (law bytes more 0 next kind body s) other

pub header_record_lasts : OtherFaultsStay → (bytes : List ℕ) (f : RecordFault) → is_truncation f ≡ false
    → fault_at (drop 0 bytes) 0 ≡ Some f → LastingHeaderFault bytes (Module (fault_by 0 (cause.Record f)))
header_record_lasts law bytes f other x = λ more small.
    let stays = record_fault_stays law bytes more 0 f other x in no_header_record f stays.0 stays.1

pub record_lasts : OtherFaultsStay → (bytes : List ℕ) (at : ℕ) (f : RecordFault) → is_truncation f ≡ false
    → fault_at (drop at bytes) at ≡ Some f → LastingFaultAt bytes at (Module (fault_by at (cause.Record f)))
record_lasts law bytes at f other x = λ said found indexed more small.
    let stays = record_fault_stays law bytes more at f other x in no_record f stays.0 stays.1

pub header_lasts : (bytes : List ℕ) (f : LibraryFault) → LastingHeaderFault bytes f → LastingLibraryFault bytes f
header_lasts bytes f x = λ more small. in_header f (x more small)

pub at_lasts : Stay → (bytes : List ℕ) (said index at : ℕ) (ms : List ModuleValue) (rs : List RecordValue) (f : LibraryFault)
    → OpenLibrary bytes said index at ms rs
    → ((more : List ℕ) → All (λ byte. byte < 256) more → FaultsAt (bytes ++ more) at said (length ms) (is_indexed rs) f)
    → LastingLibraryFault bytes f
at_lasts s bytes said index at ms rs f o x = λ more small.
    let m = open_stays s bytes more said index at ms rs o in
    after_header m.first said index at ms rs f m.begins m.spelled m.indexed (x more small)

pub modules_record_lasts : Stay → (bytes : List ℕ) (said : ℕ) (ms : List ModuleValue) (next : UnfinishedModule) (f : LibraryFault)
    → ReadsModules bytes said ms next → LastingFaultAt bytes next.begin f → LastingLibraryFault bytes f
modules_record_lasts s bytes said ms next f r x =
    at_lasts s bytes said next.begin next.begin ms [] f r.so_far (x said (length ms) false)

pub index_record_lasts : Stay → (bytes : List ℕ) (said at : ℕ) (ms : List ModuleValue) (f : LibraryFault)
    → ReadsIndexed bytes said at ms → LastingFaultAt bytes at f → LastingLibraryFault bytes f
index_record_lasts s bytes said at ms f r x =
    at_lasts s bytes said r.index at ms r.records f r.so_far (x said (length ms) (is_indexed r.records))

pub module_lasts : Stay → (bytes : List ℕ) (said : ℕ) (ms : List ModuleValue) (next : UnfinishedModule) (f : ModuleFault)
    → ReadsModules bytes said ms next → HeaderStands bytes next.begin
    → OrNoModuleMemory (LastingModuleFault bytes next.begin) f → OrNoMemory (LastingLibraryFault bytes) (of_module f)
module_lasts s bytes said ms next f r h (inl none) = inl (ap of_module none)
module_lasts s bytes said ms next f r h (inr lasts) =
    inr (at_lasts s bytes said next.begin next.begin ms [] (of_module f) r.so_far
    (λ more small. in_module h.next h.body f refl (s.records bytes more next.begin h.next 0x02 h.body h.spelled)
    (lasts more small)))

goes_nowhere : (kind : ℕ) → kind ≢ 0x02 → is_index_kind kind ≡ false → goes_on false kind ≡ false
goes_nowhere kind other index = rw (index, other_is kind 0x02 other) refl

pub other_lasts : Stay → (bytes : List ℕ) (said after kind found : ℕ) (ms : List ModuleValue) (next : UnfinishedModule)
    (f : LibraryFault) → ReadsModules bytes said ms next
    → OtherRecord bytes next.begin after kind → found ≡ length ms → LeadsNowhere next.begin said found kind f
    → LastingLibraryFault bytes f
other_lasts s bytes said after kind found ms next f r o all n =
    at_lasts s bytes said next.begin next.begin ms [] f r.so_far
    (λ more small. subst (λ (k : ℕ). FaultsAt (bytes ++ more) next.begin said k false f) all
    (at_record after kind o.body f (s.records bytes more next.begin after kind o.body o.spelled)
    (goes_nowhere kind o.other n.other) n.faults))

pub indexed_lasts : Stay
    → (bytes : List ℕ) (said at after kind found : ℕ) (body : List ℕ) (ms : List ModuleValue) (f : LibraryFault)
    → ReadsIndexed bytes said at ms
    → SpellsRecord bytes at after kind body → found ≡ length ms → LeadsNowhere at said found kind f → LastingLibraryFault bytes f
indexed_lasts s bytes said at after kind found body ms f r x all n =
    at_lasts s bytes said r.index at ms r.records f r.so_far
    (λ more small. subst (λ (k : ℕ). FaultsAt (bytes ++ more) at said k (is_indexed r.records) f) all
    (subst (λ (i : Bool). FaultsAt (bytes ++ more) at said found i f) (sym r.some)
    (at_record after kind body f (s.records bytes more at after kind body x) (rw n.other refl) n.faults)))

-- ---- reading on

-- a module that is not begun yet
pub next_begins : (bytes : List ℕ) (said after : ℕ) (ms : List ModuleValue) (next : UnfinishedModule) → next.begin ≡ after
    → next.here ≡ after → next.commons.items ≡ []
    → OpenLibrary bytes said after after ms [] → ReadsModules bytes said ms next
next_begins bytes said after ms next begin here none o = record {
  so_far = subst (λ (a : ℕ). OpenLibrary bytes said a a ms []) (sym begin) o;
  next_module = inl (here ∙ sym begin, none);
}

pub one_module_more : ModulesStand → (bytes : List ℕ) (said after : ℕ) (ms : List ModuleValue) (m : ModuleValue) (old next : UnfinishedModule)
    → next.begin ≡ after → next.here ≡ after → next.commons.items ≡ []
    → ReadsModules bytes said ms old → SpellsModule bytes old.begin after m
    → ReadsFurther bytes (left_after bytes old (Modules said)) (ms ++ m ∷ []) next (Modules said)
one_module_more l bytes said after ms m old next begin here none r s =
    let o = r.so_far in
    let f = l.further bytes old.begin after m s in
    record {
      reads = next_begins bytes said after (ms ++ m ∷ []) next begin here none
          (record {
            first = o.first;
            begins = o.begins;
            spelled = l.grow bytes o.first old.begin after ms m o.spelled s;
            indexed = record { spelled = refl; kinds = refl };
          });
      further = omega (arith, begin, f.0, f.1);
    }

some_indexed : (rs : List RecordValue) (r : RecordValue) → is_indexed (rs ++ r ∷ []) ≡ true
some_indexed [] r = refl
some_indexed (x ∷ rs) r = refl

leads_to : ListGrows → (bytes : List ℕ) (said index at after kind found : ℕ) (body : List ℕ) (ms : List ModuleValue)
    (rs : List RecordValue) (next : UnfinishedModule) (p : Progress)
    → OpenLibrary bytes said index at ms rs → SpellsRecord bytes at after kind body → found ≡ length ms
    → LeadsTo said after found kind p → ReadsFurther bytes (length bytes - at + 1) ms next p
leads_to law bytes said index at after kind found body ms rs next Header o s all x = absurd x
leads_to law bytes said index at after kind found body ms rs next (Modules n) o s all x = absurd x
leads_to law bytes said index at after kind found body ms rs next (Index n a) o s all x =
    let r : RecordValue = record { kind = kind; body = body } in
    record {
      reads = record {
        index = index;
        records = rs ++ r ∷ [];
        so_far = record {
          first = o.first;
          begins = subst (λ (m : ℕ). BeginsLibrary bytes o.first m) (sym x.1) o.begins;
          spelled = o.spelled;
          indexed = record {
            spelled =
                law bytes index at a rs r o.indexed.spelled (subst (λ (b : ℕ). SpellsRecord bytes at b kind body) (sym x.2) s);
            kinds = all_with rs r o.indexed.kinds x.0;
          };
        };
        some = some_indexed rs r;
      };
      further = omega (arith, x.2, s.all_counted, s.within);
    }
leads_to law bytes said index at after kind found body ms rs next Ended o s all x = record {
  reads = record {
    first = o.first;
    index = index;
    end = at;
    records = rs;
    begins = subst (λ (n : ℕ). BeginsLibrary bytes o.first n) (x.1 ∙ all) o.begins;
    spelled = o.spelled;
    indexed = o.indexed;
    ends = record { next = after; body = body; spelled = subst (λ (k : ℕ). SpellsRecord bytes at after k body) x.0 s };
  };
  further = omega arith;
}

pub other_leads : ListGrows
    → (bytes : List ℕ) (said after kind found : ℕ) (ms : List ModuleValue) (old next : UnfinishedModule) (p : Progress)
    → ReadsModules bytes said ms old
    → OtherRecord bytes old.begin after kind → found ≡ length ms → LeadsTo said after found kind p
    → ReadsFurther bytes (left_after bytes old (Modules said)) ms next p
other_leads law bytes said after kind found ms old next p r o all x =
    leads_to law bytes said old.begin old.begin after kind found o.body ms [] next p r.so_far o.spelled all x

pub indexed_leads : ListGrows
    → (bytes : List ℕ) (said at after kind found : ℕ) (body : List ℕ) (ms : List ModuleValue) (next : UnfinishedModule)
    (p : Progress) → ReadsIndexed bytes said at ms
    → SpellsRecord bytes at after kind body → found ≡ length ms → LeadsTo said after found kind p
    → ReadsFurther bytes (length bytes - at + 1) ms next p
indexed_leads law bytes said at after kind found body ms next p r s all x =
    leads_to law bytes said r.index at after kind found body ms r.records next p r.so_far s all x

-- a module of which more than nothing is read is begun
pub is_begun : (bytes : List ℕ) (begin here : ℕ) (commons : List Common) → ReadsModule bytes begin here commons → here ≢ begin
    → BegunModule bytes begin here commons
is_begun bytes begin here commons (inl n) other = absurd (other n.0)
is_begun bytes begin here commons (inr b) other = b

-- ---- modules so far

pub same_as : (old new : List ModuleValue) → new ≡ old → Extends old new
same_as old new e = record { added = []; is = e ∙ sym (append-nil old) }

pub taken_back : (old new : List ModuleValue) (n : ℕ) → Extends old new → n ≡ length old → take n new ≡ old
taken_back old new n x size = ap (take n) x.is ∙ (ap (λ (k : ℕ). take k (old ++ x.added)) size ∙ take-append_seam old x.added)

-- ---- where no more bytes come

pub header_waits : (bytes : List ℕ) (ms : List ModuleValue) (next : UnfinishedModule) (p : Progress) → p ≡ Header → ms ≡ []
    → IsCutOff bytes 0 → ReadsAll bytes ms next p
header_waits bytes ms next p is empty cut =
    subst (λ (q : Progress). ReadsAll bytes ms next q) (sym is) (record { reads = empty; waits = cut })

counted_modules : (bytes : List ℕ) (said begin here : ℕ) (ms : List ModuleValue) (commons : List Common)
    → OpenLibrary bytes said begin begin ms [] → ReadsModule bytes begin here commons
    → IsCutOff bytes here → CountsModules bytes (length ms)
counted_modules bytes said begin here ms commons o (inl n) cut =
    counted_at_record said begin begin ms [] o (subst (λ (a : ℕ). IsCutOff bytes a) n.0 cut) refl
counted_modules bytes said begin here ms commons o (inr b) cut =
    counted_in_module said begin ms o (record { here = here; commons = commons; begun = b; cut_off = cut }) refl

pub counted : (bytes : List ℕ) (ms : List ModuleValue) (next : UnfinishedModule) (p : Progress) → ReadsTo bytes ms next p
    → WaitsTo bytes next p → CountsModules bytes (length ms)
counted bytes ms next Header r w = counted_in_header w (ap (λ (l : List ModuleValue). length l) r)
counted bytes ms next (Modules said) r w =
    counted_modules bytes said next.begin next.here ms next.commons.items r.so_far r.next_module w
counted bytes ms next (Index said at) r w = counted_at_record said r.index at ms r.records r.so_far w refl
counted bytes ms next Ended r w = ended ms r refl

faults_between : (bytes : List ℕ) (said : ℕ) (ms : List ModuleValue) (next : UnfinishedModule) (f : LibraryFault)
    → ReadsModules bytes said ms next → IsCutOff bytes next.here
    → next.here ≡ next.begin → FaultsWhereCut bytes next.here (NoEnd next.here) f → FaultsLibrary bytes f
faults_between bytes said ms next f r cut same w =
    record_cut bytes said next.begin next.begin ms [] f r.so_far (subst (λ (a : ℕ). IsCutOff bytes a) same cut)
    (subst (λ (a : ℕ). FaultsWhereCut bytes a (NoEnd a) f) same w)

faults_inside : ModulesStand → (bytes : List ℕ) (said : ℕ) (ms : List ModuleValue) (next : UnfinishedModule) (f : LibraryFault)
    → ReadsModules bytes said ms next → IsCutOff bytes next.here
    → next.here ≢ next.begin → FaultsWhereCut bytes next.here (no_end_in_module next.here) f → FaultsLibrary bytes f
faults_inside l bytes said ms next f r cut other w =
    module_cut l bytes said next.begin next.here ms next.commons.items f r.so_far
    (is_begun bytes next.begin next.here next.commons.items r.next_module other) cut w

pub faults_in_modules : ModulesStand → (bytes : List ℕ) (said : ℕ) (ms : List ModuleValue) (next : UnfinishedModule) (f : LibraryFault)
    → ReadsModules bytes said ms next → IsCutOff bytes next.here
    → (next.here ≡ next.begin → FaultsWhereCut bytes next.here (NoEnd next.here) f)
    → (next.here ≢ next.begin → FaultsWhereCut bytes next.here (no_end_in_module next.here) f) → FaultsLibrary bytes f
faults_in_modules l bytes said ms next f r cut between inside =
    elim (eqb_tells next.here next.begin) [
      | inl is ↦ faults_between bytes said ms next f r cut is.1 (between is.1)
      | inr off ↦ faults_inside l bytes said ms next f r cut off.1 (inside off.1)
    ]

pub faults_in_index : (bytes : List ℕ) (said at : ℕ) (ms : List ModuleValue) (f : LibraryFault) → ReadsIndexed bytes said at ms
    → IsCutOff bytes at → FaultsWhereCut bytes at (NoEnd at) f → FaultsLibrary bytes f
faults_in_index bytes said at ms f r cut w = record_cut bytes said r.index at ms r.records f r.so_far cut w
