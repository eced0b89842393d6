-- Object files in pieces: what stays of a file whatever bytes follow, and the faults that do.
use Rattle.std.proofs.Common.{◌≡◌, ◌⊎◌, inl, inr, ℕ, ◌<◌, ◌≤◌, Bool, true, false, Option, Some, None, List, [], ◌∷◌, ◌++◌, length, drop, refl, sym, ap, subst, ◌∙◌, arith}
use Rattle.std.specs.List.{All}
use Rattle.std.proofs.lemmas.Bool.{cases_lt}
use Rattle.std.proofs.lemmas.List.{append-nil, length-append}
use Rattle.omf_core.specs.declared.fault.RecordFault.{RecordFault}
use Rattle.omf_core.specs.declared.fault.RecordFault.TheVariants.{BadSum}
use Rattle.omf_core.specs.Record.{SpellsRecord, fault_at}
use Rattle.omf_core.specs.Lasting.{last_now, stay_lasting}
use Rattle.omf_core.specs.Laws.{OneRecordAtEachPlace, NoFaultExactlyAtRecords, TruncatedCanBeSpoilt}
use Rattle.omf_model.specs.Modules.{ModuleValue}
use Rattle.omf_model.specs.declared.symbols.Common.{Common}
use Rattle.omf_module.specs.declared.fault.Cause.TheVariants.{NoHeader, NoEnd, Record}
use Rattle.omf_module.specs.declared.fault.ModuleFault.{ModuleFault}
use Rattle.omf_module.specs.declared.file_feed.Progress.{Progress}
use Rattle.omf_module.specs.Uses.{fault_by}
use Rattle.omf_module.specs.Spelled.{SpellsModule, SpellsModules, EndsFile, SpellsFile, other_kind, FaultsModule, in_header, no_header_byte, FaultsFile, first_module, later_module, no_end}
use Rattle.omf_module.specs.Reading.{OrNoMemory}
use Rattle.omf_module.specs.ReadingLaws.{OneModule, OneFault, NeverBoth, OneFileFault, NeverBothFile}
use Rattle.omf_module.specs.Pieces.{LastingModuleFault, IsCutOff, ReadsModule, WaitsModule}
use Rattle.omf_module.specs.FileFeedLaws.{OneModuleCount, LastingFileFaultsLast}
use Rattle.omf_module.specs.FileFeed.{CountsModules, LastingFileFault, EndsAfter, ReadsNext, ReadsFile, Stops, IsUnread, GrowsBy}
use Rattle.omf_module.proofs.OneReading.{some_none}
use Rattle.omf_module.proofs.FileLemmas.{modules_push, module_further}
use Rattle.omf_module.proofs.StayLemmas.{Stay, module_records_stay, begun_stays, past_is_cut_off, record_fault_stays, Undone, undone, waits_none}

-- ---- what stays

pub module_stays : Stay → (bytes more : List ℕ) (at after : ℕ) (m : ModuleValue) → SpellsModule bytes at after m
    → SpellsModule (bytes ++ more) at after m
module_stays s bytes more at after m x = record {
  records = x.records;
  begins = x.begins;
  spelled = module_records_stay s bytes more after x.records x.spelled;
  used = x.used;
  says = x.says;
}

pub modules_stay : Stay → (bytes more : List ℕ) (from to : ℕ) (ms : List ModuleValue) → SpellsModules bytes from to ms
    → SpellsModules (bytes ++ more) from to ms
modules_stay s bytes more from to [] x = x
modules_stay s bytes more from to (m ∷ ms) x =
    (x.0, module_stays s bytes more from x.0 m x.1, modules_stay s bytes more x.0 to ms x.2)

end_stays : Stay → (bytes more : List ℕ) (at : ℕ) → EndsFile bytes at → EndsFile (bytes ++ more) at
end_stays s bytes more at e =
    record { next = e.next; body = e.body; spelled = s.records bytes more at e.next 14 e.body e.spelled }

pub reads_module_stays : Stay → (bytes more : List ℕ) (begin here : ℕ) (commons : List Common) → ReadsModule bytes begin here commons
    → ReadsModule (bytes ++ more) begin here commons
reads_module_stays s bytes more begin here commons (inl n) = inl n
reads_module_stays s bytes more begin here commons (inr b) = inr (begun_stays s bytes more begin here commons b)

next_stays : Stay → (bytes more : List ℕ) (read : Progress) (ended : Bool) → ReadsNext bytes read ended
    → ReadsNext (bytes ++ more) read ended
next_stays s bytes more read true e = record { some = e.some; ends = end_stays s bytes more read.unfinished.begin e.ends }
next_stays s bytes more read false r =
    reads_module_stays s bytes more read.unfinished.begin read.unfinished.here read.unfinished.commons.items r

-- what was read of bytes is read of those and any others
pub reads_stay : Stay → (bytes more : List ℕ) (read : Progress) → ReadsFile bytes read → ReadsFile (bytes ++ more) read
reads_stay s bytes more read r = record {
  spelled = modules_stay s bytes more 0 read.unfinished.begin read.modules.items r.spelled;
  inside = omega (arith, r.inside, length-append bytes more);
  next = next_stays s bytes more read read.ended r.next;
}

-- a record that isn't cut off is the end-of-file record of more bytes only where it is that of these
end_came : Stay → OneRecordAtEachPlace → NoFaultExactlyAtRecords → (bytes more : List ℕ) (at : ℕ) → at < length bytes
    → (IsCutOff bytes at → ⊥) → EndsFile (bytes ++ more) at → EndsFile bytes at
end_came s one none bytes more at within whole e = by_fault (fault_at (drop at bytes) at) refl
  where
    by_fault : (o : Option RecordFault) → fault_at (drop at bytes) at ≡ o → EndsFile bytes at
    by_fault None sound =
        let r = (none bytes at).0 sound in
        let same = one (bytes ++ more) at e.next r.0 14 r.1 e.body r.2 e.spelled (s.records bytes more at r.0 r.1 r.2 r.3) in
        record { next = r.0; body = r.2; spelled = subst (λ (k : ℕ). SpellsRecord bytes at r.0 k r.2) (sym same.0) r.3 }
    by_fault (Some f) fault =
        absurd (some_none (fault_at (drop at (bytes ++ more)) at) f (record_fault_stays s bytes more at f whole fault)
        ((none (bytes ++ more) at).1 (e.next, 14, e.body, e.spelled)))

-- ---- a module's fault as its file's

no_header_kind : (k : ℕ) → k ≡ 14 → k ≡ 2 → ⊥
no_header_kind k p q = omega (arith, p, q)

ended_module : (bytes : List ℕ) (at : ℕ) → EndsFile bytes at → FaultsModule bytes at (fault_by at NoHeader)
ended_module bytes at e = in_header NoHeader (other_kind e.next 14 e.body e.spelled (no_header_kind 14 refl))

record GoesOn (bytes : List ℕ) (at : ℕ) : Type 0 where
  within : at < length bytes
  unended : EndsFile bytes at → ⊥

-- a module whose fault is another than that none begins
goes_on : OneFault → (bytes : List ℕ) (at : ℕ) (f : ModuleFault) → FaultsModule bytes at f → (f.cause ≡ NoHeader → ⊥)
    → GoesOn bytes at
goes_on one bytes at f x other = record {
  within = is_within (cases_lt at (length bytes));
  unended = λ e. other (ap (λ (g : ModuleFault). g.cause) (one bytes at f (fault_by at NoHeader) x (ended_module bytes at e)));
}
  where
    is_within : (at < length bytes) ⊎ (length bytes ≤ at) → at < length bytes
    is_within (inl within) = within
    is_within (inr past) = absurd
        (other (ap (λ (g : ModuleFault). g.cause)
        (one bytes at f (fault_by at NoHeader) x (in_header NoHeader (no_header_byte past)))))

next_fault : (bytes : List ℕ) (at : ℕ) (ms : List ModuleValue) (f : ModuleFault) → SpellsModules bytes 0 at ms
    → (0 < length ms → GoesOn bytes at) → FaultsModule bytes at f → FaultsFile bytes f
next_fault bytes at [] f s goes x = first_module f (subst (λ (a : ℕ). FaultsModule bytes a f) (sym s) x)
next_fault bytes at (m ∷ ms) f s goes x =
    let some : 0 < length (m ∷ ms) = omega arith in
    let g = goes some in
    later_module at (m ∷ ms) f some s g.within g.unended x

-- ---- where a file waits for bytes

-- Where more bytes are needed for a module, no record ends the file.
waits_unended : Stay → TruncatedCanBeSpoilt → OneFault → (bytes : List ℕ) (at : ℕ) → at ≤ length bytes → WaitsModule bytes at
    → EndsFile bytes at → ⊥
waits_unended s law one bytes at inside waits e =
    let u = undone s law bytes at inside waits in
    (goes_on one (bytes ++ u.more) at (fault_by u.at (Record (BadSum u.at))) u.later (λ x. cc)).unended
    (end_stays s bytes u.more at e)

-- the fault of a file that waits for bytes
waiting_fault : Stay → TruncatedCanBeSpoilt → OneFault → (bytes : List ℕ) (at : ℕ) (ms : List ModuleValue) (f : ModuleFault)
    → SpellsModules bytes 0 at ms → at ≤ length bytes → WaitsModule bytes at → (0 < length ms → at < length bytes)
    → FaultsModule bytes at f → FaultsFile bytes f
waiting_fault s law one bytes at ms f spelled inside waits within x =
    next_fault bytes at ms f spelled
    (λ some. record { within = within some; unended = waits_unended s law one bytes at inside waits }) x

pub waiting_answer : Stay → TruncatedCanBeSpoilt → OneFault → (bytes : List ℕ) (read : Progress) (f : ModuleFault)
    → ReadsFile bytes read → WaitsModule bytes read.unfinished.begin
    → (0 < length read.modules.items → read.unfinished.begin < length bytes)
    → OrNoMemory (FaultsModule bytes read.unfinished.begin) f → OrNoMemory (FaultsFile bytes) f
waiting_answer s law one bytes read f r waits within (inl none) = inl none
waiting_answer s law one bytes read f r waits within (inr x) =
    inr (waiting_fault s law one bytes read.unfinished.begin read.modules.items f r.spelled r.inside waits within x)

-- no whole module follows where more bytes are needed
pub waits_no_module : Stay → TruncatedCanBeSpoilt → NeverBoth → (bytes : List ℕ) (at after : ℕ) (m : ModuleValue)
    → at ≤ length bytes → WaitsModule bytes at → SpellsModule bytes at after m → ⊥
waits_no_module s law never bytes at after m inside waits x =
    let u = undone s law bytes at inside waits in
    never bytes at after m (fault_by u.at u.why) x u.now

pub now_answer : (bytes : List ℕ) (f : ModuleFault) → OrNoMemory (LastingFileFault bytes) f → OrNoMemory (FaultsFile bytes) f
now_answer bytes f (inl none) = inl none
now_answer bytes f (inr lasts) = inr (last_now FaultsFile bytes f lasts)

pub kept_answer : (bytes : List ℕ) (Kept : ModuleFault → Type 0) (f : ModuleFault)
    → OrNoMemory (λ fault. LastingFileFault bytes fault × Kept fault) f → OrNoMemory (FaultsFile bytes) f
kept_answer bytes Kept f (inl none) = inl none
kept_answer bytes Kept f (inr x) = inr (last_now FaultsFile bytes f x.0)

some_cases : (ms : List ModuleValue) → (ms ≡ []) ⊎ (0 < length ms)
some_cases [] = inl refl
some_cases (m ∷ ms) = inr (omega arith)

-- the file's fault as it stands, which isn't that of a wrong sum at this place
record NowFaults (bytes : List ℕ) (place : ℕ) : Type 0 where
  fault : ModuleFault
  faults : FaultsFile bytes fault
  other : fault.cause ≡ Record (BadSum place) → ⊥

waits_now : Stay → TruncatedCanBeSpoilt → OneFault → (bytes : List ℕ) (at : ℕ) (ms : List ModuleValue) (u : Undone bytes at)
    → SpellsModules bytes 0 at ms → at ≤ length bytes → WaitsModule bytes at → (at < length bytes) ⊎ (length bytes ≤ at)
    → (ms ≡ []) ⊎ (0 < length ms) → NowFaults bytes u.at
waits_now s law one bytes at ms u spelled inside waits (inl within) any =
    record {
      fault = fault_by u.at u.why;
      faults = waiting_fault s law one bytes at ms (fault_by u.at u.why) spelled inside waits (λ _. within) u.now;
      other =
          u.other;
    }
waits_now s law one bytes at ms u spelled inside waits (inr past) (inl none) = record {
  fault = fault_by u.at u.why;
  faults = waiting_fault s law one bytes at ms (fault_by u.at u.why) spelled inside waits
      (λ some. absurd (omega (arith, some, ap length none))) u.now;
  other = u.other;
}
waits_now s law one bytes at ms u spelled inside waits (inr past) (inr some) =
    record { fault = fault_by at NoEnd; faults = no_end at ms some spelled past; other = λ e. cc }

-- a fault that is another one where more bytes follow doesn't last
changes : OneFileFault → (bytes more : List ℕ) (f g h : ModuleFault) → LastingFileFault bytes f → All (λ byte. byte < 256) more
    → FaultsFile bytes g → FaultsFile (bytes ++ more) h → (g.cause ≡ h.cause → ⊥) → ⊥
changes one bytes more f g h lasts small x y other =
    other (ap (λ (k : ModuleFault). k.cause) (sym (one bytes f g (last_now FaultsFile bytes f lasts) x)
    ∙ one (bytes ++ more) f h (lasts more small) y))

waits_have_none : Stay → TruncatedCanBeSpoilt → OneFault → OneFileFault
    → (bytes : List ℕ) (at : ℕ) (ms : List ModuleValue) (f : ModuleFault)
    → SpellsModules bytes 0 at ms → at ≤ length bytes → WaitsModule bytes at → LastingFileFault bytes f → ⊥
waits_have_none s law one one_file bytes at ms f spelled inside waits lasts =
    let u = undone s law bytes at inside waits in
    let n = waits_now s law one bytes at ms u spelled inside waits (cases_lt at (length bytes)) (some_cases ms) in
    let spoilt : ModuleFault = fault_by u.at (Record (BadSum u.at)) in
    let later = next_fault (bytes ++ u.more) at ms spoilt (modules_stay s bytes u.more 0 at ms spelled)
    (λ _. goes_on one (bytes ++ u.more) at spoilt u.later (λ x. cc)) u.later in
    changes one_file bytes u.more f n.fault spoilt lasts u.small n.faults later n.other

-- ---- where reading stops

pub file_read : (bytes : List ℕ) (at : ℕ) (ms : List ModuleValue) → SpellsModules bytes 0 at ms → EndsAfter bytes at ms
    → SpellsFile bytes ms
file_read bytes at ms spelled e = record { some = e.some; end = at; spelled = spelled; ends = e.ends }

pub stops_none : Stay → TruncatedCanBeSpoilt → OneFault → OneFileFault → NeverBothFile
    → (bytes : List ℕ) (read : Progress) (ended : Bool)
    → ReadsFile bytes read → Stops bytes read ended → (f : ModuleFault) → LastingFileFault bytes f → ⊥
stops_none s law one one_file never bytes read true r e f lasts =
    never bytes read.modules.items f (file_read bytes read.unfinished.begin read.modules.items r.spelled e)
    (last_now FaultsFile bytes f lasts)
stops_none s law one one_file never bytes read false r waits f lasts =
    waits_have_none s law one one_file bytes read.unfinished.begin read.modules.items f r.spelled r.inside waits lasts

stops_last : Stay → TruncatedCanBeSpoilt → NeverBoth → (bytes : List ℕ) (read : Progress) (ended : Bool)
    → ReadsFile bytes read → Stops bytes read ended → (after : ℕ) (m : ModuleValue)
    → SpellsModule bytes read.unfinished.begin after m → ⊥
stops_last s law never bytes read true r e after m x =
    never bytes read.unfinished.begin after m (fault_by read.unfinished.begin NoHeader) x
    (ended_module bytes read.unfinished.begin e.ends)
stops_last s law never bytes read false r waits after m x =
    waits_no_module s law never bytes read.unfinished.begin after m r.inside waits x

pub stops_counted : Stay → TruncatedCanBeSpoilt → NeverBoth → (bytes : List ℕ) (read : Progress) (ended : Bool)
    → ReadsFile bytes read → Stops bytes read ended → CountsModules bytes (length read.modules.items)
stops_counted s law never bytes read ended r stops = record {
  to = read.unfinished.begin;
  modules = read.modules.items;
  spelled = r.spelled;
  last = stops_last s law never bytes read ended r stops;
  counted = refl;
}

-- ---- reading on

pub module_fault_lasts : Stay → TruncatedCanBeSpoilt → OneFault → OneRecordAtEachPlace → NoFaultExactlyAtRecords
    → (bytes : List ℕ) (at : ℕ) (ms : List ModuleValue) (f : ModuleFault)
    → SpellsModules bytes 0 at ms → at ≤ length bytes → (0 < length ms → EndsFile bytes at → ⊥)
    → OrNoMemory (LastingModuleFault bytes at) f → OrNoMemory (LastingFileFault bytes) f
module_fault_lasts s law one one_record none bytes at ms f spelled inside goes (inl memory) = inl memory
module_fault_lasts s law one one_record none bytes at ms f spelled inside goes (inr lasts) =
    inr (λ more small. next_fault (bytes ++ more) at ms f (modules_stay s bytes more 0 at ms spelled)
    (λ some. record {
      within = omega (arith, within, length-append bytes more);
      unended = λ e. goes some (end_came s one_record none bytes more at within whole e);
    }) (lasts more small))
  where
    whole : IsCutOff bytes at → ⊥
    whole cut = waits_none s law one bytes at f inside (inl cut) lasts

    by_place : (at < length bytes) ⊎ (length bytes ≤ at) → at < length bytes
    by_place (inl w) = w
    by_place (inr past) = absurd (whole (past_is_cut_off bytes at past))

    within : at < length bytes
    within = by_place (cases_lt at (length bytes))

-- ---- how far a file is read

unread : (bytes : List ℕ) (read : Progress) (at : ℕ) → IsUnread read.unfinished at
    → ReadsModule bytes read.unfinished.begin read.unfinished.here read.unfinished.commons.items
unread bytes read at u = inl (u.here ∙ sym u.begin, u.commons)

open_next : (bytes : List ℕ) (read : Progress) → read.ended ≡ false
    → ReadsModule bytes read.unfinished.begin read.unfinished.here read.unfinished.commons.items → ReadsNext bytes read read.ended
open_next bytes read on r = subst (λ (e : Bool). ReadsNext bytes read e) (sym on) r

moved : (bytes : List ℕ) (to to' : ℕ) (ms ms' : List ModuleValue) → SpellsModules bytes 0 to ms → to' ≡ to → ms' ≡ ms
    → SpellsModules bytes 0 to' ms'
moved bytes to to' ms ms' s p q =
    subst (λ (t : ℕ). SpellsModules bytes 0 t ms') (sym p)
    (subst (λ (xs : List ModuleValue). SpellsModules bytes 0 to xs) (sym q) s)

pub reads_more : (bytes : List ℕ) (old new : Progress) (after : ℕ) (m : ModuleValue) → ReadsFile bytes old
    → SpellsModule bytes old.unfinished.begin after m
    → new.modules.items ≡ old.modules.items ++ m ∷ [] → IsUnread new.unfinished after → new.ended ≡ false → ReadsFile bytes new
reads_more bytes old new after m r x modules u on = record {
  spelled = moved bytes after new.unfinished.begin (old.modules.items ++ m ∷ []) new.modules.items
      (modules_push bytes 0 old.unfinished.begin after old.modules.items m r.spelled x) u.begin modules;
  inside = omega (arith, (module_further bytes old.unfinished.begin after m x).1, u.begin);
  next = open_next bytes new on (unread bytes new after u);
}

pub stops_waiting : (bytes : List ℕ) (read : Progress) (begin : ℕ) → read.ended ≡ false → read.unfinished.begin ≡ begin
    → WaitsModule bytes begin → Stops bytes read read.ended
stops_waiting bytes read begin on same waits =
    subst (λ (e : Bool). Stops bytes read e) (sym on) (subst (λ (b : ℕ). WaitsModule bytes b) (sym same) waits)

-- ---- modules that are kept

pub grows_none : (before after : List ModuleValue) → after ≡ before → GrowsBy before after
grows_none before after same = record { more = []; joined = same ∙ sym (append-nil before) }

-- ---- what holds of counts and of faults that last

count_from : OneModule → (bytes : List ℕ) (from to to' : ℕ) (ms ns : List ModuleValue) → SpellsModules bytes from to ms
    → SpellsModules bytes from to' ns
    → ((after : ℕ) (m : ModuleValue) → SpellsModule bytes to after m → ⊥)
    → ((after : ℕ) (m : ModuleValue) → SpellsModule bytes to' after m → ⊥) → length ms ≡ length ns
count_from one bytes from to to' [] [] s t last last' = refl
count_from one bytes from to to' [] (n ∷ ns) s t last last' =
    absurd (last t.0 n (subst (λ (a : ℕ). SpellsModule bytes a t.0 n) s t.1))
count_from one bytes from to to' (m ∷ ms) [] s t last last' =
    absurd (last' s.0 m (subst (λ (a : ℕ). SpellsModule bytes a s.0 m) t s.1))
count_from one bytes from to to' (m ∷ ms) (n ∷ ns) s t last last' =
    let same = one bytes from s.0 t.0 m n s.1 t.1 in
    let rest = count_from one bytes t.0 to to' ms ns (subst (λ (a : ℕ). SpellsModules bytes a to ms) same.1 s.2) t.2 last last' in
    omega (arith, rest)

pub one_count : OneModule → OneModuleCount
one_count one bytes count count' x y =
    x.counted ∙ (count_from one bytes 0 x.to y.to x.modules y.modules x.spelled y.spelled x.last y.last ∙ sym y.counted)

pub lasting_file_faults_last : LastingFileFaultsLast
lasting_file_faults_last = stay_lasting FaultsFile
