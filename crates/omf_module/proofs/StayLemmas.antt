-- What stays of a module whatever bytes follow.
use Rattle.std.proofs.Common.{◌≡◌, ◌≢◌, ◌⊎◌, inl, inr, ℕ, ◌<◌, ◌≤◌, true, Option, Some, None, List, [], ◌∷◌, ◌++◌, length, drop, refl, sym, ap, subst, ◌∙◌, arith}
use Rattle.std.specs.List.{All}
use Rattle.std.proofs.lemmas.Bool.{cases_lt}
use Rattle.std.proofs.lemmas.List.{drop_all, length-append}
use Rattle.omf_core.specs.declared.fault.RecordFault.{RecordFault}
use Rattle.omf_core.specs.declared.fault.RecordFault.TheVariants.{Truncated, BadSum}
use Rattle.omf_core.specs.Record.{fault_at}
use Rattle.omf_core.specs.Lasting.{last_now}
use Rattle.omf_core.specs.Laws.{RecordsStay, OtherFaultsStay, TruncatedCanBeSpoilt}
use Rattle.omf_body.specs.declared.body.Body.{Body}
use Rattle.omf_body.specs.declared.body.EndBody.{EndBody}
use Rattle.omf_body.specs.declared.body.Body.TheVariants.{ModuleHeader, ModuleEnd}
use Rattle.omf_model.specs.Modules.{made_of}
use Rattle.omf_model.specs.declared.symbols.Common.{Common}
use Rattle.omf_module.specs.declared.fault.Cause.{Cause}
use Rattle.omf_module.specs.declared.fault.Cause.TheVariants.{Memory, NoHeader, NoEnd, Record}
use Rattle.omf_module.specs.declared.fault.ModuleFault.{ModuleFault}
use Rattle.omf_module.specs.declared.module_file.PlacedBody.{PlacedBody}
use Rattle.omf_module.specs.Fault.{fault_of}
use Rattle.omf_module.specs.Gathered.{parts_of}
use Rattle.omf_module.specs.Records.{SpellsBody, SpellsBodies, ModuleRecords, SpellsModuleRecords}
use Rattle.omf_module.specs.Uses.{fault_by, use_fault}
use Rattle.omf_module.specs.Spelled.{FaultsHeader, no_header_byte, no_header_record, other_kind, in_header_body, FaultsWithin, no_byte}
use Rattle.omf_module.specs.Spelled.{no_record, file_ends, second_header, in_body, in_commons, FaultsModule, in_header, in_records, in_uses}
use Rattle.omf_module.specs.Reading.{Follows, is_end, OrNoMemory}
use Rattle.omf_module.specs.ReadingLaws.{OneFault, NeverBoth}
use Rattle.omf_module.specs.Pieces.{LastingModuleFault, BegunModule, WholeModule, IsCutOff, ReadsModule, WaitsModule}
use Rattle.omf_module.proofs.FileLemmas.{bodies_further}
use Rattle.omf_module.proofs.WithinLemmas.{WithinSoFar, one_within, by_cause}

-- what stays of records
pub record Stay : Type 0 where
  pub records : RecordsStay
  pub faults : OtherFaultsStay

pub of_stay : RecordsStay → OtherFaultsStay → Stay
of_stay r f = record { records = r; faults = f }

body_stays : Stay → (bytes more : List ℕ) (from to : ℕ) (b : Body) → SpellsBody bytes from to b
    → SpellsBody (bytes ++ more) from to b
body_stays s bytes more from to b x =
    record { framed = s.records bytes more from to _ _ x.framed; sound = x.sound; fits = x.fits }

bodies_stay : Stay → (bytes more : List ℕ) (from to : ℕ) (ps : List PlacedBody) → SpellsBodies bytes from to ps
    → SpellsBodies (bytes ++ more) from to ps
bodies_stay s bytes more from to [] x = x
bodies_stay s bytes more from to (p ∷ ps) x =
    (x.0, (x.1.0, body_stays s bytes more from x.1.0 p.body x.1.1, bodies_stay s bytes more x.1.0 to ps x.1.2))

pub module_records_stay : Stay → (bytes more : List ℕ) (after : ℕ) (r : ModuleRecords) → SpellsModuleRecords bytes after r
    → SpellsModuleRecords (bytes ++ more) after r
module_records_stay s bytes more after r x = record {
  first = x.first;
  header = body_stays s bytes more r.at x.first (ModuleHeader r.header) x.header;
  within = bodies_stay s bytes more x.first r.end_at r.within x.within;
  follow = x.follow;
  end = body_stays s bytes more r.end_at after (ModuleEnd r.end) x.end;
}

pub begun_stays : Stay → (bytes more : List ℕ) (begin here : ℕ) (commons : List Common) → BegunModule bytes begin here commons
    → BegunModule (bytes ++ more) begin here commons
begun_stays s bytes more begin here commons b = record {
  first = b.first;
  header = b.header;
  bodies = b.bodies;
  begins = body_stays s bytes more begin b.first (ModuleHeader b.header) b.begins;
  spelled = bodies_stay s bytes more b.first here b.bodies b.spelled;
  follow = b.follow;
  declared = b.declared;
}

-- no byte stands where a record is cut off
pub past_is_cut_off : (bytes : List ℕ) (at : ℕ) → length bytes ≤ at → IsCutOff bytes at
past_is_cut_off bytes at past = ap (λ (r : List ℕ). fault_at r at) (drop_all at bytes past)

pub record_fault_stays : Stay → (bytes more : List ℕ) (at : ℕ) (f : RecordFault) → (IsCutOff bytes at → ⊥)
    → fault_at (drop at bytes) at ≡ Some f → fault_at (drop at (bytes ++ more)) at ≡ Some f
record_fault_stays s bytes more at f whole x =
    elim (s.faults bytes more at f x) [
      | inl cut ↦ absurd (whole (x ∙ ap Some cut))
      | inr stays ↦ stays.2
    ]

more_bytes : (bytes more : List ℕ) (at : ℕ) → at < length bytes → at < length (bytes ++ more)
more_bytes bytes more at within = omega (arith, length-append bytes more)

header_stays : Stay → (bytes more : List ℕ) (at : ℕ) (why : Cause) → (IsCutOff bytes at → ⊥) → FaultsHeader bytes at why
    → FaultsHeader (bytes ++ more) at why
header_stays s bytes more at why whole (no_header_byte p) = absurd (whole (past_is_cut_off bytes at p))
header_stays s bytes more at why whole (no_header_record f w x) =
    no_header_record f (more_bytes bytes more at w) (record_fault_stays s bytes more at f whole x)
header_stays s bytes more at why whole (other_kind n k body r o) = other_kind n k body (s.records bytes more at n k body r) o
header_stays s bytes more at why whole (in_header_body n body f r e) =
    in_header_body n body f (s.records bytes more at n 2 body r) e

within_stays : Stay → (bytes more : List ℕ) (at : ℕ) (commons : List Common) (why : Cause) → (IsCutOff bytes at → ⊥)
    → FaultsWithin bytes at commons why → FaultsWithin (bytes ++ more) at commons why
within_stays s bytes more at commons why whole (no_byte p) = absurd (whole (past_is_cut_off bytes at p))
within_stays s bytes more at commons why whole (no_record f w x) =
    no_record f (more_bytes bytes more at w) (record_fault_stays s bytes more at f whole x)
within_stays s bytes more at commons why whole (file_ends n body r) = file_ends n body (s.records bytes more at n 14 body r)
within_stays s bytes more at commons why whole (second_header n body r) =
    second_header n body (s.records bytes more at n 2 body r)
within_stays s bytes more at commons why whole (in_body n k body f r alone e) =
    in_body n k body f (s.records bytes more at n k body r) alone e
within_stays s bytes more at commons why whole (in_commons n body f r e) =
    in_commons n body f (s.records bytes more at n 0x2E body r) e

-- ---- faults that last

pub header_lasts : Stay → (bytes : List ℕ) (at : ℕ) (why : Cause) → (IsCutOff bytes at → ⊥) → (why ≢ Memory)
    → FaultsHeader bytes at why → OrNoMemory (LastingModuleFault bytes at) (fault_of at why)
header_lasts s bytes at why whole real x =
    by_cause (LastingModuleFault bytes at) at why (λ _ more small. in_header why (header_stays s bytes more at why whole x))

pub records_last : Stay → (bytes : List ℕ) (begin here : ℕ) (commons : List Common) (why : Cause)
    → BegunModule bytes begin here commons → (IsCutOff bytes here → ⊥) → (why ≢ Memory → FaultsWithin bytes here commons why)
    → OrNoMemory (LastingModuleFault bytes begin) (fault_of here why)
records_last s bytes begin here commons why b whole x =
    by_cause (LastingModuleFault bytes begin) here why (λ real more small.
    let more_of = begun_stays s bytes more begin here commons b in
    in_records more_of.first more_of.header (fault_by here why) more_of.begins
    (record {
      here = here;
      before = more_of.bodies;
      why = why;
      spelled = more_of.spelled;
      follow = more_of.follow;
      faults = subst (λ (c : List Common). FaultsWithin (bytes ++ more) here c why) more_of.declared
          (within_stays s bytes more here commons why whole (x real));
      is = refl;
    }))

-- the end of a module that is begun
pub ends_module : (bytes : List ℕ) (begin here after : ℕ) (commons : List Common) (end : EndBody)
    → BegunModule bytes begin here commons → SpellsBody bytes here after (ModuleEnd end) → WholeModule bytes begin
ends_module bytes begin here after commons end b x = record {
  after = after;
  records = record { at = begin; header = b.header; within = b.bodies; end_at = here; end = end };
  begins = refl;
  spelled = record { first = b.first; header = b.begins; within = b.spelled; follow = b.follow; end = x };
}

-- one record more
pub goes_further : (bytes : List ℕ) (begin here next : ℕ) (before after : List Common) (body : Body)
    → BegunModule bytes begin here before → Follows bytes here next before after body → is_end body ≢ true
    → BegunModule bytes begin next after
goes_further bytes begin here next before after body b f other =
    let so_far : WithinSoFar bytes b.first here b.bodies before =
    record { spelled = b.spelled; follow = b.follow; declared = b.declared } in
    let w = one_within bytes b.first here next b.bodies before after body so_far f other in
    record {
      first = b.first;
      header = b.header;
      bodies = b.bodies ++ record { at = here; body = body } ∷ [];
      begins = b.begins;
      spelled = w.spelled;
      follow = w.follow;
      declared = w.declared;
    }

uses_last : Stay → OneFault → NeverBoth
    → (bytes : List ℕ) (begin : ℕ) (f : ModuleFault) (w : WholeModule bytes begin) (o : Option ModuleFault)
    → use_fault w.records ≡ o → FaultsModule bytes begin f → LastingModuleFault bytes begin f
uses_last s one never bytes begin f w None used x = absurd (never bytes begin w.after (made_of (parts_of w.records)) f
    (record { records = w.records; begins = w.begins; spelled = w.spelled; used = used; says = refl }) x)
uses_last s one never bytes begin f w (Some g) used x = λ more small.
    let same : f ≡ g = one bytes begin f g x (in_uses w.after w.records g w.begins w.spelled used) in
    subst (λ (h : ModuleFault). FaultsModule (bytes ++ more) begin h) (sym same)
    (in_uses w.after w.records g w.begins (module_records_stay s bytes more w.after w.records w.spelled) used)

-- the fault of a module whose records all stand there
pub whole_module_lasts : Stay → OneFault → NeverBoth → (bytes : List ℕ) (begin : ℕ) (f : ModuleFault) → WholeModule bytes begin
    → OrNoMemory (FaultsModule bytes begin) f → OrNoMemory (LastingModuleFault bytes begin) f
whole_module_lasts s one never bytes begin f w (inl none) = inl none
whole_module_lasts s one never bytes begin f w (inr x) = inr (uses_last s one never bytes begin f w (use_fault w.records) refl x)

-- a module that is begun is read further than to its begin
pub begun_further : (bytes : List ℕ) (begin here : ℕ) (commons : List Common) → BegunModule bytes begin here commons
    → begin < here
begun_further bytes begin here commons b =
    omega (arith, b.begins.framed.all_counted, bodies_further bytes b.first here b.bodies b.spelled)

pub none_declared : (bytes : List ℕ) (begin here : ℕ) (commons : List Common) → ReadsModule bytes begin here commons
    → here ≡ begin → commons ≡ []
none_declared bytes begin here commons (inl n) same = n.1
none_declared bytes begin here commons (inr b) same = absurd (omega (arith, same, begun_further bytes begin here commons b))

-- ---- where a module waits for bytes, no fault lasts

header_waits : (bytes : List ℕ) (begin : ℕ) → IsCutOff bytes begin → (begin < length bytes) ⊎ (length bytes ≤ begin)
    → (why : Cause) × FaultsHeader bytes begin why × (why ≡ Record (BadSum begin) → ⊥)
header_waits bytes begin cut (inl within) = (Record (Truncated begin), no_header_record (Truncated begin) within cut, λ e. cc)
header_waits bytes begin cut (inr past) = (NoHeader, no_header_byte past, λ e. cc)

within_waits : (bytes : List ℕ) (here : ℕ) (commons : List Common) → IsCutOff bytes here
    → (here < length bytes) ⊎ (length bytes ≤ here)
    → (why : Cause) × FaultsWithin bytes here commons why × (why ≡ Record (BadSum here) → ⊥)
within_waits bytes here commons cut (inl within) = (Record (Truncated here), no_record (Truncated here) within cut, λ e. cc)
within_waits bytes here commons cut (inr past) = (NoEnd, no_byte past, λ e. cc)

-- the fault of a record after the beginning of a module
pub begun_faults : (bytes : List ℕ) (begin here : ℕ) (commons : List Common) (why : Cause) → BegunModule bytes begin here commons
    → FaultsWithin bytes here commons why → FaultsModule bytes begin (fault_by here why)
begun_faults bytes begin here commons why b x =
    in_records b.first b.header (fault_by here why) b.begins
    (record {
      here = here;
      before = b.bodies;
      why = why;
      spelled = b.spelled;
      follow = b.follow;
      faults = subst (λ (c : List Common). FaultsWithin bytes here c why) b.declared x;
      is = refl;
    })

bodies_inside : (bytes : List ℕ) (from to : ℕ) (ps : List PlacedBody) → from ≤ length bytes → SpellsBodies bytes from to ps
    → to ≤ length bytes
bodies_inside bytes from to [] inside s = omega (arith, s)
bodies_inside bytes from to (p ∷ ps) inside s = bodies_inside bytes s.1.0 to ps (omega (arith, s.1.1.framed.within)) s.1.2

pub begun_inside : (bytes : List ℕ) (begin here : ℕ) (commons : List Common) → BegunModule bytes begin here commons
    → here ≤ length bytes
begun_inside bytes begin here commons b = bodies_inside bytes b.first here b.bodies b.begins.framed.within b.spelled

-- A module that waits for bytes has one fault as it stands, and another where some bytes follow.
pub record Undone (bytes : List ℕ) (begin : ℕ) : Type 0 where
  pub more : List ℕ
  pub small : All (λ byte. byte < 256) more
  pub at : ℕ
  pub why : Cause
  pub now : FaultsModule bytes begin (fault_by at why)
  pub later : FaultsModule (bytes ++ more) begin (fault_by at (Record (BadSum at)))
  pub other : why ≡ Record (BadSum at) → ⊥

pub undone : Stay → TruncatedCanBeSpoilt → (bytes : List ℕ) (begin : ℕ) → begin ≤ length bytes → WaitsModule bytes begin
    → Undone bytes begin
undone s law bytes begin inside (inl cut) =
    let x = header_waits bytes begin cut (cases_lt begin (length bytes)) in
    let y = law bytes begin inside cut in
    record {
      more = y.0;
      small = y.1;
      at = begin;
      why = x.0;
      now = in_header x.0 x.1;
      later = in_header (Record (BadSum begin)) (no_header_record (BadSum begin) y.2 y.3);
      other = x.2;
    }
undone s law bytes begin inside (inr w) =
    let x = within_waits bytes w.here w.commons w.cut_off (cases_lt w.here (length bytes)) in
    let y = law bytes w.here (begun_inside bytes begin w.here w.commons w.begun) w.cut_off in
    let more_of = begun_stays s bytes y.0 begin w.here w.commons w.begun in
    record {
      more = y.0;
      small = y.1;
      at = w.here;
      why = x.0;
      now = begun_faults bytes begin w.here w.commons x.0 w.begun x.1;
      later = begun_faults (bytes ++ y.0) begin w.here w.commons (Record (BadSum w.here)) more_of
          (no_record (BadSum w.here) y.2 y.3);
      other = x.2;
    }

pub waits_none : Stay → TruncatedCanBeSpoilt → OneFault → (bytes : List ℕ) (begin : ℕ) (f : ModuleFault) → begin ≤ length bytes
    → WaitsModule bytes begin → LastingModuleFault bytes begin f → ⊥
waits_none s law one bytes begin f inside waits lasts =
    let u = undone s law bytes begin inside waits in
    let now = one bytes begin f (fault_by u.at u.why) (last_now (λ b. FaultsModule b begin) bytes f lasts) u.now in
    let then_ = one (bytes ++ u.more) begin f (fault_by u.at (Record (BadSum u.at))) (lasts u.more u.small) u.later in
    u.other (ap (λ (g : ModuleFault). g.cause) (sym now ∙ then_))
