-- What stands at a place is one thing: a record that may stand there, or a first fault.
use Rattle.std.proofs.Common.{◌≡◌, ◌⊎◌, inl, inr, ℕ, ◌<◌, ◌≤◌, Bool, true, false, ◌&&◌, Option, Some, None, List, []}
use Rattle.std.proofs.Common.{◌∷◌, ◌++◌, length, map, drop, Result, Ok, Err, refl, sym, ap, subst, ◌∙◌, arith, IsTrue}
use Rattle.std.specs.Prelude.{not, ◌==◌, if◌then◌else◌}
use Rattle.std.specs.List.{flat_map, list_all}
use Rattle.std.proofs.lemmas.Bool.{and_parts, and_from, not-true, cond-true, cond-false}
use Rattle.omf_core.specs.declared.fault.RecordFault.{RecordFault}
use Rattle.omf_core.specs.Kind.{kind_byte}
use Rattle.omf_core.specs.Name.{is_name, name_spelling}
use Rattle.omf_core.specs.Record.{SpellsRecord, fault_at}
use Rattle.omf_core.specs.Laws.{OneRecordAtEachPlace, NoFaultExactlyAtRecords}
use Rattle.omf_core.specs.SegmentId.{is_common_id}
use Rattle.omf_body.specs.declared.entries.CommonEntry.{CommonEntry}
use Rattle.omf_body.specs.declared.fault.FieldFault.{FieldFault}
use Rattle.omf_body.specs.declared.fault.FieldFault.TheVariants.{BadBody as BadField}
use Rattle.omf_body.specs.declared.fault.BodyFault.{BodyFault}
use Rattle.omf_body.specs.declared.body.Body.{Body}
use Rattle.omf_body.specs.declared.body.Body.TheVariants.{ModuleHeader, EndOfFile, NamedCommons}
use Rattle.omf_body.specs.Fields.{◌>>=◌, read_name}
use Rattle.omf_body.specs.FieldsAgain.{name_again}
use Rattle.omf_body.specs.Entries.{common_bytes, common_layout}
use Rattle.omf_body.specs.Bodies.{body_kind, body_bytes, is_sound_body}
use Rattle.omf_body.specs.FirstFault.{FirstFault}
use Rattle.omf_body.specs.Laws.{OneBody, OneFault as OneBodyFault, NeverBoth as NeverBothBody}
use Rattle.omf_module.specs.declared.fault.Cause.{Cause}
use Rattle.omf_module.specs.declared.fault.Cause.TheVariants.{Record, UnknownKind, NoEnd}
use Rattle.omf_model.specs.declared.symbols.Common.{Common}
use Rattle.omf_model.specs.Rules.{each_after, has_common_name, is_new_common}
use Rattle.omf_model.specs.Segments.{has_common_id}
use Rattle.omf_module.specs.Records.{SpellsBody, may_follow}
use Rattle.omf_module.specs.Spelled.{cause_of, no_header_byte, no_header_record, other_kind, in_header_body, read_new_common, FaultsCommons}
use Rattle.omf_module.specs.Spelled.{here, later, commons_cause, FaultsWithin, no_byte, no_record, file_ends, second_header, in_body, in_commons}
use Rattle.omf_module.specs.Reading.{common_of, is_end}
use Rattle.omf_module.specs.ReadingLaws.{OneHeaderFault, SoundHeader}
use Rattle.omf_model.specs.SoundParts.{new_common}

-- what holds of records and bodies
pub record Below : Type 0 where
  pub one_record : OneRecordAtEachPlace
  pub no_fault : NoFaultExactlyAtRecords
  pub one_body : OneBody
  pub one_fault : OneBodyFault
  pub never_both : NeverBothBody

-- ---- records

pub past_spelled : (bytes : List ℕ) (at next kind : ℕ) (body : List ℕ) → length bytes ≤ at → SpellsRecord bytes at next kind body
    → ⊥
past_spelled bytes at next kind body past s = omega (arith, past, s.all_counted, s.within)

pub past_within : (bytes : List ℕ) (at : ℕ) → length bytes ≤ at → at < length bytes → ⊥
past_within bytes at past within = omega (arith, past, within)

pub some_none : {A : Type 0} (o : Option A) (x : A) → o ≡ Some x → o ≡ None → ⊥
some_none {A} o x e f = absurd cc

pub unframed : Below → (bytes : List ℕ) (at next kind : ℕ) (body : List ℕ) (fault : RecordFault)
    → fault_at (drop at bytes) at ≡ Some fault → SpellsRecord bytes at next kind body → ⊥
unframed b bytes at next kind body fault e s =
    some_none (fault_at (drop at bytes) at) fault e ((b.no_fault bytes at).1 (next, kind, body, s))

pub same_body : Below → (bytes : List ℕ) (at n m : ℕ) (x y : Body) → SpellsBody bytes at n x → SpellsBody bytes at m y
    → (x ≡ y) × (n ≡ m)
same_body b bytes at n m x y s t =
    let same = b.one_record bytes at n m (kind_byte (body_kind x)) (kind_byte (body_kind y)) (body_bytes x)
    (body_bytes y) s.framed t.framed in (
      b.one_body (kind_byte (body_kind x)) (body_bytes x) x y (record { of_kind = refl; joined = refl; sound = s.sound })
          (record { of_kind = same.0; joined = same.1; sound = t.sound }),
      same.2,
    )

-- ---- headers

pub header_sound : Below → SoundHeader
header_sound b bytes at next header why s (no_header_byte past) =
    past_spelled bytes at next 2 (body_bytes (ModuleHeader header)) past s.framed
header_sound b bytes at next header why s (no_header_record fault within e) =
    unframed b bytes at next 2 (body_bytes (ModuleHeader header)) fault e s.framed
header_sound b bytes at next header why s (other_kind n k body r other) =
    other (b.one_record bytes at n next k 2 body (body_bytes (ModuleHeader header)) r s.framed).0
header_sound b bytes at next header why s (in_header_body n body fault r e) =
    let same = b.one_record bytes at n next 2 2 body (body_bytes (ModuleHeader header)) r s.framed in
    b.never_both 2 body (ModuleHeader header) fault (record { of_kind = refl; joined = same.1; sound = s.sound }) e

pub some_same : {A : Type 0} (o : Option A) (x y : A) → o ≡ Some x → o ≡ Some y → x ≡ y
some_same {A} o x y e f = cc

pub one_header_fault : Below → OneHeaderFault
one_header_fault b bytes at why why' (no_header_byte p) (no_header_byte q) = refl
one_header_fault b bytes at why why' (no_header_byte p) (no_header_record f w e) = absurd (past_within bytes at p w)
one_header_fault b bytes at why why' (no_header_byte p) (other_kind n k body r o) = refl
one_header_fault b bytes at why why' (no_header_byte p) (in_header_body n body f r e) =
    absurd (past_spelled bytes at n 2 body p r)
one_header_fault b bytes at why why' (no_header_record f w e) (no_header_byte q) = absurd (past_within bytes at q w)
one_header_fault b bytes at why why' (no_header_record f w e) (no_header_record g v d) =
    ap Record (some_same (fault_at (drop at bytes) at) f g e d)
one_header_fault b bytes at why why' (no_header_record f w e) (other_kind n k body r o) =
    absurd (unframed b bytes at n k body f e r)
one_header_fault b bytes at why why' (no_header_record f w e) (in_header_body n body g r d) =
    absurd (unframed b bytes at n 2 body f e r)
one_header_fault b bytes at why why' (other_kind n k body r o) (no_header_byte q) = refl
one_header_fault b bytes at why why' (other_kind n k body r o) (no_header_record g v d) =
    absurd (unframed b bytes at n k body g d r)
one_header_fault b bytes at why why' (other_kind n k body r o) (other_kind n' k' body' r' o') = refl
one_header_fault b bytes at why why' (other_kind n k body r o) (in_header_body n' body' g r' d) =
    absurd (o (b.one_record bytes at n n' k 2 body body' r r').0)
one_header_fault b bytes at why why' (in_header_body n body f r e) (no_header_byte q) =
    absurd (past_spelled bytes at n 2 body q r)
one_header_fault b bytes at why why' (in_header_body n body f r e) (no_header_record g v d) =
    absurd (unframed b bytes at n 2 body g d r)
one_header_fault b bytes at why why' (in_header_body n body f r e) (other_kind n' k' body' r' o) =
    absurd (o (b.one_record bytes at n' n k' 2 body' body r' r).0)
one_header_fault b bytes at why why' (in_header_body n body f r e) (in_header_body n' body' g r' d) =
    let same = b.one_record bytes at n n' 2 2 body body' r r' in
    ap cause_of (b.one_fault 2 body' f g (subst (λ (x : List ℕ). FirstFault 2 x f) same.1 e) d)

-- ---- commons

pub ok_err : {A E : Type 0} (r : Result A E) (x : A) (e : E) → r ≡ Ok x → r ≡ Err e → ⊥
ok_err {A} {E} r x e p q = absurd cc

pub err_same : {A E : Type 0} (r : Result A E) (e f : E) → r ≡ Err e → r ≡ Err f → e ≡ f
err_same {A} {E} r e f p q = cc

pub ok_same : {A E : Type 0} (r : Result A E) (x y : A) → r ≡ Ok x → r ≡ Ok y → x ≡ y
ok_same {A} {E} r x y p q = cc

pub one_commons : (before : List Common) (bytes : List ℕ) (f g : FieldFault) → FaultsCommons before bytes f
    → FaultsCommons before bytes g → f ≡ g
one_commons before bytes f g (here _ _ _ some e) (here _ _ _ some' d) = err_same (read_new_common before bytes) f g e d
one_commons before bytes f g (here _ _ _ some e) (later _ c _ rest _ d more) =
    absurd (ok_err (read_new_common before bytes) (c, rest) f d e)
one_commons before bytes f g (later _ c _ rest _ d more) (here _ _ _ some e) =
    absurd (ok_err (read_new_common before bytes) (c, rest) g d e)
one_commons before bytes f g (later _ c _ rest _ d more) (later _ c' _ rest' _ d' more') =
    let same = ok_same (read_new_common before bytes) (c, rest) (c', rest') d d' in
    one_commons (before ++ c' ∷ []) rest' f g
    (subst (λ (p : Common × List ℕ). FaultsCommons (before ++ p.0 ∷ []) p.1 f) same more) more'

-- a common that is new is read
read_new : (before : List Common) (e : CommonEntry) (rest : List ℕ) → IsTrue (is_common_id e.id && is_name e.name)
    → IsTrue (is_new_common before (common_of e))
    → read_new_common before (common_bytes e ++ rest) ≡ Ok (common_of e, rest)
read_new before e rest sound new =
    let s = and_parts (is_common_id e.id) (is_name e.name) sound in
    let n = new_common before (common_of e) new in
    cond-true (is_common_id e.id && not (has_common_id before e.id))
    (read_name (name_spelling e.name ++ rest) >>= λ name. if has_common_name before name.0 then Err BadField
    else Ok (record { id = e.id; name = name.0 }, name.1))
    (Err BadField) (and_from (is_common_id e.id) (not (has_common_id before e.id)) n.id n.new_id)
    ∙ (ap (λ (r : Result (List ℕ × List ℕ) FieldFault). r >>= λ name. if has_common_name before name.0 then Err BadField
    else Ok (record { id = e.id; name = name.0 }, name.1)) (name_again e.name rest s.1)
    ∙ cond-false (has_common_name before e.name) (Err BadField) (Ok (common_of e, rest))
    (not-true (has_common_name before e.name) n.new_name))

pub commons_sound : (before : List Common) (bytes : List ℕ) (f : FieldFault) → FaultsCommons before bytes f
    → (es : List CommonEntry)
    → bytes ≡ flat_map common_bytes es → IsTrue (list_all common_layout.is_sound es)
    → IsTrue (each_after is_new_common before (map common_of es)) → ⊥
commons_sound before bytes f (here _ _ _ some e) [] is sound new = omega (arith, some, ap (λ (x : List ℕ). length x) is)
commons_sound before bytes f (here _ _ _ some e) (x ∷ xs) is sound new =
    let s = and_parts (is_common_id x.id && is_name x.name) (list_all common_layout.is_sound xs) sound in
    let n = and_parts (is_new_common before (common_of x))
    (each_after is_new_common (before ++ common_of x ∷ []) (map common_of xs)) new in
    ok_err (read_new_common before bytes) (common_of x, flat_map common_bytes xs) f (ap (read_new_common before) is
    ∙ read_new before x (flat_map common_bytes xs) s.0 n.0) e
commons_sound before bytes f (later _ c _ rest _ d more) [] is sound new =
    ok_err (read_new_common before bytes) (c, rest) BadField d (ap (read_new_common before) is)
commons_sound before bytes f (later _ c _ rest _ d more) (x ∷ xs) is sound new =
    let s = and_parts (is_common_id x.id && is_name x.name) (list_all common_layout.is_sound xs) sound in
    let n = and_parts (is_new_common before (common_of x))
    (each_after is_new_common (before ++ common_of x ∷ []) (map common_of xs)) new in
    let same = ok_same (read_new_common before bytes) (c, rest) (common_of x, flat_map common_bytes xs) d
    (ap (read_new_common before) is ∙ read_new before x (flat_map common_bytes xs) s.0 n.0) in
    commons_sound (before ++ c ∷ []) rest f more xs (ap (λ (p : Common × List ℕ). p.1) same) s.1
    (subst (λ (y : Common). IsTrue (each_after is_new_common (before ++ y ∷ []) (map common_of xs)))
    (sym (ap (λ (p : Common × List ℕ). p.0) same)) n.1)

-- ---- records within a module

-- one fact where a test holds, another where it doesn't
abbrev Chosen : Bool → Type 0 → Type 0 → Type 0
Chosen true P Q = P
Chosen false P Q = Q

record CommonsFaulted (commons : List Common) (body : List ℕ) (why : Cause) : Type 0 where
  fault : FieldFault
  is : why ≡ commons_cause fault
  faults : FaultsCommons commons body fault

record BodyFaulted (kind : ℕ) (body : List ℕ) (why : Cause) : Type 0 where
  fault : BodyFault
  is : why ≡ cause_of fault
  faults : FirstFault kind body fault

-- why a record that is there may not stand within a module
abbrev RecordFaulted : List Common → ℕ → List ℕ → Cause → Type 0
RecordFaulted commons kind body why =
    Chosen (kind == 0x02) (why ≡ UnknownKind 0x02)
    (Chosen (kind == 0x0E) (why ≡ NoEnd)
    (Chosen (kind == 0x2E) (CommonsFaulted commons body why) (BodyFaulted kind body why)))

data View (bytes : List ℕ) (at : ℕ) (commons : List Common) : Cause → Type 0 where
  past : length bytes ≤ at → View bytes at commons NoEnd
  unread : (fault : RecordFault) → at < length bytes → fault_at (drop at bytes) at ≡ Some fault
      → View bytes at commons (Record fault)
  stands : (next kind : ℕ) (body : List ℕ) (why : Cause) → SpellsRecord bytes at next kind body
      → RecordFaulted commons kind body why → View bytes at commons why

alone_is : (a b c : Bool) (P Q R S : Type 0) → (not a && not b && not c) ≡ true → S → Chosen a P (Chosen b Q (Chosen c R S))
alone_is true b c P Q R S e s = absurd cc
alone_is false true c P Q R S e s = absurd cc
alone_is false false true P Q R S e s = absurd cc
alone_is false false false P Q R S e s = s

view : (bytes : List ℕ) (at : ℕ) (commons : List Common) (why : Cause) → FaultsWithin bytes at commons why
    → View bytes at commons why
view bytes at commons why (no_byte p) = past p
view bytes at commons why (no_record f w e) = unread f w e
view bytes at commons why (file_ends n body r) = stands n 0x0E body NoEnd r refl
view bytes at commons why (second_header n body r) = stands n 0x02 body (UnknownKind 0x02) r refl
view bytes at commons why (in_body n kind body f r alone e) =
    stands n kind body (cause_of f) r
    (alone_is (kind == 0x02) (kind == 0x0E) (kind == 0x2E) (cause_of f ≡ UnknownKind 0x02) (cause_of f ≡ NoEnd)
    (CommonsFaulted commons body (cause_of f)) (BodyFaulted kind body (cause_of f)) alone
    (record { fault = f; is = refl; faults = e }))
view bytes at commons why (in_commons n body f r e) =
    stands n 0x2E body (commons_cause f) r (record { fault = f; is = refl; faults = e })

chosen_one : (test : Bool) (P P' Q Q' R : Type 0) → (P → P' → R) → (Q → Q' → R) → Chosen test P Q → Chosen test P' Q' → R
chosen_one true P P' Q Q' R f g p q = f p q
chosen_one false P P' Q Q' R f g p q = g p q

one_record_fault : Below → (commons : List Common) (kind : ℕ) (body : List ℕ) (why why' : Cause)
    → RecordFaulted commons kind body why → RecordFaulted commons kind body why' → why ≡ why'
one_record_fault b commons kind body why why' =
    chosen_one (kind == 0x02) (why ≡ UnknownKind 0x02) (why' ≡ UnknownKind 0x02)
    (Chosen (kind == 0x0E) (why ≡ NoEnd) (Chosen (kind == 0x2E) (CommonsFaulted commons body why) (BodyFaulted kind body why)))
    (Chosen (kind == 0x0E) (why' ≡ NoEnd) (Chosen (kind == 0x2E) (CommonsFaulted commons body why') (BodyFaulted kind body why')))
    (why ≡ why') (λ e d. e ∙ sym d)
    (chosen_one (kind == 0x0E) (why ≡ NoEnd) (why' ≡ NoEnd)
    (Chosen (kind == 0x2E) (CommonsFaulted commons body why) (BodyFaulted kind body why))
    (Chosen (kind == 0x2E) (CommonsFaulted commons body why') (BodyFaulted kind body why'))
    (why ≡ why') (λ e d. e ∙ sym d)
    (chosen_one (kind == 0x2E) (CommonsFaulted commons body why) (CommonsFaulted commons body why') (BodyFaulted kind body why)
    (BodyFaulted kind body why') (why ≡ why')
    (λ e d. e.is ∙ (ap commons_cause (one_commons commons body e.fault d.fault e.faults d.faults) ∙ sym d.is))
    (λ e d. e.is ∙ (ap cause_of (b.one_fault kind body e.fault d.fault e.faults d.faults) ∙ sym d.is))))

one_view : Below → (bytes : List ℕ) (at : ℕ) (commons : List Common) (why why' : Cause) → View bytes at commons why
    → View bytes at commons why' → why ≡ why'
one_view b bytes at commons why why' (past p) (past q) = refl
one_view b bytes at commons why why' (past p) (unread f w e) = absurd (past_within bytes at p w)
one_view b bytes at commons why why' (past p) (stands n k body _ r e) = absurd (past_spelled bytes at n k body p r)
one_view b bytes at commons why why' (unread f w e) (past q) = absurd (past_within bytes at q w)
one_view b bytes at commons why why' (unread f w e) (unread g v d) = ap Record (some_same (fault_at (drop at bytes) at) f g e d)
one_view b bytes at commons why why' (unread f w e) (stands n k body _ r d) = absurd (unframed b bytes at n k body f e r)
one_view b bytes at commons why why' (stands n k body _ r e) (past q) = absurd (past_spelled bytes at n k body q r)
one_view b bytes at commons why why' (stands n k body _ r e) (unread g v d) = absurd (unframed b bytes at n k body g d r)
one_view b bytes at commons why why' (stands n k body _ r e) (stands n' k' body' _ r' e') =
    let same = b.one_record bytes at n n' k k' body body' r r' in
    one_record_fault b commons k' body' why why'
    (subst (λ (x : List ℕ). RecordFaulted commons k' x why) same.1 (subst (λ (x : ℕ). RecordFaulted commons x body why) same.0 e))
    e'

pub one_within : Below → (bytes : List ℕ) (at : ℕ) (commons : List Common) (why why' : Cause) → FaultsWithin bytes at commons why
    → FaultsWithin bytes at commons why' → why ≡ why'
one_within b bytes at commons why why' f g =
    one_view b bytes at commons why why' (view bytes at commons why f) (view bytes at commons why' g)

-- a record that may stand there has no fault
stands_sound : Below → (commons : List Common) (x : Body) (why : Cause) → IsTrue (is_sound_body x)
    → (IsTrue (is_end x) ⊎ IsTrue (may_follow commons x))
    → RecordFaulted commons (kind_byte (body_kind x)) (body_bytes x) why → ⊥
stands_sound b commons (ModuleHeader x) why sound (inl e) f = absurd cc
stands_sound b commons (ModuleHeader x) why sound (inr e) f = absurd cc
stands_sound b commons (EndOfFile x) why sound (inl e) f = absurd cc
stands_sound b commons (EndOfFile x) why sound (inr e) f = absurd cc
stands_sound b commons (NamedCommons x) why sound (inl e) f = absurd cc
stands_sound b commons (NamedCommons x) why sound (inr e) f =
    commons_sound commons (flat_map common_bytes x) f.fault f.faults x refl sound e
stands_sound b commons x why sound s f =
    b.never_both (kind_byte (body_kind x)) (body_bytes x) x f.fault
    (record { of_kind = refl; joined = refl; sound = sound }) f.faults

view_sound : Below → (bytes : List ℕ) (at next : ℕ) (commons : List Common) (x : Body) (why : Cause)
    → SpellsBody bytes at next x → (IsTrue (is_end x) ⊎ IsTrue (may_follow commons x)) → View bytes at commons why → ⊥
view_sound b bytes at next commons x why s may (past p) =
    past_spelled bytes at next (kind_byte (body_kind x)) (body_bytes x) p s.framed
view_sound b bytes at next commons x why s may (unread g w e) =
    unframed b bytes at next (kind_byte (body_kind x)) (body_bytes x) g e s.framed
view_sound b bytes at next commons x why s may (stands n k body _ r e) =
    let same = b.one_record bytes at n next k (kind_byte (body_kind x)) body (body_bytes x) r s.framed in
    stands_sound b commons x why s.sound may
    (subst (λ (y : List ℕ). RecordFaulted commons (kind_byte (body_kind x)) y why) same.1
    (subst (λ (y : ℕ). RecordFaulted commons y body why) same.0 e))

pub within_sound : Below → (bytes : List ℕ) (at next : ℕ) (commons : List Common) (x : Body) (why : Cause)
    → SpellsBody bytes at next x → (IsTrue (is_end x) ⊎ IsTrue (may_follow commons x)) → FaultsWithin bytes at commons why → ⊥
within_sound b bytes at next commons x why s may f = view_sound b bytes at next commons x why s may (view bytes at commons why f)

pub left_right : {A B : Type 0} (o : A ⊎ B) (a : A) (b : B) → o ≡ inl a → o ≡ inr b → ⊥
left_right {A} {B} o a b e f = absurd cc

pub left_same : {A B : Type 0} (o : A ⊎ B) (x y : A) → o ≡ inl x → o ≡ inl y → x ≡ y
left_same {A} {B} o x y e f = cc

pub of_laws : OneRecordAtEachPlace → NoFaultExactlyAtRecords → OneBody → OneBodyFault → NeverBothBody → Below
of_laws r n o f b = record { one_record = r; no_fault = n; one_body = o; one_fault = f; never_both = b }
