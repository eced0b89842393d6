-- Bodies: what is spelled is read, and the first fault is read; so bytes spell one body at most, or have one first fault.
use Rattle.std.proofs.Common.{◌≡◌, ◌≢◌, ℕ, true, ◌⊎◌, inl, inr, Option, Some, None, List, [], ◌∷◌, ◌++◌, length, Result, Ok, Err, refl, sym, ap, subst, ◌∙◌, IsTrue}
use Rattle.std.specs.Prelude.{if◌then◌else◌, ◌==◌}
use Rattle.std.specs.List.{flat_map, list_all}
use Rattle.std.proofs.lemmas.Bool.{and_parts, cond-true, cond-false}
use Rattle.omf_core.specs.declared.kind.RecordKind.{RecordKind}
use Rattle.omf_core.specs.declared.kind.RecordKind.TheVariants as kind
use Rattle.omf_core.specs.Kind.{kind_byte}
use Rattle.omf_core.specs.Name.{is_name, name_spelling}
use Rattle.omf_body.specs.declared.fault.FieldFault.{FieldFault}
use Rattle.omf_body.specs.declared.fault.FieldFault.TheVariants.{BadBody}
use Rattle.omf_body.specs.declared.fault.BodyFault.{BodyFault}
use Rattle.omf_body.specs.declared.fault.BodyFault.TheVariants.{UnknownKind}
use Rattle.omf_body.specs.declared.field.Field.{Field}
use Rattle.omf_body.specs.declared.field.Field.TheVariants.{Low}
use Rattle.omf_body.specs.declared.body.Place.{Place}
use Rattle.omf_body.specs.declared.body.Body.{Body}
use Rattle.omf_body.specs.declared.body.Body.TheVariants.{ModuleHeader, ModuleEnd, Content, LineNumbers, EndOfFile, Ancestor, LocalSymbols, PublicDeclarations}
use Rattle.omf_body.specs.declared.body.Body.TheVariants.{ExternalNames, ExternalReferences, Relocation, IntersegmentReferences, NamedCommons}
use Rattle.omf_body.specs.Faults.{fault_of}
use Rattle.omf_body.specs.Fields.{◌>>=◌, read_byte, read_field, field_byte}
use Rattle.omf_body.specs.FieldsAgain.{word_again, name_again, field_again}
use Rattle.omf_body.specs.Layouts.{Layout, IsLayout, read_row}
use Rattle.omf_body.specs.Entries.{segment_layout, common_layout, public_layout, external_layout, offset_layout, index_layout}
use Rattle.omf_body.specs.EntryLaws.{segment_laws, common_laws, public_laws, external_laws, offset_laws, index_laws}
use Rattle.omf_body.specs.Bodies.{start_bytes, place_bytes, body_bytes, body_kind, are_distinct, is_sound_body, Spells}
use Rattle.omf_body.specs.FirstFault.{read_header, read_place, read_end, read_target, FaultsHeaded, FaultsBody, FirstFault, unknown, in_body}
use Rattle.omf_body.specs.Laws.{OneBody, OneFault, NeverBoth}
use Rattle.omf_body.proofs.Rows.{row_read, fault_read}

-- ---- a reader of bodies

abbrev read_headed : {H E : Type 0} → (List ℕ → Result (H × List ℕ) FieldFault) → Layout E → List ℕ → Result (H × List E) FieldFault
read_headed read layout bytes = read bytes >>= λ h. read_row layout (length h.1) h.1 >>= λ es. Ok (h.0, es)

abbrev read_kind : RecordKind → List ℕ → Result Body FieldFault
read_kind kind.ModuleHeader bytes = read_headed read_header segment_layout bytes >>= λ h.
    if are_distinct h.1 then Ok (ModuleHeader (record { name = h.0.0; translator = h.0.1; version = h.0.2; segments = h.1 })) else Err BadBody
read_kind kind.ModuleEnd bytes = read_end bytes >>= λ e. Ok (ModuleEnd (record { start = e.0; unread = e.1 }))
read_kind kind.Content bytes = read_place bytes >>= λ p. Ok (Content (record { segment = p.0.segment; offset = p.0.offset; bytes = p.1 }))
read_kind kind.LineNumbers bytes = Ok (LineNumbers bytes)
read_kind kind.EndOfFile bytes = Ok (EndOfFile bytes)
read_kind kind.Ancestor bytes = Ok (Ancestor bytes)
read_kind kind.LocalSymbols bytes = Ok (LocalSymbols bytes)
read_kind kind.PublicDeclarations bytes = read_headed read_byte public_layout bytes >>= λ h. Ok (PublicDeclarations (record { segment = h.0; publics = h.1 }))
read_kind kind.ExternalNames bytes = read_row external_layout (length bytes) bytes >>= λ es. Ok (ExternalNames es)
read_kind kind.ExternalReferences bytes = read_headed read_field index_layout bytes >>= λ h. Ok (ExternalReferences (record { field = h.0; references = h.1 }))
read_kind kind.Relocation bytes = read_headed read_field offset_layout bytes >>= λ h. Ok (Relocation (record { field = h.0; references = h.1 }))
read_kind kind.IntersegmentReferences bytes = read_headed read_target offset_layout bytes >>= λ h.
    Ok (IntersegmentReferences (record { segment = h.0.0; field = h.0.1; references = h.1 }))
read_kind kind.NamedCommons bytes = read_row common_layout (length bytes) bytes >>= λ es. Ok (NamedCommons es)
read_kind _ bytes = Err BadBody

-- ---- a head and a row

headed_read : {H E : Type 0} (read : List ℕ → Result (H × List ℕ) FieldFault) (layout : Layout E) → IsLayout E layout
    → (bytes : List ℕ) (h : H) (es : List E) → read bytes ≡ Ok (h, flat_map layout.bytes es) → IsTrue (list_all layout.is_sound es)
    → read_headed read layout bytes ≡ Ok (h, es)
headed_read {H} {E} read layout laws bytes h es head sound =
    ap (λ (r : Result (H × List ℕ) FieldFault). r >>= λ h. read_row layout (length h.1) h.1 >>= λ es. Ok (h.0, es)) head
    ∙ ap (λ (r : Result (List E) FieldFault). r >>= λ es. Ok (h, es)) (row_read layout laws (flat_map layout.bytes es) es (record { joined = refl; sound = sound }))

headed_fault : {H E : Type 0} (read : List ℕ → Result (H × List ℕ) FieldFault) (layout : Layout E) → IsLayout E layout
    → (bytes : List ℕ) (f : FieldFault) → FaultsHeaded read layout bytes f → read_headed read layout bytes ≡ Err f
headed_fault {H} {E} read layout laws bytes f (inl head) =
    ap (λ (r : Result (H × List ℕ) FieldFault). r >>= λ h. read_row layout (length h.1) h.1 >>= λ es. Ok (h.0, es)) head
headed_fault {H} {E} read layout laws bytes f (inr a) =
    ap (λ (r : Result (H × List ℕ) FieldFault). r >>= λ h. read_row layout (length h.1) h.1 >>= λ es. Ok (h.0, es)) a.2
    ∙ ap (λ (r : Result (List E) FieldFault). r >>= λ es. Ok (a.0, es)) (fault_read layout laws a.1 f a.3)

header_again : (name : List ℕ) (translator version : ℕ) (rest : List ℕ) → IsTrue (is_name name)
    → read_header (name_spelling name ++ translator ∷ version ∷ rest) ≡ Ok ((name, translator, version), rest)
header_again name translator version rest ok =
    ap (λ (r : Result (List ℕ × List ℕ) FieldFault). r >>= λ name. read_byte name.1 >>= λ translator. read_byte translator.1 >>= λ version. Ok ((name.0, translator.0, version.0), version.1))
    (name_again name (translator ∷ version ∷ rest) ok)

target_again : (segment : ℕ) (field : Field) (rest : List ℕ) → read_target (segment ∷ field_byte field ∷ rest) ≡ Ok ((segment, field), rest)
target_again segment field rest = ap (λ (r : Result (Field × List ℕ) FieldFault). r >>= λ field. Ok ((segment, field.0), field.1)) (field_again field rest)

place_again : (place : Place) (rest : List ℕ) → read_place (place_bytes place ++ rest) ≡ Ok (place, rest)
place_again place rest = ap (λ (r : Result (ℕ × List ℕ) FieldFault). r >>= λ offset. Ok (record { segment = place.segment; offset = offset.0 }, offset.1)) (word_again place.offset rest)

end_again : (start : Option Place) (rest : List ℕ) → read_end (start_bytes start ++ rest) ≡ Ok (start, rest)
end_again None rest = refl
end_again (Some place) rest = ap (λ (r : Result (Place × List ℕ) FieldFault). r >>= λ start. Ok (Some start.0, start.1)) (place_again place rest)

all_sound : {A : Type 0} (xs : List A) → IsTrue (list_all (λ x. true) xs)
all_sound [] = refl
all_sound (x ∷ xs) = all_sound xs

-- ---- what is spelled is read

written_read : (b : Body) → IsTrue (is_sound_body b) → read_kind (body_kind b) (body_bytes b) ≡ Ok b
written_read (ModuleHeader b) sound =
    let parts = and_parts (is_name b.name) (are_distinct b.segments) sound in
    ap (λ (r : Result ((List ℕ × ℕ × ℕ) × List _) FieldFault). r >>= λ h.
    if are_distinct h.1 then Ok (ModuleHeader (record { name = h.0.0; translator = h.0.1; version = h.0.2; segments = h.1 })) else Err BadBody)
    (headed_read read_header segment_layout segment_laws (body_bytes (ModuleHeader b)) (b.name, b.translator, b.version) b.segments
    (header_again b.name b.translator b.version (flat_map segment_layout.bytes b.segments) parts.0) (all_sound b.segments))
    ∙ cond-true (are_distinct b.segments) (Ok (ModuleHeader b)) (Err BadBody) parts.1
written_read (ModuleEnd b) sound =
    ap (λ (r : Result (Option Place × List ℕ) FieldFault). r >>= λ e. Ok (ModuleEnd (record { start = e.0; unread = e.1 }))) (end_again b.start b.unread)
written_read (Content b) sound =
    ap (λ (r : Result (Place × List ℕ) FieldFault). r >>= λ p. Ok (Content (record { segment = p.0.segment; offset = p.0.offset; bytes = p.1 })))
    (place_again (record { segment = b.segment; offset = b.offset }) b.bytes)
written_read (PublicDeclarations b) sound =
    ap (λ (r : Result (ℕ × List _) FieldFault). r >>= λ h. Ok (PublicDeclarations (record { segment = h.0; publics = h.1 })))
    (headed_read read_byte public_layout public_laws (body_bytes (PublicDeclarations b)) b.segment b.publics refl sound)
written_read (ExternalNames es) sound =
    ap (λ (r : Result (List _) FieldFault). r >>= λ es. Ok (ExternalNames es))
    (row_read external_layout external_laws (flat_map external_layout.bytes es) es (record { joined = refl; sound = sound }))
written_read (ExternalReferences b) sound =
    ap (λ (r : Result (Field × List _) FieldFault). r >>= λ h. Ok (ExternalReferences (record { field = h.0; references = h.1 })))
    (headed_read read_field index_layout index_laws (body_bytes (ExternalReferences b)) b.field b.references (field_again b.field (flat_map index_layout.bytes b.references)) (all_sound b.references))
written_read (Relocation b) sound =
    ap (λ (r : Result (Field × List _) FieldFault). r >>= λ h. Ok (Relocation (record { field = h.0; references = h.1 })))
    (headed_read read_field offset_layout offset_laws (body_bytes (Relocation b)) b.field b.references (field_again b.field (flat_map offset_layout.bytes b.references)) (all_sound b.references))
written_read (IntersegmentReferences b) sound =
    ap (λ (r : Result ((ℕ × Field) × List _) FieldFault). r >>= λ h. Ok (IntersegmentReferences (record { segment = h.0.0; field = h.0.1; references = h.1 })))
    (headed_read read_target offset_layout offset_laws (body_bytes (IntersegmentReferences b)) (b.segment, b.field) b.references (target_again b.segment b.field (flat_map offset_layout.bytes b.references)) (all_sound b.references))
written_read (NamedCommons es) sound =
    ap (λ (r : Result (List _) FieldFault). r >>= λ es. Ok (NamedCommons es))
    (row_read common_layout common_laws (flat_map common_layout.bytes es) es (record { joined = refl; sound = sound }))
written_read _ sound = refl

-- ---- the first fault is read

fault_read_in : (k : RecordKind) (bytes : List ℕ) (f : FieldFault) → FaultsBody k bytes f → read_kind k bytes ≡ Err f
fault_read_in kind.ModuleHeader bytes f (inl a) =
    ap (λ (r : Result ((List ℕ × ℕ × ℕ) × List _) FieldFault). r >>= λ h.
    if are_distinct h.1 then Ok (ModuleHeader (record { name = h.0.0; translator = h.0.1; version = h.0.2; segments = h.1 })) else Err BadBody)
    (headed_fault read_header segment_layout segment_laws bytes f a)
fault_read_in kind.ModuleHeader bytes f (inr (a, is)) =
    let spelled = a.spelled in
    let head : read_header bytes ≡ Ok (a.head, flat_map segment_layout.bytes a.entries) = a.before ∙ ap (λ (r : List ℕ). Ok (a.head, r)) spelled.joined in
    ap (λ (r : Result ((List ℕ × ℕ × ℕ) × List _) FieldFault). r >>= λ h.
    if are_distinct h.1 then Ok (ModuleHeader (record { name = h.0.0; translator = h.0.1; version = h.0.2; segments = h.1 })) else Err BadBody)
    (headed_read read_header segment_layout segment_laws bytes a.head a.entries head (all_sound a.entries))
    ∙ (cond-false (are_distinct a.entries) (Ok (ModuleHeader (record { name = a.head.0; translator = a.head.1; version = a.head.2; segments = a.entries }))) (Err BadBody) a.twice
    ∙ ap (λ (f : FieldFault). Err f) (sym is))
fault_read_in kind.ModuleEnd bytes f a = ap (λ (r : Result (Option Place × List ℕ) FieldFault). r >>= λ e. Ok (ModuleEnd (record { start = e.0; unread = e.1 }))) a.here
fault_read_in kind.Content bytes f a =
    ap (λ (r : Result (Place × List ℕ) FieldFault). r >>= λ p. Ok (Content (record { segment = p.0.segment; offset = p.0.offset; bytes = p.1 }))) a.here
fault_read_in kind.PublicDeclarations bytes f a =
    ap (λ (r : Result (ℕ × List _) FieldFault). r >>= λ h. Ok (PublicDeclarations (record { segment = h.0; publics = h.1 }))) (headed_fault read_byte public_layout public_laws bytes f a)
fault_read_in kind.ExternalNames bytes f a = ap (λ (r : Result (List _) FieldFault). r >>= λ es. Ok (ExternalNames es)) (fault_read external_layout external_laws bytes f a)
fault_read_in kind.ExternalReferences bytes f a =
    ap (λ (r : Result (Field × List _) FieldFault). r >>= λ h. Ok (ExternalReferences (record { field = h.0; references = h.1 }))) (headed_fault read_field index_layout index_laws bytes f a)
fault_read_in kind.Relocation bytes f a =
    ap (λ (r : Result (Field × List _) FieldFault). r >>= λ h. Ok (Relocation (record { field = h.0; references = h.1 }))) (headed_fault read_field offset_layout offset_laws bytes f a)
fault_read_in kind.IntersegmentReferences bytes f a =
    ap (λ (r : Result ((ℕ × Field) × List _) FieldFault). r >>= λ h. Ok (IntersegmentReferences (record { segment = h.0.0; field = h.0.1; references = h.1 }))) (headed_fault read_target offset_layout offset_laws bytes f a)
fault_read_in kind.NamedCommons bytes f a = ap (λ (r : Result (List _) FieldFault). r >>= λ es. Ok (NamedCommons es)) (fault_read common_layout common_laws bytes f a)
fault_read_in _ bytes f a = absurd a

-- ---- bytes spell one body, or have one first fault

-- the kind of a type byte
abbrev kind_at : ℕ → RecordKind
kind_at n =
    if n == 0x02 then kind.ModuleHeader else (if n == 0x04 then kind.ModuleEnd else (if n == 0x06 then kind.Content
    else (if n == 0x08 then kind.LineNumbers else (if n == 0x0E then kind.EndOfFile else (if n == 0x10 then kind.Ancestor
    else (if n == 0x12 then kind.LocalSymbols else (if n == 0x16 then kind.PublicDeclarations else (if n == 0x18 then kind.ExternalNames
    else (if n == 0x20 then kind.ExternalReferences else (if n == 0x22 then kind.Relocation else (if n == 0x24 then kind.IntersegmentReferences
    else (if n == 0x26 then kind.LibraryModuleLocations else (if n == 0x28 then kind.LibraryModuleNames else (if n == 0x2A then kind.LibraryDictionary
    else (if n == 0x2C then kind.LibraryHeader else kind.NamedCommons)))))))))))))))

kind_again : (k : RecordKind) → kind_at (kind_byte k) ≡ k
kind_again kind.ModuleHeader = refl
kind_again _ = refl

pub same_kind : (k l : RecordKind) → kind_byte k ≡ kind_byte l → k ≡ l
same_kind k l e = sym (kind_again k) ∙ (ap kind_at e ∙ kind_again l)

spelled_read : (t : ℕ) (bytes : List ℕ) (b : Body) (k : RecordKind) → Spells t bytes b → t ≡ kind_byte k → read_kind k bytes ≡ Ok b
spelled_read t bytes b k s is =
    let same : body_kind b ≡ k = same_kind (body_kind b) k (sym s.of_kind ∙ is) in
    subst (λ (l : RecordKind). read_kind l bytes ≡ Ok b) same (ap (read_kind (body_kind b)) s.joined ∙ written_read b s.sound)

-- a kind whose bodies have faults has bodies
has_body : (k : RecordKind) (bytes : List ℕ) (f : FieldFault) → FaultsBody k bytes f → (b : Body) × (body_kind b ≡ k)
has_body kind.ModuleHeader bytes f a = (ModuleHeader (record { name = []; translator = 0; version = 0; segments = [] }), refl)
has_body kind.ModuleEnd bytes f a = (ModuleEnd (record { start = None; unread = [] }), refl)
has_body kind.Content bytes f a = (Content (record { segment = 0; offset = 0; bytes = [] }), refl)
has_body kind.PublicDeclarations bytes f a = (PublicDeclarations (record { segment = 0; publics = [] }), refl)
has_body kind.ExternalNames bytes f a = (ExternalNames [], refl)
has_body kind.ExternalReferences bytes f a = (ExternalReferences (record { field = Low; references = [] }), refl)
has_body kind.Relocation bytes f a = (Relocation (record { field = Low; references = [] }), refl)
has_body kind.IntersegmentReferences bytes f a = (IntersegmentReferences (record { segment = 0; field = Low; references = [] }), refl)
has_body kind.NamedCommons bytes f a = (NamedCommons [], refl)
has_body _ bytes f a = absurd a

-- a first fault by what it says: the type byte is that of no body, or a body of this kind has it
record NoBody (t : ℕ) (g : BodyFault) : Type 0 where
  none : (b : Body) → kind_byte (body_kind b) ≢ t
  named : g ≡ UnknownKind t

record InBody (t : ℕ) (bytes : List ℕ) (g : BodyFault) : Type 0 where
  of : RecordKind
  field_fault : FieldFault
  of_kind : t ≡ kind_byte of
  here : FaultsBody of bytes field_fault
  named : g ≡ fault_of of field_fault

by_cause : (t : ℕ) (bytes : List ℕ) (g : BodyFault) → FirstFault t bytes g → NoBody t g ⊎ InBody t bytes g
by_cause _ _ _ (unknown t bytes none) = inl (record { none = none; named = refl })
by_cause _ _ _ (in_body k bytes f a) = inr (record { of = k; field_fault = f; of_kind = refl; here = a; named = refl })

pub one_body : OneBody
one_body t bytes b c s r =
    let first : read_kind (body_kind b) bytes ≡ Ok b = spelled_read t bytes b (body_kind b) s s.of_kind in
    let second : read_kind (body_kind b) bytes ≡ Ok c = spelled_read t bytes c (body_kind b) r s.of_kind in
    cc

pub never_both : NeverBoth
never_both t bytes b f s a = elim (by_cause t bytes f a) [
  | inl u ↦ u.none b (sym s.of_kind)
  | inr i ↦
      let read : read_kind i.of bytes ≡ Ok b = spelled_read t bytes b i.of s i.of_kind in
      let fault : read_kind i.of bytes ≡ Err i.field_fault = fault_read_in i.of bytes i.field_fault i.here in
      cc
]

no_body_has : (t : ℕ) (bytes : List ℕ) (f g : BodyFault) → NoBody t f → InBody t bytes g → ⊥
no_body_has t bytes f g u i =
    let b = has_body i.of bytes i.field_fault i.here in
    u.none b.0 (ap kind_byte b.1 ∙ sym i.of_kind)

same_fault : (t : ℕ) (bytes : List ℕ) (f g : BodyFault) → InBody t bytes f → InBody t bytes g → f ≡ g
same_fault t bytes f g i j =
    let same : i.of ≡ j.of = same_kind i.of j.of (sym i.of_kind ∙ j.of_kind) in
    let first : read_kind j.of bytes ≡ Err i.field_fault = ap (λ (k : RecordKind). read_kind k bytes) (sym same) ∙ fault_read_in i.of bytes i.field_fault i.here in
    let second : read_kind j.of bytes ≡ Err j.field_fault = fault_read_in j.of bytes j.field_fault j.here in
    let fields : i.field_fault ≡ j.field_fault = cc in
    i.named ∙ (ap (λ (k : RecordKind). fault_of k i.field_fault) same ∙ (ap (fault_of j.of) fields ∙ sym j.named))

pub one_fault : OneFault
one_fault t bytes f g a b = elim (by_cause t bytes f a) [
  | inl u ↦ elim (by_cause t bytes g b) [ inl v ↦ u.named ∙ sym v.named | inr j ↦ absurd (no_body_has t bytes f g u j) ]
  | inr i ↦ elim (by_cause t bytes g b) [ inl v ↦ absurd (no_body_has t bytes g f v i) | inr j ↦ same_fault t bytes f g i j ]
]

-- ---- the same of an answer r

pub body_is_every : (t : ℕ) (bytes : List ℕ) (r : Result Body BodyFault) (b : Body) → r ≡ Ok b → Spells t bytes b → (c : Body) → Spells t bytes c → r ≡ Ok c
body_is_every t bytes r b is s c u = is ∙ ap (λ (x : Body). Ok x) (one_body t bytes b c s u)

pub body_is_no_fault : (t : ℕ) (bytes : List ℕ) (r : Result Body BodyFault) (b : Body) → Spells t bytes b → (f : BodyFault) → FirstFault t bytes f → r ≡ Err f
body_is_no_fault t bytes r b s f a = absurd (never_both t bytes b f s a)

pub fault_is_no_body : (t : ℕ) (bytes : List ℕ) (r : Result Body BodyFault) (f : BodyFault) → FirstFault t bytes f → (c : Body) → Spells t bytes c → r ≡ Ok c
fault_is_no_body t bytes r f a c s = absurd (never_both t bytes c f s a)

pub fault_is_every : (t : ℕ) (bytes : List ℕ) (r : Result Body BodyFault) (f : BodyFault) → r ≡ Err f → FirstFault t bytes f → (g : BodyFault) → FirstFault t bytes g → r ≡ Err g
fault_is_every t bytes r f is a g b = is ∙ ap (λ (x : BodyFault). Err x) (one_fault t bytes f g a b)
