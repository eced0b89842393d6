-- Records that are written one after another.
use Rattle.std.proofs.Common.{◌≡◌, ◌≤◌, ◌<◌, true, ℕ, Result, Ok, Err, is_ok, List, [], ◌∷◌, ◌++◌, length, map, take, get_or, suc, ◌+◌, ap, ◌∙◌, sym, subst, arith, append_assoc}
use Rattle.std.specs.List.{flat_map}
use Rattle.std.proofs.Math.Seq.{take-suc}
use Rattle.std.proofs.lemmas.List.{append-nil, map-append}
use Rattle.std.proofs.lemmas.Grind.{flat_map-append}
use Rattle.omf_core.specs.declared.fault.PutFault.{PutFault}
use Rattle.omf_core.specs.declared.fault.PutFault.TheVariants.{TooLong}
use Rattle.omf_core.specs.Name.{is_name, name_spelling}
use Rattle.omf_body.specs.declared.entries.SegmentEntry.{SegmentEntry}
use Rattle.omf_body.specs.declared.body.Body.{Body}
use Rattle.omf_body.specs.declared.body.Body.TheVariants.{ModuleHeader, ModuleEnd}
use Rattle.omf_body.specs.Bodies.{body_bytes, record_bytes}
use Rattle.omf_body.specs.Writing.{Appends}
use Rattle.omf_body.specs.Entries.{segment_bytes}
use Rattle.omf_model.specs.declared.segment.Segment.{Segment}
use Rattle.omf_model.specs.Modules.{ModuleValue}
use Rattle.omf_module.specs.Writing.{segment_entry, header_body, common_body, public_body, external_body, content_bodies, end_body, module_bytes}
use Rattle.omf_module.proofs.WrittenSound.{header_short}

-- a header always fits its record
pub header_fits : (name own : List ℕ) (entries : List SegmentEntry) (listed segments : List (ℕ × Segment)) → name ≡ own
    → is_name own ≡ true → entries ≡ map segment_entry listed → listed ≡ segments → length segments ≤ 255
    → 65534 < length (name_spelling name ++ 0 ∷ 0 ∷ flat_map segment_bytes entries) → ⊥
header_fits name own entries listed segments en is ee el few long =
    let es : entries ≡ map segment_entry segments = ee ∙ ap (λ (l : List (ℕ × Segment)). map segment_entry l) el in
    let short : length (name_spelling name ++ 0 ∷ 0 ∷ flat_map segment_bytes entries) ≤ 65534 =
    subst (λ (n : List ℕ). length (name_spelling n ++ 0 ∷ 0 ∷ flat_map segment_bytes entries) ≤ 65534) (sym en)
    (subst (λ (xs : List SegmentEntry). length (name_spelling own ++ 0 ∷ 0 ∷ flat_map segment_bytes xs) ≤ 65534) (sym es)
    (header_short own segments is few)) in
    omega arith

more : (after before out : List ℕ) (bs cs : List Body) → after ≡ before ++ flat_map record_bytes cs
    → before ≡ out ++ flat_map record_bytes bs → after ≡ out ++ flat_map record_bytes (bs ++ cs)
more after before out bs cs e f =
    e ∙ (ap (λ (x : List ℕ). x ++ flat_map record_bytes cs) f
    ∙ (append_assoc out (flat_map record_bytes bs) (flat_map record_bytes cs)
    ∙ ap (λ (x : List ℕ). out ++ x) (sym (flat_map-append record_bytes bs cs))))

one : (after before : List ℕ) (b : Body) → after ≡ before ++ record_bytes b → after ≡ before ++ flat_map record_bytes (b ∷ [])
one after before b e = e ∙ ap (λ (x : List ℕ). before ++ x) (sym (append-nil (record_bytes b)))

pub module_written : (m : ModuleValue) (out o1 o2 o3 o4 o5 o6 : List ℕ)
    → o1 ≡ out ++ record_bytes (ModuleHeader (header_body m))
    → o2 ≡ o1 ++ flat_map record_bytes (map common_body m.commons)
    → o3 ≡ o2 ++ flat_map record_bytes (map public_body m.publics)
    → o4 ≡ o3 ++ flat_map record_bytes (map external_body m.externals)
    → o5 ≡ o4 ++ flat_map record_bytes (flat_map content_bodies m.contents)
    → o6 ≡ o5 ++ record_bytes (ModuleEnd (end_body m.start))
    → o6 ≡ out ++ module_bytes m
unfolding module_bytes
module_written m out o1 o2 o3 o4 o5 o6 e1 e2 e3 e4 e5 e6 =
    let h = ModuleHeader (header_body m) ∷ [] in
    let c = map common_body m.commons in
    let p = map public_body m.publics in
    let x = map external_body m.externals in
    let t = flat_map content_bodies m.contents in
    more o6 o5 out (h ++ (c ++ p ++ x ++ t)) (ModuleEnd (end_body m.start) ∷ []) (one o6 o5 (ModuleEnd (end_body m.start)) e6)
    (more o5 o4 out (h ++ c ++ p ++ x) t e5
    (more o4 o3 out (h ++ c ++ p) x e4
    (more o3 o2 out (h ++ c) p e3 (more o2 o1 out h c e2 (one o1 out (ModuleHeader (header_body m)) e1)))))

one_appended : (body same : Body) (old new : List ℕ) (result : Result (Unit {0}) PutFault)
    → Appends body old new result → true ≡ is_ok result → body ≡ same → new ≡ old ++ record_bytes same
one_appended body same old new (Ok u) a went is = a.appended ∙ ap (λ (b : Body). old ++ record_bytes b) is
one_appended body same old new (Err e) a went is = absurd cc

-- One item more is written where the result says so, if this is its body.
pub one_written : {A : Type 0} (body_of : A → Body) (xs : List A) (i : ℕ) (x : A) (out old new : List ℕ) (body : Body)
    (result : Result (Unit {0}) PutFault)
    → old ≡ out ++ flat_map record_bytes (map body_of (take i xs)) → i < length xs → x ≡ get_or xs i x
    → Appends body old new result → true ≡ is_ok result → body ≡ body_of x
    → new ≡ out ++ flat_map record_bytes (map body_of (take (i + 1) xs))
one_written {A} body_of xs i x out old new body result so_far within item a went is =
    let next : i + 1 ≡ suc i = omega arith in
    let taken : take (i + 1) xs ≡ take i xs ++ x ∷ [] =
    ap (λ (k : ℕ). take k xs) next ∙ (take-suc xs i x within ∙ ap (λ (y : A). take i xs ++ y ∷ []) (sym item)) in
    more new old out (map body_of (take i xs)) (body_of x ∷ [])
    (one new old (body_of x) (one_appended body (body_of x) old new result a went is)) so_far
    ∙ ap (λ (bs : List Body). out ++ flat_map record_bytes bs)
    (sym (ap (map body_of) taken ∙ map-append body_of (take i xs) (x ∷ [])))

-- a body that fits is never too long
pub one_fits : (body same : Body) (old new : List ℕ) (result : Result (Unit {0}) PutFault)
    → Appends body old new result → body ≡ same → length (body_bytes same) ≤ 65534 → result ≡ Err TooLong → ⊥
one_fits body same old new result a is fits e =
    let long = a.too_long e in
    let short : length (body_bytes body) ≤ 65534 = subst (λ (b : Body). length (body_bytes b) ≤ 65534) (sym is) fits in
    omega arith
