-- The module of an image keeps the rules of modules, and is read as the image.
use Rattle.std.proofs.Common.{◌≡◌, ◌≢◌, ◌≤◌, ◌<◌, get_or, inl, inr, ℕ, zero, suc, ◌+◌, arith, Result, Bool, true, false, ◌&&◌, List, [], ◌∷◌, length, map, Some, Ok, Err, refl, sym, ap, subst, ◌∙◌}
use Rattle.std.specs.Prelude.{◌==◌, nat_le, if◌then◌else◌, IfOk, IfErr}
use Rattle.std.specs.List.{list_all, AllByRecursion}
use Rattle.std.proofs.lemmas.Bool.{and_parts, le-leb, eqb-true}
use Rattle.omf_core.specs.Name.{is_name}
use Rattle.omf_model.specs.declared.segment.Segment.{Segment}
use Rattle.omf_model.specs.declared.symbols.Public.{Public}
use Rattle.omf_model.specs.Contents.{ContentValue}
use Rattle.omf_model.specs.Segments.{entries_for, listed_ids, canonical_segments, has_segment}
use Rattle.omf_model.specs.Modules.{ModuleValue, made_of}
use Rattle.omf_model.specs.Rules.{IsModule, keeps_rules, is_content, is_in_bounds, is_fitting, each_after, end_of}
use Rattle.omf_model.specs.SoundParts.{in_bounds_parts, sound_parts}
use Rattle.omf_module.specs.declared.fault.Cause.{Cause}
use Rattle.omf_module.specs.declared.fault.Cause.TheVariants.{Record, NoHeader, UnknownKind, BadBody, BadName, SegmentUnknown, OffsetOutside}
use Rattle.omf_module.specs.declared.fault.Cause.TheVariants.{FixupBeforeContent, FixupOutside, FixupTwice, IndexUnknown, NoEnd, Memory}
use Rattle.omf_module.specs.declared.fault.ModuleFault.{ModuleFault}
use Rattle.omf_module.specs.Spelled.{SpellsFile, FaultsFile}
use Rattle.omf_module.specs.Reading.{OrNoMemory}
use Rattle.omf_module.specs.ReadingLaws.{OneFile, OneFileFault, NeverBothFile}
use Rattle.omf_module.specs.WritingLaws.{WrittenFileIsSpelled}
use Rattle.image80_file.specs.declared.image_fault.ImageFault.{ImageFault}
use Rattle.image80_file.specs.declared.image_fault.ImageFault.TheVariants.{NotAbsolute, Module, Memory as OutOfMemory}
use Rattle.image80.specs.Image.{PlacedBytes, Located, IsChunk}
use Rattle.image80_file.specs.ImageFile.{AbsoluteProgram, SpellsImage, chunk_content, content_chunk, named_module, image_module, is_absolute_content}
use Rattle.image80_file.specs.ImageFile.{is_absolute_start, is_absolute, program_from, program_of, program_of_one, of_cause, of_module_fault, FaultsImage}
use Rattle.image80_file.specs.ImageFile.{of_file, of_modules, WrittenImageIsSpelled, NamedModuleIsRead, OneImage, OneImageFault, NeverBothImage}

-- ---- the module of an image

-- a module without commons lists no segments where none is listed
pub none_listed : canonical_segments [] [] ≡ []
unfolding entries_for listed_ids
none_listed = refl

pub made_as_it_is : (image : Located) (publics : List Public) → made_of (named_module image publics) ≡ named_module image publics
made_as_it_is image publics = ap (λ (s : List (ℕ × Segment)). record (named_module image publics) { segments = s }) none_listed

both : (a b : Bool) → a ≡ true → b ≡ true → (a && b) ≡ true
both true b e f = f
both false b e f = absurd cc

-- a chunk keeps the rules of a content
content_placed : (chunk : PlacedBytes) → IsChunk chunk → is_content [] [] 0 (chunk_content chunk) ≡ true
content_placed chunk w =
    both (is_in_bounds [] [] (chunk_content chunk)) true
    (both (nat_le (chunk.address + length chunk.bytes) 65536) (nat_le (length chunk.bytes) 65531)
    (le-leb (chunk.address + length chunk.bytes) 65536 w.in_memory) (le-leb (length chunk.bytes) 65531 w.in_record)) refl

contents_placed : (chunks : List PlacedBytes) → AllByRecursion IsChunk chunks
    → list_all (is_content [] [] 0) (map chunk_content chunks) ≡ true
contents_placed [] w = refl
contents_placed (chunk ∷ chunks) w =
    both (is_content [] [] 0 (chunk_content chunk)) (list_all (is_content [] [] 0) (map chunk_content chunks))
    (content_placed chunk w.0) (contents_placed chunks w.1)

-- absolute publics are in a segment that every module has
publics_placed : (publics : List Public) → AllByRecursion (λ p. p.segment ≡ 0) publics
    → list_all (λ p. has_segment [] p.segment) publics ≡ true
publics_placed [] absolute = refl
publics_placed (p ∷ ps) absolute =
    both (has_segment [] p.segment) (list_all (λ p. has_segment [] p.segment) ps) (ap (has_segment []) absolute.0)
    (publics_placed ps absolute.1)

pub image_keeps_rules : (image : Located) (publics : List Public) → AllByRecursion (λ p. p.segment ≡ 0) publics
    → AllByRecursion IsChunk image.chunks → keeps_rules (named_module image publics) ≡ true
image_keeps_rules image publics absolute w =
    both (list_all (λ p. has_segment [] p.segment) publics && list_all (is_content [] [] 0) (map chunk_content image.chunks)) true
    (both (list_all (λ p. has_segment [] p.segment) publics) (list_all (is_content [] [] 0) (map chunk_content image.chunks))
    (publics_placed publics absolute) (contents_placed image.chunks w)) refl

image_is_module : (image : Located) → is_name image.name ≡ true → AllByRecursion IsChunk image.chunks
    → IsModule (image_module image)
image_is_module image name w = record {
  sound = image_keeps_rules image [] tt w;
  own = refl;
  canonical = sym none_listed;
  names = ap (λ (b : Bool). b && true && true && true) name;
}

-- what holds of all holds of the one that is read
item_has : {A : Type 0} (P : A → Type 0) (xs : List A) (i : ℕ) (d : A) → AllByRecursion P xs → i < length xs → P (get_or xs i d)
item_has P [] i d all inside = absurd (omega (arith, inside))
item_has P (x ∷ xs) zero d all inside = all.0
item_has P (x ∷ xs) (suc i) d all inside = item_has P xs i d all.1 (omega (arith, inside))

pub all_item : {A : Type 0} (P : A → Type 0) (xs : List A) (i : ℕ) (x : A) → AllByRecursion P xs → i < length xs
    → x ≡ get_or xs i x → P x
all_item P xs i x all inside is = subst P (sym is) (item_has P xs i x all inside)

-- ---- what is written is read

chunks_again : (chunks : List PlacedBytes) → map content_chunk (map chunk_content chunks) ≡ chunks
chunks_again [] = refl
chunks_again (chunk ∷ chunks) = ap (λ (rest : List PlacedBytes). chunk ∷ rest) (chunks_again chunks)

all_absolute : (chunks : List PlacedBytes) → list_all is_absolute_content (map chunk_content chunks) ≡ true
all_absolute [] = refl
all_absolute (chunk ∷ chunks) = all_absolute chunks

named_module_absolute : (image : Located) (publics : List Public) → is_absolute (named_module image publics) ≡ true
named_module_absolute image publics =
    both (list_all is_absolute_content (map chunk_content image.chunks)) true (all_absolute image.chunks) refl

pub named_module_read : NamedModuleIsRead
named_module_read image publics =
    ap (λ (b : Bool). if b then program_from (named_module image publics) (Some (0, image.start)) else Err NotAbsolute)
    (named_module_absolute image publics)
    ∙ ap (λ (chunks : List PlacedBytes). Ok (record { name = image.name; chunks = chunks; start = image.start }))
    (chunks_again image.chunks)

pub written_image : WrittenFileIsSpelled → WrittenImageIsSpelled
written_image written image name w = record {
  modules = image_module image ∷ [];
  file = written (image_module image ∷ []) (omega arith) (image_is_module image name w, tt);
  is = named_module_read image [];
}

-- ---- one reading

ok_same : {A E : Type 0} (r : Result A E) (x y : A) → r ≡ Ok x → r ≡ Ok y → x ≡ y
ok_same {A} {E} r x y e f = ap (value x) (sym e ∙ f)
  where
    value : {A E : Type 0} → A → Result A E → A
    value d (Ok a) = a
    value d (Err b) = d

err_same : {A E : Type 0} (r : Result A E) (x y : E) → r ≡ Err x → r ≡ Err y → x ≡ y
err_same {A} {E} r x y e f = ap (fault x) (sym e ∙ f)
  where
    fault : {A E : Type 0} → E → Result A E → E
    fault d (Ok a) = d
    fault d (Err b) = b

ok_err : {A E : Type 0} (r : Result A E) (x : A) (e : E) → r ≡ Ok x → r ≡ Err e → ⊥
ok_err {A} {E} r x e p q = absurd cc

pub one_image : OneFile → OneImage
one_image one bytes p q s t =
    ok_same (program_of_one t.modules) p q
    (subst (λ (ms : List ModuleValue). program_of_one ms ≡ Ok p) (one bytes s.modules t.modules s.file t.file) s.is) t.is

pub one_image_fault : OneFile → OneFileFault → NeverBothFile → OneImageFault
one_image_fault one fault never bytes f g (of_file a x) (of_file b y) = ap Module (fault bytes a b x y)
one_image_fault one fault never bytes f g (of_file a x) (of_modules ms _ s e) = absurd (never bytes ms a s x)
one_image_fault one fault never bytes f g (of_modules ms _ s e) (of_file b y) = absurd (never bytes ms b s y)
one_image_fault one fault never bytes f g (of_modules ms _ s e) (of_modules ns _ t d) =
    err_same (program_of_one ns) f g (subst (λ (xs : List ModuleValue). program_of_one xs ≡ Err f) (one bytes ms ns s t) e) d

pub never_both_image : OneFile → NeverBothFile → NeverBothImage
never_both_image one never bytes p f s (of_file a x) = never bytes s.modules a s.file x
never_both_image one never bytes p f s (of_modules ms _ t e) =
    ok_err (program_of_one ms) p f
    (subst (λ (xs : List ModuleValue). program_of_one xs ≡ Ok p) (one bytes s.modules ms s.file t) s.is) e

-- ---- the fault of a file

-- a fault of the file is the image's, unless memory ran out
pub fault_of_file : (bytes : List ℕ) (fault : ModuleFault) → OrNoMemory (FaultsFile bytes) fault
    → of_module_fault fault ≢ OutOfMemory → FaultsImage bytes (of_module_fault fault)
fault_of_file bytes fault (inl none) real = absurd (real (ap of_module_fault none))
fault_of_file bytes fault (inr x) real = by_fault fault.cause refl
  where
    by_fault : (why : Cause) → fault.cause ≡ why → FaultsImage bytes (of_module_fault fault)
    by_fault Memory e = absurd (real (ap (λ (c : Cause). of_cause c fault) e))
    by_fault (Record f) e = subst (λ (c : Cause). FaultsImage bytes (of_cause c fault)) (sym e) (of_file fault x)
    by_fault NoHeader e = subst (λ (c : Cause). FaultsImage bytes (of_cause c fault)) (sym e) (of_file fault x)
    by_fault (UnknownKind k) e = subst (λ (c : Cause). FaultsImage bytes (of_cause c fault)) (sym e) (of_file fault x)
    by_fault (BadBody k) e = subst (λ (c : Cause). FaultsImage bytes (of_cause c fault)) (sym e) (of_file fault x)
    by_fault BadName e = subst (λ (c : Cause). FaultsImage bytes (of_cause c fault)) (sym e) (of_file fault x)
    by_fault (SegmentUnknown i) e = subst (λ (c : Cause). FaultsImage bytes (of_cause c fault)) (sym e) (of_file fault x)
    by_fault OffsetOutside e = subst (λ (c : Cause). FaultsImage bytes (of_cause c fault)) (sym e) (of_file fault x)
    by_fault FixupBeforeContent e = subst (λ (c : Cause). FaultsImage bytes (of_cause c fault)) (sym e) (of_file fault x)
    by_fault FixupOutside e = subst (λ (c : Cause). FaultsImage bytes (of_cause c fault)) (sym e) (of_file fault x)
    by_fault FixupTwice e = subst (λ (c : Cause). FaultsImage bytes (of_cause c fault)) (sym e) (of_file fault x)
    by_fault IndexUnknown e = subst (λ (c : Cause). FaultsImage bytes (of_cause c fault)) (sym e) (of_file fault x)
    by_fault NoEnd e = subst (λ (c : Cause). FaultsImage bytes (of_cause c fault)) (sym e) (of_file fault x)

-- ---- the chunks of an absolute module

-- an absolute content that keeps the rules of modules is a chunk
content_is_chunk : (m : ModuleValue) (content : ContentValue) → is_absolute_content content ≡ true
    → is_content m.segments m.commons (length m.externals) content ≡ true → IsChunk (content_chunk content)
content_is_chunk m content absolute kept =
    let own : content.segment ≡ 0 =
    eqb-true content.segment 0 (and_parts (content.segment == 0) (length content.fixups == 0) absolute).0 in
    let placed = (and_parts (is_in_bounds m.segments m.commons content)
    (each_after (is_fitting m.commons (length m.externals) content.offset (length content.bytes)) [] content.fixups)
    kept).0 in
    let p = in_bounds_parts m.segments m.commons content placed in
    record {
      in_record = p.short;
      in_memory = subst (λ (id : ℕ). content.offset + length content.bytes ≤ end_of m.segments id) own p.within;
    }

contents_are_chunks : (m : ModuleValue) (contents : List ContentValue) → list_all is_absolute_content contents ≡ true
    → list_all (is_content m.segments m.commons (length m.externals)) contents ≡ true
    → AllByRecursion (λ (content : ContentValue). IsChunk (content_chunk content)) contents
contents_are_chunks m [] absolute kept = tt
contents_are_chunks m (content ∷ contents) absolute kept =
    let a = and_parts (is_absolute_content content) (list_all is_absolute_content contents) absolute in
    let k = and_parts (is_content m.segments m.commons (length m.externals) content)
    (list_all (is_content m.segments m.commons (length m.externals)) contents) kept in
    (content_is_chunk m content a.0 k.0, contents_are_chunks m contents a.1 k.1)

pub absolute_contents : (m : ModuleValue) → IsModule m → is_absolute m ≡ true
    → AllByRecursion (λ (content : ContentValue). IsChunk (content_chunk content)) m.contents
absolute_contents m w absolute =
    let a = and_parts (length m.externals == 0 && list_all is_absolute_content m.contents) (is_absolute_start m.start) absolute in
    let b = and_parts (length m.externals == 0) (list_all is_absolute_content m.contents) a.0 in
    contents_are_chunks m m.contents b.1 (sound_parts m w.sound).contents

pub refused_by_module : {A : Type 0} (bytes : List ℕ) (m : ModuleValue) (ms : List ModuleValue) (r : Result A ImageFault)
    → SpellsFile bytes ms → program_of_one ms ≡ program_of m
    → IfErr r (λ fault. fault ≢ OutOfMemory → program_of m ≡ Err fault)
    → IfErr r (λ fault. fault ≢ OutOfMemory → FaultsImage bytes fault)
refused_by_module {A} bytes m ms (Ok x) s same e = e
refused_by_module {A} bytes m ms (Err f) s same e = λ real. of_modules ms f s (same ∙ e real)

pub read_by_module : (bytes : List ℕ) (m : ModuleValue) (ms : List ModuleValue) (r : Result AbsoluteProgram ImageFault)
    → SpellsFile bytes ms → program_of_one ms ≡ program_of m → IfOk r (λ program. program_of m ≡ Ok program)
    → IfOk r (λ program. SpellsImage bytes program)
read_by_module bytes m ms (Ok program) s same e = record { modules = ms; file = s; is = same ∙ e }
read_by_module bytes m ms (Err f) s same e = e

-- the one module of a list
pub program_of_first : (ms : List ModuleValue) (m : ModuleValue) → 1 ≤ length ms → length ms < 2 → m ≡ get_or ms 0 m
    → program_of_one ms ≡ program_of m
program_of_first [] m one few is = absurd (omega (arith, one))
program_of_first (x ∷ []) m one few is = ap program_of (sym is)
program_of_first (x ∷ y ∷ ys) m one few is = absurd (omega (arith, few))
