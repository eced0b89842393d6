-- The one module that is located: its words, patches, chunks and start by its placed segments, and the causes in their order.
use Rattle.std.specs.Prelude.{◌≡◌, ℕ, ◌+◌, ◌-◌, ◌%◌, ◌==◌, Bool, true, not, ◌&&◌, ◌||◌, if◌then◌else◌, Option, Some, None, option_map}
use Rattle.std.specs.Prelude.{option_and_then, is_none, List, [], ◌∷◌, map, find, length, slice_get, ◌≤◌, IsTrue, All, refl}
use Rattle.std.specs.List.{list_any, AllByRecursion}
use Rattle.std.specs.Option.{option_or}
use Rattle.std.proofs.Common.{◌∙◌, ap, sym, subst, arith, ◌<◌, get_or}
use Rattle.std.proofs.lemmas.Bool.{ltb-true}
use Rattle.std.proofs.lemmas.List.Elements.{All-from_get_or, recursion_from_All}
use Rattle.std.proofs.lemmas.List.{append-nil}
use Rattle.omf_model.specs.declared.fixup.Fixup.{Fixup}
use Rattle.omf_model.specs.declared.fixup.Target.{Target}
use Rattle.omf_model.specs.declared.fixup.Target.TheVariants as target
use Rattle.omf_model.specs.declared.patching.Patch.{Patch}
use Rattle.omf_model.specs.Contents.{ContentValue}
use Rattle.omf_model.specs.Patches.{with_patches}
use Rattle.omf_model.specs.Segments.{has_segment}
use Rattle.omf_model.specs.Modules.{ModuleValue}
use Rattle.omf_model.specs.Rules.{has_target, is_start, is_sound}
use Rattle.omf_model.specs.Place.{Bases, place_in}
use Rattle.omf_model.specs.ImageByte.{target_word, patch_with, patch_of, chunk_of}
use Rattle.omf_model.specs.HighReferences.{is_high, loses_with, loses_low_byte, any_loses_low_byte}
use Rattle.omf_model.specs.SoundModules.{LiesIn, HasItsFixups}
use Rattle.std.proofs.Math.Bool.{or-false}
use Rattle.place80.specs.declared.options.Options.{Options}
use Rattle.place80.specs.declared.placed_segments.Placed.{Placed}
use Rattle.image80.specs.Image.{PlacedBytes}
use Rattle.place80.specs.Layout.{placed_in, place_among, bases_of, layout_of, program_bases}
use Rattle.place80.specs.Locating.{Fit, word_among, chunk_among, CanBePlaced, placed_bytes, located_chunks}
use Rattle.place80.specs.PlaceFault.{is_outside, overlaps, pairs, high_not_paged, is_in_placed, start_place, start_not_code, unresolved, no_start, layout_fault, locate_fault}
use Rattle.place80.specs.declared.place_fault.PlaceFault.{PlaceFault}
use Rattle.place80.specs.declared.place_fault.PlaceFault.TheVariants.{HighNotPaged, StartNotCode}
use Rattle.place80.proofs.ChunkLemmas.{all_at, content_in_memory}
use Rattle.place80.proofs.LayoutLemmas.{in_memory_and_apart}
use Rattle.place80.proofs.LocatedDisjoint.{EndsInMemory, ends_in_memory}
use Rattle.place80.proofs.PlaceLemmas.{ModuleLaws, place_of_id}

-- two tests, or two functions, that agree where something holds
any_same : {A : Type 0} (P : A → Type 0) (p q : A → Bool) → ((x : A) → P x → p x ≡ q x) → (xs : List A) → AllByRecursion P xs
    → list_any p xs ≡ list_any q xs
any_same P p q same [] all = refl
any_same P p q same (x ∷ xs) all = ap (λ (b : Bool). b || list_any p xs) (same x all.0)
    ∙ ap (λ (b : Bool). q x || b) (any_same P p q same xs all.1)

map_same : {A B : Type 0} (P : A → Type 0) (f g : A → B) → ((x : A) → P x → f x ≡ g x) → (xs : List A) → AllByRecursion P xs
    → map f xs ≡ map g xs
map_same P f g same [] all = refl
map_same P f g same (x ∷ xs) all = ap (λ y. y ∷ map f xs) (same x all.0) ∙ ap (λ l. g x ∷ l) (map_same P f g same xs all.1)

-- what a reference is to, where the module has no external
target_same : ModuleLaws → (segments : List Placed) (m : ModuleValue) (t : Target) → IsTrue (is_sound m)
    → IsTrue (has_target m.commons 0 t) →
    target_word (bases_of m.commons segments) (m ∷ []) (0, m) t ≡ word_among segments t
target_same laws segments m (target.Segment id) sound has = place_of_id laws segments m id 0 (laws.rules m sound).commons has
target_same laws segments m (target.External index) sound has = let below : index < 0 = ltb-true index 0 has in
    absurd (omega arith)

no_externals : (m : ModuleValue) → m.externals ≡ [] → length m.externals ≡ 0
no_externals m none = ap (λ (l : List (List ℕ)). length l) none

abbrev HasTarget : ModuleValue → Fixup → Type 0
HasTarget m f = IsTrue (has_target m.commons 0 f.target)

targets_there : (m : ModuleValue) (c : ContentValue) → m.externals ≡ [] → HasItsFixups m c → AllByRecursion (HasTarget m) c.fixups
targets_there m c none good =
    subst (λ n. AllByRecursion (λ f. IsTrue (has_target m.commons n f.target)) c.fixups) (no_externals m none) good.targets

-- references that lose their low bytes
loses_same : ModuleLaws → (segments : List Placed) (m : ModuleValue) (f : Fixup) → IsTrue (is_sound m)
    → IsTrue (has_target m.commons 0 f.target)
    → loses_with (word_among segments) f ≡ loses_low_byte (bases_of m.commons segments) (m ∷ []) (0, m) f
loses_same laws segments m f sound has =
    ap (λ n. is_high f.field && not (n % 256 == 0)) (sym (target_same laws segments m f.target sound has))

pub any_loses_same : ModuleLaws → (segments : List Placed) (m : ModuleValue) → IsTrue (is_sound m) → m.externals ≡ [] →
    list_any (λ c. list_any (loses_with (word_among segments)) c.fixups) m.contents
    ≡ any_loses_low_byte (bases_of m.commons segments) (m ∷ [])
any_loses_same laws segments m sound none =
    let loses : Fixup → Bool = loses_low_byte (bases_of m.commons segments) (m ∷ []) (0, m) in
    any_same (HasItsFixups m) (λ c. list_any (loses_with (word_among segments)) c.fixups) (λ c. list_any loses c.fixups)
    (λ c good. any_same (HasTarget m) (loses_with (word_among segments)) loses
    (λ f has. loses_same laws segments m f sound has) c.fixups (targets_there m c none good))
    m.contents (laws.rules m sound).fixups
    ∙ sym (or-false (list_any (λ c. list_any loses c.fixups) m.contents))

-- the chunks of contents
abbrev one_chunk : List Placed → ModuleValue → ContentValue → PlacedBytes
one_chunk segments m c = placed_bytes (chunk_of (bases_of m.commons segments) (m ∷ []) (0, m) c)

patch_same : ModuleLaws → (segments : List Placed) (m : ModuleValue) (c : ContentValue) (f : Fixup) → IsTrue (is_sound m)
    → IsTrue (has_target m.commons 0 f.target) →
    patch_with (word_among segments) c.offset f ≡ patch_of (bases_of m.commons segments) (m ∷ []) (0, m) c f
patch_same laws segments m c f sound has =
    ap (λ (n : ℕ). record { at = f.offset - c.offset; field = f.field; word = n })
    (sym (target_same laws segments m f.target sound has))

pub record IsGood (m : ModuleValue) (c : ContentValue) : Type 0 where
  pub lies : LiesIn m c
  pub fixups : HasItsFixups m c

all_good : (m : ModuleValue) (cs : List ContentValue) → AllByRecursion (LiesIn m) cs → AllByRecursion (HasItsFixups m) cs
    → AllByRecursion (IsGood m) cs
all_good m [] lie have = _
all_good m (c ∷ cs) lie have = (record { lies = lie.0; fixups = have.0 }, all_good m cs lie.1 have.1)

pub good_contents : ModuleLaws → (m : ModuleValue) → IsTrue (is_sound m) → AllByRecursion (IsGood m) m.contents
good_contents laws m sound = all_good m m.contents (laws.rules m sound).contents (laws.rules m sound).fixups

chunk_same : ModuleLaws → (segments : List Placed) (m : ModuleValue) (c : ContentValue) → IsTrue (is_sound m) → m.externals ≡ []
    → IsGood m c → chunk_among segments c ≡ one_chunk segments m c
chunk_same laws segments m c sound none good =
    let patches = map_same (HasTarget m) (patch_with (word_among segments) c.offset)
    (patch_of (bases_of m.commons segments) (m ∷ []) (0, m) c)
    (λ f has. patch_same laws segments m c f sound has) c.fixups (targets_there m c none good.fixups) in
    let place = place_of_id laws segments m c.segment c.offset (laws.rules m sound).commons good.lies.has in
    ap (λ (n : ℕ). record {
      address = n;
      bytes = with_patches (map (patch_with (word_among segments) c.offset) c.fixups) c.bytes;
    }) (sym place)
    ∙ ap (λ (l : List Patch). record {
      address = place_in (bases_of m.commons segments) (m ∷ []) 0 m c.segment c.offset;
      bytes = with_patches l c.bytes;
    }) patches

map_both : {A B C : Type 0} (f : B → C) (g : A → B) (xs : List A) → map f (map g xs) ≡ map (λ x. f (g x)) xs
map_both f g [] = refl
map_both f g (x ∷ xs) = ap (λ l. f (g x) ∷ l) (map_both f g xs)

pub chunks_same : ModuleLaws → (options : Options) (m : ModuleValue) → IsTrue (is_sound m) → m.externals ≡ []
    → map (chunk_among (layout_of options m)) m.contents ≡ located_chunks options m
chunks_same laws options m sound none =
    let segments : List Placed = layout_of options m in
    map_same (IsGood m) (chunk_among segments) (one_chunk segments m)
    (λ c good. chunk_same laws segments m c sound none good) m.contents (good_contents laws m sound)
    ∙ sym (map_both placed_bytes (chunk_of (bases_of m.commons segments) (m ∷ []) (0, m)) m.contents)
    ∙ ap (map placed_bytes) (sym (append-nil (map (chunk_of (bases_of m.commons segments) (m ∷ []) (0, m)) m.contents)))

-- the start
pub start_same : ModuleLaws → (segments : List Placed) (m : ModuleValue) (id offset : ℕ) → IsTrue (is_sound m)
    → m.start ≡ Some (id, offset) → place_among segments id offset ≡ start_place (bases_of m.commons segments) m (id, offset)
start_same laws segments m id offset sound is =
    let has : has_segment m.commons id ≡ true =
    subst (λ (s : Option (ℕ × ℕ)). IsTrue (is_start m.commons s)) is (laws.rules m sound).start in
    sym (place_of_id laws segments m id offset (laws.rules m sound).commons has)

pub start_found : ModuleLaws → (segments : List Placed) (m : ModuleValue) (id offset : ℕ) → IsTrue (is_sound m)
    → m.start ≡ Some (id, offset)
    → Some (place_among segments id offset) ≡ option_map (start_place (bases_of m.commons segments) m) m.start
start_found laws segments m id offset sound is =
    ap (λ (n : ℕ). Some n) (start_same laws segments m id offset sound is)
    ∙ ap (λ (s : Option (ℕ × ℕ)). option_map (start_place (bases_of m.commons segments) m) s) (sym is)

-- ---- the causes, in order

pub none_unresolved : (m : ModuleValue) → m.externals ≡ [] → unresolved m ≡ None
none_unresolved m none = ap (λ (l : List (List ℕ)). option_map PlaceFault.Unresolved (slice_get l 0)) none

has_start : (m : ModuleValue) (start : ℕ × ℕ) → m.start ≡ Some start → no_start m ≡ None
has_start m start is = ap (λ (s : Option (ℕ × ℕ)). if is_none s then Some PlaceFault.NoStart else None) is

-- past the first three
abbrev last_two : Options → ModuleValue → Option PlaceFault
last_two options m = option_or (high_not_paged (program_bases options m) m)
    (start_not_code (program_bases options m) m (layout_of options m))

pub past_three : (options : Options) (m : ModuleValue) (start : ℕ × ℕ) → m.externals ≡ [] → m.start ≡ Some start
    → layout_fault options m ≡ None → locate_fault options m ≡ last_two options m
past_three options m start closed is laid =
    ap (λ o. option_or o (option_or (no_start m) (option_or (layout_fault options m) (last_two options m))))
    (none_unresolved m closed)
    ∙ ap (λ o. option_or o (option_or (layout_fault options m) (last_two options m))) (has_start m start is)
    ∙ ap (λ o. option_or o (last_two options m)) laid

pub high_is : (bases : Bases) (m : ModuleValue) (b : Bool) → b ≡ any_loses_low_byte bases (m ∷ [])
    → high_not_paged bases m ≡ (if b then Some HighNotPaged else None)
high_is bases m b is = ap (λ (x : Bool). if x then Some HighNotPaged else None) (sym is)

pub start_is : (bases : Bases) (m : ModuleValue) (segments : List Placed) (start : ℕ × ℕ) (b : Bool) → m.start ≡ Some start
    → b ≡ is_in_placed (placed_in segments 1) (start_place bases m start) →
    start_not_code bases m segments ≡ (if b then None else Some StartNotCode)
start_is bases m segments start b is here =
    ap (λ (s : Option (ℕ × ℕ)). option_and_then (λ start. if is_in_placed (placed_in segments 1) (start_place bases m start)
    then None else Some StartNotCode) s) is
    ∙ ap (λ (x : Bool). if x then None else Some StartNotCode) (sym here)

pub by_last_two : (options : Options) (m : ModuleValue) (start : ℕ × ℕ) (high inside : Bool) → m.externals ≡ []
    → m.start ≡ Some start → layout_fault options m ≡ None →
    high ≡ any_loses_low_byte (program_bases options m) (m ∷ []) →
    inside ≡ is_in_placed (placed_in (layout_of options m) 1) (start_place (program_bases options m) m start) →
    locate_fault options m ≡ option_or (if high then Some HighNotPaged else None) (if inside then None else Some StartNotCode)
by_last_two options m start high inside closed is laid loses here =
    past_three options m start closed is laid
    ∙ ap (λ o. option_or o (start_not_code (program_bases options m) m (layout_of options m)))
    (high_is (program_bases options m) m high loses)
    ∙ ap (λ o. option_or (if high then Some HighNotPaged else None) o)
    (start_is (program_bases options m) m (layout_of options m) start inside is here)

-- ---- contents fit their places

can_be_placed : ModuleLaws → (options : Options) (m : ModuleValue) (i : ℕ) (d : ContentValue) → IsTrue (is_sound m)
    → find (is_outside m.contents) (layout_of options m) ≡ None → i < length m.contents →
    CanBePlaced (layout_of options m) (get_or m.contents i d)
can_be_placed laws options m i d sound none below =
    let c : ContentValue = get_or m.contents i d in
    let segments : List Placed = layout_of options m in
    let good : IsGood m c = all_at (IsGood m) m.contents i d (good_contents laws m sound) below in
    record {
      begin = good.fixups.begin;
      inside = good.fixups.inside (λ f. word_among segments f.target);
      apart = good.fixups.apart (λ f. word_among segments f.target);
      in_record = good.lies.in_record;
      in_memory = subst (λ n. n + length c.bytes ≤ 65536)
          (place_of_id laws segments m c.segment c.offset (laws.rules m sound).commons good.lies.has)
          (content_in_memory laws options m i d sound none below);
    }

pub all_can_be_placed : ModuleLaws → (options : Options) (m : ModuleValue) → IsTrue (is_sound m) → layout_fault options m ≡ None
    → AllByRecursion (CanBePlaced (layout_of options m)) m.contents
all_can_be_placed laws options m sound laid =
    let d : ContentValue = record { segment = 0; offset = 0; bytes = []; fixups = [] } in
    recursion_from_All (CanBePlaced (layout_of options m)) m.contents
    (All-from_get_or (CanBePlaced (layout_of options m)) m.contents d
    (λ i below. can_be_placed laws options m i d sound (in_memory_and_apart options m laid).0 below))

-- ---- as the calls answer it

pub no_first : {A : Type 0} (xs : List A) → slice_get xs 0 ≡ None → xs ≡ []
no_first [] none = refl
no_first (x ∷ xs) none = absurd cc

pub high_told : ModuleLaws
    → (options : Options) (m : ModuleValue) (segments : List Placed) (contents : List ContentValue) (b : Bool)
    → IsTrue (is_sound m) → m.externals ≡ [] →
    segments ≡ layout_of options m → contents ≡ m.contents
    → b ≡ list_any (λ c. list_any (loses_with (word_among segments)) c.fixups) contents →
    b ≡ any_loses_low_byte (program_bases options m) (m ∷ [])
high_told laws options m segments contents b sound closed places same told =
    told
    ∙ ap (λ (s : List Placed). list_any (λ c. list_any (loses_with (word_among s)) c.fixups) contents) places
    ∙ ap (λ (l : List ContentValue). list_any (λ c. list_any (loses_with (word_among (layout_of options m))) c.fixups) l) same
    ∙ any_loses_same laws (layout_of options m) m sound closed

pub place_told : (options : Options) (m : ModuleValue) (segments : List Placed) (id offset place : ℕ)
    → segments ≡ layout_of options m → place ≡ place_among segments id offset
    → place ≡ place_among (layout_of options m) id offset
place_told options m segments id offset place places told = told ∙ ap (λ (s : List Placed). place_among s id offset) places

pub inside_told : ModuleLaws
    → (options : Options) (m : ModuleValue) (segments : List Placed) (id offset place : ℕ) (p : Placed) (b : Bool)
    → IsTrue (is_sound m) → m.start ≡ Some (id, offset) →
    segments ≡ layout_of options m → place ≡ place_among (layout_of options m) id offset → p ≡ placed_in segments 1
    → b ≡ is_in_placed p place →
    b ≡ is_in_placed (placed_in (layout_of options m) 1) (start_place (program_bases options m) m (id, offset))
inside_told laws options m segments id offset place p b sound is places placed code told =
    told
    ∙ ap (λ (q : Placed). is_in_placed q place) (code ∙ ap (λ (s : List Placed). placed_in s 1) places)
    ∙ ap (λ (n : ℕ). is_in_placed (placed_in (layout_of options m) 1) n) (placed
    ∙ start_same laws (layout_of options m) m id offset sound is)

pub chunks_told : ModuleLaws
    → (options : Options) (m : ModuleValue) (segments : List Placed) (contents : List ContentValue) (chunks : List PlacedBytes)
    → IsTrue (is_sound m) → m.externals ≡ [] →
    segments ≡ layout_of options m → contents ≡ m.contents → chunks ≡ map (chunk_among segments) contents
    → chunks ≡ located_chunks options m
chunks_told laws options m segments contents chunks sound closed places same told =
    told
    ∙ ap (λ (s : List Placed). map (chunk_among s) contents) places
    ∙ ap (map (chunk_among (layout_of options m))) same
    ∙ chunks_same laws options m sound closed

-- the segments of a layout without a fault
pub laid_fit : (options : Options) (m : ModuleValue) (segments : List Placed) → segments ≡ layout_of options m
    → AllByRecursion (λ p. p.length < 65536) segments → layout_fault options m ≡ None → Fit segments
laid_fit options m segments places lengths laid =
    let parts = in_memory_and_apart options m laid in
    record {
      ends = subst (λ (s : List Placed). All EndsInMemory s) (sym places)
          (ends_in_memory m.contents (layout_of options m) parts.0);
      words = lengths;
      apart = subst (λ (s : List Placed). find (λ (pq : Placed × Placed). overlaps pq.0 pq.1) (pairs s) ≡ None)
          (sym places) parts.1;
    }
