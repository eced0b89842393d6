-- Of the contents of modules that are linked and located only ones in CODE cover an address that one in CODE covers.
use Rattle.std.proofs.Common.{◌≡◌, ℕ, ◌+◌, ◌%◌, ◌≤◌, Bool, true, false, cond, ◌&&◌, ◌||◌, List, [], ◌∷◌, ◌++◌, length, map, refl, sym, ap, subst, ◌∙◌, arith, inl, inr, eqb-true, true≢false}
use Rattle.std.specs.Prelude.{◌==◌, nat_eq, Option, None, Some, find, unwrap_or, if◌then◌else◌}
use Rattle.std.specs.List.{AllByRecursion, list_any, flat_map, enumerate_from}
use Rattle.std.specs.Option.{option_or, option_map_or}
use Rattle.std.specs.Cmp.Lexicographic.{pointwise}
use Rattle.std.proofs.lemmas.Bool.{cases_Bool, and_parts, or_cases}
use Rattle.std.proofs.lemmas.Bool.Decides.{nat_tests}
use Rattle.std.proofs.lemmas.List.{append-nil}
use Rattle.omf_model.specs.declared.symbols.Common.{Common}
use Rattle.omf_model.specs.Contents.{ContentValue}
use Rattle.omf_model.specs.Laws.{SegmentsAreKept}
use Rattle.omf_model.specs.Segments.{has_common_id, is_fixed_id, segment_in, empty_segment}
use Rattle.omf_model.specs.declared.segment.Segment.{Segment}
use Rattle.omf_model.specs.Modules.{ModuleValue, made_of}
use Rattle.omf_model.specs.Rules.{is_sound, each_after, is_new_entry}
use Rattle.omf_model.specs.Place.{Bases, common_name}
use Rattle.omf_model.specs.ImageByte.{ByteChunk, chunk_of, chunk_covers, image_byte}
use Rattle.omf_model.specs.HighReferences.{any_loses_low_byte}
use Rattle.omf_model.specs.SoundModules.{LiesIn, RulesOf, SoundModulesKeepRules}
use Rattle.link80.specs.Linked.{linked, linked_parts, linked_contents, linked_content, linked_commons, linked_id, numbered_common, common_names, id_of}
use Rattle.link80.specs.LinkLaws.{LinkedChunksAreTheModules, LinkedBytesAreTheModules, LinkedModuleKeepsRules}
use Rattle.place80.specs.declared.options.Options.{Options}
use Rattle.place80.specs.declared.place_fault.PlaceFault.{PlaceFault}
use Rattle.place80.specs.declared.place_fault.PlaceFault.TheVariants.{HighNotPaged}
use Rattle.place80.specs.Layout.{placed_in, layout_of, program_bases}
use Rattle.place80.specs.LayoutLaws.{LayoutIsLaidOut, SegmentsArePlaced, PlacesAreBySegments, Fit, NoFaultWhereSegmentsFit}
use Rattle.place80.specs.PlaceFault.{unresolved, no_start, layout_fault, high_not_paged, start_not_code, locate_fault}
use Rattle.place80.specs.Locating.{HoldsProgram}
use Rattle.image80.specs.Image.{Located, PlacedBytes, byte_at}
use Rattle.laws80.specs.Built.{linked_bases, HoldsModules}
use Rattle.rom80_find.specs.Dump.{DumpValue, dump_byte}
use Rattle.rom80_find.specs.Chunks.{is_code}
use Rattle.rom80_find.specs.LinkLaws.{LinkHasTheBytes, OnlyCodeCovers}
use Rattle.rom80_laws.specs.Rebuilt.{AreRebuilt, is_in_code}
use Rattle.rom80_laws.proofs.InPlaceLemmas.{PlacingLaws, Held, IsIn, code_contents, alone_contents}
use Rattle.rom80_laws.proofs.LinkedLemmas.{of_each, any_gives}

-- ---- a content is in CODE exactly if it is in the linked module

code_stays : (modules : List ModuleValue) (e : ℕ × ModuleValue) (c : ContentValue) → is_code c ≡ true → is_code (linked_content modules e c) ≡ true
code_stays modules e c code =
    let is : c.segment ≡ 1 = eqb-true c.segment 1 code in
    ap (λ (id : ℕ). linked_id modules e.1 id == 1) is

-- the id of a named common is 0, if there is none of the name, or 6 or more
not_code : (n : ℕ) (names : List (List ℕ)) (name : List ℕ) → 2 ≤ n
    → (id_of (map numbered_common (enumerate_from n names)) name == 1) ≡ false
not_code n [] name low = refl
not_code n (first ∷ names) name low = go (not_code (n + 1) names name (omega (arith, low))) (pointwise nat_eq first name)
  where
    go : (id_of (map numbered_common (enumerate_from (n + 1) names)) name == 1) ≡ false → (t : Bool) → (option_map_or (λ (c : Common). c.id) (cond t (Some (numbered_common (n, first)))
        (find (λ c. pointwise nat_eq c.name name) (map numbered_common (enumerate_from (n + 1) names)))) 0 == 1) ≡ false
    go rest true = grind (arith, nat_tests, low)
    go rest false = rest

code_was : (modules : List ModuleValue) (e : ℕ × ModuleValue) (c : ContentValue) → is_code (linked_content modules e c) ≡ true → is_code c ≡ true
code_was modules e c code = elim (cases_Bool (is_fixed_id c.segment)) [
  | inl fixed ↦ sym (ap (λ (b : Bool). cond b c.segment (id_of (linked_commons modules) (common_name e.1.commons c.segment)) == 1) fixed) ∙ code
  | inr named ↦
      absurd (true≢false (sym code
      ∙ ap (λ (b : Bool). cond b c.segment (id_of (linked_commons modules) (common_name e.1.commons c.segment)) == 1) named
      ∙ not_code 6 (common_names modules) (common_name e.1.commons c.segment) (omega arith)))
]

-- ---- what the causes of faults say where there is none

none_first : {A : Type 0} (x y : Option A) → option_or x y ≡ None → x ≡ None
none_first None y none = refl
none_first (Some v) y none = absurd cc

none_second : {A : Type 0} (x y : Option A) → option_or x y ≡ None → y ≡ None
none_second None y none = none
none_second (Some v) y none = absurd cc

none_loses : (b : Bool) → (if b then Some HighNotPaged else None) ≡ None → b ≡ false
none_loses true none = absurd cc
none_loses false none = refl

module _ (options : Options) (m : ModuleValue) (none : locate_fault options m ≡ None) where
  abbrev after_start : Option PlaceFault
  after_start = option_or (layout_fault options m)
      (option_or (high_not_paged (program_bases options m) m) (start_not_code (program_bases options m) m (layout_of options m)))

  laid : after_start ≡ None
  laid = none_second (no_start m) after_start (none_second (unresolved m) (option_or (no_start m) after_start) none)

  pub no_layout_fault : layout_fault options m ≡ None
  no_layout_fault = none_first (layout_fault options m)
      (option_or (high_not_paged (program_bases options m) m) (start_not_code (program_bases options m) m (layout_of options m))) laid

  pub none_loses_low_byte : any_loses_low_byte (program_bases options m) (m ∷ []) ≡ false
  none_loses_low_byte = none_loses (any_loses_low_byte (program_bases options m) (m ∷ []))
      (none_first (high_not_paged (program_bases options m) m) (start_not_code (program_bases options m) m (layout_of options m))
      (none_second (layout_fault options m)
      (option_or (high_not_paged (program_bases options m) m) (start_not_code (program_bases options m) m (layout_of options m))) laid))

-- ---- the contents of the linked module

id_bounds : (id : ℕ) (named : Bool) → (is_fixed_id id || named) ≡ true → (named ≡ true → (6 ≤ id) × (id ≤ 254)) → (id == 0) ≡ false
    → (1 ≤ id) × (id ≤ 255)
id_bounds id named has bounds not_absolute = elim (or_cases (is_fixed_id id) named has) [
  | inl fixed ↦ fixed_bounds fixed
  | inr is ↦ let b = bounds is in let low : 6 ≤ id = b.0 in let high : id ≤ 254 = b.1 in (omega (arith, low), omega (arith, high))
]
  where
    fixed_bounds : is_fixed_id id ≡ true → (1 ≤ id) × (id ≤ 255)
    fixed_bounds fixed = (grind (arith, nat_tests, fixed, not_absolute), grind (arith, nat_tests, fixed, not_absolute))

module _ (kept : SegmentsAreKept) (p : ModuleValue) (rules : RulesOf p) where
  held : (c : ContentValue) → LiesIn p c → Held (made_of p) c
  held c lies = record {
    has = lies.has;
    not_stack = lies.not_stack;
    absolute = λ is. subst (λ (n : ℕ). c.offset + length c.bytes ≤ n)
        (ap (λ (b : Bool). cond b 65536 (segment_in p.segments c.segment).length) is) lies.within;
    own = λ is.
        let bounds = id_bounds c.segment (has_common_id p.commons c.segment) lies.has (rules.ids c.segment) is in
        subst (λ (n : ℕ). c.offset + length c.bytes ≤ n)
        (ap (λ (b : Bool). cond b 65536 (segment_in p.segments c.segment).length) is
        ∙ sym (ap (λ (b : Bool). (unwrap_or (cond b (Some (segment_in p.segments c.segment)) None) empty_segment).length) lies.has)
        ∙ sym (ap (λ (s : Option Segment). (unwrap_or s empty_segment).length) (kept p c.segment bounds.0 bounds.1))) lies.within;
  }

  all_held : (cs : List ContentValue) → AllByRecursion (LiesIn p) cs → AllByRecursion (Held (made_of p)) cs
  all_held [] lie = tt
  all_held (c ∷ cs) lie = (held c lie.0, all_held cs lie.1)

  pub contents_held : AllByRecursion (Held (made_of p)) p.contents
  contents_held = all_held p.contents rules.contents

-- ---- a covered address

any_covers : {E C K : Type 0} (covers : K → Bool) (code : C → Bool) (contents : E → List C) (h : E → C → K) (es : List E)
    → list_any (λ e. list_any (λ c. code c && covers (h e c)) (contents e)) es ≡ true
    → list_any covers (flat_map (λ e. map (h e) (contents e)) es) ≡ true
any_covers {E} {C} {K} covers code contents h [] found = elim (true≢false (sym found)) [ ]
any_covers {E} {C} {K} covers code contents h (e ∷ es) found =
    elim (or_cases (list_any (λ c. code c && covers (h e c)) (contents e)) (list_any (λ e. list_any (λ c. code c && covers (h e c)) (contents e)) es) found) [
      | inl here ↦ front (contents e) here
      | inr later ↦ back (contents e) (any_covers covers code contents h es later)
    ]
  where
    or_more : (b c : Bool) → c ≡ true → (b || c) ≡ true
    or_more true c is = refl
    or_more false c is = is

    back : (cs : List C) → list_any covers (flat_map (λ e. map (h e) (contents e)) es) ≡ true
        → list_any covers (map (h e) cs ++ flat_map (λ e. map (h e) (contents e)) es) ≡ true
    back [] is = is
    back (c ∷ cs) is = or_more (covers (h e c)) (list_any covers (map (h e) cs ++ flat_map (λ e. map (h e) (contents e)) es)) (back cs is)

    front : (cs : List C) → list_any (λ c. code c && covers (h e c)) cs ≡ true
        → list_any covers (map (h e) cs ++ flat_map (λ e. map (h e) (contents e)) es) ≡ true
    front [] is = elim (true≢false (sym is)) [ ]
    front (c ∷ cs) is = elim (or_cases (code c && covers (h e c)) (list_any (λ c. code c && covers (h e c)) cs) is) [
      | inl one ↦
          ap (λ (b : Bool). b || list_any covers (map (h e) cs ++ flat_map (λ e. map (h e) (contents e)) es)) (and_parts (code c) (covers (h e c)) one).1
      | inr more ↦ or_more (covers (h e c)) (list_any covers (map (h e) cs ++ flat_map (λ e. map (h e) (contents e)) es)) (front cs more)
    ]

-- ---- the law

pub record RebuiltLaws : Type 0 where
  pub rules : SoundModulesKeepRules
  pub places : PlacingLaws
  pub segments_kept : SegmentsAreKept
  pub linked_rules : LinkedModuleKeepsRules
  pub linked_chunks : LinkedChunksAreTheModules
  pub linked_bytes : LinkedBytesAreTheModules
  pub fits : NoFaultWhereSegmentsFit
  pub has_bytes : LinkHasTheBytes

pub rebuilt_laws : SoundModulesKeepRules → LayoutIsLaidOut → SegmentsArePlaced → PlacesAreBySegments → SegmentsAreKept → LinkedModuleKeepsRules
    → LinkedChunksAreTheModules → LinkedBytesAreTheModules → NoFaultWhereSegmentsFit → LinkHasTheBytes → RebuiltLaws
rebuilt_laws rules layout placed places kept linked_rules chunks bytes fits has_bytes = record {
  rules = rules;
  places = record { layout = layout; placed = placed; places = places };
  segments_kept = kept;
  linked_rules = linked_rules;
  linked_chunks = chunks;
  linked_bytes = bytes;
  fits = fits;
  has_bytes = has_bytes;
}

module _ (laws : RebuiltLaws) (dump : DumpValue) (options : Options) (name : List ℕ) (modules : List ModuleValue) (a : ℕ)
    (rebuilt : AreRebuilt dump options name modules) where
  abbrev program : ModuleValue
  program = linked name modules

  abbrev parts : ModuleValue
  parts = linked_parts name modules

  abbrev bases : Bases
  bases = linked_bases options name modules

  parts_rules : RulesOf parts
  parts_rules = laws.rules parts (and_parts (each_after (is_new_entry parts.commons) [] parts.segments) (is_sound parts)
      (laws.linked_rules name modules rebuilt.modules_are rebuilt.no_fault.in_link)).1

  fit : Fit program (layout_of options program)
  fit = (laws.fits options program).0 (no_layout_fault options program rebuilt.no_fault.in_place)

  same_chunks : map (chunk_of bases (program ∷ []) (0, program)) (linked_contents modules)
      ≡ flat_map (λ e. map (chunk_of bases modules e) e.1.contents) (enumerate_from 0 modules)
  same_chunks =
      sym (append-nil (map (chunk_of bases (program ∷ []) (0, program)) (linked_contents modules)))
      ∙ laws.linked_chunks name modules bases rebuilt.modules_are rebuilt.no_fault.in_link
      (none_loses_low_byte options program rebuilt.no_fault.in_place)

  abbrev InCode : Type 0
  InCode = IsIn a (placed_in (layout_of options program) 1)

  contents_are : AllByRecursion (Held program) program.contents
  contents_are = contents_held laws.segments_kept parts parts_rules

  code_in_modules : AllByRecursion (λ e. AllByRecursion (λ c. is_code c ≡ true → chunk_covers a (chunk_of bases modules e c) ≡ true → InCode) e.1.contents) (enumerate_from 0 modules)
  code_in_modules =
      of_each (λ (e : ℕ × ModuleValue). e.1.contents) (linked_content modules) (chunk_of bases (program ∷ []) (0, program)) (chunk_of bases modules)
      (λ d. is_code d ≡ true → chunk_covers a (chunk_of bases (program ∷ []) (0, program) d) ≡ true → InCode)
      (λ e c. is_code c ≡ true → chunk_covers a (chunk_of bases modules e c) ≡ true → InCode)
      (λ e c same found code covers. found (code_stays modules e c code) (ap (λ (k : ByteChunk). chunk_covers a k) same ∙ covers))
      (enumerate_from 0 modules) same_chunks
      (code_contents laws.places options program parts_rules.commons parts_rules.ids a fit contents_are)

  alone_in_modules : InCode → AllByRecursion (OnlyCodeCovers bases modules a) (enumerate_from 0 modules)
  alone_in_modules here =
      of_each (λ (e : ℕ × ModuleValue). e.1.contents) (linked_content modules) (chunk_of bases (program ∷ []) (0, program)) (chunk_of bases modules)
      (λ d. chunk_covers a (chunk_of bases (program ∷ []) (0, program) d) ≡ true → is_code d ≡ true)
      (λ e c. chunk_covers a (chunk_of bases modules e c) ≡ true → is_code c ≡ true)
      (λ e c same found covers. code_was modules e c (found (ap (λ (k : ByteChunk). chunk_covers a k) same ∙ covers)))
      (enumerate_from 0 modules) same_chunks
      (alone_contents laws.places options program parts_rules.commons parts_rules.ids a fit contents_are here)

  pub has_the_bytes : is_in_code bases modules a ≡ true → dump_byte dump a ≡ Some (image_byte bases modules a % 256)
  has_the_bytes code =
      let here : InCode = any_gives (λ (e : ℕ × ModuleValue). e.1.contents) is_code (λ e c. chunk_covers a (chunk_of bases modules e c)) InCode
      (enumerate_from 0 modules) code_in_modules code in
      laws.has_bytes dump bases modules a rebuilt.lie (alone_in_modules here)
      (any_covers (chunk_covers a) is_code (λ (e : ℕ × ModuleValue). e.1.contents) (chunk_of bases modules) (enumerate_from 0 modules) code)

  pub located_has : (chunks : List PlacedBytes) → HoldsProgram options program chunks → is_in_code bases modules a ≡ true
      → dump_byte dump a ≡ Some (byte_at chunks a % 256)
  located_has chunks holds code =
      has_the_bytes code
      ∙ ap (λ (n : ℕ). Some (n % 256)) (sym (holds a ∙ laws.linked_bytes name modules bases rebuilt.modules_are rebuilt.no_fault.in_link
      (none_loses_low_byte options program rebuilt.no_fault.in_place) a))

  pub built_has : (image : Located) → HoldsModules options name modules image → is_in_code bases modules a ≡ true
      → dump_byte dump a ≡ Some (byte_at image.chunks a % 256)
  built_has image holds code = has_the_bytes code ∙ ap (λ (n : ℕ). Some (n % 256)) (sym (holds.bytes a))
