-- The segments and commons of the linked module keep the rules, and its parts hold what their modules' segments hold.
use Rattle.std.specs.Prelude.{◌≡◌, ℕ, suc, ◌+◌, ◌≤◌, ◌<◌, ◌==◌, nat_eq, nat_lt, Bool, true, false, not, ◌&&◌, ◌||◌, Option, Some}
use Rattle.std.specs.Prelude.{None, option_map, List, [], ◌∷◌, ◌++◌, filter, find, map, length, slice_index, refl, max, IsTrue}
use Rattle.std.specs.List.{list_all, list_any, enumerate_from, AllByRecursion}
use Rattle.std.specs.Option.{option_map_or}
use Rattle.std.specs.Cmp.Lexicographic.{pointwise}
use Rattle.std.proofs.Common.{◌∙◌, ap, sym, arith, inl, inr, cond, eqb-true, true≢false}
use Rattle.std.proofs.lemmas.Bool.{cases_Bool, and_parts, and_from, or_parts, or_from, not_from_false, lt-ltb}
use Rattle.std.proofs.lemmas.Bool.Decides.{nat_tests}
use Rattle.omf_core.specs.SegmentId.{is_common_id}
use Rattle.omf_model.specs.declared.segment.Segment.{Segment}
use Rattle.omf_model.specs.declared.symbols.Common.{Common}
use Rattle.omf_model.specs.Segments.{empty_segment, is_fixed_id, has_common_id, has_segment, segment_in}
use Rattle.omf_model.specs.Modules.{ModuleValue}
use Rattle.omf_model.specs.Rules.{each_after, is_new_entry, is_new_common}
use Rattle.omf_model.specs.Place.{common_name, rounded, starts_from}
use Rattle.omf_model.specs.SoundModules.{CommonsByName}
use Rattle.link80.specs.Linked.{distinct, numbered_common, part_of, parts_end, greatest}
use Rattle.link80.proofs.ListLemmas.{find_map}
use Rattle.link80.proofs.NameLemmas.{has_name, name_is, name_itself, numbered}

-- ---- tests of each item

all_back : {A : Type 0} (test : A → Bool) (xs : List A) (y : A) → list_all test xs ≡ true → test y ≡ true
    → list_all test (xs ++ y ∷ []) ≡ true
all_back test [] y all one = and_from (test y) true one refl
all_back test (x ∷ xs) y all one =
    let parts = and_parts (test x) (list_all test xs) all in
    and_from (test x) (list_all test (xs ++ y ∷ [])) parts.0 (all_back test xs y parts.1 one)

all_weaker : {A : Type 0} (p q : A → Bool) → ((x : A) → p x ≡ true → q x ≡ true) → (xs : List A) → list_all p xs ≡ true
    → list_all q xs ≡ true
all_weaker p q gives [] all = refl
all_weaker p q gives (x ∷ xs) all =
    let parts = and_parts (p x) (list_all p xs) all in
    and_from (q x) (list_all q xs) (gives x parts.0) (all_weaker p q gives xs parts.1)

none_by : {A : Type 0} (p q : A → Bool) → ((x : A) → p x ≡ true → q x ≡ false) → (xs : List A) → list_all p xs ≡ true
    → list_any q xs ≡ false
none_by p q gives [] all = refl
none_by p q gives (x ∷ xs) all =
    let parts = and_parts (p x) (list_all p xs) all in
    or_from (q x) (list_any q xs) (gives x parts.0) (none_by p q gives xs parts.1)

later : (a b : Bool) → b ≡ true → (a || b) ≡ true
later true b e = refl
later false b e = e

-- ---- the ids of numbered commons

pub numbered_has : (start : ℕ) (names : List (List ℕ)) (i : ℕ) → start ≤ i → i < start + length names
    → has_common_id (numbered start names) i ≡ true
numbered_has start [] i low high = absurd (omega (arith, low, high))
numbered_has start (n ∷ ns) i low high = elim (cases_Bool (start == i)) [
  | inl e ↦ ap (λ b. b || has_common_id (numbered (start + 1) ns) i) e
  | inr e ↦
      let above : start + 1 ≤ i = grind (arith, nat_tests, low, e) in
      later (start == i) (has_common_id (numbered (start + 1) ns) i) (numbered_has (start + 1) ns i above (omega (arith, high)))
]

-- ---- segment entries: the five that every module has, and one for each common

abbrev is_before : ℕ → ℕ × Segment → Bool
is_before start e = nat_lt e.0 start || e.0 == 255

before_next : (i start : ℕ) → (nat_lt i start || i == 255) ≡ true → (nat_lt i (start + 1) || i == 255) ≡ true
before_next i start h = grind (arith, nat_tests, h)

before_other : (i start : ℕ) → start < 255 → (nat_lt i start || i == 255) ≡ true → (i == start) ≡ false
before_other i start below h = grind (arith, nat_tests, below, h)

before_itself : (start : ℕ) → (nat_lt start (start + 1) || start == 255) ≡ true
before_itself start = grind (arith, nat_tests)

pub new_entries : (segment : ℕ
    → Segment) (commons : List Common) (start : ℕ) (names : List (List ℕ)) (before : List (ℕ × Segment))
    → start + length names ≤ 255 →
    ((i : ℕ) → start ≤ i → i < start + length names → has_common_id commons i ≡ true) → list_all (is_before start) before ≡ true →
    each_after (is_new_entry commons) before (map (λ id. (id, segment id)) (map (λ (c : Common). c.id) (numbered start names)))
    ≡ true
new_entries segment commons start [] before few has told = refl
new_entries segment commons start (n ∷ ns) before few has told =
    let first : has_segment commons start ≡ true =
    later (is_fixed_id start) (has_common_id commons start) (has start (omega arith) (omega arith)) in
    let new : list_any (λ (d : ℕ × Segment). d.0 == start) before ≡ false =
    none_by (is_before start) (λ d. d.0 == start) (λ d is. before_other d.0 start (omega (arith, few)) is) before told in
    and_from (is_new_entry commons before (start, segment start))
    (each_after (is_new_entry commons) (before ++ (start, segment start) ∷ [])
    (map (λ id. (id, segment id)) (map (λ (c : Common). c.id) (numbered (start + 1) ns))))
    (and_from (has_segment commons start) (not (list_any (λ (d : ℕ × Segment). d.0 == start) before)) first
    (not_from_false (list_any (λ (d : ℕ × Segment). d.0 == start) before) new))
    (new_entries segment commons (start + 1) ns (before ++ (start, segment start) ∷ []) (omega (arith, few))
    (λ i low high. has i (omega (arith, low)) (omega (arith, high)))
    (all_back (is_before (start + 1)) before (start, segment start)
    (all_weaker (is_before start) (is_before (start + 1)) (λ d is. before_next d.0 start is) before told)
    (before_itself start)))

-- the entry of an id that is among them
pub segment_listed : (segment : ℕ → Segment) (ids : List ℕ) (id : ℕ) → list_any (λ i. i == id) ids ≡ true
    → segment_in (map (λ i. (i, segment i)) ids) id ≡ segment id
segment_listed segment [] id here = absurd cc
segment_listed segment (i ∷ is) id here =
    (elim (i == id) as (λ b. (i == id) ≡ b → (b || list_any (λ j. j == id) is) ≡ true
    → option_map_or (λ (e : ℕ × Segment). e.1)
    (cond b (Some (i, segment i)) (find (λ (e : ℕ × Segment). e.0 == id) (map (λ i. (i, segment i)) is))) empty_segment
    ≡ segment id) [
      | true ↦ λ e _. ap segment (eqb-true i id e)
      | false ↦ λ _ there. segment_listed segment is id there
    ]) refl here

-- ---- no name of a common stands twice

abbrev pub NoTwice : List (List ℕ) → Type 0
NoTwice [] = Unit {0}
NoTwice (n ∷ ns) = (has_name ns n ≡ false) × NoTwice ns

filtered_none : (keep : List ℕ → Bool) (names : List (List ℕ)) (name : List ℕ) → has_name names name ≡ false
    → has_name (filter keep names) name ≡ false
filtered_none keep [] name none = refl
filtered_none keep (n ∷ ns) name none =
    let parts = or_parts (pointwise nat_eq n name) (has_name ns name) none in
    elim (keep n) as (λ b. has_name (cond b (n ∷ filter keep ns) (filter keep ns)) name ≡ false) [
      | true ↦ or_from (pointwise nat_eq n name) (has_name (filter keep ns) name) parts.0 (filtered_none keep ns name parts.1)
      | false ↦ filtered_none keep ns name parts.1
    ]

filtered_no_twice : (keep : List ℕ → Bool) (names : List (List ℕ)) → NoTwice names → NoTwice (filter keep names)
filtered_no_twice keep [] once = tt
filtered_no_twice keep (n ∷ ns) once =
    elim (keep n) as (λ b. NoTwice (cond b (n ∷ filter keep ns) (filter keep ns))) [
      | true ↦ (filtered_none keep ns n once.0, filtered_no_twice keep ns once.1)
      | false ↦ filtered_no_twice keep ns once.1
    ]

without : (n : List ℕ) (names : List (List ℕ)) → has_name (filter (λ o. not (pointwise nat_eq n o)) names) n ≡ false
without n [] = refl
without n (o ∷ os) = elim (cases_Bool (pointwise nat_eq n o)) [
  | inl same ↦ ap (λ b. has_name
      (cond (not b) (o ∷ filter (λ o. not (pointwise nat_eq n o)) os) (filter (λ o. not (pointwise nat_eq n o)) os)) n) same
      ∙ without n os
  | inr differs ↦
      ap (λ b. has_name (cond (not b) (o ∷ filter (λ o. not (pointwise nat_eq n o)) os)
      (filter (λ o. not (pointwise nat_eq n o)) os)) n) differs
      ∙ or_from (pointwise nat_eq o n) (has_name (filter (λ o. not (pointwise nat_eq n o)) os) n) (other_way n o differs)
      (without n os)
]
  where
    other_way : (a b : List ℕ) → pointwise nat_eq a b ≡ false → pointwise nat_eq b a ≡ false
    other_way a b differs = elim (cases_Bool (pointwise nat_eq b a)) [
      | inl e ↦ absurd (true≢false (sym (name_itself a) ∙ ap (pointwise nat_eq a) (sym (name_is b a e)) ∙ differs))
      | inr e ↦ e
    ]

pub distinct_no_twice : (names : List (List ℕ)) → NoTwice (distinct names)
distinct_no_twice [] = tt
distinct_no_twice (n ∷ ns) =
    (without n (distinct ns), filtered_no_twice (λ o. not (pointwise nat_eq n o)) (distinct ns) (distinct_no_twice ns))

abbrev NotNamed : List Common → List ℕ → Type 0
NotNamed before n = list_any (λ (d : Common). pointwise nat_eq d.name n) before ≡ false

name_differs : (n o : List ℕ) → pointwise nat_eq o n ≡ false → pointwise nat_eq n o ≡ false
name_differs n o differs = elim (cases_Bool (pointwise nat_eq n o)) [
  | inl e ↦ absurd (true≢false (sym (name_itself n) ∙ ap (λ a. pointwise nat_eq a n) (name_is n o e) ∙ differs))
  | inr e ↦ e
]

not_named_back : (before : List Common) (c : Common) (n : List ℕ) → NotNamed before n → pointwise nat_eq c.name n ≡ false
    → NotNamed (before ++ c ∷ []) n
not_named_back [] c n none differs = or_from (pointwise nat_eq c.name n) false differs refl
not_named_back (d ∷ ds) c n none differs =
    let parts = or_parts (pointwise nat_eq d.name n) (list_any (λ (d : Common). pointwise nat_eq d.name n) ds) none in
    or_from (pointwise nat_eq d.name n) (list_any (λ (d : Common). pointwise nat_eq d.name n) (ds ++ c ∷ [])) parts.0
    (not_named_back ds c n parts.1 differs)

rest_not_named : (before : List Common) (c : Common) (ns : List (List ℕ)) → has_name ns c.name ≡ false
    → AllByRecursion (NotNamed before) ns → AllByRecursion (NotNamed (before ++ c ∷ [])) ns
rest_not_named before c [] none all = tt
rest_not_named before c (n ∷ ns) none all =
    let parts = or_parts (pointwise nat_eq n c.name) (has_name ns c.name) none in
    (not_named_back before c n all.0 (name_differs c.name n parts.0), rest_not_named before c ns parts.1 all.1)

id_in_range : (start : ℕ) → 6 ≤ start → start < 255 → is_common_id start ≡ true
id_in_range start low high = grind (arith, nat_tests, low, high)

pub new_commons : (start : ℕ) (names : List (List ℕ)) (before : List Common) → 6 ≤ start → start + length names ≤ 255
    → list_all (λ (d : Common). nat_lt d.id start) before ≡ true →
    AllByRecursion (NotNamed before) names → NoTwice names → each_after is_new_common before (numbered start names) ≡ true
new_commons start [] before low few ids named once = refl
new_commons start (n ∷ ns) before low few ids named once =
    let c : Common = numbered_common (start, n) in
    let other : list_any (λ (d : Common). d.id == start) before ≡ false =
    none_by (λ (d : Common). nat_lt d.id start) (λ d. d.id == start) (λ d is. less_differs d.id start is) before ids in
    and_from (is_new_common before c) (each_after is_new_common (before ++ c ∷ []) (numbered (start + 1) ns))
    (and_from (is_common_id start && not (list_any (λ (d : Common). d.id == start) before))
    (not (list_any (λ (d : Common). pointwise nat_eq d.name n) before))
    (and_from (is_common_id start) (not (list_any (λ (d : Common). d.id == start) before))
    (id_in_range start low (omega (arith, few))) (not_from_false (list_any (λ (d : Common). d.id == start) before) other))
    (not_from_false (list_any (λ (d : Common). pointwise nat_eq d.name n) before) named.0))
    (new_commons (start + 1) ns (before ++ c ∷ []) (omega (arith, low)) (omega (arith, few))
    (all_back (λ (d : Common). nat_lt d.id (start + 1)) before c
    (all_weaker (λ (d : Common). nat_lt d.id start) (λ d. nat_lt d.id (start + 1))
    (λ d is. less_next d.id start is) before ids) (lt-ltb start (start + 1) (omega arith)))
    (rest_not_named before c ns once.0 named.1) once.1)
  where
    less_differs : (i s : ℕ) → nat_lt i s ≡ true → (i == s) ≡ false
    less_differs i s h = grind (arith, nat_tests, h)

    less_next : (i s : ℕ) → nat_lt i s ≡ true → nat_lt i (s + 1) ≡ true
    less_next i s h = grind (arith, nat_tests, h)

pub none_named : (names : List (List ℕ)) → AllByRecursion (NotNamed []) names
none_named [] = tt
none_named (n ∷ ns) = (refl, none_named ns)

-- ---- each part lies in its linked segment

above_rounded : (paged : Bool) (n : ℕ) → n ≤ rounded paged n
above_rounded true n = omega arith
above_rounded false n = omega arith

pub ends_later : (id before : ℕ) (ms : List ModuleValue) → before ≤ parts_end id before ms
ends_later id before [] = omega arith
ends_later id before (m ∷ ms) =
    let s : Segment = segment_in m.segments id in
    let next : ℕ = rounded s.paged before + s.length in
    let up : before ≤ rounded s.paged before = above_rounded s.paged before in
    let rest : next ≤ parts_end id next ms = ends_later id next ms in
    omega (arith, up, rest)

abbrev pub FitsPart : ℕ → (ℕ → ℕ) → ℕ → ℕ × ModuleValue → Type 0
FitsPart id start limit m = start m.0 + (segment_in m.1.segments id).length ≤ limit

pub parts_fit : (id before : ℕ) (ms : List ModuleValue) (start : ℕ → ℕ) (number limit : ℕ)
    → ((k : ℕ) → k < length ms → start (number + k) ≡ slice_index (starts_from id before ms) k) → limit ≡ parts_end id before ms →
    AllByRecursion (FitsPart id start limit) (enumerate_from number ms)
parts_fit id before [] start number limit starts ends = tt
parts_fit id before (m ∷ ms) start number limit starts ends =
    let s : Segment = segment_in m.segments id in
    let here : ℕ = rounded s.paged before in
    let same : number ≡ number + 0 = omega arith in
    let first : start number ≡ here = ap start same ∙ starts 0 (omega arith) in
    let rest : here + s.length ≤ parts_end id (here + s.length) ms = ends_later id (here + s.length) ms in (
      omega (arith, first, rest, ends),
      parts_fit id (here + s.length) ms start (number + 1) limit
          (λ k below. ap start (next_number number k) ∙ starts (suc k) (omega (arith, below))) ends,
    )
  where
    next_number : (n k : ℕ) → n + 1 + k ≡ n + suc k
    next_number n k = omega arith

pub greatest_above : {A : Type 0} (size : A → ℕ) (xs : List A) → AllByRecursion (λ x. size x ≤ greatest (map size xs)) xs
greatest_above {A} size [] = tt
greatest_above {A} size (x ∷ xs) = (above_first (size x) (greatest (map size xs)), raised xs (greatest_above size xs))
  where
    above_first : (a b : ℕ) → a ≤ max a b
    above_first a b = omega arith

    above_second : (n a b : ℕ) → n ≤ b → n ≤ max a b
    above_second n a b h = omega (arith, h)

    raised : (ys : List A) → AllByRecursion (λ y. size y ≤ greatest (map size xs)) ys
        → AllByRecursion (λ y. size y ≤ max (size x) (greatest (map size xs))) ys
    raised [] all = tt
    raised (y ∷ ys) all = (above_second (size y) (size x) (greatest (map size xs)) all.0, raised ys all.1)

pub all_numbered : {A : Type 0} (P : A → Type 0) (number : ℕ) (xs : List A) → AllByRecursion P xs
    → AllByRecursion (λ (x : ℕ × A). P x.1) (enumerate_from number xs)
all_numbered P number [] all = tt
all_numbered P number (x ∷ xs) all = (all.0, all_numbered P (number + 1) xs all.1)

-- the part that a module has of a common, found by the common's name
pub named_part : CommonsByName → (commons : List Common) (m : ModuleValue) (id new : ℕ)
    → IsTrue (each_after is_new_common [] m.commons) → has_common_id m.commons id ≡ true → is_fixed_id new ≡ false
    → common_name commons new ≡ common_name m.commons id →
    (part_of commons m new).length ≡ (segment_in m.segments id).length
named_part by_name commons m id new rules named not_fixed called =
    let name : List ℕ = common_name m.commons id in
    let size : Common → List ℕ × ℕ = λ c. (c.name, (segment_in m.segments c.id).length) in
    let found : Option Common = find (λ (c : Common). pointwise nat_eq c.name name) m.commons in
    ap (λ b. (cond b (segment_in m.segments new)
    (option_map_or (λ (c : Common). segment_in m.segments c.id)
    (find (λ (c : Common). pointwise nat_eq c.name (common_name commons new)) m.commons) empty_segment)).length) not_fixed
    ∙ ap (λ n. (option_map_or (λ (c : Common). segment_in m.segments c.id)
    (find (λ (c : Common). pointwise nat_eq c.name n) m.commons) empty_segment).length) called
    ∙ by_option found
    ∙ ap (λ (o : Option (List ℕ × ℕ)). option_map_or (λ (w : List ℕ × ℕ). w.1) o 0)
    (sym (find_map size (λ (w : List ℕ × ℕ). pointwise nat_eq w.0 name) m.commons))
    ∙ by_name m.commons (λ i. (segment_in m.segments i).length) id rules named
  where
    by_option : (o : Option Common)
        → (option_map_or (λ (c : Common). segment_in m.segments c.id) o empty_segment).length
        ≡ option_map_or (λ (w : List ℕ × ℕ). w.1) (option_map (λ (c : Common). (c.name, (segment_in m.segments c.id).length)) o) 0
    by_option None = refl
    by_option (Some c) = refl
