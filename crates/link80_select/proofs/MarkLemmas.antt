-- Marks on a row of modules, their queue, and the search along what is needed.
use Rattle.std.specs.Prelude.{◌≡◌, ℕ, zero, suc, ◌+◌, ◌<◌, ◌≤◌, ◌⊎◌, Bool, true, false, not, Option, Some, List, [], ◌∷◌, ◌++◌, slice_get, length, Contains, count_by, filter_map, refl}
use Rattle.std.specs.List.{cons_option}
use Rattle.std.proofs.Common.{◌∙◌, ap, sym, subst, arith, inl, inr, cond, get_or, set, take}
use Rattle.std.proofs.lemmas.Bool.{cases_eq, cases_lt, false≢true}
use Rattle.std.proofs.lemmas.List.{get_or-set_same, get_or-set_other, length-set, length_push, take_more}
use Rattle.std.proofs.lemmas.List.Elements.{Contains-push_cases, Contains-append_left, Contains-append_right, Contains-append_cases, filter_map-append}
use Rattle.std.proofs.lemmas.List.Sums.{sum_by-set}
use Rattle.std.proofs.lemmas.Option.{none-some, same_Some, slice_get_within, slice_get-get_or, get_or_from_slice_get}
use Rattle.omf_model.specs.Modules.{ModuleValue}
use Rattle.link80_select.specs.Selecting.{needed, IsReached, root, needed_by, is_marked, AreReached, IsQueue, Marks, IsSearched}

-- ---- elements and their numbers

pub has_none : {A : Type 0} (x : A) → Contains [] x → ⊥
has_none x h = omega (arith, h.1)

pub has_one : {A : Type 0} (y x : A) → Contains (y ∷ []) x → y ≡ x
has_one y x h = elim (Contains-push_cases [] y x h) [ inl none ↦ absurd (has_none x none) | inr same ↦ same ]

pub is_one : {A : Type 0} (y x : A) → y ≡ x → Contains (y ∷ []) x
is_one y x same = (0, omega arith, same)

pub has_at : {A : Type 0} (xs : List A) (i : ℕ) (x : A) → slice_get xs i ≡ Some x → Contains xs x
has_at xs i x at = (i, slice_get_within xs i x at, get_or_from_slice_get xs i x x at)

pub at_has : {A : Type 0} (xs : List A) (x : A) → Contains xs x → (i : ℕ) × (slice_get xs i ≡ Some x)
at_has xs x h = (h.0, slice_get-get_or xs h.0 x h.1 ∙ ap (λ y. Some y) h.2)

pub at_left : {A : Type 0} (xs ys : List A) (i : ℕ) (x : A) → slice_get xs i ≡ Some x → slice_get (xs ++ ys) i ≡ Some x
at_left [] ys i x at = absurd (none-some x at)
at_left (y ∷ xs) ys zero x at = at
at_left (y ∷ xs) ys (suc i) x at = at_left xs ys i x at

pub mark_inside : (marked : List Bool) (k : ℕ) → is_marked marked k ≡ true → k < length marked
mark_inside [] k is = absurd (false≢true is)
mark_inside (b ∷ bs) zero is = omega arith
mark_inside (b ∷ bs) (suc k) is = let less = mark_inside bs k is in omega arith

-- ---- marking

pub marks_none : (marked : List Bool) (queue : List ℕ) → Marks [] marked queue marked queue
marks_none marked queue = record {
  kept = λ k is. is;
  all = λ k has. absurd (has_none k has);
  only = λ k is. inl is;
  stays = λ i n at. at;
  places = refl;
  queues = λ q. q;
}

same_mark : (marked : List Bool) (n k : ℕ) → n < length marked → is_marked marked k ≡ true
    → is_marked (set marked n true) k ≡ true
same_mark marked n k inside is = elim (cases_eq k n) [
  | inl same ↦ ap (is_marked (set marked n true)) same ∙ get_or-set_same marked n true false inside
  | inr ne ↦ get_or-set_other marked n k true false ne ∙ is
]

new_mark : (marked : List Bool) (n k : ℕ) → is_marked (set marked n true) k ≡ true
    → (is_marked marked k ≡ true) ⊎ Contains (n ∷ []) k
new_mark marked n k is = elim (cases_eq k n) [
  | inl same ↦ inr (is_one n k (sym same))
  | inr ne ↦ inl (sym (get_or-set_other marked n k true false ne) ∙ is)
]

abbrev without : Bool → ℕ
without b = cond (not b) 1 0

one_less : (marked : List Bool) (n : ℕ) → n < length marked → is_marked marked n ≡ false
    → count_by not (set marked n true) + 1 ≡ count_by not marked
one_less marked n inside unmarked =
    let sums = sum_by-set without marked n true false inside in
    let one : without (is_marked marked n) ≡ 1 = ap without unmarked in
    omega (arith, sums, one)

queue_more : (marked : List Bool) (queue : List ℕ) (n : ℕ) → n < length marked → is_marked marked n ≡ false → IsQueue marked queue
    → IsQueue (set marked n true) (queue ++ n ∷ [])
queue_more marked queue n inside unmarked q = record {
  queued = λ k is. elim (new_mark marked n k is) [
    | inl before ↦ Contains-append_left queue (n ∷ []) k (q.queued k before)
    | inr new ↦ Contains-append_right queue (n ∷ []) k new
  ];
  has_mark = λ k has. elim (Contains-push_cases queue n k has) [
    | inl before ↦ same_mark marked n k inside (q.has_mark k before)
    | inr same ↦ ap (is_marked (set marked n true)) (sym same) ∙ get_or-set_same marked n true false inside
  ];
  room = omega (arith, q.room, one_less marked n inside unmarked, length_push queue n, length-set marked n true);
}

pub marks_one : (marked : List Bool) (queue : List ℕ) (n : ℕ) → n < length marked → is_marked marked n ≡ false →
    Marks (n ∷ []) marked queue (set marked n true) (queue ++ n ∷ [])
marks_one marked queue n inside unmarked = record {
  kept = λ k is. same_mark marked n k inside is;
  all = λ k has. ap (is_marked (set marked n true)) (sym (has_one n k has)) ∙ get_or-set_same marked n true false inside;
  only = λ k is. new_mark marked n k is;
  stays = λ i m at. at_left queue (n ∷ []) i m at;
  places = length-set marked n true;
  queues = λ q. queue_more marked queue n inside unmarked q;
}

pub marks_more : (ns ms : List ℕ) (marked marked1 marked2 : List Bool) (queue queue1 queue2 : List ℕ) →
    Marks ns marked queue marked1 queue1 → Marks ms marked1 queue1 marked2 queue2 → Marks (ns ++ ms) marked queue marked2 queue2
marks_more ns ms marked marked1 marked2 queue queue1 queue2 first next = record {
  kept = λ k is. next.kept k (first.kept k is);
  all = λ k has. elim (Contains-append_cases ns ms k has) [
    | inl early ↦ next.kept k (first.all k early)
    | inr late ↦
        next.all k late
  ];
  only = λ k is. elim (next.only k is) [
    | inl before ↦ elim (first.only k before) [ inl was ↦ inl was | inr early ↦ inr (Contains-append_left ns ms k early) ]
    | inr late ↦ inr (Contains-append_right ns ms k late)
  ];
  stays = λ i n at. next.stays i n (first.stays i n at);
  places = next.places ∙ first.places;
  queues = λ q. next.queues (first.queues q);
}

-- ---- the search

more_roots : (row : List ModuleValue) (roots k : ℕ) → IsReached row roots k → IsReached row (roots + 1) k
more_roots row roots k (root _ below) = root k (omega arith)
more_roots row roots k (needed_by n _ m from at needs) = needed_by n k m (more_roots row roots n from) at needs

pub search_root : (row : List ModuleValue) (n : ℕ) (marked after : List Bool) (queue queue_after : List ℕ) →
    IsSearched row n 0 marked queue → Marks (n ∷ []) marked queue after queue_after → IsSearched row (n + 1) 0 after queue_after
search_root row n marked after queue queue_after so_far marks = record {
  reached = λ k is. elim (marks.only k is) [
    | inl was ↦ more_roots row n k (so_far.reached k was)
    | inr new ↦ root k (let same = has_one n k new in omega arith)
  ];
  started = λ k below. elim (cases_lt k n) [
    | inl less ↦ marks.kept k (so_far.started k less)
    | inr not_less ↦ marks.all k (is_one n k (omega arith))
  ];
  closed = λ i j k m none. absurd (omega (arith, none));
  is_queue = marks.queues so_far.is_queue;
  places = marks.places ∙ so_far.places;
}

pub search_next : (row : List ModuleValue) (roots looked_at n : ℕ) (m : ModuleValue) (marked after : List Bool)
    (queue queue_after : List ℕ) →
    IsSearched row roots looked_at marked queue → slice_get queue looked_at ≡ Some n → slice_get row n ≡ Some m →
    Marks (needed row m) marked queue after queue_after → IsSearched row roots (looked_at + 1) after queue_after
search_next row roots looked_at n m marked after queue queue_after so_far at there marks = record {
  reached = λ k is. elim (marks.only k is) [
    | inl was ↦ so_far.reached k was
    | inr new ↦ needed_by n k m (so_far.reached n (so_far.is_queue.has_mark n (has_at queue looked_at n at))) there new
  ];
  started = λ k below. marks.kept k (so_far.started k below);
  closed = λ i j k o below at_i there_j needs. elim (cases_lt i looked_at) [
    | inl less ↦
        let was = slice_get-get_or queue i 0 (let inside = slice_get_within queue looked_at n at in omega arith) in
        let same = same_Some j (get_or queue i 0) (sym at_i ∙ marks.stays i (get_or queue i 0) was) in
        marks.kept k (so_far.closed i j k o less (was ∙ ap (λ x. Some x) (sym same)) there_j needs)
    | inr not_less ↦
        let last : i ≡ looked_at = omega arith in
        let same = same_Some j n (sym at_i ∙ ap (slice_get queue_after) last ∙ marks.stays looked_at n at) in
        let is = same_Some o m (sym there_j ∙ ap (slice_get row) same ∙ there) in
        marks.all k (subst (λ (x : ModuleValue). Contains (needed row x) k) is needs)
  ];
  is_queue = marks.queues so_far.is_queue;
  places = marks.places ∙ so_far.places;
}

search_back : (row : List ModuleValue) (roots looked_at : ℕ) (marked : List Bool) (queue : List ℕ)
    → IsSearched row roots looked_at marked queue →
    length queue ≤ looked_at → (k : ℕ) → IsReached row roots k → is_marked marked k ≡ true
search_back row roots looked_at marked queue so_far all k (root _ below) = so_far.started k below
search_back row roots looked_at marked queue so_far all k (needed_by n _ m from there needs) =
    let at = at_has queue n (so_far.is_queue.queued n (search_back row roots looked_at marked queue so_far all n from)) in
    so_far.closed at.0 n k m (let inside = slice_get_within queue at.0 n at.1 in omega arith) at.1 there needs

pub search_end : (row : List ModuleValue) (roots looked_at : ℕ) (marked : List Bool) (queue : List ℕ)
    → IsSearched row roots looked_at marked queue →
    length queue ≤ looked_at → AreReached row roots marked
search_end row roots looked_at marked queue so_far all = record {
  reached = λ k. (λ is. so_far.reached k is, λ from. search_back row roots looked_at marked queue so_far all k from);
  places = so_far.places;
}

-- ---- steps of the loops

pub search_inside : (row : List ModuleValue) (roots looked_at n : ℕ) (marked : List Bool) (queue : List ℕ)
    → IsSearched row roots looked_at marked queue →
    looked_at < length queue → n ≡ get_or queue looked_at n → (slice_get queue looked_at ≡ Some n) × (n < length row)
search_inside row roots looked_at n marked queue so_far inside is =
    let at = slice_get-get_or queue looked_at n inside ∙ ap (λ x. Some x) (sym is) in
    let less = mark_inside marked n (so_far.is_queue.has_mark n (has_at queue looked_at n at)) in
    (at, omega (arith, less, so_far.places))

pub marks_next : (h : List ℕ
    → Option ℕ) (names : List (List ℕ)) (i : ℕ) (name : List ℕ) (number : Option ℕ) (marked marked1 marked2 : List Bool)
    (queue queue1 queue2 : List ℕ) →
    i < length names → name ≡ get_or names i name → number ≡ h name
    → Marks (filter_map h (take i names)) marked queue marked1 queue1 →
    Marks (cons_option number []) marked1 queue1 marked2 queue2
    → Marks (filter_map h (take (i + 1) names)) marked queue marked2 queue2
marks_next h names i name number marked marked1 marked2 queue queue1 queue2 inside is gives before next =
    let more = take_more names i name inside ∙ ap (λ x. take i names ++ x ∷ []) (sym is) in
    let all = ap (filter_map h) more ∙ filter_map-append h (take i names) (name ∷ [])
    ∙ ap (λ (o : Option ℕ). filter_map h (take i names) ++ cons_option o []) (sym gives) in
    subst (λ (ns : List ℕ). Marks ns marked queue marked2 queue2) (sym all)
    (marks_more (filter_map h (take i names)) (cons_option number []) marked marked1 marked2 queue queue1 queue2 before next)
