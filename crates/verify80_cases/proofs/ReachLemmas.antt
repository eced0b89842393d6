-- A walk over the addresses that a program may reach.
use Rattle.std.proofs.Common.{◌≡◌, ◌<◌, ◌≤◌, ◌+◌, ◌⊎◌, inl, inr, ℕ, zero, suc, Bool, true, false, List, [], ◌∷◌, ◌++◌, All, Contains, length, get_or, set, refl, sym, ◌∙◌, ap, subst, true≢false, arith}
use Rattle.std.specs.Prelude.{nat_lt, take}
use Rattle.std.proofs.lemmas.Bool.{cases_eq}
use Rattle.std.proofs.lemmas.Bool.Decides.{nat_tests}
use Rattle.std.proofs.lemmas.List.{get_or-append-add, get_or-set_other, get_or-set_same, get_or_append_left, get_or_default, get_or_past, length-append, length-set, take_more}
use Rattle.std.proofs.lemmas.List.Elements.{All-append, All-nil, All-push, Contains-append_left, Contains-get_or, Contains-push}
use Rattle.std.proofs.Math.Seq.{get_or-append_seam}
use Rattle.std.specs.Prelude.{Ok, Err}
use Rattle.decode80.specs.declared.fetching.Fetched.{Fetched}
use Rattle.decode80.specs.declared.fetching.FetchFault.{FetchFault}
use Rattle.verify80.specs.Looking.{declared_targets}
use Rattle.verify80.specs.LookLaws.{fetch_at}
use Rattle.image80.specs.Image.{Located, memory_of}
use Rattle.verify80_cases.specs.Reach.{AreFollowed, AreReachedFrom, Enters, IsDone, IsMarked, IsWalk, MayReach, falls_to, given, leads_from, leads_to, target_of, targets_of}
use Rattle.verify80_cases.specs.Reach.MayReach.{begins, goes_on}
use Rattle.verify80_cases.specs.Covered.{is_covered}
use Rattle.verify80_cases.specs.Marks.{AreMarks}
use Rattle.verify80_cases.specs.declared.table.EntryRun.{EntryRun}
use Rattle.verify80_cases.specs.Reading.{AreRests}
use Rattle.verify80_cases.specs.Suggested.{IsExplored, IsRoot, IsSearched, IsTableTarget}
use Rattle.verify80_cases.proofs.StandingLemmas.{rests_kept, roots_kept, target_kept}

-- none is entered
pub enters_none : (marks : List Bool) (order : List ℕ) → length marks ≡ 65536 → Enters marks order [] marks order
enters_none marks order size = record {
  size = size;
  marked = All-nil (IsMarked marks);
  kept = λ at is. is;
  longer = omega arith;
  same = λ k inside. refl;
  walk = λ image roots is all. is;
}

-- what holds of one holds of each of a list of it alone
pub all_one : (P : ℕ → Type 0) (x : ℕ) → P x → All P (x ∷ [])
all_one P x p zero d inside = p
all_one P x p (suc k) d inside = absurd (omega (arith, inside))

-- one is entered that was before
pub enters_again : (marks : List Bool) (order : List ℕ) (at : ℕ) → length marks ≡ 65536 → IsMarked marks at → Enters marks order (at ∷ []) marks order
enters_again marks order at size is = record {
  size = size;
  marked = all_one (IsMarked marks) at is;
  kept = λ at is. is;
  longer = omega arith;
  same = λ k inside. refl;
  walk = λ image roots is all. is;
}

-- one is entered that wasn't
module _ (marks : List Bool) (order : List ℕ) (at : ℕ) (size : length marks ≡ 65536) (below : at < 65536) where
  abbrev marks' : List Bool
  marks' = set marks at true

  abbrev order' : List ℕ
  order' = order ++ at ∷ []

  here : IsMarked marks' at
  here = get_or-set_same marks at true false (omega (arith, size, below))

  kept : (x : ℕ) → IsMarked marks x → IsMarked marks' x
  kept x is = elim (cases_eq x at) [
    | inl e ↦ subst (IsMarked marks') (sym e) here
    | inr other ↦ get_or-set_other marks at x true false other ∙ is
  ]

  before : (x : ℕ) → IsMarked marks' x → (x ≡ at) ⊎ IsMarked marks x
  before x is = elim (cases_eq x at) [
    | inl e ↦ inl e
    | inr other ↦ inr (sym (get_or-set_other marks at x true false other) ∙ is)
  ]

  counted : length order' ≡ length order + 1
  counted = length-append order (at ∷ [])

  same : (k : ℕ) → k < length order → get_or order' k 0 ≡ get_or order k 0
  same k inside = get_or_append_left order (at ∷ []) 0 k inside

  still_walk : (image : Located) (roots : List ℕ) → IsWalk image roots marks order → All (MayReach image roots) (at ∷ []) → IsWalk image roots marks' order'
  still_walk image roots is may = record {
    may = λ x m. elim (before x m) [
      | inl e ↦ subst (MayReach image roots) (sym e) (may 0 0 (omega arith))
      | inr old ↦ is.may x old
    ];
    listed = λ x m. elim (before x m) [
      | inl e ↦ subst (Contains order') (sym e) (Contains-push order at)
      | inr old ↦ Contains-append_left order (at ∷ []) x (is.listed x old)
    ];
    marked = λ k inside. elim (cases_eq k (length order)) [
      | inl e ↦ subst (λ n. IsMarked marks' (get_or order' n 0)) (sym e) (subst (IsMarked marks') (sym (get_or-append_seam order at [] 0)) here)
      | inr other ↦
          let less : k < length order = omega (arith, inside, counted, other) in
          subst (IsMarked marks') (sym (same k less)) (kept (get_or order k 0) (is.marked k less))
    ];
  }

  pub enters_one : Enters marks order (at ∷ []) (set marks at true) (order ++ at ∷ [])
  enters_one = record {
    size = length-set marks at true ∙ size;
    marked = (enters_again marks' order' at (length-set marks at true ∙ size) here).marked;
    kept = kept;
    longer = omega (arith, counted);
    same = same;
    walk = still_walk;
  }

-- what is entered in two steps
pub enters_both : (m : List Bool) (o xs : List ℕ) (m' : List Bool) (o' ys : List ℕ) (m'' : List Bool) (o'' : List ℕ) →
    Enters m o xs m' o' → Enters m' o' ys m'' o'' → Enters m o (xs ++ ys) m'' o''
enters_both m o xs m' o' ys m'' o'' a b = record {
  size = b.size;
  marked = All-append (IsMarked m'') xs ys (λ k d inside. b.kept (get_or xs k d) (a.marked k d inside)) b.marked;
  kept = λ at is. b.kept at (a.kept at is);
  longer = omega (arith, a.longer, b.longer);
  same = λ k inside. b.same k (omega (arith, inside, a.longer)) ∙ a.same k inside;
  walk = λ image roots is all. b.walk image roots (a.walk image roots is (left (MayReach image roots) all)) (right (MayReach image roots) all);
}
  where
    left : (P : ℕ → Type 0) → All P (xs ++ ys) → All P xs
    left P all k d inside = subst P (get_or_append_left xs ys d k inside) (all k d (omega (arith, inside, length-append xs ys)))

    right : (P : ℕ → Type 0) → All P (xs ++ ys) → All P ys
    right P all k d inside = subst P (get_or-append-add xs ys k d) (all (length xs + k) d (omega (arith, inside, length-append xs ys)))

-- where what was fetched leads, and where nothing was
pub leads_found : (image : Located) (at : ℕ) (found : Fetched) → fetch_at image.regions (memory_of image.chunks) at ≡ Ok found →
    leads_to image at ≡ given (target_of found.instr) ++ (given (falls_to found.instr found.next) ++ targets_of found.instr (declared_targets image.regions at))
unfolding leads_to
leads_found image at found is = ap (λ r. leads_from r (declared_targets image.regions at)) is

pub leads_none : (image : Located) (at : ℕ) (fault : FetchFault) → fetch_at image.regions (memory_of image.chunks) at ≡ Err fault → leads_to image at ≡ []
unfolding leads_to
leads_none image at fault is = ap (λ r. leads_from r (declared_targets image.regions at)) is

-- nothing is marked yet
pub done_none : (image : Located) (marks : List Bool) → All (λ mark. mark ≡ false) marks → length marks ≡ 65536 → IsDone image [] marks []
done_none image marks none size = record {
  size = size;
  walk = record {
    may = λ at is. absurd (no at is);
    listed = λ at is. absurd (no at is);
    marked = λ k inside. absurd (omega (arith, inside));
  };
  begun = All-nil (IsMarked marks);
  followed = λ k less inside. absurd (omega (arith, inside));
}
  where
    no : (at : ℕ) → IsMarked marks at → ⊥
    no at is = (elim (nat_lt at (length marks)) as (λ b. nat_lt at (length marks) ≡ b → ⊥) [
      | true ↦ λ below. true≢false (sym is ∙ none at false (grind (arith, nat_tests)))
      | false ↦ λ past. true≢false (sym is ∙ get_or_past marks at false (grind (arith, nat_tests)))
    ]) refl

-- with more roots
more_roots : (image : Located) (roots : List ℕ) (at x : ℕ) → MayReach image roots x → MayReach image (roots ++ at ∷ []) x
more_roots image roots at _ (begins x has) = begins x (Contains-append_left roots (at ∷ []) x has)
more_roots image roots at _ (goes_on x to reached leads) = goes_on x to (more_roots image roots at x reached) leads

walk_more : (image : Located) (roots : List ℕ) (at : ℕ) (m : List Bool) (o : List ℕ) → IsWalk image roots m o → IsWalk image (roots ++ at ∷ []) m o
walk_more image roots at m o walk = record {
  may = λ x is. more_roots image roots at x (walk.may x is);
  listed = walk.listed;
  marked = walk.marked;
}

-- a step more of a walk: what the address of a number leads to is entered
pub followed_more : (image : Located) (m : List Bool) (o : List ℕ) (number at : ℕ) (m' : List Bool) (o' : List ℕ) → number < length o → get_or o number 0 ≡ at →
    AreFollowed image m o number → Enters m o (leads_to image at) m' o' → AreFollowed image m' o' (number + 1)
followed_more image m o number at m' o' inside is before enters = λ k less within. elim (cases_eq k number) [
  | inl e ↦ subst (λ x. All (IsMarked m') (leads_to image x)) (sym (ap (λ n. get_or o' n 0) e ∙ enters.same number inside ∙ is)) enters.marked
  | inr other ↦
      let earlier : k < number = omega (arith, less, other) in
      let there : k < length o = omega (arith, earlier, inside) in
      subst (λ x. All (IsMarked m') (leads_to image x)) (sym (enters.same k there))
      (λ j d in_list. enters.kept (get_or (leads_to image (get_or o k 0)) j d) (before k earlier there j d in_list))
]

-- the addresses that the address of a number leads to may be reached
pub may_follow : (image : Located) (roots : List ℕ) (m : List Bool) (o : List ℕ) (number at : ℕ) → IsWalk image roots m o → number < length o → get_or o number 0 ≡ at →
    All (MayReach image roots) (leads_to image at)
may_follow image roots m o number at walk inside is = λ j d within.
    let reached : MayReach image roots at = walk.may at (subst (IsMarked m) is (walk.marked number inside)) in
    goes_on at (get_or (leads_to image at) j d) reached (Contains-get_or (leads_to image at) j d within)

-- what was followed stays so when more is entered
followed_kept : (image : Located) (m : List Bool) (o xs : List ℕ) (m' : List Bool) (o' : List ℕ) → AreFollowed image m o (length o) → Enters m o xs m' o' → AreFollowed image m' o' (length o)
followed_kept image m o xs m' o' before enters = λ k less within.
    subst (λ x. All (IsMarked m') (leads_to image x)) (sym (enters.same k less))
    (λ j d in_list. enters.kept (get_or (leads_to image (get_or o k 0)) j d) (before k less less j d in_list))

-- a walk that goes on from one more root: so far
pub record IsGoing (image : Located) (m : List Bool) (o : List ℕ) (at : ℕ) (m' : List Bool) (o' : List ℕ) (number : ℕ) : Type 0 where
  pub size : length m' ≡ 65536
  pub here : IsMarked m' at
  pub kept : (x : ℕ) → IsMarked m x → IsMarked m' x
  pub walk : (roots : List ℕ) → IsDone image roots m o → IsWalk image (roots ++ at ∷ []) m' o'
  pub followed : (roots : List ℕ) → IsDone image roots m o → AreFollowed image m' o' number

pub going_begun : (image : Located) (m : List Bool) (o : List ℕ) (at : ℕ) (m' : List Bool) (o' : List ℕ) → Enters m o (at ∷ []) m' o' → IsGoing image m o at m' o' (length o)
going_begun image m o at m' o' enters = record {
  size = enters.size;
  here = enters.marked 0 0 (omega arith);
  kept = enters.kept;
  walk = λ roots done. enters.walk image (roots ++ at ∷ []) (walk_more image roots at m o done.walk)
      (all_one (MayReach image (roots ++ at ∷ [])) at (begins at (Contains-push roots at)));
  followed = λ roots done. followed_kept image m o (at ∷ []) m' o' done.followed enters;
}

pub going_on : (image : Located) (m : List Bool) (o : List ℕ) (at : ℕ) (m' : List Bool) (o' : List ℕ) (number next : ℕ) (m'' : List Bool) (o'' : List ℕ) →
    number < length o' → get_or o' number 0 ≡ next → IsGoing image m o at m' o' number → Enters m' o' (leads_to image next) m'' o'' → IsGoing image m o at m'' o'' (number + 1)
going_on image m o at m' o' number next m'' o'' inside is so_far enters = record {
  size = enters.size;
  here = enters.kept at so_far.here;
  kept = λ x marked. enters.kept x (so_far.kept x marked);
  walk = λ roots done.
      let walk = so_far.walk roots done in
      enters.walk image (roots ++ at ∷ []) walk (may_follow image (roots ++ at ∷ []) m' o' number next walk inside is);
  followed = λ roots done. followed_more image m' o' number next m'' o'' inside is (so_far.followed roots done) enters;
}

pub going_done : (image : Located) (m : List Bool) (o : List ℕ) (at : ℕ) (m' : List Bool) (o' : List ℕ) (number : ℕ) → length o' ≤ number → IsGoing image m o at m' o' number →
    (roots : List ℕ) → IsDone image roots m o → IsDone image (roots ++ at ∷ []) m' o'
going_done image m o at m' o' number past going roots done = record {
  size = going.size;
  walk = going.walk roots done;
  begun = All-append (IsMarked m') roots (at ∷ []) (λ k d inside. going.kept (get_or roots k d) (done.begun k d inside)) (all_one (IsMarked m') at going.here);
  followed = λ k less inside. going.followed roots done k (omega (arith, less, past)) inside;
}

-- a walk that has reached its end has marked exactly what may be reached
pub done_exact : (image : Located) (roots : List ℕ) (m : List Bool) (o : List ℕ) → IsDone image roots m o → AreReachedFrom image roots m
done_exact image roots m o done = record {
  size = done.size;
  exact = λ at. (done.walk.may at, marked at);
}
  where
    at_index : (xs : List ℕ) (x : ℕ) (has : Contains xs x) → get_or xs has.0 0 ≡ x
    at_index xs x has = get_or_default xs has.0 0 x has.1 ∙ has.2

    closed : (at to : ℕ) → IsMarked m at → Contains (leads_to image at) to → IsMarked m to
    closed at to is leads =
        let listed = done.walk.listed at is in
        subst (IsMarked m) (at_index (leads_to image at) to leads)
        (subst (λ x. All (IsMarked m) (leads_to image x)) (at_index o at listed) (done.followed listed.0 listed.1 listed.1) leads.0 0 leads.1)

    marked : (at : ℕ) → MayReach image roots at → IsMarked m at
    marked _ (begins x has) = subst (IsMarked m) (at_index roots x has) (done.begun has.0 0 has.1)
    marked _ (goes_on x to reached leads) = closed x to (marked x reached) leads

-- what is marked stays so with a root more
pub marks_kept : (image : Located) (m : List Bool) (o : List ℕ) (at : ℕ) (m' : List Bool) (o' : List ℕ) (roots : List ℕ) → IsDone image roots m o → IsDone image (roots ++ at ∷ []) m' o' →
    (x : ℕ) → IsMarked m x → IsMarked m' x
marks_kept image m o at m' o' roots done more x is =
    ((done_exact image (roots ++ at ∷ []) m' o' more).exact x).1 (more_roots image roots at x (((done_exact image roots m o done).exact x).0 is))

-- an entry more
pub entered_more : (image : Located) (entries : List ℕ) (i d at : ℕ) (m : List Bool) (o : List ℕ) → i < length entries → at ≡ get_or entries i d →
    IsDone image ((image.start ∷ take i entries) ++ at ∷ []) m o → IsDone image (image.start ∷ take (i + 1) entries) m o
entered_more image entries i d at m o inside is done =
    subst (λ roots. IsDone image (image.start ∷ roots) m o) (ap (λ a. take i entries ++ a ∷ []) is ∙ sym (take_more entries i d inside)) done

-- a walk from the start, from further entries, and from the targets of tables too
pub explored_start : (image : Located) (entries : List ℕ) (m : List Bool) (o : List ℕ) → IsDone image (image.start ∷ entries) m o → IsExplored image entries m o
explored_start image entries m o done = record {
  roots = image.start ∷ entries;
  each = λ k d inside. inl (Contains-get_or (image.start ∷ entries) k d inside);
  begun = λ k d inside. Contains-get_or (image.start ∷ entries) k d inside;
  done = done;
}

module _ (image : Located) (entries : List ℕ) (m : List Bool) (o : List ℕ) (at : ℕ) (m' : List Bool) (o' : List ℕ) (before : IsExplored image entries m o)
    (more : (roots : List ℕ) → IsDone image roots m o → IsDone image (roots ++ at ∷ []) m' o') where
  still : (x : ℕ) → IsMarked m x → IsMarked m' x
  still = marks_kept image m o at m' o' before.roots before.done (more before.roots before.done)

  pub explored_more : IsTableTarget image m at → IsExplored image entries m' o'
  explored_more is = record {
    roots = before.roots ++ at ∷ [];
    each = All-push (IsRoot image entries m') before.roots at (roots_kept image m m' still entries before.roots before.each) (inr (target_kept image m m' still at is));
    begun = λ k d inside. Contains-append_left before.roots (at ∷ []) (get_or (image.start ∷ entries) k d) (before.begun k d inside);
    done = more before.roots before.done;
  }

  pub rests_more : (rests : List EntryRun) → AreRests image m rests → AreRests image m' rests
  rests_more rests all = rests_kept image m m' still rests all

-- what is found by such a walk
pub searched : (image : Located) (entries : List ℕ) (m taken : List Bool) (o : List ℕ) → IsExplored image entries m o → AreMarks (is_covered image m) 65536 taken → IsSearched image entries m taken
searched image entries m taken o explored covered = record {
  roots = explored.roots;
  each = explored.each;
  begun = explored.begun;
  exact = done_exact image explored.roots m o explored.done;
  covered = covered;
}
