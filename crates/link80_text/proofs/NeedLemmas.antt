-- The modules that need a name, one after another.
use Rattle.std.specs.Prelude.{◌≡◌, ℕ, zero, suc, ◌+◌, ◌<◌, ◌≤◌, ◌==◌, ◌||◌, nat_eq, Bool, true, false, if◌then◌else◌, Option, Some, None, List, [], ◌∷◌, ◌++◌, length, map, drop, slice_get}
use Rattle.std.specs.List.{AllByRecursion, list_any, flat_map}
use Rattle.std.specs.Option.{option_map_or}
use Rattle.std.specs.Map.{lookup}
use Rattle.std.specs.Cmp.Lexicographic.{pointwise}
use Rattle.std.proofs.Common.{refl, sym, ◌∙◌, ap, subst, arith, cond, get_or, append-nil, append_assoc}
use Rattle.std.specs.Prelude.{is_some, not}
use Rattle.std.proofs.lemmas.Bool.{and_parts, and_from, eqb-true, eq-eqb, true≢false}
use Rattle.std.proofs.lemmas.List.Folds.{list_any-append}
use Rattle.std.proofs.lemmas.Option.{none-some}
use Rattle.omf_model.specs.Modules.{ModuleValue}
use Rattle.link80_text.specs.Parts.{needs_name, needing_line, line_of_need}
use Rattle.link80_text.specs.declared.needs.Need.{Need}
use Rattle.link80_text.specs.Needs.{needers, IsChain, NeedsValue, first_of, is_of, AreNeeds, AreWith, SetsFirst, line_at, first_line, others_of}

-- a table with keys that stand for others
pub first_mapped : {K : Type 0} (f : K → List ℕ) (name : List ℕ) (es : List (K × ℕ))
    → first_of (map (λ e. (f e.0, e.1)) es) name ≡ lookup (λ k. pointwise nat_eq name (f k)) es
first_mapped f name [] = refl
first_mapped f name (e ∷ es) = ap (λ (o : Option ℕ). if pointwise nat_eq name (f e.0) then Some e.1 else o) (first_mapped f name es)

-- ---- names

same_is : (a b : List ℕ) → pointwise nat_eq a b ≡ true → a ≡ b
same_is [] [] e = refl
same_is [] (y ∷ ys) e = elim (true≢false (sym e)) [ ]
same_is (x ∷ xs) [] e = elim (true≢false (sym e)) [ ]
same_is (x ∷ xs) (y ∷ ys) e =
    let parts = and_parts (nat_eq x y) (pointwise nat_eq xs ys) e in
    ap (λ (n : ℕ). n ∷ xs) (eqb-true x y parts.0) ∙ ap (λ (l : List ℕ). y ∷ l) (same_is xs ys parts.1)

is_same : (a : List ℕ) → pointwise nat_eq a a ≡ true
is_same [] = refl
is_same (x ∷ xs) = and_from (nat_eq x x) (pointwise nat_eq xs xs) (eq-eqb x x refl) (is_same xs)

-- ---- chains

at_front : {A : Type 0} (xs : List A) (y : A) (k : ℕ) (x : A) → slice_get xs k ≡ Some x → slice_get (xs ++ y ∷ []) k ≡ Some x
at_front [] y k x e = absurd cc
at_front (z ∷ zs) y zero x e = e
at_front (z ∷ zs) y (suc k) x e = at_front zs y k x e

at_end : {A : Type 0} (xs : List A) (y : A) → slice_get (xs ++ y ∷ []) (length xs) ≡ Some y
at_end [] y = refl
at_end (z ∷ zs) y = at_end zs y

stays : (needs : List Need) (new : Need) (at : Option ℕ) (ms : List ℕ) → IsChain needs at ms → IsChain (needs ++ new ∷ []) at ms
stays needs new at [] h = h
stays needs new at (m ∷ ms) h =
    (h.0, (h.1.0, (h.1.1.0, (at_front needs new h.0 h.1.0 h.1.1.1.0, (h.1.1.1.1.0, stays needs new h.1.0.next ms h.1.1.1.1.1)))))

-- an entry of a module begins a chain exactly if the module is its first
first_module : (needs : List Need) (at : Option ℕ) (number m : ℕ) (ms : List ℕ) → IsChain needs at (m ∷ ms) → is_of needs at number ≡ (m == number)
first_module needs at number m ms h =
    ap (λ (o : Option ℕ). is_of needs o number) h.1.1.0
    ∙ (ap (λ (o : Option Need). option_map_or (λ (n : Need). n.number == number) o false) h.1.1.1.0 ∙ ap (λ (k : ℕ). k == number) h.1.1.1.1.0)

none_first : (needs : List Need) (at : Option ℕ) (number : ℕ) → at ≡ None → is_of needs at number ≡ false
none_first needs at number e = ap (λ (o : Option ℕ). is_of needs o number) e

-- so it says whether the module was put before the others
is_put : (needs : List Need) (at : Option ℕ) (number : ℕ) (rest : List ℕ) (t : Bool) → AllByRecursion (λ k. number < k) rest
    → IsChain needs at (cond t (number ∷ rest) rest) → is_of needs at number ≡ t
is_put needs at number rest true above h = first_module needs at number number rest h ∙ eq-eqb number number refl
is_put needs at number [] false above h = none_first needs at number h
is_put needs at number (m ∷ ms) false above h = first_module needs at number m ms h ∙ apart m above.0
  where
    apart : (m : ℕ) → number < m → (m == number) ≡ false
    apart m less = not_eq (m == number) refl
      where
        not_eq : (b : Bool) → (m == number) ≡ b → (m == number) ≡ false
        not_eq true e = absurd (omega (arith, eqb-true m number e, less))
        not_eq false e = e

-- ---- one more name of a module

abbrev among : List (List ℕ) → List ℕ → Bool
among names name = list_any (λ (e : List ℕ). pointwise nat_eq e name) names

or-nothing : (x : Bool) → (x || false) ≡ x
or-nothing true = refl
or-nothing false = refl

or-all : (x : Bool) → (x || true) ≡ true
or-all true = refl
or-all false = refl

among_more : (names : List (List ℕ)) (x name : List ℕ) → among (names ++ x ∷ []) name ≡ (among names name || pointwise nat_eq x name)
among_more names x name = list_any-append (λ (e : List ℕ). pointwise nat_eq e name) names (x ∷ []) ∙ ap (λ (t : Bool). among names name || t) (or-nothing (pointwise nat_eq x name))

-- it is there already
pub there_already : (names : List (List ℕ)) (number : ℕ) (rest : List ℕ → List ℕ) (v : NeedsValue) (x : List ℕ)
    → is_of v.needs (first_of v.heads x) number ≡ true → AreWith names number rest v → AreWith (names ++ x ∷ []) number rest v
there_already names number rest v x is h = record {
  each = λ name. subst (λ (t : Bool). IsChain v.needs (first_of v.heads name) (cond t (number ∷ rest name) (rest name)))
      (sym (among_more names x name ∙ same name (pointwise nat_eq x name) refl)) (h.each name);
  above = h.above;
}
  where
    found : among names x ≡ true
    found = sym (is_put v.needs (first_of v.heads x) number (rest x) (among names x) (h.above x) (h.each x)) ∙ is

    same : (name : List ℕ) (t : Bool) → pointwise nat_eq x name ≡ t → (among names name || pointwise nat_eq x name) ≡ among names name
    same name true e = ap (λ (t : Bool). among names name || t) e ∙ (or-all (among names name) ∙ sym (subst (λ (n : List ℕ). among names n ≡ true) (same_is x name e) found))
    same name false e = ap (λ (t : Bool). among names name || t) e ∙ or-nothing (among names name)

-- it is put before the others
pub put_first : (names : List (List ℕ)) (number : ℕ) (rest : List ℕ → List ℕ) (old new : NeedsValue) (x : List ℕ) (index : ℕ) (o : Need)
    → is_of old.needs (first_of old.heads x) number ≡ false
    → o ≡ record { number = number; next = first_of old.heads x } → new.needs ≡ old.needs ++ o ∷ [] → index ≡ length old.needs
    → SetsFirst x index old.heads new.heads → AreWith names number rest old → AreWith (names ++ x ∷ []) number rest new
put_first names number rest old new x index o is made needs-is index-is sets h = record {
  each = λ name. subst (λ (t : Bool). IsChain new.needs (first_of new.heads name) (cond t (number ∷ rest name) (rest name)))
      (sym (among_more names x name)) (by name (pointwise nat_eq x name) refl);
  above = h.above;
}
  where
    absent : among names x ≡ false
    absent = sym (is_put old.needs (first_of old.heads x) number (rest x) (among names x) (h.above x) (h.each x)) ∙ is

    kept : (name : List ℕ) → IsChain new.needs (first_of old.heads name) (cond (among names name) (number ∷ rest name) (rest name))
    kept name = subst (λ (l : List Need). IsChain l (first_of old.heads name) (cond (among names name) (number ∷ rest name) (rest name))) (sym needs-is)
        (stays old.needs o (first_of old.heads name) (cond (among names name) (number ∷ rest name) (rest name)) (h.each name))

    others : IsChain new.needs (first_of old.heads x) (rest x)
    others = subst (λ (t : Bool). IsChain new.needs (first_of old.heads x) (cond t (number ∷ rest x) (rest x))) absent (kept x)

    here : IsChain new.needs (Some index) (number ∷ rest x)
    here = (
      index,
      (
        o,
        (
          refl,
          (
            ap (λ (l : List Need). slice_get l index) needs-is ∙ (ap (λ (k : ℕ). slice_get (old.needs ++ o ∷ []) k) index-is ∙ at_end old.needs o),
            (ap (λ (n : Need). n.number) made, subst (λ (n : Need). IsChain new.needs n.next (rest x)) (sym made) others),
          ),
        ),
      ),
    )

    by : (name : List ℕ) (t : Bool) → pointwise nat_eq x name ≡ t
        → IsChain new.needs (first_of new.heads name) (cond (among names name || pointwise nat_eq x name) (number ∷ rest name) (rest name))
    by name true e =
        subst (λ (a : Option ℕ). IsChain new.needs a (cond (among names name || pointwise nat_eq x name) (number ∷ rest name) (rest name)))
        (sym (sets.set name ∙ ap (λ (t : Bool). if t then Some index else first_of old.heads name) e))
        (subst (λ (t : Bool). IsChain new.needs (Some index) (cond t (number ∷ rest name) (rest name)))
        (sym (ap (λ (t : Bool). among names name || t) e ∙ or-all (among names name)))
        (subst (λ (n : List ℕ). IsChain new.needs (Some index) (number ∷ rest n)) (same_is x name e) here))
    by name false e =
        subst (λ (a : Option ℕ). IsChain new.needs a (cond (among names name || pointwise nat_eq x name) (number ∷ rest name) (rest name)))
        (sym (sets.set name ∙ ap (λ (t : Bool). if t then Some index else first_of old.heads name) e))
        (subst (λ (t : Bool). IsChain new.needs (first_of old.heads name) (cond t (number ∷ rest name) (rest name)))
        (sym (ap (λ (t : Bool). among names name || t) e ∙ or-nothing (among names name)))
        (kept name))

-- ---- one more module

needers_above : (name : List ℕ) (number i : ℕ) (ms : List ModuleValue) → number < i → AllByRecursion (λ k. number < k) (needers name i ms)
needers_above name number i [] less = tt
needers_above name number i (m ∷ ms) less = one (needs_name name m) (needers_above name number (suc i) ms (omega arith))
  where
    one : (t : Bool) → AllByRecursion (λ k. number < k) (needers name (suc i) ms)
        → AllByRecursion (λ k. number < k) (cond t (i ∷ needers name (suc i) ms) (needers name (suc i) ms))
    one true rest = (less, rest)
    one false rest = rest

drop_next : (ms : List ModuleValue) (k : ℕ) (d : ModuleValue) → k < length ms → drop k ms ≡ get_or ms k d ∷ drop (suc k) ms
drop_next [] k d lt = elim lt [ ]
drop_next (m ∷ ms) zero d lt = refl
drop_next (m ∷ ms) (suc k) d lt = drop_next ms k d (omega arith)

pub begin_module : (modules : List ModuleValue) (k : ℕ) (v : NeedsValue) → AreNeeds modules (k + 1) v
    → AreWith [] k (λ name. needers name (k + 1) (drop (k + 1) modules)) v
begin_module modules k v h = record {
  each = h.each;
  above = λ name. needers_above name k (k + 1) (drop (k + 1) modules) (omega arith);
}

pub end_module : (modules : List ModuleValue) (k : ℕ) (m : ModuleValue) (v : NeedsValue) → k < length modules → m ≡ get_or modules k m
    → AreWith m.externals k (λ name. needers name (k + 1) (drop (k + 1) modules)) v → AreNeeds modules k v
end_module modules k m v lt is h = record {
  each = λ name.
      let next : k + 1 ≡ suc k = omega arith in
      subst (λ (l : List ModuleValue). IsChain v.needs (first_of v.heads name) (needers name k l))
      (sym (drop_next modules k m lt ∙ ap (λ (x : ModuleValue). x ∷ drop (suc k) modules) (sym is)))
      (subst (λ (n : ℕ). IsChain v.needs (first_of v.heads name) (cond (needs_name name m) (k ∷ needers name n (drop n modules)) (needers name n (drop n modules)))) next
      (h.each name));
}

pub at_mapped : {A B : Type 0} (f : A → B) (xs : List A) (k : ℕ) (d : A) → f (get_or xs k d) ≡ get_or (map f xs) k (f d)
at_mapped f [] k d = refl
at_mapped f (x ∷ xs) zero d = refl
at_mapped f (x ∷ xs) (suc k) d = at_mapped f xs k d

pub none_needed : (modules : List ModuleValue) (v : NeedsValue) → v.heads ≡ [] → AreNeeds modules (length modules) v
none_needed modules v none = record {
  each = λ name. subst (λ (l : List ModuleValue). IsChain v.needs (first_of v.heads name) (needers name (length modules) l)) (sym (all_dropped modules))
      (ap (λ (hs : List (List ℕ × ℕ)). first_of hs name) none);
}
  where
    all_dropped : (ms : List ModuleValue) → drop (length ms) ms ≡ []
    all_dropped [] = refl
    all_dropped (m ∷ ms) = all_dropped ms

-- ---- the lines of a name

step : (i k : ℕ) → i + suc k ≡ suc i + k
step i k = omega arith

zero_on : (i : ℕ) → i + 0 ≡ i
zero_on i = omega arith

lines_from : (all : List ModuleValue) (name : List ℕ) (i : ℕ) (ms : List ModuleValue) → ((k : ℕ) → slice_get all (i + k) ≡ slice_get ms k)
    → flat_map (line_at all name) (needers name i ms) ≡ flat_map (needing_line name) ms
lines_from all name i [] h = refl
lines_from all name i (m ∷ ms) h =
    one (needs_name name m) (lines_from all name (suc i) ms (λ k. ap (λ (n : ℕ). slice_get all n) (sym (step i k)) ∙ h (suc k)))
  where
    here : line_at all name i ≡ line_of_need name m.name
    here = ap (λ (o : Option ModuleValue). option_map_or (λ x. line_of_need name x.name) o []) (ap (λ (n : ℕ). slice_get all n) (sym (zero_on i)) ∙ h 0)

    one : (t : Bool) → flat_map (line_at all name) (needers name (suc i) ms) ≡ flat_map (needing_line name) ms
        → flat_map (line_at all name) (cond t (i ∷ needers name (suc i) ms) (needers name (suc i) ms)) ≡ cond t (line_of_need name m.name) [] ++ flat_map (needing_line name) ms
    one true rest = ap (λ (l : List ℕ). l ++ flat_map (line_at all name) (needers name (suc i) ms)) here ∙ ap (λ (l : List ℕ). line_of_need name m.name ++ l) rest
    one false rest = rest

pub lines_needed : (ms : List ModuleValue) (name : List ℕ) → flat_map (line_at ms name) (needers name 0 ms) ≡ flat_map (needing_line name) ms
lines_needed ms name = lines_from ms name 0 ms (λ k. ap (λ (n : ℕ). slice_get ms n) (plain k))
  where
    plain : (k : ℕ) → 0 + k ≡ k
    plain k = omega arith

-- no more than there are modules
few_need : (name : List ℕ) (i : ℕ) (ms : List ModuleValue) → length (needers name i ms) ≤ length ms
few_need name i [] = omega arith
few_need name i (m ∷ ms) = one (needs_name name m) (few_need name (suc i) ms)
  where
    one : (t : Bool) → length (needers name (suc i) ms) ≤ length ms → length (cond t (i ∷ needers name (suc i) ms) (needers name (suc i) ms)) ≤ suc (length ms)
    one true le = omega (arith, le)
    one false le = omega (arith, le)

past : {A : Type 0} (xs : List A) (k : ℕ) → length xs ≤ k → drop k xs ≡ []
past [] zero le = refl
past [] (suc k) le = refl
past (x ∷ xs) zero le = absurd (omega (arith, le))
past (x ∷ xs) (suc k) le = past xs k (omega (arith, le))

pub none_left : (ms : List ModuleValue) (name : List ℕ) (k : ℕ) → length ms ≤ k → drop k (needers name 0 ms) ≡ []
none_left ms name k le = past (needers name 0 ms) k (omega (arith, le, few_need name 0 ms))

pub ended : (needs : List Need) (at : Option ℕ) (rest : List ℕ) → at ≡ None → IsChain needs at rest → rest ≡ []
ended needs at [] none h = refl
ended needs at (k ∷ ks) none h = absurd (none-some h.0 (sym none ∙ h.1.1.0))

-- one line more
pub others_dropped : (xs : List ℕ) (k : ℕ) → others_of (drop k xs) ≡ drop (suc k) xs
others_dropped [] zero = refl
others_dropped [] (suc k) = refl
others_dropped (x ∷ xs) zero = refl
others_dropped (x ∷ xs) (suc k) = others_dropped xs k

pub line_then : (ms : List ModuleValue) (name : List ℕ) (rest : List ℕ)
    → first_line ms name rest ++ flat_map (line_at ms name) (others_of rest) ≡ flat_map (line_at ms name) rest
line_then ms name [] = refl
line_then ms name (k ∷ ks) = refl

none_of : (o : Option ℕ) (b : Bool) → is_some o ≡ not b → b ≡ true → o ≡ None
none_of None b is e = refl
none_of (Some k) b is e = elim (true≢false (is ∙ ap (λ (t : Bool). not t) e)) [ ]

pub ended_by : (needs : List Need) (at : Option ℕ) (rest : List ℕ) (b : Bool) → is_some at ≡ not b → b ≡ true → IsChain needs at rest → rest ≡ []
ended_by needs at rest b is e h = ended needs at rest (none_of at b is e) h

pub all_done : (ms : List ModuleValue) (name text first rest : List ℕ) → rest ≡ []
    → text ++ flat_map (line_at ms name) rest ≡ first ++ flat_map (line_at ms name) (needers name 0 ms) → text ≡ first ++ flat_map (needing_line name) ms
all_done ms name text first rest none h =
    sym (append-nil text) ∙ (ap (λ (l : List ℕ). text ++ flat_map (line_at ms name) l) (sym none)
    ∙ (h ∙ ap (λ (l : List ℕ). first ++ l) (lines_needed ms name)))

pub line_more : (ms : List ModuleValue) (name old new total rest : List ℕ) → new ≡ old ++ first_line ms name rest
    → old ++ flat_map (line_at ms name) rest ≡ total → new ++ flat_map (line_at ms name) (others_of rest) ≡ total
line_more ms name old new total rest is h =
    ap (λ (l : List ℕ). l ++ flat_map (line_at ms name) (others_of rest)) is
    ∙ (append_assoc old (first_line ms name rest) (flat_map (line_at ms name) (others_of rest))
    ∙ (ap (λ (l : List ℕ). old ++ l) (line_then ms name rest) ∙ h))

pub dropped_next : (needs : List Need) (at : Option ℕ) (xs : List ℕ) (k : ℕ) → IsChain needs at (others_of (drop k xs)) → IsChain needs at (drop (k + 1) xs)
dropped_next needs at xs k h =
    let next : suc k ≡ k + 1 = omega arith in
    subst (λ (n : ℕ). IsChain needs at (drop n xs)) next (subst (λ (l : List ℕ). IsChain needs at l) (others_dropped xs k) h)

pub text_next : (ms : List ModuleValue) (name old new total xs : List ℕ) (k : ℕ) → new ≡ old ++ first_line ms name (drop k xs)
    → old ++ flat_map (line_at ms name) (drop k xs) ≡ total → new ++ flat_map (line_at ms name) (drop (k + 1) xs) ≡ total
text_next ms name old new total xs k is h =
    let next : suc k ≡ k + 1 = omega arith in
    subst (λ (n : ℕ). new ++ flat_map (line_at ms name) (drop n xs) ≡ total) next
    (subst (λ (l : List ℕ). new ++ flat_map (line_at ms name) l ≡ total) (others_dropped xs k) (line_more ms name old new total (drop k xs) is h))
