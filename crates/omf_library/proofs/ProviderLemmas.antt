-- First providers, and the tables of names that hold them.
use Rattle.std.proofs.Common.{◌≡◌, ℕ, ◌+◌, Bool, true, false, cond, List, [], ◌∷◌, drop, length, Option, None, Some, refl, ap, ◌∙◌, sym, arith, true≢false, ◌<◌, ◌≤◌, get_or, subst, ◌||◌, ◌↔◌}
use Rattle.std.proofs.lemmas.List.{drop-map, drop_more}
use Rattle.std.proofs.lemmas.Option.{none-some}
use Rattle.std.specs.Prelude.{map}
use Rattle.std.specs.List.{list_any, position_from}
use Rattle.std.specs.Map.{lookup}
use Rattle.omf_model.specs.Modules.{ModuleValue}
use Rattle.omf_library.specs.Providers.{declares, first_provider, AreProvidersFrom, TakesNames}

-- a table of keys that stand for others
pub lookup_mapped : {K L X : Type 0} (f : K → L) (test : L → Bool) (es : List (K × X))
    → lookup test (map (λ e. (f e.0, e.1)) es) ≡ lookup (λ k. test (f k)) es
lookup_mapped f test [] = refl
lookup_mapped {K} {L} {X} f test (e ∷ es) = ap (λ (o : Option X). cond (test (f e.0)) (Some e.1) o) (lookup_mapped f test es)

-- no place exactly where no item passes
none_here : {A : Type 0} (test : A → Bool) (at : ℕ) (xs : List A) (b : Bool)
    → (position_from test (at + 1) xs ≡ None → list_any test xs ≡ false)
    → cond b (Some at) (position_from test (at + 1) xs) ≡ None → b || list_any test xs ≡ false
none_here test at xs true later none = absurd (none-some at (sym none))
none_here test at xs false later none = later none

none_passes : {A : Type 0} (test : A → Bool) (at : ℕ) (xs : List A) → position_from test at xs ≡ None → list_any test xs ≡ false
none_passes test at [] none = refl
none_passes test at (x ∷ xs) none = none_here test at xs (test x) (none_passes test (at + 1) xs) none

passes_here : {A : Type 0} (test : A → Bool) (at : ℕ) (xs : List A) (b : Bool)
    → (list_any test xs ≡ false → position_from test (at + 1) xs ≡ None)
    → b || list_any test xs ≡ false → cond b (Some at) (position_from test (at + 1) xs) ≡ None
passes_here test at xs true later none = absurd (true≢false none)
passes_here test at xs false later none = later none

passes_none : {A : Type 0} (test : A → Bool) (at : ℕ) (xs : List A) → list_any test xs ≡ false → position_from test at xs ≡ None
passes_none test at [] none = refl
passes_none test at (x ∷ xs) none = passes_here test at xs (test x) (passes_none test (at + 1) xs) none

pub none_exactly : (name : List ℕ) (ms : List ModuleValue) (place : Option ℕ) → place ≡ first_provider ms name
    → place ≡ None ↔ (list_any (declares name) ms ≡ false)
none_exactly name ms place is =
    (λ none. none_passes (declares name) 0 ms (sym is ∙ none), λ none. is ∙ passes_none (declares name) 0 ms none)

-- the table after the module before took its names
pub one_more : (place : ℕ) (m : ModuleValue) (ms : List ModuleValue) (old new : List (List ℕ × ℕ))
    → AreProvidersFrom (place + 1) ms old → TakesNames (λ name. declares name m) place old new
    → AreProvidersFrom place (m ∷ ms) new
one_more place m ms old new are taken =
    record { first = λ name. taken.taken name ∙ ap (λ (o : Option ℕ). cond (declares name m) (Some place) o) (are.first name) }

-- what is left of a list of references, one place before
one_before : {A : Type 0} (f : A → ModuleValue) (xs : List A) (place : ℕ) (x : A) → place < length xs → x ≡ get_or xs place x
    → drop place (map f xs) ≡ f x ∷ drop (place + 1) (map f xs)
one_before {A} f xs place x within is =
    drop-map f place xs ∙ ap (map f) (drop_more xs place x within) ∙ ap (λ (y : A). f y ∷ map f (drop (place + 1) xs)) (sym is)
    ∙ ap (λ (l : List ModuleValue). f x ∷ l) (sym (drop-map f (place + 1) xs))

pub table_grows : {A : Type 0} (f : A → ModuleValue) (xs : List A) (place after : ℕ) (x : A) (old new : List (List ℕ × ℕ))
    → place + 1 ≡ after → after ≤ length xs → x ≡ get_or xs place x
    → AreProvidersFrom after (drop after (map f xs)) old → TakesNames (λ name. declares name (f x)) place old new
    → AreProvidersFrom place (drop place (map f xs)) new
table_grows f xs place after x old new next within is are taken =
    subst (λ (l : List ModuleValue). AreProvidersFrom place l new)
    (sym (one_before f xs place x (omega (arith, next, within)) is))
    (one_more place (f x) (drop (place + 1) (map f xs)) old new
    (subst (λ (p : ℕ). AreProvidersFrom p (drop p (map f xs)) old) (sym next) are) taken)
