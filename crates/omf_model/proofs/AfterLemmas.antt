-- Items that pass a test, which also looks at the items before them.
use Rattle.std.proofs.Common.{◌≡◌, Bool, true, false, List, [], ◌∷◌, ◌++◌, append_assoc, refl, sym, ap, ◌∙◌}
use Rattle.std.specs.Prelude.{not, IsTrue}
use Rattle.std.specs.List.{list_all, list_any}
use Rattle.std.proofs.lemmas.Bool.{and_parts, and_from, or_parts}
use Rattle.omf_model.specs.Rules.{each_after}

-- what follows from the test holds of each item
pub all_after : {A : Type 0} (test : List A → A → Bool) (holds : A → Bool) (before xs : List A) →
    ((told : List A) (y : A) → IsTrue (test told y) → IsTrue (holds y)) →
    IsTrue (each_after test before xs) → IsTrue (list_all holds xs)
all_after test holds before [] gives passed = refl
all_after test holds before (x ∷ xs) gives passed =
    let parts = and_parts (test before x) (each_after test (before ++ x ∷ []) xs) passed in
    and_from (holds x) (list_all holds xs) (gives before x parts.0) (all_after test holds (before ++ x ∷ []) xs gives parts.1)

-- what follows from the test where an item stands before holds of each later item
pub all_after_one : {A : Type 0} (test : List A → A → Bool) (holds : A → Bool) (front : List A) (item : A) (back xs : List A) →
    ((some more : List A) (y : A) → IsTrue (test (some ++ item ∷ more) y) → IsTrue (holds y)) →
    IsTrue (each_after test (front ++ item ∷ back) xs) → IsTrue (list_all holds xs)
all_after_one test holds front item back [] gives passed = refl
all_after_one test holds front item back (x ∷ xs) gives passed =
    let parts = and_parts (test (front ++ item ∷ back) x) (each_after test ((front ++ item ∷ back) ++ x ∷ []) xs) passed in
    and_from (holds x) (list_all holds xs) (gives front back x parts.0)
    (all_after_one test holds front item (back ++ x ∷ []) xs gives
    (ap (λ told. each_after test told xs) (sym (append_assoc front (item ∷ back) (x ∷ []))) ∙ parts.1))

-- the items after the first, which is one before them
pub rest_after : {A : Type 0} (test : List A → A → Bool) (before : List A) (x : A) (xs : List A) →
    IsTrue (each_after test before (x ∷ xs)) → IsTrue (test before x) × IsTrue (each_after test (before ++ x ∷ []) xs)
rest_after test before x xs passed =
    let parts = and_parts (test before x) (each_after test (before ++ x ∷ []) xs) passed in (parts.0, parts.1)

-- what holds of no item doesn't hold of one of them
pub none_at : {A : Type 0} (test : A → Bool) (front : List A) (item : A) (back : List A) → list_any test (front ++ item ∷ back) ≡ false → test item ≡ false
none_at test [] item back none = (or_parts (test item) (list_any test back) none).0
none_at test (x ∷ xs) item back none = none_at test xs item back (or_parts (test x) (list_any test (xs ++ item ∷ back)) none).1

pub not_true : (b : Bool) → not b ≡ true → b ≡ false
not_true true e = absurd cc
not_true false e = refl
