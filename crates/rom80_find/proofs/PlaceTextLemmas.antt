-- Texts of places, one after another, and the first places of a module.
use Rattle.std.specs.Prelude.{◌≡◌, ℕ, zero, suc, ◌+◌, ◌<◌, ◌==◌, true, List, [], ◌∷◌, ◌++◌, length, take}
use Rattle.std.specs.List.{AllByRecursion, AllZip, concat}
use Rattle.std.proofs.Common.{◌∙◌, ap, sym, subst, append_assoc, append-nil, get_or, refl, arith}
use Rattle.std.proofs.lemmas.Bool.{eq-eqb, or_left, or_right}
use Rattle.std.proofs.lemmas.List.{take_more}
use Rattle.omf_model.specs.Modules.{ModuleValue}
use Rattle.rom80_find.specs.Dump.{DumpValue}
use Rattle.rom80_find.specs.Places.{is_listed}
use Rattle.rom80_find.specs.Lies.{HasModule, AreModulePlaces}
use Rattle.rom80_find.specs.Found.{IsPlaceText}
use Rattle.rom80_find.specs.Lines.{more_line}
use Rattle.rom80_find.specs.declared.places.Places.{Places}
use Rattle.rom80_find.specs.Listed.{Lists, Shows}
use Rattle.rom80_find.specs.Prints.{PrintsPlace, PrintsEach, PrintsPlaces}

concat_more : (ls : List (List ℕ)) (l : List ℕ) → concat (ls ++ l ∷ []) ≡ concat ls ++ l
concat_more [] l = append-nil l
concat_more (k ∷ ls) l = ap (λ t. k ++ t) (concat_more ls l) ∙ sym (append_assoc k (concat ls) l)

zip_pushed : {A B : Type 0} (R : A → B → Type 0) (xs : List A) (ys : List B) (x : A) (y : B) → AllZip R xs ys → R x y
    → AllZip R (xs ++ x ∷ []) (ys ++ y ∷ [])
zip_pushed R [] [] x y zip one = (one, tt)
zip_pushed R [] (v ∷ ys) x y zip one = absurd zip
zip_pushed R (u ∷ xs) [] x y zip one = absurd zip
zip_pushed R (u ∷ xs) (v ∷ ys) x y zip one = (zip.0, zip_pushed R xs ys x y zip.1 one)

-- a relation between the first elements of a list and others holds of one more
pub zip_more : {A B : Type 0} (R : A → B → Type 0) (xs : List A) (ys : List B) (i : ℕ) (d x : A) (y : B) → i < length xs → x ≡ get_or xs i d
    → AllZip R (take i xs) ys → R x y → AllZip R (take (i + 1) xs) (ys ++ y ∷ [])
zip_more R xs ys i d x y lt is zip one =
    subst (λ l. AllZip R l (ys ++ y ∷ [])) (ap (λ z. take i xs ++ z ∷ []) is ∙ sym (take_more xs i d lt)) (zip_pushed R (take i xs) ys x y zip one)

pub each_more : (dump : DumpValue) (m : ModuleValue) (places : List ℕ) (i address : ℕ) (before text after : List ℕ)
    → i < length places → address ≡ get_or places i 0 → PrintsEach dump m (take i places) before text
    → PrintsPlace dump m address text after → PrintsEach dump m (take (i + 1) places) before after
each_more dump m places i address before text after lt is so_far one = record {
  texts = so_far.texts ++ one.text ∷ [];
  each = zip_more (IsPlaceText dump m) places so_far.texts i 0 address one.text lt is so_far.each one.is;
  after_is = one.after_is ∙ ap (λ t. t ++ one.text) so_far.after_is ∙ append_assoc before (concat so_far.texts) one.text
      ∙ ap (λ t. before ++ t) (sym (concat_more so_far.texts one.text));
}

-- the module lies at each of its places, and so at each of the first ones
all_listed : (dump : DumpValue) (m : ModuleValue) (places : List ℕ)
    → ((address : ℕ) → is_listed places address ≡ true → HasModule dump m address) → AllByRecursion (HasModule dump m) places
all_listed dump m [] h = tt
all_listed dump m (p ∷ ps) h =
    (h p (or_left (p == p) (is_listed ps p) (eq-eqb p p refl)), all_listed dump m ps (λ a e. h a (or_right (p == a) (is_listed ps a) e)))

first_ones : (P : ℕ → Type 0) (n : ℕ) (places : List ℕ) → AllByRecursion P places → AllByRecursion P (take n places)
first_ones P zero [] h = tt
first_ones P zero (p ∷ ps) h = tt
first_ones P (suc n) [] h = tt
first_ones P (suc n) (p ∷ ps) h = (h.0, first_ones P n ps h.1)

pub first_places : (dump : DumpValue) (m : ModuleValue) (places : Places) → Lists (AreModulePlaces dump m) places
    → AllByRecursion (HasModule dump m) places.first.items
first_places dump m places h =
    subst (λ (l : List ℕ). AllByRecursion (HasModule dump m) l) (sym h.shows.first_are)
    (first_ones (HasModule dump m) 16 h.all (all_listed dump m h.all (λ a e. (h.are.lies a e).1)))

-- the texts of the first places, and behind them how many there are more
pub prints_places : (dump : DumpValue) (m : ModuleValue) (places : Places) (before between after : List ℕ)
    → PrintsEach dump m places.first.items before between → after ≡ between ++ more_line places.count
    → (all : List ℕ) → Shows places all → PrintsPlaces dump m all before after
prints_places dump m places before between after printed is all h = record {
  text = concat printed.texts ++ more_line (length all);
  is = record {
    texts = printed.texts;
    each = subst (λ (l : List ℕ). AllZip (IsPlaceText dump m) l printed.texts) h.first_are printed.each;
    text_is = refl;
  };
  after_is = is ∙ ap (λ t. t ++ more_line places.count) printed.after_is ∙ append_assoc before (concat printed.texts) (more_line places.count)
      ∙ ap (λ n. before ++ (concat printed.texts ++ more_line n)) h.count_is;
}

-- what holds of all holds of one of them
pub one_of : (P : ℕ → Type 0) (xs : List ℕ) (i x : ℕ) → i < length xs → x ≡ get_or xs i 0 → AllByRecursion P xs → P x
one_of P [] i x lt is all = elim lt [ ]
one_of P (y ∷ ys) zero x lt is all = subst P (sym is) all.0
one_of P (y ∷ ys) (suc i) x lt is all = one_of P ys i x (omega arith) is all.1
