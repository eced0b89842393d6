-- What is found of modules, one after another.
use Rattle.std.specs.Prelude.{◌≡◌, ℕ, suc, ◌+◌, ◌<◌, Bool, true, false, not, ◌||◌, List, [], ◌∷◌, ◌++◌, if◌then◌else◌, length, take, filter}
use Rattle.std.specs.List.{flat_map, list_any}
use Rattle.std.proofs.Common.{◌∙◌, ap, sym, subst, append_assoc, append-nil, get_or, refl, arith}
use Rattle.std.proofs.lemmas.Bool.{true≢false}
use Rattle.std.proofs.lemmas.List.{length-append}
use Rattle.std.proofs.lemmas.List.Elements.{filter-append}
use Rattle.std.proofs.lemmas.List.Folds.{list_any-append}
use Rattle.std.proofs.lemmas.Grind.{flat_map-append}
use Rattle.omf_model.specs.Modules.{ModuleValue}
use Rattle.rom80_find.specs.Dump.{DumpValue}
use Rattle.rom80_find.specs.declared.lines.finding.Finding.{Finding}
use Rattle.rom80_find.specs.declared.lines.finding.Finding.TheVariants.{Short, Missing, There}
use Rattle.rom80_find.specs.Lies.{AreModulePlaces}
use Rattle.rom80_find.specs.Lines.{missing_line, short_line}
use Rattle.rom80_find.specs.Found.{IsFound, short, missing, there, PrintsModules, is_short, is_missing, has_place}
use Rattle.rom80_find.specs.Prints.{FindsModule, PrintsFound, PrintsModule, PrintsPlaces}
use Rattle.rom80_find.specs.declared.places.Places.{Places}
use Rattle.rom80_find.specs.Listed.{Lists, Shows}
use Rattle.rom80_find.proofs.PlaceTextLemmas.{zip_more}

-- ---- one module

no_places : (places : List ℕ) → length places ≡ 0 → [] ≡ places
no_places [] e = refl
no_places (p ∷ ps) e = elim (past (length ps) e) [ ]
  where
    past : (n : ℕ) → suc n ≡ 0 → ⊥
    past n e = omega (arith, e)

some_places : (places : List ℕ) → (length places ≡ 0 → ⊥) → 0 < length places
some_places [] some = elim (some refl) [ ]
some_places (p ∷ ps) some = omega arith

pub finds_short : (dump : DumpValue) (m p : ModuleValue) (before : List ℕ) → p ≡ m → is_short p ≡ true
    → FindsModule dump m Short before before
finds_short dump m p before same is_short = subst (λ (q : ModuleValue). FindsModule dump q Short before before) same
    (record { text = short_line p.name; is = short is_short; after_is = sym (append-nil before) })

pub finds_missing : (dump : DumpValue) (m p : ModuleValue) (places : Places) (before : List ℕ) → p ≡ m → is_short p ≡ false
    → Lists (AreModulePlaces dump p) places → places.count ≡ 0 → FindsModule dump m Missing before before
finds_missing dump m p places before same long h none = subst (λ (q : ModuleValue). FindsModule dump q Missing before before) same
    (record {
      text = missing_line p.name;
      is = missing long (subst (λ (l : List ℕ). AreModulePlaces dump p l) (sym (no_places h.all (sym h.shows.count_is ∙ none))) h.are);
      after_is = sym (append-nil before);
    })

pub finds_there : (dump : DumpValue) (m p : ModuleValue) (places : Places) (before after : List ℕ) → p ≡ m → is_short p ≡ false
    → Lists (AreModulePlaces dump p) places → (places.count ≡ 0 → ⊥)
    → ((all : List ℕ) → Shows places all → PrintsPlaces dump p all before after) → FindsModule dump m There before after
finds_there dump m p places before after same long h some prints =
    let printed = prints h.all h.shows in
    subst (λ (q : ModuleValue). FindsModule dump q There before after) same
    (record {
      text = printed.text;
      is = there h.all printed.text long h.are (some_places h.all (λ e. some (h.shows.count_is ∙ e))) printed.is;
      after_is = printed.after_is;
    })

-- ---- the modules of an object file

there_more : (findings : List (Finding × List ℕ)) (f : Finding × List ℕ) (are_there absent : Bool)
    → are_there ≡ not (list_any (λ g. is_missing g.0) findings) → absent ≡ is_missing f.0
    → (if absent then false else are_there) ≡ not (list_any (λ g. is_missing g.0) (findings ++ f ∷ []))
there_more findings f are_there absent there_is missing_is =
    ap (λ (b : Bool). if b then false else are_there) missing_is
    ∙ ap (λ (b : Bool). if is_missing f.0 then false else b) there_is
    ∙ or_not (list_any (λ g. is_missing g.0) findings) (is_missing f.0)
    ∙ ap not (sym (list_any-append (λ g. is_missing g.0) findings (f ∷ [])))
  where
    or_not : (a b : Bool) → (if b then false else not a) ≡ not (a || (b || false))
    or_not true true = refl
    or_not true false = refl
    or_not false true = refl
    or_not false false = refl

pub modules_more : (dump : DumpValue) (modules : List ModuleValue) (i : ℕ) (m : ModuleValue) (are_there absent next : Bool)
    (before text after : List ℕ) → i < length modules → m ≡ get_or modules i m
    → PrintsModules dump (take i modules) are_there before text → PrintsModule dump m absent text after
    → next ≡ (if absent then false else are_there) → PrintsModules dump (take (i + 1) modules) next before after
modules_more dump modules i m are_there absent next before text after lt is so_far one next_is =
    let f : Finding × List ℕ = (one.finding, one.text) in
    record {
      findings = so_far.findings ++ f ∷ [];
      each = zip_more (λ n g. IsFound dump n g.0 g.1) modules so_far.findings i m m f lt is so_far.each one.is;
      there_is = next_is ∙ there_more so_far.findings f are_there absent so_far.there_is one.missing_is;
      after_is = one.after_is ∙ ap (λ t. t ++ one.text) so_far.after_is ∙ append_assoc before (flat_map (λ g. g.1) so_far.findings) one.text
          ∙ ap (λ t. before ++ t) (texts_more so_far.findings f);
    }
  where
    texts_more : (findings : List (Finding × List ℕ)) (f : Finding × List ℕ)
        → flat_map (λ g. g.1) findings ++ f.1 ≡ flat_map (λ g. g.1) (findings ++ f ∷ [])
    texts_more findings f =
        ap (λ t. flat_map (λ g. g.1) findings ++ t) (sym (append-nil f.1)) ∙ sym (flat_map-append (λ (g : Finding × List ℕ). g.1) findings (f ∷ []))

-- ---- those of a library

abbrev texts_found : List (Finding × List ℕ) → List ℕ
texts_found findings = flat_map (λ g. g.1) (filter (λ g. has_place g.0) findings)

abbrev count_missing : List (Finding × List ℕ) → ℕ
count_missing findings = length (filter (λ g. not (has_place g.0)) findings)

one_text : (finding : Finding) (text : List ℕ) → texts_found ((finding, text) ∷ []) ≡ (if has_place finding then text else [])
one_text Short text = refl
one_text Missing text = refl
one_text There text = append-nil text

one_missing : (finding : Finding) (text : List ℕ) → count_missing ((finding, text) ∷ []) ≡ (if has_place finding then 0 else 1)
one_missing Short text = refl
one_missing Missing text = refl
one_missing There text = refl

texts_more : (findings : List (Finding × List ℕ)) (f : Finding × List ℕ) → texts_found (findings ++ f ∷ []) ≡ texts_found findings ++ texts_found (f ∷ [])
texts_more findings f =
    ap (λ l. flat_map (λ g. g.1) l) (filter-append (λ (g : Finding × List ℕ). has_place g.0) findings (f ∷ []))
    ∙ flat_map-append (λ (g : Finding × List ℕ). g.1) (filter (λ g. has_place g.0) findings) (filter (λ g. has_place g.0) (f ∷ []))

missing_more : (findings : List (Finding × List ℕ)) (f : Finding × List ℕ) → count_missing (findings ++ f ∷ []) ≡ count_missing findings + count_missing (f ∷ [])
missing_more findings f =
    ap length (filter-append (λ (g : Finding × List ℕ). not (has_place g.0)) findings (f ∷ []))
    ∙ length-append (filter (λ g. not (has_place g.0)) findings) (filter (λ g. not (has_place g.0)) (f ∷ []))

pub found_more : (dump : DumpValue) (members : List ModuleValue) (i : ℕ) (m : ModuleValue) (absent next : ℕ) (finding : Finding)
    (before text after : List ℕ) → i < length members → m ≡ get_or members i m
    → PrintsFound dump (take i members) absent before text → FindsModule dump m finding text after
    → next ≡ absent + (if has_place finding then 0 else 1) → PrintsFound dump (take (i + 1) members) next before after
found_more dump members i m absent next finding before text after lt is so_far one next_is =
    let f : Finding × List ℕ = (finding, one.text) in
    record {
      findings = so_far.findings ++ f ∷ [];
      each = zip_more (λ n g. IsFound dump n g.0 g.1) members so_far.findings i m m f lt is so_far.each one.is;
      missing_is = next_is ∙ ap (λ (n : ℕ). n + (if has_place finding then 0 else 1)) so_far.missing_is
          ∙ ap (λ (n : ℕ). count_missing so_far.findings + n) (sym (one_missing finding one.text)) ∙ sym (missing_more so_far.findings f);
      after_is = one.after_is ∙ ap (λ t. t ++ (if has_place finding then one.text else [])) so_far.after_is
          ∙ append_assoc before (texts_found so_far.findings) (if has_place finding then one.text else [])
          ∙ ap (λ t. before ++ t) (ap (λ t. texts_found so_far.findings ++ t) (sym (one_text finding one.text)) ∙ sym (texts_more so_far.findings f));
    }

-- one that has no place counts, and no other does
pub counted : (t : Bool) (n next : ℕ) → t ≡ false → next ≡ n + 1 → next ≡ n + (if t then 0 else 1)
counted true n next tested e = elim (true≢false tested) [ ]
counted false n next tested e = e

pub not_counted : (t : Bool) (n next : ℕ) → t ≡ true → next ≡ n → next ≡ n + (if t then 0 else 1)
not_counted true n next tested e = omega (arith, e)
not_counted false n next tested e = elim (true≢false (sym tested)) [ ]
