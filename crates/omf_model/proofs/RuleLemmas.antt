-- The rules of a module: those of references, and all others.
use Rattle.std.proofs.Common.{◌≡◌, Bool, true, false, ◌&&◌, List, [], ◌∷◌, length, refl, sym, ap, arith, ◌∙◌}
use Rattle.std.specs.List.{list_all}
use Rattle.omf_model.specs.Segments.{has_segment}
use Rattle.omf_model.specs.Modules.{ModuleValue}
use Rattle.omf_model.specs.Rules.{each_after, is_new_entry, is_new_common, is_in_bounds, has_fitting, is_start, keeps_rules, keeps_rules_but_for_fixups, keeps_fixup_rules}

crossed : (a b c d : Bool) → (a && b && (c && d)) ≡ (a && c && (b && d))
crossed a b c d = grind arith

all_both : {A : Type 0} (p q : A → Bool) (xs : List A) → list_all (λ x. p x && q x) xs ≡ (list_all p xs && list_all q xs)
all_both p q [] = refl
all_both p q (x ∷ xs) = ap (λ (b : Bool). p x && q x && b) (all_both p q xs) ∙ crossed (p x) (q x) (list_all p xs) (list_all q xs)

moved : (a b c d e f : Bool) → (a && (b && c && (d && e) && f)) ≡ (a && b && c && d && f && e)
moved a b c d e f = grind arith

rules_apart : (m : ModuleValue) → keeps_rules m ≡ (keeps_rules_but_for_fixups m && keeps_fixup_rules m)
rules_apart m =
    let entries : Bool = each_after (is_new_entry m.commons) [] m.segments in
    let commons : Bool = each_after is_new_common [] m.commons in
    let publics : Bool = list_all (λ p. has_segment m.commons p.segment) m.publics in
    let start : Bool = is_start m.commons m.start in
    ap (λ (b : Bool). entries && (commons && publics && b && start)) (all_both (is_in_bounds m.segments m.commons) (has_fitting m.commons (length m.externals)) m.contents)
    ∙ moved entries commons publics (list_all (is_in_bounds m.segments m.commons) m.contents) (list_all (has_fitting m.commons (length m.externals)) m.contents) start

-- ---- those of references, and the others

no_end : (b : Bool) → (b && false) ≡ false
no_end true = refl
no_end false = refl

pub others_fail : (m : ModuleValue) (r : Bool) → r ≡ keeps_rules_but_for_fixups m → r ≡ false → keeps_rules m ≡ false
others_fail m r is e = rules_apart m ∙ ap (λ (b : Bool). b && keeps_fixup_rules m) (sym is ∙ e)

pub fixups_fail : (m : ModuleValue) (r : Bool) → r ≡ keeps_fixup_rules m → r ≡ false → keeps_rules m ≡ false
fixups_fail m r is e = rules_apart m ∙ ap (λ (b : Bool). keeps_rules_but_for_fixups m && b) (sym is ∙ e) ∙ no_end (keeps_rules_but_for_fixups m)

pub both_kept : (m : ModuleValue) (r f : Bool) → r ≡ keeps_rules_but_for_fixups m → r ≡ true → f ≡ keeps_fixup_rules m → f ≡ true → keeps_rules m ≡ true
both_kept m r f is e fits all = rules_apart m ∙ ap (λ (b : Bool). b && keeps_fixup_rules m) (sym is ∙ e) ∙ (sym fits ∙ all)
