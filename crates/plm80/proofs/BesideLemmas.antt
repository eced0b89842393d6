-- Commands without the `--board` that stands in place of other arguments, or with it.
use Rattle.std.specs.Prelude.{◌≡◌, ◌<◌, ◌+◌, ◌++◌, ℕ, Bool, true, false, List, [], ◌∷◌, None, Ok, Option, Result, Err, IfOk, Some, codes, filter_map, length, map, option_map, take}
use Rattle.std.specs.List.{cons_option}
use Rattle.std.proofs.Common.{◌∙◌, ap, get_or, refl, sym}
use Rattle.std.proofs.lemmas.List.{get_or-map, map-append, map_more}
use Rattle.std.proofs.lemmas.List.Elements.{filter_map-append}
use Rattle.clap.proofs.OnLiterals.{clap_on_literals}
use Rattle.clap.specs.{Faults.is_simple_and_free, Simple.Shape, Takes.takes, Walk.Rule}
use Rattle.plm80_console.specs.SyntaxTable.{flag, rule_of_argument, shape_of_syntax}
use Rattle.plm80_console.specs.declared.syntax.{Argument.Argument, Syntax.Syntax}
use Rattle.plm80.specs.CommandLine.{IsUntaken, app_with, beside, commands, rule_beside}

-- one argument more, if it stays
pub more_stay : (boarded : Bool) (arguments kept : List Argument) (i : ℕ) (d : Argument) (more : Option Argument) → i < length arguments
    → map rule_of_argument kept ≡ filter_map (rule_beside boarded) (map rule_of_argument (take i arguments))
    → option_map rule_of_argument more ≡ rule_beside boarded (rule_of_argument (get_or arguments i d))
    → map rule_of_argument (kept ++ cons_option more []) ≡ filter_map (rule_beside boarded) (map rule_of_argument (take (i + 1) arguments))
more_stay boarded arguments kept i d more inside so_far is =
    map-append rule_of_argument kept (cons_option more [])
    ∙ ap (λ (l : List Rule). l ++ map rule_of_argument (cons_option more [])) so_far
    ∙ ap (λ (l : List Rule). filter_map (rule_beside boarded) (map rule_of_argument (take i arguments)) ++ l) (one more)
    ∙ ap (λ (o : Option Rule). filter_map (rule_beside boarded) (map rule_of_argument (take i arguments)) ++ cons_option o []) is
    ∙ sym (ap (filter_map (rule_beside boarded)) (map_more rule_of_argument arguments i d inside)
    ∙ filter_map-append (rule_beside boarded) (map rule_of_argument (take i arguments)) (rule_of_argument (get_or arguments i d) ∷ []))
  where
    one : (o : Option Argument) → map rule_of_argument (cons_option o []) ≡ cons_option (option_map rule_of_argument o) []
    one None = refl
    one (Some argument) = refl

-- the `--why` of a command stays
why_stays : (boarded : Bool) → filter_map (rule_beside boarded) (flag (codes "why") ∷ []) ≡ flag (codes "why") ∷ []
why_stays true = refl
why_stays false = refl

-- a command with the arguments that stay
pub shape_beside : (boarded : Bool) (syntax kept : Syntax) → kept.name.now ≡ syntax.name.now
    → map rule_of_argument kept.arguments.now ≡ filter_map (rule_beside boarded) (map rule_of_argument syntax.arguments.now)
    → shape_of_syntax kept ≡ beside boarded (shape_of_syntax syntax)
shape_beside boarded syntax kept name rules =
    let rest = map rule_of_argument syntax.arguments.now in
    let Made : List ℕ → List Rule → Shape = λ (of : List ℕ) (all : List Rule). record (shape_of_syntax syntax) { name = of; rules = all } in
    ap (λ (of : List ℕ). Made of (map rule_of_argument kept.arguments.now ++ flag (codes "why") ∷ [])) name
    ∙ ap (λ (all : List Rule). Made syntax.name.now (all ++ flag (codes "why") ∷ [])) rules
    ∙ ap (λ (all : List Rule). Made syntax.name.now all)
    (ap (λ (last : List Rule). filter_map (rule_beside boarded) rest ++ last) (sym (why_stays boarded))
    ∙ sym (filter_map-append (rule_beside boarded) rest (flag (codes "why") ∷ [])))

-- the arguments that stay of the command at a place
rules_at : {V : Type 0} (items : V → List Argument) (boarded : Bool) (all : List Syntax) (arguments : List V) (i : ℕ) (d : Syntax) (e : V)
    → map (λ of. map rule_of_argument (items of)) arguments ≡ map (λ syntax. filter_map (rule_beside boarded) (map rule_of_argument syntax.arguments.now)) all
    → i < length all → i < length arguments
    → map rule_of_argument (items (get_or arguments i e)) ≡ filter_map (rule_beside boarded) (map rule_of_argument (get_or all i d).arguments.now)
rules_at items boarded all arguments i d e same inside within =
    sym (get_or-map (λ of. map rule_of_argument (items of)) arguments i e [] within)
    ∙ ap (λ (l : List (List Rule)). get_or l i []) same
    ∙ get_or-map (λ syntax. filter_map (rule_beside boarded) (map rule_of_argument syntax.arguments.now)) all i d [] inside

-- one command more
pub one_more : {V : Type 0} (items : V → List Argument) (boarded : Bool) (all kept : List Syntax) (arguments : List V) (i : ℕ) (d new : Syntax) (e : V)
    → map (λ of. map rule_of_argument (items of)) arguments ≡ map (λ syntax. filter_map (rule_beside boarded) (map rule_of_argument syntax.arguments.now)) all
    → i < length all → i < length arguments → map shape_of_syntax kept ≡ map (beside boarded) (map shape_of_syntax (take i all))
    → new.name.now ≡ (get_or all i d).name.now → new.arguments.now ≡ items (get_or arguments i e)
    → map shape_of_syntax (kept ++ new ∷ []) ≡ map (beside boarded) (map shape_of_syntax (take (i + 1) all))
one_more items boarded all kept arguments i d new e same inside within so_far name is =
    let old = get_or all i d in
    let rules = ap (map rule_of_argument) is ∙ rules_at items boarded all arguments i d e same inside within in
    map-append shape_of_syntax kept (new ∷ [])
    ∙ ap (λ (l : List Shape). l ++ shape_of_syntax new ∷ []) so_far
    ∙ ap (λ (s : Shape). map (beside boarded) (map shape_of_syntax (take i all)) ++ s ∷ []) (shape_beside boarded old new name rules)
    ∙ sym (ap (map (beside boarded)) (map_more shape_of_syntax all i d inside)
    ∙ map-append (beside boarded) (map shape_of_syntax (take i all)) (shape_of_syntax old ∷ []))

-- what holds of an answer holds of it by a consequence, too
pub ok_weaker : {A E : Type 0} (r : Result A E) (P Q : A → Type 0) → ((x : A) → P x → Q x) → IfOk r P → IfOk r Q
ok_weaker (Ok x) P Q more holds = more x holds
ok_weaker (Err e) P Q more holds = tt

-- what clap takes of these commands is known exactly: they are simple, and no argument has a rule on another
pub exact : (boarded : Bool) → is_simple_and_free (app_with (map (beside boarded) commands)) ≡ true
unfolding clap_on_literals
exact true = refl
exact false = refl

-- words that clap takes neither without a board nor with one
pub both_untaken : (words : List (List ℕ)) → takes (app_with (map (beside false) commands)) words ≡ false → takes (app_with (map (beside true) commands)) words ≡ false → IsUntaken words
both_untaken words without boarded true = boarded
both_untaken words without boarded false = without
