-- Values that are joined to their options.
use Rattle.std.specs.Prelude.{◌≡◌, ℕ, Bool, true, false, ◌||◌, List, [], ◌∷◌, ◌++◌, codes, map}
use Rattle.std.specs.{List.list_any, Str.bytes_eq}
use Rattle.std.proofs.Common.{◌∙◌, refl, sym}
use Rattle.std.proofs.lemmas.List.Folds.{list_any-append}
use Rattle.clap.proofs.WalkLemmas.{list_any-map}
use Rattle.clap.specs.Walk.{Rule}
use Rattle.plm80_console.specs.{JoinedValues.is_option, JoinedValues.joined_values, SyntaxTable.flag, SyntaxTable.rule_of_argument}
use Rattle.plm80_console.specs.declared.syntax.Argument.{Argument}

or_false : (b : Bool) → (b || false) ≡ b
or_false true = refl
or_false false = refl

-- `--why` takes no value
pub without_why : (word : List ℕ) (arguments : List Argument)
    → list_any (is_option word) (map rule_of_argument arguments ++ flag (codes "why") ∷ [])
    ≡ list_any (λ argument. is_option word (rule_of_argument argument)) arguments
without_why word arguments =
    list_any-append (is_option word) (map rule_of_argument arguments) (flag (codes "why") ∷ [])
    ∙ (or_false (list_any (is_option word) (map rule_of_argument arguments)) ∙ sym (list_any-map (is_option word) rule_of_argument arguments))

-- behind `--` the words stay
pub stay : (rules : List Rule) (word : List ℕ) (behind : List (List ℕ)) → bytes_eq word (codes "--") ≡ true
    → joined_values rules (word ∷ behind) ≡ word ∷ behind
stay rules word [] is = refl
stay rules word (value ∷ rest) is = rw is refl
