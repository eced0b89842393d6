use Rattle.std.proofs.Common.{Bor, ◌≡◌, ◌∙◌, ℕ, List, refl, true}
use Rattle.plm80_console.specs.SyntaxTable.{rule_of_kind}
use Rattle.plm80_console.specs.declared.syntax.{Kind.Kind, Kind.TheVariants.PathInPlaceOf}
use Rattle.plm80_console.proofs.syntax.Argument.arg.Goals as goal

-- only one kind of argument is refused beside others
stands_beside_all : (kind : Kind) (name : List ℕ) → ((others : Bor (List (Bor (List ℕ)))) → kind ≡ PathInPlaceOf others → ⊥)
    → record (rule_of_kind kind name) { is_free = true } ≡ rule_of_kind kind name
stands_beside_all (PathInPlaceOf others) name is_none = absurd (is_none others refl)
stands_beside_all _ name is_none = refl

pub returns-in_default-clause-rule : goal.returns-in_default-clause-rule
returns-in_default-clause-rule c =
    c.arg_beside_all-arg.ensures.rule
    ∙ stands_beside_all c.args.self.now.kind c.args.self.now.name.now c.in_default.not-PathInPlaceOf
