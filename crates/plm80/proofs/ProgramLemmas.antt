-- A program of clap with commands of a table.
use Rattle.std.specs.Prelude.{◌≡◌, ℕ, ◌+◌, ◌<◌, List, [], ◌∷◌, ◌++◌, Bool, false, true, length, map, take}
use Rattle.std.proofs.Common.{◌∙◌, ap, ap₂, arith, get_or, ne_eqb, refl, sym}
use Rattle.std.proofs.lemmas.List.{map_more}
use Rattle.clap.proofs.{SimpleLemmas.is_false, WalkLemmas.both}
use Rattle.clap.specs.{Built.AddsSubcommand, Simple.App, Simple.Shape, Simple.app_of, Simple.shape_of, Simple.shape_of_fields, Simple.with_subcommand, Walk.is_empty}
use Rattle.clap.specs.declared.builder.command.Command.{Command, TheViews.out-Command}
use Rattle.plm80.specs.CommandLine.{app_with}
use Rattle.plm80_console.specs.{SyntaxTable.app_of_syntax, SyntaxTable.shape_of_syntax, declared.syntax.Syntax.Syntax}

some_more : (commands : List Shape) (command : Shape) → false ≡ is_empty (commands ++ command ∷ [])
some_more [] command = refl
some_more (first ∷ commands) command = sym (ne_eqb (length (first ∷ (commands ++ command ∷ []))) 0 (λ e. absurd (omega (arith, e))))

-- one command more
with_more : (commands : List Shape) (command : Shape) → with_subcommand (app_with commands) command ≡ app_with (commands ++ command ∷ [])
with_more commands command =
    ap (λ (leaf : Bool). record (app_with (commands ++ command ∷ [])) {
      top = record (app_with commands).top { is_leaf = leaf };
    }) (some_more commands command)

-- a command of a table has no global argument
is_local : (command : Command) (syntax : Syntax) → app_of command ≡ app_of_syntax syntax → (out-Command command).has_globals ≡ false
is_local command syntax is =
    is_false (out-Command command).has_globals (both _ _ (both _ _ (both _ _ (ap (λ (a : App). a.top.is_plain) is)).1).1).0

-- the next one of a table, hidden in the help text
pub next : (old new command hidden : Command) (commands : List Syntax) (i : ℕ) (d : Syntax) → AddsSubcommand old hidden new
    → out-Command hidden ≡ record (out-Command command) { hide = true }
    → app_of old ≡ app_with (map shape_of_syntax (take i commands)) → i < length commands
    → app_of command ≡ app_of_syntax (get_or commands i d)
    → app_of new ≡ app_with (map shape_of_syntax (take (i + 1) commands))
next old new command hidden commands i d adds hides so_far lt is =
    let local : (out-Command hidden).has_globals ≡ false = ap (λ fields. fields.has_globals) hides ∙ is_local command (get_or commands i d) is in
    let shape : shape_of hidden ≡ shape_of_syntax (get_or commands i d) = ap shape_of_fields hides ∙ ap (λ (a : App). a.top) is in
    adds.shape local ∙ (ap₂ with_subcommand so_far shape
    ∙ (with_more (map shape_of_syntax (take i commands)) (shape_of_syntax (get_or commands i d))
    ∙ ap app_with (sym (map_more shape_of_syntax commands i d lt))))
