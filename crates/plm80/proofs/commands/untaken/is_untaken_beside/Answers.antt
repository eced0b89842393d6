use Rattle.std.specs.Prelude.{◌≡◌, ◌++◌, String, false, true, IfOk, List, ℕ, map, string_bytes}
use Rattle.std.proofs.Common.{◌∙◌, Global, ap, subst}
use Rattle.clap.specs.{Simple.App, Simple.Shape, Takes.takes}
use Rattle.plm80_console.specs.SyntaxTable.{shape_of_syntax}
use Rattle.plm80.specs.CommandLine.{app_with, beside, commands}
use Rattle.plm80.proofs.commands.untaken.is_untaken_beside.Goals as goal

pub returns : goal.returns
returns c =
    subst (λ (words : List (List ℕ)). IfOk c.is_refused.result (λ refused. refused ≡ true → takes (app_with (map (beside c.args.boarded) commands)) words ≡ false))
    (ap (map string_bytes) c.deref-5.ensures.value ∙ c.in_ok-push_copies.ensures
    ∙ ap (λ (copied : List (String Global)). map string_bytes copied ++ map string_bytes c.args.words.now) c.new-copies.ensures.items)
    (subst (λ (app : App). IfOk c.is_refused.result (λ refused. refused ≡ true → takes app (map string_bytes c.deref-5.result.now) ≡ false))
    (c.in_ok-program_of.ensures
    ∙ ap app_with (ap (map shape_of_syntax) c.deref-4.ensures.value ∙ c.in_ok-kept.ensures
    ∙ ap (λ (shapes : List Shape). map (beside c.args.boarded) shapes) (ap (map shape_of_syntax) c.deref-2.ensures.value ∙ c.in_ok-all.ensures)))
    c.is_refused.ensures)
