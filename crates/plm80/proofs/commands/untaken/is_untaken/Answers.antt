use Rattle.std.specs.Prelude.{◌≡◌, false, true, map, string_bytes}
use Rattle.clap.specs.Takes.{takes}
use Rattle.plm80.specs.CommandLine.{IsUntaken, app_with, beside, commands}
use Rattle.plm80.proofs.BesideLemmas.{both_untaken, ok_weaker}
use Rattle.plm80.proofs.commands.untaken.is_untaken.Goals as goal

pub returns : goal.returns
returns c =
    let words = map string_bytes c.args.words.now in
    ok_weaker c.is_untaken_beside-2.result (λ untaken. untaken ≡ true → takes (app_with (map (beside true) commands)) words ≡ false) (λ untaken. untaken ≡ true → IsUntaken words)
    (λ untaken with_board is. both_untaken words (c.in_ok-is_untaken_beside.ensures c.if-not-branch.false) (with_board is)) c.is_untaken_beside-2.ensures
