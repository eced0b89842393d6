use Rattle.clap.specs.declared.error.kind.ErrorKind.TheVariants.{OutOfMemory}
use Rattle.std.specs.Prelude.{◌≡◌, ◌≢◌, false, true, map, string_bytes}
use Rattle.clap.specs.{Simple.app_of, Takes.takes, Values.kind_of}
use Rattle.plm80.proofs.BesideLemmas.{ok_weaker}
use Rattle.plm80.proofs.SpelledLemmas.{not_taken}
use Rattle.plm80.proofs.commands.untaken.is_refused.Goals as goal

pub returns : goal.returns
returns c =
    ok_weaker c.blames_words.result (λ _. kind_of c.in-Err.error ≢ OutOfMemory) (λ refused. refused ≡ true → takes (app_of c.args.program) (map string_bytes c.args.words.now) ≡ false)
    (λ refused other is. not_taken _ (kind_of c.in-Err.error) OutOfMemory c.in-Err.ensures.passes other) c.blames_words.ensures
