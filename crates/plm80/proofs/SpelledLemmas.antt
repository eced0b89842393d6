-- The request that the words of a command line spell.
use Rattle.std.specs.Prelude.{◌≡◌, ◌≢◌, ℕ, Bool, List, false, true}
use Rattle.std.proofs.Common.{◌∙◌, ap, refl, sym}
use Rattle.clap.proofs.OnLiterals.{clap_on_literals}
use Rattle.clap.specs.Simple.{App, HasMatchesOf, is_simple, subcommand_of, subcommand_rows_of}
use Rattle.clap.specs.declared.error.kind.ErrorKind.{ErrorKind}
use Rattle.clap.specs.declared.parser.matches.ArgMatches.{ArgMatches}
use Rattle.plm80.specs.{CommandLine.plm80_app, Requests.IsRequestOf, declared.commands.arguments.Request.Request}

-- clap promises the matches of such commands
simple : is_simple plm80_app ≡ true
unfolding clap_on_literals
simple = refl

pub spelled : (app : App) (words : List (List ℕ)) (matches : ArgMatches) (request : Request) → app ≡ plm80_app
    → HasMatchesOf app words matches → IsRequestOf (subcommand_rows_of matches) request → IsRequestOf (subcommand_of plm80_app words) request
spelled app words matches request is has asked = record {
  arguments = asked.arguments;
  is_read = sym ((has (ap is_simple is ∙ simple)).1 ∙ ap (λ (a : App). subcommand_of a words) is) ∙ asked.is_read;
  are = asked.are;
  apart = asked.apart;
}

-- words with which clap fails but for memory aren't taken
pub not_taken : (taken : Bool) (kind memory : ErrorKind) → (taken ≡ true → kind ≡ memory) → kind ≢ memory → taken ≡ false
not_taken false kind memory passes other = refl
not_taken true kind memory passes other = absurd (other (passes refl))
