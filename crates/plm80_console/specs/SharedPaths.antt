-- A path that an argument of a command has which writes a file, and that another one has too.
use Rattle.std.specs.Prelude.{◌≡◌, false, Some}
use Rattle.clap.specs.declared.parser.matches.ArgMatches.{ArgMatches}
use Rattle.plm80_console.specs.{ApartPaths.path_to_write, Kinds.may_replace, declared.shared_paths.SharedPath.SharedPath}

-- the one argument writes the file of this path, and isn't one that may replace what the other reads
pub record IsWrittenBy (matches : ArgMatches) (shared : SharedPath) : Type 0 where
  pub written : path_to_write matches shared.written ≡ Some shared.path.now
  pub apart : may_replace shared.written.kind shared.other.name.now ≡ false
