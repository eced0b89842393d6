use Rattle.std.proofs.Common.{option_map, refl}
use Rattle.clap.specs.Matches.{found_of, matched_of, raw_values}
use Rattle.plm80_console.proofs.SharedLemmas.{has_among, has_behind, values_given}
use Rattle.plm80_console.proofs.syntax.Argument.has_path.Goals as goal

pub returns-in-Paths-clause-letters : goal.returns-in-Paths-clause-letters
returns-in-Paths-clause-letters g c = λ letters.
    has_among c.args.matches.now c.args.self.now.kind c.args.self.now.name.now c.args.path.now c.unwrap_or.result.now c.is_among.result
    c.in-Paths.is
    (values_given c.get_strs.result (option_map raw_values (matched_of (found_of c.args.matches.now) c.args.self.now.name.now)) _
    c.unwrap_or.result c.get_strs.ensures c.unwrap_or.ensures refl)
    (c.is_among.ensures letters)

pub returns-in-PathsAt-clause-letters : goal.returns-in-PathsAt-clause-letters
returns-in-PathsAt-clause-letters g c = λ letters.
    has_behind c.args.matches.now c.args.self.now.kind c.in-PathsAt.field-0 c.args.self.now.name.now c.args.path.now
    c.unwrap_or-in-PathsAt.result.now c.is_behind.result c.in-PathsAt.is
    (values_given c.get_strs-in-PathsAt.result (option_map raw_values (matched_of (found_of c.args.matches.now) c.args.self.now.name.now)) _
    c.unwrap_or-in-PathsAt.result c.get_strs-in-PathsAt.ensures c.unwrap_or-in-PathsAt.ensures refl)
    (c.is_behind.ensures letters)
