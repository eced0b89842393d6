-- Which arguments of a command are apart: those whose paths differ, letter for letter, from that of a file that it writes.
-- (Which arguments may share a file is this project's own: regions may replace those that they were made of.)
use Rattle.std.specs.Prelude.{◌≡◌, ℕ, Bool, false, Some, List, codes}
use Rattle.clap.specs.{declared.parser.matches.ArgMatches.ArgMatches, Matches.first_value, Matches.found_of}
use Rattle.plm80_console.specs.ApartPaths.{is_among_values, is_behind_values, is_value}
use Rattle.plm80.specs.declared.commands.arguments.Request.{Request}
use Rattle.plm80.specs.declared.commands.arguments.Request.TheVariants as request

-- the path of the file that one argument writes isn't one that another has, by this test
abbrev pub Differ : (has : ArgMatches → (name path : List ℕ) → Bool) → ArgMatches → (written other : List ℕ) → Type 0
Differ has matches written other = (path : List ℕ) → first_value (found_of matches) written ≡ Some path → has matches other path ≡ false

abbrev pub AreApartIn : ArgMatches → Request → Type 0
AreApartIn matches (request.Link arguments) = Differ is_among_values matches (codes "out") (codes "FILE")
AreApartIn matches (request.Library arguments) = Differ is_among_values matches (codes "OUT") (codes "FILE")
AreApartIn matches (request.Locate arguments) = Differ is_value matches (codes "IMAGE") (codes "IN")
    × (Differ is_value matches (codes "IMAGE") (codes "REGIONS") × (Differ is_value matches (codes "REGIONS") (codes "IN")
    × (Differ is_value matches (codes "IMAGE") (codes "board") × Differ is_value matches (codes "REGIONS") (codes "board"))))
AreApartIn matches (request.Run arguments) = Differ is_value matches (codes "dump") (codes "IMAGE")
    × (Differ is_value matches (codes "dump") (codes "REGIONS") × Differ is_value matches (codes "dump") (codes "INPUTS"))
AreApartIn matches (request.Cases arguments) = Differ is_value matches (codes "out") (codes "IMAGE")
AreApartIn matches (request.Extract arguments) = Differ is_value matches (codes "OUT") (codes "IMAGE")
AreApartIn matches (request.Absolute arguments) = Differ is_value matches (codes "IMAGE") (codes "BIN")
    × Differ is_behind_values matches (codes "IMAGE") (codes "rom")
AreApartIn matches (request.Report arguments) = Differ is_value matches (codes "OUT") (codes "IMAGE")
    × Differ is_value matches (codes "OUT") (codes "REGIONS")
AreApartIn matches _ = Unit {0}
