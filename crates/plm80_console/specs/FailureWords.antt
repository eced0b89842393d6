-- Which failure of the system words name.
-- (std: the kinds of its errors. A closed standard output isn't connected here.)
use Rattle.std.specs.declared.io.ErrorKind.{ErrorKind}
use Rattle.std.specs.declared.io.ErrorKind.TheVariants as kind
use Rattle.plm80_console.specs.declared.failure_words.FailureWords.{FailureWords}
use Rattle.plm80_console.specs.declared.failure_words.FailureWords.TheVariants as words

abbrev pub failure_of : FailureWords → ErrorKind
failure_of words.OutputClosed = kind.NotConnected
failure_of words.NotFound = kind.NotFound
failure_of words.NameTooLong = kind.InvalidFilename
failure_of (words.Other other) = other
