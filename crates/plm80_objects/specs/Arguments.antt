-- Which argument of the command line each value of a command is, and the numbers that options write.
use Rattle.std.specs.Prelude.{◌≡◌, ℕ, List, Option, IfSome, map, option_map, unwrap_or, codes}
use Rattle.clap.specs.{declared.parser.matches.ArgMatches.ArgMatches, Matches.first_value, Matches.found_of}
use Rattle.place80.specs.declared.options.Options.{Options}
use Rattle.plm80_console.specs.Arguments.{argument_text, argument_values}
use Rattle.plm80_console.specs.NumberText.{IsByteText, IsLengthText, IsWordText, word_value}
use Rattle.plm80_console.specs.declared.options.OptionText.{OptionText}
use Rattle.plm80_boards.specs.Boards.{IsBoardPath}
use Rattle.plm80_names.specs.Arguments.{IsFlag}
use Rattle.plm80_objects.specs.{declared.absolute.AbsoluteArguments.AbsoluteArguments, declared.compare.CompareArguments.CompareArguments}
use Rattle.plm80_objects.specs.{declared.extract.Extent.Extent, declared.extract.ExtractArguments.ExtractArguments}
use Rattle.plm80_objects.specs.{declared.find.FindArguments.FindArguments, declared.helpers.locate_options.LocateTexts.LocateTexts}
use Rattle.plm80_objects.specs.{declared.library.LibraryArguments.LibraryArguments, declared.link.LinkArguments.LinkArguments}
use Rattle.plm80_objects.specs.{declared.locate.LocateArguments.LocateArguments, declared.map.MapArguments.MapArguments}

-- the text of an option that needn't be given
abbrev pub text_if_given : Option OptionText → Option (List ℕ)
text_if_given option = option_map (λ given. given.text.now) option

-- the options of LOCATE, each from the argument of its name
pub record AreLocateTexts (matches : ArgMatches) (texts : LocateTexts) : Type 0 where
  pub code : text_if_given texts.code ≡ first_value (found_of matches) (codes "code")
  pub stack : text_if_given texts.stack ≡ first_value (found_of matches) (codes "stack")
  pub common : text_if_given texts.common ≡ first_value (found_of matches) (codes "common")
  pub data_base : text_if_given texts.data_base ≡ first_value (found_of matches) (codes "data")
  pub memory : text_if_given texts.memory ≡ first_value (found_of matches) (codes "memory")
  pub stack_size : text_if_given texts.stack_size ≡ first_value (found_of matches) (codes "stack-size")
  pub memory_size : text_if_given texts.memory_size ≡ first_value (found_of matches) (codes "memory-size")

-- the word that an option writes, in one to four hexadecimal digits, and the byte, in two
abbrev pub WritesWord : OptionText → (word : ℕ) → Type 0
WritesWord option word = IsWordText option.text.now × (word ≡ word_value option.text.now)

abbrev pub WritesByte : OptionText → (byte : ℕ) → Type 0
WritesByte option byte = IsByteText option.text.now × (byte ≡ word_value option.text.now)

-- the word that an option writes, if it is given
abbrev pub WritesWordIfGiven : Option OptionText → Option ℕ → Type 0
WritesWordIfGiven option word =
    IfSome option (λ given. IsWordText given.text.now) × (word ≡ option_map (λ given. word_value given.text.now) option)

-- the numbers that the options of LOCATE write
pub record AreNumbersOf (texts : LocateTexts) (options : Options) : Type 0 where
  pub code : WritesWordIfGiven texts.code options.code
  pub stack : WritesWordIfGiven texts.stack options.stack
  pub common : WritesWordIfGiven texts.common options.common
  pub data_base : WritesWordIfGiven texts.data_base options.data_base
  pub memory : WritesWordIfGiven texts.memory options.memory
  pub stack_size : WritesWordIfGiven texts.stack_size options.stack_size
  pub memory_size : WritesWordIfGiven texts.memory_size options.memory_size

-- they write none
abbrev pub WriteNoNumbers : LocateTexts → Type 0
WriteNoNumbers texts = (options : Options) → AreNumbersOf texts options → ⊥

pub record AreLocateArguments (matches : ArgMatches) (arguments : LocateArguments) : Type 0 where
  pub object : arguments.object.now ≡ argument_text matches (codes "IN")
  pub image : arguments.image.now ≡ argument_text matches (codes "IMAGE")
  pub regions : arguments.regions.now ≡ argument_text matches (codes "REGIONS")
  pub options : AreLocateTexts matches arguments.options
  pub rom : map (λ range. range.now) arguments.rom.items ≡ argument_values matches (codes "rom-range")
  pub ram : map (λ range. range.now) arguments.ram.items ≡ argument_values matches (codes "ram-range")
  pub board : IsBoardPath matches arguments.board
  pub restart : IsFlag matches (codes "restart") arguments.restart
  pub publics : IsFlag matches (codes "publics") arguments.publics

pub record AreMapArguments (matches : ArgMatches) (arguments : MapArguments) : Type 0 where
  pub object : arguments.object.now ≡ argument_text matches (codes "IN")
  pub options : AreLocateTexts matches arguments.options

-- the text of the byte that stands where an image has none, which is 0 if it isn't given
abbrev pub fill_text : ArgMatches → List ℕ
fill_text matches = unwrap_or (first_value (found_of matches) (codes "fill")) (codes "00")

pub record AreCompareArguments (matches : ArgMatches) (arguments : CompareArguments) : Type 0 where
  pub image : arguments.image.now ≡ argument_text matches (codes "IMAGE")
  pub dump : arguments.dump.now ≡ argument_text matches (codes "DUMP")
  pub first : arguments.first.text.now ≡ argument_text matches (codes "first")
  pub fill : arguments.fill.text.now ≡ fill_text matches
  pub names : IsFlag matches (codes "names") arguments.names

pub record AreExtractArguments (matches : ArgMatches) (arguments : ExtractArguments) : Type 0 where
  pub image : arguments.image.now ≡ argument_text matches (codes "IMAGE")
  pub out : arguments.out.now ≡ argument_text matches (codes "OUT")
  pub first : arguments.first.text.now ≡ argument_text matches (codes "first")
  pub length : arguments.length.text.now ≡ argument_text matches (codes "length")
  pub fill : arguments.fill.text.now ≡ fill_text matches
  pub sum : IsFlag matches (codes "sum") arguments.sum

pub record AreFindArguments (matches : ArgMatches) (arguments : FindArguments) : Type 0 where
  pub dump : arguments.dump.now ≡ argument_text matches (codes "DUMP")
  pub first : arguments.first.text.now ≡ argument_text matches (codes "first")
  pub files : map (λ path. path.now) arguments.files.items ≡ argument_values matches (codes "FILE")

pub record AreLibraryArguments (matches : ArgMatches) (arguments : LibraryArguments) : Type 0 where
  pub library : arguments.library.now ≡ argument_text matches (codes "OUT")
  pub files : map (λ path. path.now) arguments.files.items ≡ argument_values matches (codes "FILE")

pub record AreLinkArguments (matches : ArgMatches) (arguments : LinkArguments) : Type 0 where
  pub name : arguments.name.text.now ≡ argument_text matches (codes "name")
  pub out : arguments.out.now ≡ argument_text matches (codes "out")
  pub asks_map : IsFlag matches (codes "map") arguments.lines.map
  pub asks_reasons : IsFlag matches (codes "reasons") arguments.lines.reasons
  pub files : map (λ path. path.now) arguments.files.items ≡ argument_values matches (codes "FILE")

pub record AreAbsoluteArguments (matches : ArgMatches) (arguments : AbsoluteArguments) : Type 0 where
  pub bytes : arguments.bytes.now ≡ argument_text matches (codes "BIN")
  pub image : arguments.image.now ≡ argument_text matches (codes "IMAGE")
  pub first : arguments.first.text.now ≡ argument_text matches (codes "first")
  pub start : arguments.start.text.now ≡ argument_text matches (codes "start")
  pub name : arguments.name.text.now ≡ argument_text matches (codes "name")
  pub further : map (λ text. text.now) arguments.further.items ≡ argument_values matches (codes "rom")

-- the numbers of a range of bytes, as its options write them
pub record IsExtentOf (arguments : ExtractArguments) (extent : Extent) : Type 0 where
  pub first : WritesWord arguments.first extent.first
  pub length : IsLengthText arguments.length.text.now × (extent.length ≡ word_value arguments.length.text.now)
  pub fill : WritesByte arguments.fill extent.fill

-- they write none
abbrev pub HasNoExtent : ExtractArguments → Type 0
HasNoExtent arguments = (extent : Extent) → IsExtentOf arguments extent → ⊥
