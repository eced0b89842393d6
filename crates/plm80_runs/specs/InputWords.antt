-- What `inputs` writes: the text of the bytes that its words name.
-- (Words and text are this project's own.)
use Rattle.std.specs.Prelude.{◌≡◌, ◌≢◌, ◌<◌, ◌≤◌, ℕ, List, [], ◌∷◌, ◌++◌, All, None, unwrap_or, codes, length, map}
use Rattle.std.specs.List.{flat_map}
use Rattle.clap.specs.declared.parser.matches.ArgMatches.{ArgMatches}
use Rattle.stream80.specs.WholeText.{text_limit}
use Rattle.loader80_text.specs.{declared.inputs.repeated.Repeated.Repeated, Text.text_of, Words.word_of}
use Rattle.plm80_console.specs.{Answer.AnswerValue, Answer.writes, Arguments.argument_text, Arguments.argument_values, Journal.FileValue}
use Rattle.plm80_runs.specs.declared.inputs.InputsFileFault.TheVariants.{BadInput, TooLong, Memory}
use Rattle.plm80_runs.specs.declared.inputs.InputsArguments.{InputsArguments}
use Rattle.plm80_runs.specs.declared.inputs.InputsFileFault.{InputsFileFault}

-- a word names inputs
abbrev pub IsGoodWord : List ℕ → Type 0
IsGoodWord word = word_of word ≢ None

-- the inputs that words name, one after another
abbrev pub inputs_named : (words : List (List ℕ)) → List Repeated
inputs_named words = flat_map (λ word. unwrap_or (word_of word) []) words

-- the first of the words that names none
pub record IsFirstBadWord (words : List (List ℕ)) (word : List ℕ) : Type 0 where
  pub before : List (List ℕ)
  pub after : List (List ℕ)
  pub are_words : words ≡ before ++ word ∷ after
  pub good : All IsGoodWord before
  pub bad : word_of word ≡ None

-- why words name no inputs
abbrev pub FaultsWords : (words : List (List ℕ)) → InputsFileFault → Type 0
FaultsWords words (BadInput word) = IsFirstBadWord words word.now
FaultsWords words TooLong = ⊥
FaultsWords words Memory = Unit {0}

-- why they give no file
abbrev pub FaultsFile : (words : List (List ℕ)) → InputsFileFault → Type 0
FaultsFile words (BadInput word) = IsFirstBadWord words word.now
FaultsFile words TooLong = All IsGoodWord words × (text_limit < length (text_of (inputs_named words)))
FaultsFile words Memory = Unit {0}

pub record AreInputsArguments (matches : ArgMatches) (arguments : InputsArguments) : Type 0 where
  pub out : arguments.out.now ≡ argument_text matches (codes "OUT")
  pub words : map (λ word. word.now) arguments.words.items ≡ argument_values matches (codes "WORD")

-- every word names inputs; the text of these, which is short enough, goes to the file; no file is read
pub record IsInputsFile (words : List (List ℕ)) (out : List ℕ) (answer : AnswerValue) : Type 0 where
  pub good : All IsGoodWord words
  pub within : length (text_of (inputs_named words)) ≤ text_limit
  pub answer_is : answer ≡ writes out (text_of (inputs_named words)) []

abbrev pub AnswersWords : InputsArguments → List FileValue → AnswerValue → Type 0
AnswersWords arguments files answer = IsInputsFile (map (λ word. word.now) arguments.words.items) arguments.out.now answer
