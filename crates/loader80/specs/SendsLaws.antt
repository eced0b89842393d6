-- What holds of answers to three texts that are within the limit. (This project's own.)
use Rattle.std.specs.Prelude.{ℕ, ◌<◌, List, Option, Result, length, take}
use Rattle.std.specs.Io.KnownBytes.{Appends}
use Rattle.loader80.specs.declared.replies.Outcome.{Outcome}
use Rattle.loader80.specs.declared.fault.SessionFault.{SessionFault}
use Rattle.loader80.specs.Texts.{Texts}
use Rattle.loader80.specs.Session.{Says}
use Rattle.loader80.specs.Sends.{AreWithin, Sends, SendsPrefix}

-- an answer whose text was written whole is sent
abbrev pub WrittenAnswersAreSent : Type 0
WrittenAnswersAreSent = (limit steps : ℕ) (t : Texts) (answer : Result Outcome SessionFault) (text : List ℕ)
    (old new : Option (List ℕ)) → AreWithin t → Says limit steps t answer text → Appends old new text →
    Sends limit steps t answer old new

-- a proper prefix of an answer's text is a prefix of what is sent
abbrev pub PrefixesAreSent : Type 0
PrefixesAreSent = (limit steps : ℕ) (t : Texts) (answer : Result Outcome SessionFault) (text : List ℕ) (count : ℕ)
    (old new : Option (List ℕ)) → AreWithin t → Says limit steps t answer text → count < length text →
    Appends old new (take count text) → SendsPrefix limit steps t old new
