-- What a session reads, answers and writes, over readers and a writer whose bytes are known.
use Rattle.std.specs.Prelude.{◌≡◌, ℕ, ◌<◌, ◌≤◌, ◌==◌, List, [], Option, Result, Err, IfSome, length, take, if◌then◌else◌}
use Rattle.std.specs.Io.KnownBytes.{Appends}
use Rattle.stream80.specs.WholeText.{text_limit}
use Rattle.loader80.specs.declared.replies.Outcome.{Outcome}
use Rattle.loader80.specs.declared.fault.SessionFault.{SessionFault}
use Rattle.loader80.specs.declared.fault.SessionFault.TheVariants.{Read, Write, Memory, TooLong}
use Rattle.loader80.specs.Texts.{Texts}
use Rattle.loader80.specs.Session.{Says}

-- why the text of a number is not read
abbrev pub TextFault : ℕ → Option (List ℕ) → SessionFault → Type 0
TextFault number left (Read k) = k ≡ number
TextFault number left (TooLong k) = (k ≡ number) × IfSome left (λ text. text_limit < length text)
TextFault number left Memory = Unit {0}
TextFault number left fault = ⊥

-- each text is within the limit
pub record AreWithin (t : Texts) : Type 0 where
  pub image : length t.image ≤ text_limit
  pub regions : length t.regions ≤ text_limit
  pub inputs : length t.inputs ≤ text_limit

-- the text of this number is the first of the three that is too long
pub data IsTooLong (t : Texts) (number : ℕ) : Type 0 where
  image : number ≡ 1 → text_limit < length t.image → IsTooLong t number
  regions : number ≡ 2 → length t.image ≤ text_limit → text_limit < length t.regions → IsTooLong t number
  inputs : number ≡ 3 → length t.image ≤ text_limit → length t.regions ≤ text_limit → text_limit < length t.inputs →
      IsTooLong t number

-- the texts before the one of this number, of three, are within the limit
pub data IsTurnOf (t : Texts) (number : ℕ) : Type 0 where
  image : number ≡ 1 → IsTurnOf t number
  regions : number ≡ 2 → length t.image ≤ text_limit → IsTurnOf t number
  inputs : number ≡ 3 → length t.image ≤ text_limit → length t.regions ≤ text_limit → IsTurnOf t number

-- what is answered and written for three texts, readers and limits counted in: a text is read after those before it were
-- found to be within the limit
abbrev pub Answers : (limit steps : ℕ) → Texts → Result Outcome SessionFault → List ℕ → Type 0
Answers limit steps t (Err (Read k)) text = IsTurnOf t k × (text ≡ [])
Answers limit steps t (Err (TooLong k)) text = IsTooLong t k × (text ≡ [])
Answers limit steps t (Err Memory) text = text ≡ []
Answers limit steps t answer text = AreWithin t × Says limit steps t answer text

-- the writer holds the whole text of the answer; after a failed write it holds a proper prefix of the text of some
-- answer
pub record SendsAll (limit steps : ℕ) (t : Texts) (answer : Result Outcome SessionFault)
    (old new : Option (List ℕ)) : Type 0 where
  pub text : List ℕ
  pub answers : Answers limit steps t answer text
  pub appended : Appends old new text

pub record SendsPrefix (limit steps : ℕ) (t : Texts) (old new : Option (List ℕ)) : Type 0 where
  pub answer : Result Outcome SessionFault
  pub text : List ℕ
  pub answers : Answers limit steps t answer text
  pub count : ℕ
  pub part : count < length text
  pub appended : Appends old new (take count text)

abbrev pub Sends : (limit steps : ℕ) → Texts → Result Outcome SessionFault → (old new : Option (List ℕ)) → Type 0
Sends limit steps t (Err Write) old new = SendsPrefix limit steps t old new
Sends limit steps t answer old new = SendsAll limit steps t answer old new

-- the failures of the reader of a number, and of the writer, that an answer means
abbrev pub read_failures_at : {A : Type 0} → ℕ → Result A SessionFault → ℕ
read_failures_at number (Err (Read k)) = if k == number then 1 else 0
read_failures_at number answer = 0

abbrev pub write_failures_of : {A : Type 0} → Result A SessionFault → ℕ
write_failures_of (Err Write) = 1
write_failures_of answer = 0
