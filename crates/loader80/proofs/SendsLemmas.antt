-- What is answered for three texts is sent.
use Rattle.std.specs.Prelude.{◌≡◌, ℕ, ◌<◌, List, Option, Some, Result, Ok, Err, IfSome, length, take, refl}
use Rattle.std.specs.Io.KnownBytes.{Appends}
use Rattle.std.proofs.Common.{subst}
use Rattle.loader80.specs.declared.replies.Outcome.{Outcome}
use Rattle.loader80.specs.declared.fault.SessionFault.{SessionFault}
use Rattle.loader80.specs.declared.fault.SessionFault.TheVariants.{Read, Write, Memory, TooLong, Image, Regions, Inputs, Refused}
use Rattle.loader80.specs.Texts.{Texts}
use Rattle.loader80.specs.Session.{Says}
use Rattle.loader80.specs.Sends.{AreWithin, Answers, Sends, SendsPrefix, read_failures_at, write_failures_of}

-- a text that is known and read
pub told_text : (left : Option (List ℕ)) (bytes text : List ℕ) → IfSome left (λ told. bytes ≡ told) → left ≡ Some text → bytes ≡ text
told_text left bytes text whole told = subst (λ (o : Option (List ℕ)). IfSome o (λ x. bytes ≡ x)) told whole

-- the texts as they were read
pub record Read3 (i r n : List ℕ) (t : Texts) : Type 0 where
  pub image : i ≡ t.image
  pub regions : r ≡ t.regions
  pub inputs : n ≡ t.inputs

pub says_at : (limit steps : ℕ) (i r n : List ℕ) (t : Texts) (answer : Result Outcome SessionFault) (text : List ℕ) → Read3 i r n t → Says limit steps (record { image = i; regions = r; inputs = n }) answer text → Says limit steps t answer text
says_at limit steps i r n t answer text same says =
    subst (λ (x : List ℕ). Says limit steps (record { image = t.image; regions = t.regions; inputs = x }) answer text) same.inputs
    (subst (λ (x : List ℕ). Says limit steps (record { image = t.image; regions = x; inputs = n }) answer text) same.regions
    (subst (λ (x : List ℕ). Says limit steps (record { image = x; regions = r; inputs = n }) answer text) same.image says))

-- what is said of texts within the limit is an answer
pub answers_of : (limit steps : ℕ) (t : Texts) (answer : Result Outcome SessionFault) (text : List ℕ) → AreWithin t → Says limit steps t answer text → Answers limit steps t answer text
answers_of limit steps t (Err (Read k)) text within says = absurd says
answers_of limit steps t (Err (TooLong k)) text within says = absurd says
answers_of limit steps t (Err Write) text within says = absurd says
answers_of limit steps t (Err Memory) text within says = says
answers_of limit steps t answer text within says = (within, says)

-- an answer whose text was written whole
pub sends_of : (limit steps : ℕ) (t : Texts) (answer : Result Outcome SessionFault) (text : List ℕ) (old new : Option (List ℕ)) → Says limit steps t answer text → Answers limit steps t answer text → Appends old new text → Sends limit steps t answer old new
sends_of limit steps t (Err Write) text old new says answers appended = absurd says
sends_of limit steps t answer text old new says answers appended = record { text = text; answers = answers; appended = appended }

pub sends_all : (limit steps : ℕ) (i r n : List ℕ) (t : Texts) (answer : Result Outcome SessionFault) (text : List ℕ) (old new : Option (List ℕ)) → Read3 i r n t → AreWithin t → Says limit steps (record { image = i; regions = r; inputs = n }) answer text → Appends old new text → Sends limit steps t answer old new
sends_all limit steps i r n t answer text old new same within says appended =
    let said : Says limit steps t answer text = says_at limit steps i r n t answer text same says in
    sends_of limit steps t answer text old new said (answers_of limit steps t answer text within said) appended

pub prefix_of : (limit steps : ℕ) (t : Texts) (answer : Result Outcome SessionFault) (text : List ℕ) (count : ℕ) (old new : Option (List ℕ)) → AreWithin t → Says limit steps t answer text → count < length text → Appends old new (take count text) → SendsPrefix limit steps t old new
prefix_of limit steps t answer text count old new within says part appended = record {
  answer = answer;
  text = text;
  answers = answers_of limit steps t answer text within says;
  count = count;
  part = part;
  appended = appended;
}

pub sends_prefix : (limit steps : ℕ) (i r n : List ℕ) (t : Texts) (answer : Result Outcome SessionFault) (text : List ℕ) (count : ℕ) (old new : Option (List ℕ)) → Read3 i r n t → AreWithin t → Says limit steps (record { image = i; regions = r; inputs = n }) answer text → count < length text → Appends old new (take count text) → SendsPrefix limit steps t old new
sends_prefix limit steps i r n t answer text count old new same within says part appended =
    prefix_of limit steps t answer text count old new within (says_at limit steps i r n t answer text same says) part appended

-- what is said of texts that were read is no failure of a reader, nor of the writer
pub no_read_failed : (limit steps : ℕ) (t : Texts) (answer : Result Outcome SessionFault) (text : List ℕ) (number : ℕ) → Says limit steps t answer text → read_failures_at number answer ≡ 0
no_read_failed limit steps t (Ok o) text number says = refl
no_read_failed limit steps t (Err (Read k)) text number says = absurd says
no_read_failed limit steps t (Err (TooLong k)) text number says = refl
no_read_failed limit steps t (Err (Regions f)) text number says = refl
no_read_failed limit steps t (Err (Image f)) text number says = refl
no_read_failed limit steps t (Err (Inputs n)) text number says = refl
no_read_failed limit steps t (Err (Refused r)) text number says = refl
no_read_failed limit steps t (Err Write) text number says = refl
no_read_failed limit steps t (Err Memory) text number says = refl

pub no_write_failed : (limit steps : ℕ) (t : Texts) (answer : Result Outcome SessionFault) (text : List ℕ) → Says limit steps t answer text → write_failures_of answer ≡ 0
no_write_failed limit steps t (Ok o) text says = refl
no_write_failed limit steps t (Err (Read k)) text says = refl
no_write_failed limit steps t (Err (TooLong k)) text says = refl
no_write_failed limit steps t (Err (Regions f)) text says = refl
no_write_failed limit steps t (Err (Image f)) text says = refl
no_write_failed limit steps t (Err (Inputs n)) text says = refl
no_write_failed limit steps t (Err (Refused r)) text says = refl
no_write_failed limit steps t (Err Write) text says = absurd says
no_write_failed limit steps t (Err Memory) text says = refl
