-- What a session sent, as an answer.
use Rattle.plm80_runs.proofs.Names.{◌≡◌, ◌<◌, ℕ, List, [], Option, Some, Result, Ok, Err, refl, Appends, ◌∙◌, ap, subst, sym, arith, length, take, drop, inl, inr}
use Rattle.plm80_runs.proofs.Names.{take-append-drop, Answers, IsGivenUp, LeavesFront, and_reported}
use Rattle.plm80_runs.proofs.Names.{Outcome, SessionFault, Read, Write, Image, Regions, Inputs, Refused, TooLong, Sends, Says, Texts, Limits, IsAnswered}
use Rattle.plm80_runs.proofs.Names.{prints, IsTakenBack, Journal, and_printed, AnswersTexts, session_status}
use Rattle.plm80_runs.proofs.Names.{AnswerValue, Areas, Located, None, ◌≢◌}
use Rattle.std.proofs.lemmas.Option.{none-some}
use Rattle.image80.specs.RegionsText.{Refuses, Spells}
use Rattle.image80.specs.declared.fault.RegionsFault.{RegionsFault, TheVariants.Memory as RegionsMemory}
use Rattle.image80_file.specs.ImageFile.{NeverBothImage, without_regions}
use Rattle.loader80.specs.{InputsText.bad_line, Session.Faults, Session.SpellsProgram}
use Rattle.loader80.specs.declared.fault.SessionFault.TheVariants.{Memory}
use Rattle.plm80_console.specs.Journal.{Blames, and_blamed}
use Rattle.plm80_console.specs.Journal.Blames.{other as other_fault, wrong as what_is_wrong}
use Rattle.plm80_names.specs.Blaming.{GivesUpOrBlames}
use Rattle.plm80_names.specs.Blaming.GivesUpOrBlames.{given_up, wrong}
use Rattle.plm80_runs.specs.Running.{fault_file, texts_of}
use Rattle.plm80_runs.specs.declared.run_arguments.RunTexts.{RunTexts}
use Rattle.plm80_console.specs.Answer.IsGivenUp.{within as unfinished}
use Rattle.plm80_names.specs.FrontLaws.{nothing_printed, printed, stopped, stops_as_answer}

-- what a session sent, if its answer has a status
sent : (limits : Limits) (texts : Texts) (said : Result Outcome SessionFault) (before after : Option (List ℕ)) (status : ℕ)
    → Sends limits.outputs limits.steps texts said before after → session_status said ≡ Ok status
    → (text : List ℕ) × Says limits.outputs limits.steps texts said text × Appends before after text
sent limits texts (Ok outcome) before after status sends is = (sends.text, sends.answers.1, sends.appended)
sent limits texts (Err (Refused refusal)) before after status sends is = (sends.text, sends.answers.1, sends.appended)
sent limits texts (Err (Read n)) before after status sends is = absurd cc
sent limits texts (Err Write) before after status sends is = absurd cc
sent limits texts (Err (Image f)) before after status sends is = absurd cc
sent limits texts (Err (Regions f)) before after status sends is = absurd cc
sent limits texts (Err (Inputs n)) before after status sends is = absurd cc
sent limits texts (Err Memory) before after status sends is = absurd cc
sent limits texts (Err (TooLong n)) before after status sends is = absurd cc

pub session_given : (limits : Limits) (texts : Texts) (said : Result Outcome SessionFault) (before after : Option (List ℕ)) (old between new : Journal)
    (status : ℕ) → before ≡ Some [] → between ≡ old → Sends limits.outputs limits.steps texts said before after → session_status said ≡ Ok status
    → IsTakenBack after between new → IsAnswered (AnswersTexts limits texts) old new status
session_given limits texts said before after old between new status empty same sends is taken =
    let all = sent limits texts said before after status sends is in
    record {
      answer = prints all.0 status;
      answers = record { said = said; says = all.1; status_is = is; no_first = refl; no_file = refl };
      given = record {
        journal = printed before after all.0 old between new empty same all.2 taken ∙ ap (λ (j : Journal). and_printed j all.0) (sym (nothing_printed old));
        status_is = refl;
      };
    }

-- ---- a session that was given up

no_part : (text : List ℕ) (count : ℕ) → text ≡ [] → count < length text → ⊥
no_part text count none part = let empty : length text ≡ 0 = ap length none in omega (arith, empty, part)

-- a text of which a front part may be missing is that of an answer
whole_answer : (limits : Limits) (texts : Texts) (said : Result Outcome SessionFault) (text : List ℕ) (count : ℕ)
    → Answers limits.outputs limits.steps texts said text → count < length text → (status : ℕ) × AnswersTexts limits texts (prints text status)
whole_answer limits texts (Ok o) text count answers part = (_, record { said = Ok o; says = answers.1; status_is = refl; no_first = refl; no_file = refl })
whole_answer limits texts (Err (Refused r)) text count answers part =
    (1, record { said = Err (Refused r); says = answers.1; status_is = refl; no_first = refl; no_file = refl })
whole_answer limits texts (Err (Read n)) text count answers part = absurd (no_part text count answers.1 part)
whole_answer limits texts (Err (TooLong n)) text count answers part = absurd (no_part text count answers.1 part)
whole_answer limits texts (Err Memory) text count answers part = absurd (no_part text count answers part)
whole_answer limits texts (Err Write) text count answers part = absurd answers.1
whole_answer limits texts (Err (Regions f)) text count answers part = absurd (no_part text count answers.1.2 part)
whole_answer limits texts (Err (Image f)) text count answers part = absurd (no_part text count answers.1.3 part)
whole_answer limits texts (Err (Inputs n)) text count answers part = absurd (no_part text count answers.1.2 part)

-- nothing was sent
sent_none : (limits : Limits) (texts : Texts) (said : Result Outcome SessionFault) (fault : SessionFault) (before after : Option (List ℕ))
    → session_status said ≡ Err fault → Sends limits.outputs limits.steps texts said before after
    → LeavesFront (λ text. (status : ℕ) × AnswersTexts limits texts (prints text status)) before after
sent_none limits texts (Ok o) fault before after is sends = absurd cc
sent_none limits texts (Err (Refused r)) fault before after is sends = absurd cc
sent_none limits texts (Err Write) fault before after is sends =
    inr (
      sends.text,
      whole_answer limits texts sends.answer sends.text sends.count sends.answers sends.part,
      record {
        front = take sends.count sends.text;
        rest = drop sends.count sends.text;
        parts = sym (take-append-drop sends.count sends.text);
        appended = sends.appended;
      },
    )
sent_none limits texts (Err (Read n)) fault before after is sends = inl (subst (Appends before after) sends.answers.1 sends.appended)
sent_none limits texts (Err (TooLong n)) fault before after is sends = inl (subst (Appends before after) sends.answers.1 sends.appended)
sent_none limits texts (Err Memory) fault before after is sends = inl (subst (Appends before after) sends.answers sends.appended)
sent_none limits texts (Err (Regions f)) fault before after is sends = inl (subst (Appends before after) sends.answers.1.2 sends.appended)
sent_none limits texts (Err (Image f)) fault before after is sends = inl (subst (Appends before after) sends.answers.1.3 sends.appended)
sent_none limits texts (Err (Inputs n)) fault before after is sends = inl (subst (Appends before after) sends.answers.1.2 sends.appended)

pub session_given_up : (limits : Limits) (texts : Texts) (said : Result Outcome SessionFault) (fault : SessionFault) (before after : Option (List ℕ))
    (old lent between new : Journal) → before ≡ Some [] → lent ≡ old → Sends limits.outputs limits.steps texts said before after
    → session_status said ≡ Err fault → IsTakenBack after lent between → new ≡ and_reported between
    → IsGivenUp (AnswersTexts limits texts) old new
session_given_up limits texts said fault before after old lent between new empty same sends is taken reported =
    stopped (λ text. (status : ℕ) × AnswersTexts limits texts (prints text status)) (AnswersTexts limits texts) before after old lent between new
    empty same (sent_none limits texts said fault before after is sends) taken reported
    (λ text whole stops. unfinished (prints text whole.0) whole.1 (stops_as_answer text whole.0 old new stops))

-- ---- a session whose texts are blamed

-- a text that spells regions is refused only if memory runs out
abbrev pub NeverRefused : Type 0
NeverRefused = (text : List ℕ) (areas : Areas) (fault : RegionsFault) → Spells text areas → Refuses text fault → fault ≡ RegionsMemory

-- the texts of an answer spell a program and its inputs
spelled : (limits : Limits) (texts : Texts) (answer : AnswerValue) (said : Result Outcome SessionFault) → Says limits.outputs limits.steps texts said answer.lines
    → session_status said ≡ Ok answer.status → ((image : Located) × SpellsProgram texts image) × (bad_line texts.inputs ≡ None)
spelled limits texts answer (Ok o) says is = ((says.image, says.program), says.inputs)
spelled limits texts answer (Err (Refused r)) says is = ((says.0.0, says.0.1), says.2)
spelled limits texts answer (Err (Read n)) says is = absurd cc
spelled limits texts answer (Err Write) says is = absurd cc
spelled limits texts answer (Err (Image f)) says is = absurd cc
spelled limits texts answer (Err (Regions f)) says is = absurd cc
spelled limits texts answer (Err (Inputs n)) says is = absurd cc
spelled limits texts answer (Err Memory) says is = absurd cc
spelled limits texts answer (Err (TooLong n)) says is = absurd cc

-- a fault of the bytes of a text, which leaves no answer
no_answer : NeverRefused → NeverBothImage → (limits : Limits) (texts : RunTexts) (fault : SessionFault) (text : List ℕ) (answer : AnswerValue)
    → Faults (texts_of texts) fault text → fault_file texts fault ≢ None → AnswersTexts limits (texts_of texts) answer → ⊥
no_answer refused both limits texts (Regions f) text answer faults of_file is =
    let all = spelled limits (texts_of texts) answer is.said is.says is.status_is in
    faults.1 (refused (texts_of texts).regions all.0.0.regions f all.0.1.regions faults.0)
no_answer refused both limits texts (Image f) text answer faults of_file is =
    let all = spelled limits (texts_of texts) answer is.said is.says is.status_is in
    both (texts_of texts).image (without_regions all.0.0) f all.0.1.contents faults.1
no_answer refused both limits texts (Inputs n) text answer faults of_file is =
    none-some n (sym (spelled limits (texts_of texts) answer is.said is.says is.status_is).1 ∙ faults.1)
no_answer refused both limits texts (Refused r) text answer faults of_file is = absurd (of_file refl)
no_answer refused both limits texts (Read n) text answer faults of_file is = absurd (of_file refl)
no_answer refused both limits texts Write text answer faults of_file is = absurd (of_file refl)
no_answer refused both limits texts Memory text answer faults of_file is = absurd (of_file refl)
no_answer refused both limits texts (TooLong n) text answer faults of_file is = absurd (of_file refl)

-- what was sent of such a fault: nothing
sent_fault : (limits : Limits) (texts : RunTexts) (fault : SessionFault) (before after : Option (List ℕ))
    → Sends limits.outputs limits.steps (texts_of texts) (Err fault) before after → fault_file texts fault ≢ None
    → (text : List ℕ) × Faults (texts_of texts) fault text × Appends before after []
sent_fault limits texts (Regions f) before after sends of_file =
    (sends.text, sends.answers.1, subst (Appends before after) sends.answers.1.2 sends.appended)
sent_fault limits texts (Image f) before after sends of_file =
    (sends.text, sends.answers.1, subst (Appends before after) sends.answers.1.3 sends.appended)
sent_fault limits texts (Inputs n) before after sends of_file =
    (sends.text, sends.answers.1, subst (Appends before after) sends.answers.1.2 sends.appended)
sent_fault limits texts (Refused r) before after sends of_file = absurd (of_file refl)
sent_fault limits texts (Read n) before after sends of_file = absurd (of_file refl)
sent_fault limits texts Write before after sends of_file = absurd (of_file refl)
sent_fault limits texts Memory before after sends of_file = absurd (of_file refl)
sent_fault limits texts (TooLong n) before after sends of_file = absurd (of_file refl)

abbrev fault_in : Result ℕ SessionFault → SessionFault
fault_in (Ok status) = Memory
fault_in (Err fault) = fault

abbrev is_said : SessionFault → Result Outcome SessionFault
is_said fault = Err fault

abbrev has_none : SessionFault → Result ℕ SessionFault
has_none fault = Err fault

of_fault : (fault other : SessionFault) → has_none fault ≡ has_none other → is_said fault ≡ is_said other
of_fault fault other is = ap is_said (ap fault_in is)

-- what is said is the fault, if it has no status
said_fault : (said : Result Outcome SessionFault) (fault : SessionFault) → session_status said ≡ Err fault → said ≡ Err fault
said_fault (Ok o) fault is = absurd cc
said_fault (Err (Refused r)) fault is = absurd cc
said_fault (Err (Read n)) fault is = of_fault (Read n) fault is
said_fault (Err Write) fault is = of_fault Write fault is
said_fault (Err (Image f)) fault is = of_fault (Image f) fault is
said_fault (Err (Regions f)) fault is = of_fault (Regions f) fault is
said_fault (Err (Inputs n)) fault is = of_fault (Inputs n) fault is
said_fault (Err Memory) fault is = of_fault Memory fault is
said_fault (Err (TooLong n)) fault is = of_fault (TooLong n) fault is

pub session_blamed_or_given_up : NeverRefused → NeverBothImage → (limits : Limits) (texts : RunTexts) (said : Result Outcome SessionFault)
    (fault : SessionFault) (before after : Option (List ℕ)) (old lent between new : Journal) → before ≡ Some [] → lent ≡ old
    → Sends limits.outputs limits.steps (texts_of texts) said before after → session_status said ≡ Err fault → IsTakenBack after lent between
    → Blames (fault_file texts fault ≢ None) between new
    → GivesUpOrBlames ((answer : AnswerValue) → AnswersTexts limits (texts_of texts) answer → ⊥) (AnswersTexts limits (texts_of texts)) old new
session_blamed_or_given_up refused both limits texts said fault before after old lent between new empty same sends is taken (other_fault reported) =
    given_up (session_given_up limits (texts_of texts) said fault before after old lent between new empty same sends is taken reported)
session_blamed_or_given_up refused both limits texts said fault before after old lent between new empty same sends is taken (what_is_wrong of_file blamed) =
    let own = sent_fault limits texts fault before after
    (subst (λ (s : Result Outcome SessionFault). Sends limits.outputs limits.steps (texts_of texts) s before after) (said_fault said fault is) sends) of_file in
    wrong (λ answer answers. no_answer refused both limits texts fault own.0 answer own.1 of_file answers)
    (blamed ∙ ap and_blamed (printed before after [] old lent between empty same own.2 taken ∙ nothing_printed old))
