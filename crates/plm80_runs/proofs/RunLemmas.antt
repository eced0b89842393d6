-- Runs that are watched, and their exit statuses.
use Rattle.plm80_runs.proofs.Names.{◌≡◌, ℕ, ◌+◌, ◌-◌, ◌≤◌, zero, suc, min, false, List, [], ◌∷◌, Option, None, Some, Result}
use Rattle.plm80_runs.proofs.Names.{IfErr, IfOk, refl, ◌∙◌, ap, arith, length, subst, sym, take, take_all, min-eq_left}
use Rattle.plm80_runs.proofs.Names.{IfErr-weaker, IfOk-weaker, Public, Areas, End, IsRun}
use Rattle.plm80_runs.proofs.Names.{Machine, World, Ended, Voucher, Limits, Span, last_number, ending}
use Rattle.plm80_runs.proofs.Names.{AnswerValue, GaveUp, IsAnswered, IsGiven, IsGivenUp, StopsPrinting, StopsWriting, and_files}
use Rattle.plm80_runs.proofs.Names.{Journal, and_printed, and_reported, last_lines, with_memory}
use Rattle.plm80_runs.proofs.Names.{start_of, trace_ending, trace_lines}
use Rattle.plm80_runs.proofs.Names.{◌++◌, EndsRun, IsFirstOf, PortLists, WatchesRun, flat_map, output_line, stack_line, with_ports}
use Rattle.plm80_names.specs.FrontLaws.{nothing_printed}
use Rattle.loader80_trace.specs.Traces.{run_lines}
use Rattle.plm80_console.specs.Answer.GaveUp.{printing, starting, writing}
use Rattle.plm80_console.specs.Answer.IsGivenUp.{before as unmade, within as unfinished}

-- a run makes no more steps than it may
pub steps_within : (regions : Areas) (most : Option ℕ) (start : World) (limit steps : ℕ) (m : Machine) (ending : Option End)
    → IsRun regions most start limit steps m ending → steps ≤ limit
steps_within regions most start limit steps m None run = let same : steps ≡ limit = run.0 in omega (arith, same)
steps_within regions most start limit steps m (Some e) run = run.0

last_within : (ending : Option End) (steps limit : ℕ) → steps ≤ limit → last_number ending steps ≤ limit
last_within None steps limit within = within
last_within (Some e) steps limit within = omega (arith, within)

-- no instruction is shown
pub no_lines : (inputs : List (ℕ × ℕ)) (limits : Limits) (last : ℕ) (publics : List Public) (program : Voucher) (ended : Ended)
    → last ≡ 0 → last_lines inputs limits last publics program ended ≡ []
unfolding run_lines
no_lines inputs limits last publics program ended none =
    let count : min last (last_number ended.end ended.steps + 1) ≡ 0 = omega (arith, none) in
    ap (λ (n : ℕ). run_lines program.image.regions (Some limits.outputs) (start_of program inputs) publics false
    (last_number ended.end ended.steps + 1 - n) n) count

-- the instructions of the last span are shown
pub last_span : (inputs : List (ℕ × ℕ)) (limits : Limits) (last : ℕ) (publics : List Public) (program : Voucher) (ended : Ended) (span : Span)
    → ended.steps ≤ limits.steps
    → span.count ≡ min last (last_number ended.end ended.steps + 1)
    → span.from + span.count ≡ last_number ended.end ended.steps + 1
    → trace_lines inputs limits span false publics program ≡ last_lines inputs limits last publics program ended
last_span inputs limits last publics program ended span within counted reaches =
    let number = last_number ended.end ended.steps in
    let inside : number ≤ limits.steps = last_within ended.end ended.steps limits.steps within in
    let fits : span.count ≤ limits.steps + 1 - span.from = omega (arith, inside, reaches) in
    let begins : span.from ≡ number + 1 - span.count = omega (arith, reaches) in
    ap (run_lines program.image.regions (Some limits.outputs) (start_of program inputs) publics false span.from) (min-eq_left fits ∙ counted)
    ∙ ap (λ (n : ℕ). run_lines program.image.regions (Some limits.outputs) (start_of program inputs) publics false n (min last (number + 1)))
    (begins ∙ ap (λ (n : ℕ). number + 1 - n) counted)

-- the last line has nothing before it
pub ending_first : (dump : Option (List ℕ)) (memory : List ℕ) (program : Voucher) (publics : List Public) (ended : Ended)
    → (with_memory dump memory (ending program publics ended)).first ≡ []
ending_first None memory program publics ended = refl
ending_first (Some path) memory program publics ended = refl

pub trace_first : (program : Voucher) (publics : List Public) (ended : Option Ended) → (trace_ending program publics ended).first ≡ []
trace_first program publics None = refl
trace_first program publics (Some ended) = refl

-- what is printed before the last line of a run that ended so
abbrev pub run_text : (inputs : List (ℕ × ℕ)) (limits : Limits) (last : ℕ) (publics : List Public) (program : Voucher) (ended : Ended)
    (outputs : List (ℕ × ℕ)) → List ℕ
run_text inputs limits last publics program ended outputs =
    (stack_line program.stack_bytes ++ flat_map output_line outputs) ++ last_lines inputs limits last publics program ended

-- ---- a run that ended so

module _ (inputs : List (ℕ × ℕ)) (limits : Limits) (last : ℕ) (dump : Option (List ℕ)) (publics : List Public) (program : Voucher)
    (ended : Ended) (memory : List ℕ) (ports : PortLists)
    (run : IsRun program.image.regions (Some limits.outputs) (start_of program inputs) limits.steps ended.steps
    (with_ports ended.cpu memory ports) ended.end) where
  pub watched_run : WatchesRun inputs limits last dump publics program (run_text inputs limits last publics program ended ports.outputs) ended
      (with_memory dump memory (ending program publics ended))
  watched_run = record {
    front = stack_line program.stack_bytes ++ flat_map output_line ports.outputs;
    transcript = record { last = with_ports ended.cpu memory ports; run = run; at = refl; spells = refl };
    text_is = refl;
    answer_is = refl;
  }

  -- what is printed first of it
  pub first_of_run : IsFirstOf (EndsRun inputs limits last dump publics program) (run_text inputs limits last publics program ended ports.outputs)
  first_of_run = (
    record (with_memory dump memory (ending program publics ended)) { first = run_text inputs limits last publics program ended ports.outputs },
    record {
      text = run_text inputs limits last publics program ended ports.outputs;
      ended = ended;
      behind = with_memory dump memory (ending program publics ended);
      watched = watched_run;
      answer_is = refl;
    },
    refl,
  )

-- ---- journals

take_none : (n : ℕ) (bytes : List ℕ) → bytes ≡ [] → take n bytes ≡ []
take_none zero bytes none = refl
take_none (suc n) [] none = refl
take_none (suc n) (byte ∷ bytes) none = absurd cc

-- an answer that is one of these with lines before it
module _ (Part : AnswerValue → Type 0) (answer : AnswerValue) (old between new : Journal) (lines : List ℕ) (none : answer.first ≡ [])
    (printed : between ≡ and_printed old lines) (part : Part (record answer { first = lines })) where
  begins : and_printed between answer.first ≡ and_printed old lines
  begins = ap (and_printed between) none ∙ nothing_printed between ∙ printed

  pub answered_behind : {E : Type 0} (r : Result ℕ E) → IfOk r (IsGiven answer between new) → IfOk r (IsAnswered Part old new)
  answered_behind r gave =
      IfOk-weaker r _ _
      (λ status given. record {
        answer = record answer { first = lines };
        answers = part;
        given = record {
          journal = given.journal ∙ ap (λ (j : Journal). and_printed (and_files j answer.files) answer.lines) begins;
          status_is = given.status_is;
        };
      })
      gave

  -- a fault right behind the lines
  stopped_behind : new ≡ and_reported between → StopsPrinting lines old new
  stopped_behind is = (
    length lines,
    is ∙ ap and_reported (printed ∙ ap (and_printed old) (sym (take_all (length lines) lines (omega arith)))),
  )

  gave_up_behind : GaveUp answer between new → GaveUp (record answer { first = lines }) old new
  gave_up_behind (starting stops) =
      let nothing : take stops.0 answer.first ≡ [] = take_none stops.0 answer.first none in
      starting (stopped_behind (stops.1 ∙ ap (λ (l : List ℕ). and_reported (and_printed between l)) nothing
      ∙ ap and_reported (nothing_printed between)))
  gave_up_behind (writing stops) = writing (subst (λ (j : Journal). StopsWriting answer.files j new) begins stops)
  gave_up_behind (printing stops) =
      printing (subst (λ (j : Journal). StopsPrinting answer.lines (and_files j answer.files) new) begins stops)

  pub given_up_behind : {A E : Type 0} (r : Result A E) → IfErr r (λ _. IsGivenUp (λ a. a ≡ answer) between new)
      → IfErr r (λ _. IsGivenUp Part old new)
  given_up_behind r gave = IfErr-weaker r _ _ (λ _. of_up) gave
    where
      of_up : IsGivenUp (λ a. a ≡ answer) between new → IsGivenUp Part old new
      of_up (unmade is) = unfinished (record answer { first = lines }) part (starting (stopped_behind is))
      of_up (unfinished a is up) =
          unfinished (record answer { first = lines }) part (gave_up_behind (subst (λ (b : AnswerValue). GaveUp b between new) is up))
