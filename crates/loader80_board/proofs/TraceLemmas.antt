-- The lines of a run on a board, one after another.
use Rattle.std.proofs.Common.{◌≡◌, ℕ, ◌+◌, ◌<◌, ◌≤◌, Bool, true, false, List, [], ◌∷◌, ◌++◌, length, refl, ap, sym, subst, ◌∙◌, arith, append-nil, take-append-drop, append_assoc, length-append}
use Rattle.std.specs.Prelude.{is_some, min, take, drop, Option, Some, None}
use Rattle.std.specs.Io.KnownBytes.{Appends}
use Rattle.std.proofs.KnownBytes.{Appends-nil, Appends-trans}
use Rattle.omf_model.specs.declared.symbols.Public.{Public}
use Rattle.image80.specs.Regions.{Areas}
use Rattle.machine80.specs.Step.{Machine}
use Rattle.board80.specs.declared.line.Line.{Line}
use Rattle.machine80_board.specs.declared.end.BoardEnd.{BoardEnd}
use Rattle.machine80_board.specs.declared.rules.Running.{Running}
use Rattle.machine80_board.specs.BoardRun.{BoardState, IsBoardRun, IsReached}
use Rattle.machine80_board.specs.Keeping.{HasCome, IsNow}
use Rattle.loader80_trace.specs.declared.limits.Limits.{Limits}
use Rattle.loader80_trace.specs.declared.limits.Span.{Span}
use Rattle.loader80_trace.specs.Lines.{front_text}
use Rattle.loader80_board.specs.declared.ended.BoardEnded.{BoardEnded}
use Rattle.loader80_board.specs.BoardLines.{AreLinesOf, WritesFront, WritesLines, state_line, states_lines, step_line}
use Rattle.loader80_board.specs.BoardStates.{AreStates, last_number}
use Rattle.loader80_board.specs.Keeping.{ComesTo}
use Rattle.loader80_board.proofs.DecideLemmas.{none_after}
use Rattle.loader80_board.proofs.StatesLemmas.{Steps, come_at, ended, lines_more, states_more, stopped, went}

-- a given number of lines have been written, and the run has come so far
pub record Shown (lines : List Line) (regions : Areas) (start : BoardState) (limits : Limits) (span : Span) (publics : List Public) (numbered : Bool) (made : ℕ) (r : Running) (old now : Option (List ℕ)) : Type 0 where
  pub states : List BoardState
  pub are_states : AreStates lines regions limits.outputs start span.from states
  pub counted : length states ≡ made
  pub come : HasCome lines regions limits.outputs start (span.from + made) r
  pub written : Appends old now (states_lines lines regions publics numbered span.from states)

-- the line of the state that is there
abbrev pub next_line : List Line → Areas → List Public → (numbered : Bool) → (number : ℕ) → BoardState → List ℕ
next_line lines regions publics numbered number s = step_line lines regions publics numbered number s

pub shown_first : (lines : List Line) (regions : Areas) (start : BoardState) (limits : Limits) (span : Span) (publics : List Public) (numbered : Bool) (r : Running) (old : Option (List ℕ)) → HasCome lines regions limits.outputs start span.from r →
    Shown lines regions start limits span publics numbered 0 r old old
shown_first lines regions start limits span publics numbered r old come = record {
  states = [];
  are_states = tt;
  counted = refl;
  come = come_at lines regions limits.outputs start span.from (span.from + 0) r (omega arith) come;
  written = Appends-nil old;
}

-- one more line has been written, of the state that the run had reached
pub record Lined (lines : List Line) (regions : Areas) (start : BoardState) (limits : Limits) (span : Span) (publics : List Public) (numbered : Bool) (made : ℕ) (old new : Option (List ℕ)) : Type 0 where
  pub states : List BoardState
  pub are_states : AreStates lines regions limits.outputs start span.from states
  pub counted : length states ≡ made + 1
  pub written : Appends old new (states_lines lines regions publics numbered span.from states)

-- the states with the one that is there
module _ (lines : List Line) (regions : Areas) (start : BoardState) (limits : Limits) (span : Span) (publics : List Public) (numbered : Bool) (made : ℕ) (r : Running) (old now : Option (List ℕ)) (shown : Shown lines regions start limits span publics numbered made r old now) where
  abbrev more : List BoardState
  more = shown.states ++ shown.come.state ∷ []

  are_more : AreStates lines regions limits.outputs start span.from more
  are_more = states_more lines regions limits.outputs start span.from shown.states shown.come.state shown.are_states
      (subst (λ (n : ℕ). IsReached lines regions limits.outputs start (span.from + n) shown.come.state) (sym shown.counted) shown.come.reached)

  one_more : length more ≡ made + 1
  one_more =
      let both : length more ≡ length shown.states + 1 = length-append shown.states (shown.come.state ∷ []) in
      both ∙ ap (λ (n : ℕ). n + 1) shown.counted

  text_more : states_lines lines regions publics numbered span.from more ≡ states_lines lines regions publics numbered span.from shown.states ++ next_line lines regions publics numbered (span.from + made) shown.come.state
  text_more = lines_more lines regions publics numbered span.from shown.states shown.come.state
      ∙ ap (λ (n : ℕ). states_lines lines regions publics numbered span.from shown.states ++ next_line lines regions publics numbered (span.from + n) shown.come.state) shown.counted

  lined : (new : Option (List ℕ)) → Appends now new (next_line lines regions publics numbered (span.from + made) shown.come.state) → Lined lines regions start limits span publics numbered made old new
  lined new line = record {
    states = more;
    are_states = are_more;
    counted = one_more;
    written = subst (λ (l : List ℕ). Appends old new l) (sym text_more) (Appends-trans old now new _ _ shown.written line);
  }

  -- a line that was written in part
  part : (new : Option (List ℕ)) (n : ℕ) → made < span.count → span.from + made ≤ limits.steps → Appends now new (take n (next_line lines regions publics numbered (span.from + made) shown.come.state)) → WritesFront lines regions start limits span publics numbered old new
  part new n inside within line =
      let before : List ℕ = states_lines lines regions publics numbered span.from shown.states in
      let here : List ℕ = next_line lines regions publics numbered (span.from + made) shown.come.state in
      record {
        text = states_lines lines regions publics numbered span.from more;
        are_lines = record { states = more; are_states = are_more; within = (let count = one_more in omega (arith, count, inside, within)); spells = refl };
        written = record {
          front = before ++ take n here;
          rest = drop n here;
          parts = text_more ∙ ap (λ (l : List ℕ). before ++ l) (sym (take-append-drop n here)) ∙ sym (append_assoc before (take n here) (drop n here));
          appended = Appends-trans old now new before (take n here) shown.written line;
        };
      }

pub shown_line : (lines : List Line) (regions : Areas) (start : BoardState) (limits : Limits) (span : Span) (publics : List Public) (numbered : Bool) (made : ℕ) (r : Running) (old now new : Option (List ℕ)) → (shown : Shown lines regions start limits span publics numbered made r old now) →
    Appends now new (next_line lines regions publics numbered (span.from + made) shown.come.state) → Lined lines regions start limits span publics numbered made old new
shown_line lines regions start limits span publics numbered made r old now new shown line = lined lines regions start limits span publics numbered made r old now shown new line

pub shown_part : (lines : List Line) (regions : Areas) (start : BoardState) (limits : Limits) (span : Span) (publics : List Public) (numbered : Bool) (made : ℕ) (r : Running) (old now new : Option (List ℕ)) (n : ℕ) → (shown : Shown lines regions start limits span publics numbered made r old now) → made < span.count →
    span.from + made ≤ limits.steps → Appends now new (take n (next_line lines regions publics numbered (span.from + made) shown.come.state)) → WritesFront lines regions start limits span publics numbered old new
shown_part lines regions start limits span publics numbered made r old now new n shown inside within line = part lines regions start limits span publics numbered made r old now shown new n inside within line

-- the whole lines that have been written
pub shown_front : (lines : List Line) (regions : Areas) (start : BoardState) (limits : Limits) (span : Span) (publics : List Public) (numbered : Bool) (made : ℕ) (r : Running) (old now : Option (List ℕ)) → Shown lines regions start limits span publics numbered made r old now → made ≤ span.count → span.from + made ≤ limits.steps →
    WritesFront lines regions start limits span publics numbered old now
shown_front lines regions start limits span publics numbered made r old now shown inside within = record {
  text = states_lines lines regions publics numbered span.from shown.states;
  are_lines = record { states = shown.states; are_states = shown.are_states; within = omega (arith, shown.counted, inside, within); spells = refl };
  written = record {
    front = states_lines lines regions publics numbered span.from shown.states;
    rest = [];
    parts = sym (append-nil (states_lines lines regions publics numbered span.from shown.states));
    appended = shown.written;
  };
}

-- the next line is due
pub shown_next : (lines : List Line) (regions : Areas) (start : BoardState) (limits : Limits) (span : Span) (publics : List Public) (numbered : Bool) (made : ℕ) (r after : Running) (ending : Option BoardEnd) (old now new : Option (List ℕ)) → (shown : Shown lines regions start limits span publics numbered made r old now) →
    Appends now new (next_line lines regions publics numbered (span.from + made) shown.come.state) → is_some ending ≡ false → Steps lines regions limits.outputs r after ending → Shown lines regions start limits span publics numbered (made + 1) after old new
shown_next lines regions start limits span publics numbered made r after ending old now new shown line none turned =
    let l = shown_line lines regions start limits span publics numbered made r old now new shown line in
    record {
      states = l.states;
      are_states = l.are_states;
      counted = l.counted;
      come = come_at lines regions limits.outputs start (span.from + made + 1) (span.from + (made + 1)) after (omega arith) (went lines regions limits.outputs start (span.from + made) r after ending none shown.come turned);
      written = l.written;
    }

-- the last line that the steps allow
pub shown_at_limit : (lines : List Line) (regions : Areas) (start : BoardState) (limits : Limits) (span : Span) (publics : List Public) (numbered : Bool) (made : ℕ) (r : Running) (old now new : Option (List ℕ)) → (shown : Shown lines regions start limits span publics numbered made r old now) →
    Appends now new (next_line lines regions publics numbered (span.from + made) shown.come.state) → made < span.count → span.from + made ≡ limits.steps →
    WritesLines lines regions start limits span publics numbered (Some (record { end = None; steps = span.from + made; at = r.cpu.pc })) old new
shown_at_limit lines regions start limits span publics numbered made r old now new shown line inside last =
    let l = shown_line lines regions start limits span publics numbered made r old now new shown line in
    record {
      text = states_lines lines regions publics numbered span.from l.states;
      are_lines = record {
        first = record { states = l.states; are_states = l.are_states; within = omega (arith, l.counted, inside, last); spells = refl };
        all = λ number s reached here before most. omega (arith, l.counted, last, most);
      };
      traced = record {
        run = record {
          last = shown.come.state;
          run = (last, shown.come.reached);
          at = sym (ap (λ (m : Machine). m.cpu.pc) shown.come.now.is);
        };
        within = omega (arith, inside);
      };
      written = l.written;
    }

-- the line of the instruction that ends the run
pub shown_at_end : (lines : List Line) (regions : Areas) (start : BoardState) (limits : Limits) (span : Span) (publics : List Public) (numbered : Bool) (made : ℕ) (r after : Running) (ending : Option BoardEnd) (old now new : Option (List ℕ)) → (shown : Shown lines regions start limits span publics numbered made r old now) →
    Appends now new (next_line lines regions publics numbered (span.from + made) shown.come.state) → made < span.count → span.from + made < limits.steps → is_some ending ≡ true → Steps lines regions limits.outputs r after ending →
    WritesLines lines regions start limits span publics numbered (Some (record { end = ending; steps = span.from + made + 1; at = after.cpu.pc })) old new
shown_at_end lines regions start limits span publics numbered made r after None old now new shown line inside within some turned = absurd (cc)
shown_at_end lines regions start limits span publics numbered made r after (Some e) old now new shown line inside within some turned =
    let l = shown_line lines regions start limits span publics numbered made r old now new shown line in
    let so = ended lines regions limits.outputs limits.steps start (span.from + made) r after (Some e) some within shown.come turned in
    record {
      text = states_lines lines regions publics numbered span.from l.states;
      are_lines = record {
        first = record { states = l.states; are_states = l.are_states; within = omega (arith, l.counted, inside, within); spells = refl };
        all = λ number s reached here before most. (
            let less : number < span.from + made + 1 = none_after lines regions limits.outputs start (span.from + made + 1) so.last e so.run.1 number s reached in
            omega (arith, l.counted, less));
      };
      traced = record { run = so; within = omega (arith, inside) };
      written = l.written;
    }

-- the lines ran out
pub shown_all : (lines : List Line) (regions : Areas) (start : BoardState) (limits : Limits) (span : Span) (publics : List Public) (numbered : Bool) (made : ℕ) (r : Running) (old now : Option (List ℕ)) → Shown lines regions start limits span publics numbered made r old now → made ≡ span.count → span.from + made ≤ limits.steps →
    WritesLines lines regions start limits span publics numbered None old now
shown_all lines regions start limits span publics numbered made r old now shown all within = record {
  text = states_lines lines regions publics numbered span.from shown.states;
  are_lines = record {
    first = record { states = shown.states; are_states = shown.are_states; within = omega (arith, shown.counted, all, within); spells = refl };
    all = λ number s reached here before most. omega (arith, shown.counted, all, before);
  };
  traced = record {
    last = shown.come.state;
    reached = subst (λ (n : ℕ). IsReached lines regions limits.outputs start (span.from + n) shown.come.state) all shown.come.reached;
    within = omega (arith, all, within);
  };
  written = shown.written;
}

-- a line made part by part
pub line_made : (lines : List Line) (regions : Areas) (limits : Limits) (publics : List Public) (numbered : Bool) (number : ℕ) (s : BoardState) (r : Running) (first second third : List ℕ) → IsNow lines s r → first ≡ [] → second ≡ first ++ front_text publics numbered r.cpu.pc number →
    third ≡ second ++ state_line lines regions s → third ≡ next_line lines regions publics numbered number s
line_made lines regions limits publics numbered number s r first second third now e f g =
    g ∙ ap (λ (l : List ℕ). l ++ state_line lines regions s) (f ∙ ap (λ (l : List ℕ). l ++ front_text publics numbered r.cpu.pc number) e)
    ∙ sym (ap (λ (m : Machine). front_text publics numbered m.cpu.pc number ++ state_line lines regions s) now.is)

-- no line comes within the run
no_line : (lines : List Line) (regions : Areas) (start : BoardState) (limits : Limits) (span : Span) (publics : List Public) (numbered : Bool) → ((number : ℕ) (s : BoardState) → IsReached lines regions limits.outputs start number s → span.from ≤ number → number ≤ limits.steps → ⊥) → AreLinesOf lines regions start limits span publics numbered []
no_line lines regions start limits span publics numbered none = record {
  first = record { states = []; are_states = tt; within = omega arith; spells = refl };
  all = λ number s reached here before most. absurd (none number s reached here most);
}

-- the run ended before the first line
pub ended_before : (lines : List Line) (regions : Areas) (start : BoardState) (limits : Limits) (span : Span) (publics : List Public) (numbered : Bool) (r : Running) (before : ℕ) (ended : BoardEnded) (old : Option (List ℕ)) → before ≡ min span.from limits.steps → ComesTo lines regions limits.outputs start before r (Some ended) →
    WritesLines lines regions start limits span publics numbered (Some ended) old old
ended_before lines regions start limits span publics numbered r before ended old first comes = by_end ended.end refl
  where
    by_end : (ending : Option BoardEnd) → ended.end ≡ ending → WritesLines lines regions start limits span publics numbered (Some ended) old old
    by_end None is = absurd (let bad : false ≡ true = ap (λ (o : Option BoardEnd). is_some o) (sym is) ∙ comes.1 in cc)
    by_end (Some e) is =
        let run : IsBoardRun lines regions limits.outputs start before ended.steps comes.0.last (Some e) = subst (λ (o : Option BoardEnd). IsBoardRun lines regions limits.outputs start before ended.steps comes.0.last o) is comes.0.run in
        let number : last_number ended.end ended.steps ≡ last_number (Some e) ended.steps = ap (λ (o : Option BoardEnd). last_number o ended.steps) is in
        record {
          text = [];
          are_lines = no_line lines regions start limits span publics numbered (λ number s reached here most. (
              let less : number < ended.steps = none_after lines regions limits.outputs start ended.steps comes.0.last e run.1 number s reached in
              omega (arith, less, run.0, first, here)));
          traced = record {
            run = record {
              last = comes.0.last;
              run = subst (λ (o : Option BoardEnd). IsBoardRun lines regions limits.outputs start limits.steps ended.steps comes.0.last o) (sym is) (omega (arith, run.0, first), run.1);
              at = comes.0.at;
            };
            within = omega (arith, number, run.0, run.1.counted, first);
          };
          written = Appends-nil old;
        }

-- the steps were used up before the first line
pub stopped_before : (lines : List Line) (regions : Areas) (start : BoardState) (limits : Limits) (span : Span) (publics : List Public) (numbered : Bool) (r : Running) (before : ℕ) (old : Option (List ℕ)) → before ≡ min span.from limits.steps → limits.steps < span.from → HasCome lines regions limits.outputs start before r →
    WritesLines lines regions start limits span publics numbered (Some (record { end = None; steps = limits.steps; at = r.cpu.pc })) old old
stopped_before lines regions start limits span publics numbered r before old first less come = record {
  text = [];
  are_lines = no_line lines regions start limits span publics numbered (λ number s reached here most. omega (arith, less, here, most));
  traced = record {
    run = stopped lines regions limits.outputs limits.steps start before r (omega (arith, first, less)) come;
    within = omega (arith, less);
  };
  written = Appends-nil old;
}

-- nothing has been written yet
pub nothing_written : (lines : List Line) (regions : Areas) (start : BoardState) (limits : Limits) (span : Span) (publics : List Public) (numbered : Bool) (old : Option (List ℕ)) → WritesFront lines regions start limits span publics numbered old old
nothing_written lines regions start limits span publics numbered old = record {
  text = [];
  are_lines = record { states = []; are_states = tt; within = omega arith; spells = refl };
  written = record { front = []; rest = []; parts = refl; appended = Appends-nil old };
}

-- by the answer of the steps before the first line
pub some_ended_before : (lines : List Line) (regions : Areas) (start : BoardState) (limits : Limits) (span : Span) (publics : List Public) (numbered : Bool) (r : Running) (before : ℕ) (ended : Option BoardEnded) (old : Option (List ℕ)) → before ≡ min span.from limits.steps → is_some ended ≡ true →
    ComesTo lines regions limits.outputs start before r ended → WritesLines lines regions start limits span publics numbered ended old old
some_ended_before lines regions start limits span publics numbered r before None old first some comes = absurd (cc)
some_ended_before lines regions start limits span publics numbered r before (Some ended) old first some comes = ended_before lines regions start limits span publics numbered r before ended old first comes

pub come_before : (lines : List Line) (regions : Areas) (most : ℕ) (start : BoardState) (r : Running) (before : ℕ) (ended : Option BoardEnded) → is_some ended ≡ false → ComesTo lines regions most start before r ended → HasCome lines regions most start before r
come_before lines regions most start r before None none comes = comes
come_before lines regions most start r before (Some ended) none comes = absurd (cc)

pub stopped_early : (lines : List Line) (regions : Areas) (start : BoardState) (limits : Limits) (span : Span) (publics : List Public) (numbered : Bool) (r : Running) (before : ℕ) (ended : Option BoardEnded) (old : Option (List ℕ)) → before ≡ min span.from limits.steps → limits.steps < span.from → is_some ended ≡ false →
    ComesTo lines regions limits.outputs start before r ended → WritesLines lines regions start limits span publics numbered (Some (record { end = None; steps = limits.steps; at = r.cpu.pc })) old old
stopped_early lines regions start limits span publics numbered r before ended old first less none comes =
    stopped_before lines regions start limits span publics numbered r before old first less (come_before lines regions limits.outputs start r before ended none comes)
