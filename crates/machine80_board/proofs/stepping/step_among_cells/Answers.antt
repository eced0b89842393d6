use Rattle.std.proofs.Common.{◌≡◌, ◌∙◌, ◌++◌, ◌-◌, List, ℕ, None, Some, ap, arith, length, refl, sym, subst}
use Rattle.std.specs.Prelude.{find, slice_get}
use Rattle.board80.specs.declared.place.Place.TheVariants.{Cell}
use Rattle.machine80.specs.Step.{Machine}
use Rattle.machine80_board.specs.BoardRun.{EndsBy, is_empty_place}
use Rattle.machine80_board.specs.Keeping.{AnswersCells, answering_cells, outputs_among}
use Rattle.machine80_board.proofs.AmongLemmas.{among_empty, among_leads, among_refused, among_stopped}
use Rattle.machine80_board.proofs.RunLemmas.{got, not_below, not_got}
use Rattle.std.proofs.lemmas.Bool.{ltb-true}
use Rattle.machine80_board.specs.declared.end.BoardEnd.{BoardEnd}
use Rattle.machine80_board.specs.declared.output.Output.{Output}
use Rattle.machine80_board.proofs.stepping.step_among_cells.Goals as goal

pub returns-in-Err-clause-turned : goal.returns-in-Err-clause-turned
returns-in-Err-clause-turned c = λ s now fetched.
    let lines = c.args.rules.now.lines.now in
    record {
      ends = among_empty lines c.args.rules.now.regions.now c.args.rules.now.outputs s c.args.running.now c.answer_cells.new.running c.args.found now fetched c.requires.apart c.in-Err.address
          (subst (λ (xs : List ℕ). find (is_empty_place lines s) (answering_cells lines xs) ≡ Some (Cell c.in-Err.address)) c.loaded_cells-loaded.ensures (c.in-Err.ensures.answers s now));
      cpu = c.in-Err.ensures.same.cpu;
      outputs = c.in-Err.ensures.same.outputs;
    }

pub returns-in-Some-clause-turned : goal.returns-in-Some-clause-turned
returns-in-Some-clause-turned c = λ s now fetched.
    let lines = c.args.rules.now.lines.now in
    let mid = c.answer_cells.new.running in
    let ac = subst (λ (xs : List ℕ). AnswersCells lines (answering_cells lines xs) s c.args.running.now mid) c.loaded_cells-loaded.ensures (c.in_default.ensures.answers s now) in
    record {
      ends = among_stopped lines c.args.rules.now.regions.now c.args.rules.now.outputs s c.args.running.now mid c.args.found now fetched c.requires.apart ac
          c.requires.rules.in_data c.code_data_and_stack_are_apart.ensures.code_or_data c.requires.rules.regions c.fetch_reads_code_alone.ensures _ c.in-Some.end c.in-Some.ensures.turn;
      cpu = ap (λ (m : Machine). m.cpu) c.in-Some.ensures.kept ∙ c.in_default.ensures.same.cpu;
      outputs = c.in_default.ensures.same.outputs;
    }

pub returns-in-Some-get-clause-turned : goal.returns-in-Some-get-clause-turned
returns-in-Some-get-clause-turned c = λ s now fetched.
    let lines = c.args.rules.now.lines.now in
    let regions = c.args.rules.now.regions.now in
    let most : ℕ = c.args.rules.now.outputs in
    let old = c.args.running.now in
    let mid = c.answer_cells.new.running in
    let same = c.in_default.ensures.same in
    let ac = subst (λ (xs : List ℕ). AnswersCells lines (answering_cells lines xs) s old mid) c.loaded_cells-loaded.ensures (c.in_default.ensures.answers s now) in
    let outs = c.in_ok-outputs.outputs.items in
    let outs_are = c.in_ok-outputs.ensures ∙ ap (λ (xs : List ℕ). outputs_among lines xs c.step-end.new.bus) c.stored_cells-stored.ensures in
    let count : length mid.outputs.items ≡ length old.outputs.items = ap length same.outputs in
    let room : c.saturating_sub-room.result ≡ most - length old.outputs.items = omega (arith, c.saturating_sub-room.ensures, c.len.ensures, mid.outputs.ok.0, count) in
    let l = c.in-Some-get.ensures.lookup in
    let there : slice_get c.deref.result.now c.saturating_sub-room.result ≡ Some c.in-Some-get.refused.now = got c.deref.result.now c.saturating_sub-room.result c.in-Some-get.refused.now (ltb-true c.saturating_sub-room.result (length c.deref.result.now) (sym l.0)) l.1 in
    let h : slice_get outs (most - length old.outputs.items) ≡ Some c.in-Some-get.refused.now = subst (λ (n : ℕ). slice_get outs n ≡ Some c.in-Some-get.refused.now) room (subst (λ (xs : List Output). slice_get xs c.saturating_sub-room.result ≡ Some c.in-Some-get.refused.now) c.deref.ensures.value there) in
    record {
      ends = subst (λ (e : BoardEnd). EndsBy lines regions most s e) (sym c.refused_end.ensures)
          (among_refused lines regions most s old mid c.args.found now fetched c.requires.apart ac c.requires.rules.in_data c.code_data_and_stack_are_apart.ensures.code_or_data c.requires.rules.regions c.fetch_reads_code_alone.ensures
          same _ c.step-end.new.cpu c.step-end.new.bus outs c.in_default-end.ensures.turn outs_are c.in-Some-get.refused.now h);
      cpu = refl;
      outputs = same.outputs;
    }

pub returns-clause-turned : goal.returns-clause-turned
returns-clause-turned c = λ s now fetched.
    let lines = c.args.rules.now.lines.now in
    let regions = c.args.rules.now.regions.now in
    let most : ℕ = c.args.rules.now.outputs in
    let old = c.args.running.now in
    let mid = c.answer_cells.new.running in
    let same = c.in_default.ensures.same in
    let ac = subst (λ (xs : List ℕ). AnswersCells lines (answering_cells lines xs) s old mid) c.loaded_cells-loaded.ensures (c.in_default.ensures.answers s now) in
    let outs = c.in_ok-outputs.outputs.items in
    let outs_are = c.in_ok-outputs.ensures ∙ ap (λ (xs : List ℕ). outputs_among lines xs c.step-end.new.bus) c.stored_cells-stored.ensures in
    let count : length mid.outputs.items ≡ length old.outputs.items = ap length same.outputs in
    let room : c.saturating_sub-room.result ≡ most - length old.outputs.items = omega (arith, c.saturating_sub-room.ensures, c.len.ensures, mid.outputs.ok.0, count) in
    let l = c.in_default-get.ensures.lookup in
    let there : slice_get c.deref.result.now c.saturating_sub-room.result ≡ None = not_got c.deref.result.now c.saturating_sub-room.result (not_below c.saturating_sub-room.result (length c.deref.result.now) l.0) in
    let h : slice_get outs (most - length old.outputs.items) ≡ None = subst (λ (n : ℕ). slice_get outs n ≡ None) room (subst (λ (xs : List Output). slice_get xs c.saturating_sub-room.result ≡ None) c.deref.ensures.value there) in
    let taken = c.in_ok-take_outputs.ensures.taken ∙ ap (λ (xs : List Output). mid.outputs.items ++ xs) c.deref-2.ensures.value in
    among_leads lines regions most s old mid c.args.found now fetched c.requires.apart ac c.requires.rules.in_data c.code_data_and_stack_are_apart.ensures.code_or_data c.requires.rules.regions c.fetch_reads_code_alone.ensures
    same _ c.step-end.new.cpu c.step-end.new.bus outs c.in_default-end.ensures.turn outs_are c.take_outputs.new.running h
    c.in_ok-take_outputs.ensures.same.cpu c.in_ok-take_outputs.ensures.same.bus c.in_ok-take_outputs.ensures.same.cursors taken c.in_ok-take_outputs.ensures.seen
