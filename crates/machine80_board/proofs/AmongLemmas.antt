-- Steps whose instruction is neither IN nor OUT.
use Rattle.std.proofs.Common.{◌≡◌, ℕ, ◌-◌, Bool, true, false, List, [], ◌++◌, length, refl, ap, sym, subst, ◌∙◌}
use Rattle.std.specs.Prelude.{slice_get, map, find, Some, None}
use Rattle.decode80.specs.declared.fetching.Fetched.{Fetched}
use Rattle.decode80.specs.Fetch.{FetchReadsCodeAlone, direct_bytes}
use Rattle.image80.specs.Regions.{Areas, AreRegions, in_code, in_data}
use Rattle.machine80.specs.declared.cpu.Cpu.{Cpu}
use Rattle.machine80.specs.declared.end.End.{End}
use Rattle.machine80.specs.Effects.{pointed_bytes}
use Rattle.machine80.specs.Step.{Machine, Turn, Next, Stop, fetch, machine, step_of}
use Rattle.board80.specs.declared.line.Line.{Line}
use Rattle.board80.specs.declared.place.Place.{Place}
use Rattle.board80.specs.declared.place.Place.TheVariants.{Cell}
use Rattle.machine80_board.specs.declared.end.BoardEnd.TheVariants.{OfMachine, CellEmpty}
use Rattle.machine80_board.specs.declared.output.Output.{Output}
use Rattle.machine80_board.specs.declared.rules.Running.{Running}
use Rattle.machine80_board.specs.BoardRun.{BoardState, DevicesAreData, EndsBy, IsAnswered, answered, is_empty_place, no_inputs}
use Rattle.machine80_board.specs.BoardRun.{machine_by, outputs_by, reads_by, refused_end, refused_output, unanswered, stopped, refused}
use Rattle.machine80_board.specs.Exchanges.{answer_at, loads, outputs_of, places_read}
use Rattle.machine80_board.specs.Keeping.{AnswersCells, HaveGiven, HaveSeen, is_apart, IsNow, IsSame, LeadsOn, answering_cells, outputs_among}
use Rattle.machine80_board.proofs.StepLemmas.{cpu_left, fetched_same, outputs_apart, places_apart, steps_apart}

module _ (lines : List Line) (regions : Areas) (most : ℕ) (s : BoardState) (old mid : Running) (found : Fetched) (now : IsNow lines s old)
    (fetched : fetch regions s.machine.memory s.machine.cpu.pc ≡ Some found) (apart : is_apart found.instr ≡ true) where
  pub cpu_is : s.machine.cpu ≡ old.cpu
  cpu_is = ap (λ (m : Machine). m.cpu) now.is

  abbrev pub cells : List Place
  cells = answering_cells lines (loads found.instr old.cpu.registers)

  pub places_are : places_read lines found.instr s.machine.cpu.registers ≡ cells
  places_are = ap (λ (c : Cpu). places_read lines found.instr c.registers) cpu_is ∙ places_apart lines found.instr old.cpu apart

  pub outputs_are : (after : List ℕ) → outputs_of lines found.instr s.machine.cpu.registers after ≡ outputs_among lines (direct_bytes found.instr ++ pointed_bytes found.instr old.cpu.registers) after
  outputs_are after = ap (λ (c : Cpu). outputs_of lines found.instr c.registers after) cpu_is ∙ outputs_apart lines found.instr old.cpu after apart

  -- a cell with no byte left
  pub among_empty : (address : ℕ) → find (is_empty_place lines s) cells ≡ Some (Cell address) → EndsBy lines regions most s (CellEmpty address)
  among_empty address is = unanswered found (Cell address) fetched (ap (find (is_empty_place lines s)) places_are ∙ is) refl

  module _ (ac : AnswersCells lines (answering_cells lines (loads found.instr old.cpu.registers)) s old mid) where
    abbrev pub by : IsAnswered lines regions s
    by = record {
      found = found;
      fetched = fetched;
      bytes = ac.bytes;
      answers = ap (map (answer_at lines s.reads s.outputs)) places_are ∙ ac.answers;
      small = ac.small;
    }

    pub fed : machine_by by ≡ machine mid.cpu mid.bus no_inputs []
    fed = ap (λ (ps : List Place). answered ps ac.bytes s.machine) places_are ∙ ac.is

    module _ (data_all : DevicesAreData lines regions) (disjoint : (areas : Areas) (address : ℕ) → AreRegions areas → in_code areas address ≡ true → in_data areas address ≡ false)
        (rules : AreRegions regions) (alone : FetchReadsCodeAlone) where
      -- the same instruction is fetched when the answers have come
      pub refetched : fetch regions mid.bus mid.cpu.pc ≡ Some found
      refetched =
          let xs : List ℕ = loads found.instr old.cpu.registers in
          let same : fetch regions (answered cells ac.bytes s.machine).memory s.machine.cpu.pc ≡ Some found = fetched_same lines regions data_all disjoint rules alone xs ac.bytes s.machine found fetched in
          let pc : s.machine.cpu ≡ (answered cells ac.bytes s.machine).cpu = sym (cpu_left lines regions data_all disjoint rules cells ac.bytes s.machine) in
          subst (λ (m : Machine). fetch regions m.memory m.cpu.pc ≡ Some found) ac.is
          (subst (λ (c : Cpu). fetch regions (answered cells ac.bytes s.machine).memory c.pc ≡ Some found) pc same)

      -- what the machine's step answers is that of ports which refuse nothing
      pub unrefused : (was : Bool) (turn : Turn) → step_of regions was (machine mid.cpu mid.bus no_inputs []) ≡ turn → step_of regions false (machine_by by) ≡ turn
      unrefused was turn h = ap (step_of regions false) fed ∙ sym (steps_apart regions was (machine mid.cpu mid.bus no_inputs []) found refetched apart) ∙ h

      pub among_stopped : (was : Bool) (e : End) → step_of regions was (machine mid.cpu mid.bus no_inputs []) ≡ Stop e → EndsBy lines regions most s (OfMachine e)
      among_stopped was e h = stopped by e (unrefused was (Stop e) h) refl

      module _ (same : IsSame old mid) (was : Bool) (cpu : Cpu) (bus : List ℕ) (outs : List Output) (step : step_of regions was (machine mid.cpu mid.bus no_inputs []) ≡ Next (machine cpu bus no_inputs []))
          (outs_are : outs ≡ outputs_among lines (direct_bytes found.instr ++ pointed_bytes found.instr old.cpu.registers) bus) where
        pub put : outputs_by by bus ≡ outs
        put = outputs_are bus ∙ sym outs_are

        pub before : length s.outputs ≡ length old.outputs.items
        before = ap length now.outputs

        pub among_refused : (output : Output) → slice_get outs (most - length old.outputs.items) ≡ Some output → EndsBy lines regions most s (refused_end output.place)
        among_refused output h = refused by (machine cpu bus no_inputs []) output (unrefused was (Next (machine cpu bus no_inputs [])) step)
            (ap (λ (l : List Output). refused_output most s.outputs l) put ∙ ap (λ n. slice_get outs (most - n)) before ∙ h) refl

        pub among_leads : (new : Running) → slice_get outs (most - length old.outputs.items) ≡ None → new.cpu ≡ cpu → new.bus ≡ bus → new.cursors.items ≡ mid.cursors.items →
            new.outputs.items ≡ mid.outputs.items ++ outs → (HaveSeen mid.last.items mid.outputs.items → HaveSeen new.last.items new.outputs.items) → LeadsOn lines regions most s new
        among_leads new room cpu_same bus_same cursors taken seen =
            let t : BoardState = record {
              machine = machine cpu bus no_inputs [];
              reads = s.reads ++ reads_by by;
              outputs = s.outputs ++ outputs_by by bus;
            } in
            let all : s.outputs ++ outputs_by by bus ≡ new.outputs.items = ap (λ (l : List Output). s.outputs ++ l) put ∙ ap (λ (l : List Output). l ++ outs) (now.outputs ∙ sym same.outputs) ∙ sym taken in
            record {
              next = t;
              steps = record {
                by = by;
                there = machine cpu bus no_inputs [];
                step = unrefused was (Next (machine cpu bus no_inputs [])) step;
                room = ap (λ (l : List Output). refused_output most s.outputs l) put ∙ ap (λ n. slice_get outs (most - n)) before ∙ room;
                is = refl;
              };
              now = record {
                is = ap (λ (c : Cpu). machine c bus no_inputs []) (sym cpu_same) ∙ ap (λ (b : List ℕ). machine new.cpu b no_inputs []) (sym bus_same);
                outputs = all;
                given = subst (λ c. HaveGiven lines c (s.reads ++ reads_by by)) (sym cursors) (subst (λ (ps : List Place). HaveGiven lines mid.cursors.items (s.reads ++ ps)) (sym places_are) ac.given);
                seen = subst (λ (l : List Output). HaveSeen new.last.items l) (sym all)
                    (seen (subst (λ (l : List Output). HaveSeen mid.last.items l) (now.outputs ∙ sym same.outputs) (subst (λ l. HaveSeen l s.outputs) (sym same.last) now.seen)));
              };
            }
