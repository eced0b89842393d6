use Rattle.std.proofs.Common.{◌≡◌, ◌∙◌, ℕ, ◌<◌, ◌≤◌, Bool, true, false, List, length, ap, inl, inr, refl, sym, true≢false}
use Rattle.std.specs.Prelude.{◌↔◌, string_bytes}
use Rattle.std.proofs.lemmas.Bool.{cases_lt}
use Rattle.machine80.specs.Ports.{lists_of}
use Rattle.machine80.specs.Step.{Machine, machine}
use Rattle.loader80.specs.declared.replies.Outcome.{Outcome}
use Rattle.loader80.specs.TranscriptText.{transcript}
use Rattle.loader80.proofs.TranscriptLemmas.{RanOn, transcript_made}
use Rattle.loader80.proofs.replies.transcribe.Goals as goal

-- where memory did not run out, a refusal came at the limit
full_where_refused : (short : Bool) (refused count limit : ℕ) → (short ≡ true) ↔ ((0 < refused) × (count < limit)) → short ≡ false → 0 < refused → limit ≤ count
full_where_refused short refused count limit is enough some = elim (cases_lt count limit) [ inl below ↦ absurd (true≢false (sym (is.1 (some, below)) ∙ enough)) | inr full ↦ full ]

pub returns-in-Ok-transcript_text : goal.returns-in-Ok-transcript_text
returns-in-Ok-transcript_text c =
    let last : Machine = machine c.run-ended.result.cpu c.run-ended.new.bus c.run-ended.new.ports.inputs c.run-ended.new.ports.outputs in
    let o : Outcome = record { stack_bytes = c.stack_bytes.result; end = c.run-ended.result.end; steps = c.run-ended.result.steps; at = c.pc.result } in
    let ports : RanOn (lists_of c.args.inputs.pairs.items) c.args.outputs c.new-ports.result c.run-ended.new.ports c.run-ended.result.end = record {
      inputs_before = c.new-ports.ensures.inputs;
      outputs_before = c.new-ports.ensures.outputs;
      refused_before = c.new-ports.ensures.refused;
      limit_before = c.new-ports.ensures.limit;
      ports_after = c.run-ended.ensures.ports;
    } in
    let outputs : c.outputs.result.now ≡ c.run-ended.new.ports.outputs = c.outputs.ensures in
    let text : string_bytes c.in-Ok-transcript_text.text ≡ transcript o.stack_bytes last.outputs o.end o.at o.steps =
    c.in-Ok-transcript_text.ensures ∙ ap (λ (l : List (ℕ × ℕ)). transcript o.stack_bytes l o.end o.at o.steps) outputs in
    let full : 0 < c.run-ended.new.ports.refused → c.args.outputs ≤ length c.run-ended.new.ports.outputs =
    full_where_refused c.was_out_of_memory.result c.run-ended.new.ports.refused (length c.run-ended.new.ports.outputs) c.args.outputs c.was_out_of_memory.ensures c.if-was_out_of_memory.false in
    (c.stack_bytes.ensures.bytes, transcript_made c.args.vouched.now.image (lists_of c.args.inputs.pairs.items) c.args.outputs c.args.steps o (string_bytes c.in-Ok-transcript_text.text) c.new-ports.result c.run-ended.new.ports last ports refl full c.run-ended.ensures.run c.pc.ensures text)
