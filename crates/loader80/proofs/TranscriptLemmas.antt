-- A run on list ports has a transcript.
use Rattle.std.specs.Prelude.{◌≡◌, ℕ, ◌<◌, ◌≤◌, Bool, true, false, nat_lt, List, [], Option, Some, length, refl}
use Rattle.std.proofs.Common.{◌∙◌, ap, sym, subst, arith}
use Rattle.std.proofs.lemmas.Bool.Decides.{nat_tests}
use Rattle.image80.specs.Image.{Located}
use Rattle.machine80.specs.declared.end.End.{End}
use Rattle.machine80.specs.Ports.{PortLists, has_room}
use Rattle.machine80.specs.Step.{Machine, PortsAfter}
use Rattle.machine80.specs.World.{world_at_start}
use Rattle.machine80.specs.Run.{IsRun, Agrees}
use Rattle.loader80.specs.declared.replies.Outcome.{Outcome}
use Rattle.loader80.specs.Session.{IsTranscript}
use Rattle.loader80.specs.TranscriptText.{transcript}

-- the ports before and after a run: they were new, and the count of refusals decides the end
pub record RanOn (inputs : List (List ℕ)) (limit : ℕ) (before after : PortLists) (ending : Option End) : Type 0 where
  pub inputs_before : before.inputs ≡ inputs
  pub outputs_before : before.outputs ≡ []
  pub refused_before : before.refused ≡ 0
  pub limit_before : before.limit ≡ Some limit
  pub ports_after : PortsAfter ending before after

-- the outputs are within the limit
kept_within : (inputs : List (List ℕ)) (limit : ℕ) (before after : PortLists) (ending : Option End) → RanOn inputs limit before after ending → length after.outputs ≤ limit
kept_within inputs limit before after ending ports =
    let none : length before.outputs ≡ 0 = ap length ports.outputs_before in
    let begun : length before.outputs ≤ limit = omega arith in
    let has : has_room before.limit before.outputs = subst (λ (most : Option ℕ). has_room most before.outputs) (sym ports.limit_before) begun in
    subst (λ (most : Option ℕ). has_room most after.outputs) (ports.ports_after.limit ∙ ports.limit_before) (ports.ports_after.room has)

-- a count that rose from none is above it
risen : (a b : ℕ) → a ≡ 0 → nat_lt a b ≡ true → 0 < b
risen a b none rose = grind (arith, nat_tests, none, rose)

-- the transcript, whether or not an output was refused
made : (b : Bool) (image : Located) (inputs : List (List ℕ)) (limit steps : ℕ) (o : Outcome) (text : List ℕ) (before after : PortLists) (last : Machine) → nat_lt before.refused after.refused ≡ b → RanOn inputs limit before after o.end → last.outputs ≡ after.outputs →
    (0 < after.refused → limit ≤ length after.outputs) →
    ((most : Option ℕ) → Agrees b most last.outputs → IsRun image.regions most (world_at_start image inputs []) steps o.steps last o.end) → o.at ≡ last.cpu.pc → text ≡ transcript o.stack_bytes last.outputs o.end o.at o.steps →
    IsTranscript image inputs limit steps o text
made true image inputs limit steps o text before after last rose ports same full run at spells =
    let above : limit ≤ length after.outputs = full (risen before.refused after.refused ports.refused_before rose) in
    let within : length after.outputs ≤ limit = kept_within inputs limit before after o.end ports in
    let as_many : length last.outputs ≡ length after.outputs = ap length same in
    let equal : limit ≡ length last.outputs = omega (arith, above, within, as_many) in
    record {
      last = last;
      run = run (Some limit) (ap Some equal);
      at = at;
      spells = spells;
    }
made false image inputs limit steps o text before after last rose ports same full run at spells = record {
  last = last;
  run = run (Some limit) (subst (λ (l : List (ℕ × ℕ)). length l ≤ limit) (sym same) (kept_within inputs limit before after o.end ports));
  at = at;
  spells = spells;
}

pub transcript_made : (image : Located) (inputs : List (List ℕ)) (limit steps : ℕ) (o : Outcome) (text : List ℕ) (before after : PortLists) (last : Machine) → RanOn inputs limit before after o.end → last.outputs ≡ after.outputs →
    (0 < after.refused → limit ≤ length after.outputs) →
    ((most : Option ℕ) → Agrees (nat_lt before.refused after.refused) most after.outputs → IsRun image.regions most (world_at_start image before.inputs before.outputs) steps o.steps last o.end) → o.at ≡ last.cpu.pc → text ≡ transcript o.stack_bytes last.outputs o.end o.at o.steps →
    IsTranscript image inputs limit steps o text
transcript_made image inputs limit steps o text before after last ports same full run at spells =
    made (nat_lt before.refused after.refused) image inputs limit steps o text before after last refl ports same full
    (λ most agrees.
    subst (λ (i : List (List ℕ)). IsRun image.regions most (world_at_start image i []) steps o.steps last o.end) ports.inputs_before
    (subst (λ (l : List (ℕ × ℕ)). IsRun image.regions most (world_at_start image before.inputs l) steps o.steps last o.end) ports.outputs_before
    (run most (subst (λ (l : List (ℕ × ℕ)). Agrees (nat_lt before.refused after.refused) most l) same agrees))))
    at spells
