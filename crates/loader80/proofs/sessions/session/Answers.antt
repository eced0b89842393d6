use Rattle.std.proofs.Common.{◌<◌, ◌+◌, ◌∙◌, ℕ, List, ◌≤◌, ap, sym, subst, arith, take, length}
use Rattle.std.specs.Prelude.{string_bytes}
use Rattle.std.specs.Io.KnownBytes.{Appends}
use Rattle.loader80.specs.Sends.{AreWithin}
use Rattle.stream80.specs.WholeText.{text_limit}
use Rattle.loader80.proofs.SendsLemmas.{Read3, told_text, sends_all, sends_prefix, no_read_failed, no_write_failed}
use Rattle.loader80.proofs.sessions.session.Goals as goal

pub returns-in-Ok-clause-sends : goal.returns-in-Ok-clause-sends
returns-in-Ok-clause-sends g c = λ t image regions inputs.
    let same : Read3 c.deref.result.now c.deref-2.result.now c.deref-3.result.now t = record {
      image = c.deref.ensures.value ∙ told_text _ _ _ c.in_ok-image.ensures.whole image;
      regions = c.deref-2.ensures.value ∙ told_text _ _ _ c.in_ok-regions.ensures.whole regions;
      inputs = c.deref-3.ensures.value ∙ told_text _ _ _ c.in_ok-inputs.ensures.whole inputs;
    } in
    let within : AreWithin t = record {
      image = subst (λ (l : List ℕ). length l ≤ text_limit) same.image (omega (arith, c.deref.ensures.len, c.in_ok-image.ensures.within));
      regions = subst (λ (l : List ℕ). length l ≤ text_limit) same.regions (omega (arith, c.deref-2.ensures.len, c.in_ok-regions.ensures.within));
      inputs = subst (λ (l : List ℕ). length l ≤ text_limit) same.inputs (omega (arith, c.deref-3.ensures.len, c.in_ok-inputs.ensures.within));
    } in
    let appended : Appends (g.K.Sink.written c.args.out.now) (g.K.Sink.written c.write_all.new.sink) (string_bytes c.answer_texts-reply.result.text) =
    subst (λ (l : List ℕ). Appends (g.K.Sink.written c.args.out.now) (g.K.Sink.written c.write_all.new.sink) l) c.as_bytes.ensures.value c.in-Ok.ensures.whole in
    sends_all c.args.outputs c.args.steps _ _ _ t c.answer_texts-reply.result.answer _ _ _ same within c.answer_texts-reply.ensures appended

pub returns-clause-sends : goal.returns-clause-sends
returns-clause-sends g c = λ t image regions inputs.
    let same : Read3 c.deref.result.now c.deref-2.result.now c.deref-3.result.now t = record {
      image = c.deref.ensures.value ∙ told_text _ _ _ c.in_ok-image.ensures.whole image;
      regions = c.deref-2.ensures.value ∙ told_text _ _ _ c.in_ok-regions.ensures.whole regions;
      inputs = c.deref-3.ensures.value ∙ told_text _ _ _ c.in_ok-inputs.ensures.whole inputs;
    } in
    let within : AreWithin t = record {
      image = subst (λ (l : List ℕ). length l ≤ text_limit) same.image (omega (arith, c.deref.ensures.len, c.in_ok-image.ensures.within));
      regions = subst (λ (l : List ℕ). length l ≤ text_limit) same.regions (omega (arith, c.deref-2.ensures.len, c.in_ok-regions.ensures.within));
      inputs = subst (λ (l : List ℕ). length l ≤ text_limit) same.inputs (omega (arith, c.deref-3.ensures.len, c.in_ok-inputs.ensures.within));
    } in
    let count : ℕ = c.in-Err.ensures.prefix.0 in
    let part : count < length (string_bytes c.answer_texts-reply.result.text) =
    subst (λ (l : List ℕ). count < length l) c.as_bytes.ensures.value c.in-Err.ensures.prefix.1 in
    let appended : Appends (g.K.Sink.written c.args.out.now) (g.K.Sink.written c.write_all.new.sink) (take count (string_bytes c.answer_texts-reply.result.text)) =
    subst (λ (l : List ℕ). Appends (g.K.Sink.written c.args.out.now) (g.K.Sink.written c.write_all.new.sink) (take count l)) c.as_bytes.ensures.value c.in-Err.ensures.prefix.2 in
    sends_prefix c.args.outputs c.args.steps _ _ _ t c.answer_texts-reply.result.answer _ count _ _ same within c.answer_texts-reply.ensures part appended

pub returns-in-Ok-clause-image_failures : goal.returns-in-Ok-clause-image_failures
returns-in-Ok-clause-image_failures g c =
    c.in_ok-image.ensures.failures ∙ ap (λ (n : ℕ). g.A.Source.failed c.args.image.now + n) (sym (no_read_failed _ _ _ c.answer_texts-reply.result.answer _ 1 c.answer_texts-reply.ensures))

pub returns-clause-image_failures : goal.returns-clause-image_failures
returns-clause-image_failures g c = c.in_ok-image.ensures.failures

pub returns-in-Ok-clause-regions_failures : goal.returns-in-Ok-clause-regions_failures
returns-in-Ok-clause-regions_failures g c =
    c.in_ok-regions.ensures.failures ∙ ap (λ (n : ℕ). g.B.Source.failed c.args.regions.now + n) (sym (no_read_failed _ _ _ c.answer_texts-reply.result.answer _ 2 c.answer_texts-reply.ensures))

pub returns-clause-regions_failures : goal.returns-clause-regions_failures
returns-clause-regions_failures g c = c.in_ok-regions.ensures.failures

pub returns-in-Ok-clause-inputs_failures : goal.returns-in-Ok-clause-inputs_failures
returns-in-Ok-clause-inputs_failures g c =
    c.in_ok-inputs.ensures.failures ∙ ap (λ (n : ℕ). g.C.Source.failed c.args.inputs.now + n) (sym (no_read_failed _ _ _ c.answer_texts-reply.result.answer _ 3 c.answer_texts-reply.ensures))

pub returns-clause-inputs_failures : goal.returns-clause-inputs_failures
returns-clause-inputs_failures g c = c.in_ok-inputs.ensures.failures

pub returns-in-Ok-clause-out_failures : goal.returns-in-Ok-clause-out_failures
returns-in-Ok-clause-out_failures g c =
    c.in-Ok.ensures.count ∙ ap (λ (n : ℕ). g.K.Sink.failed c.args.out.now + n) (sym (no_write_failed _ _ _ c.answer_texts-reply.result.answer _ c.answer_texts-reply.ensures))

pub returns-clause-out_failures : goal.returns-clause-out_failures
returns-clause-out_failures g c = c.in-Err.ensures.count

pub returns-in-Ok-clause-image_taken : goal.returns-in-Ok-clause-image_taken
returns-in-Ok-clause-image_taken g c = c.in_ok-image.ensures.taken

pub returns-clause-image_taken : goal.returns-clause-image_taken
returns-clause-image_taken g c = c.in_ok-image.ensures.taken

pub returns-in-Ok-clause-regions_taken : goal.returns-in-Ok-clause-regions_taken
returns-in-Ok-clause-regions_taken g c = c.in_ok-regions.ensures.taken

pub returns-clause-regions_taken : goal.returns-clause-regions_taken
returns-clause-regions_taken g c = c.in_ok-regions.ensures.taken

pub returns-in-Ok-clause-inputs_taken : goal.returns-in-Ok-clause-inputs_taken
returns-in-Ok-clause-inputs_taken g c = c.in_ok-inputs.ensures.taken

pub returns-clause-inputs_taken : goal.returns-clause-inputs_taken
returns-clause-inputs_taken g c = c.in_ok-inputs.ensures.taken
