use Rattle.std.proofs.Common.{◌<◌, ◌≡◌, ◌∙◌, ℕ, List, ap, sym, subst, take, length}
use Rattle.std.specs.Prelude.{Option, Some, string_bytes}
use Rattle.std.specs.Option.{option_map}
use Rattle.std.specs.Io.KnownBytes.{Appends}
use Rattle.loader80_text.specs.declared.bundles.bundle_text.BundleTexts.{BundleTexts}
use Rattle.loader80.specs.Texts.{Texts}
use Rattle.loader80_text.specs.BundleText.{bundle_texts, texts_of}
use Rattle.loader80_text.proofs.BundledLemmas.{bundle_sends, bundle_sends_prefix}
use Rattle.loader80_text.proofs.bundles.bundling.answer_bundle.Goals as goal

pub returns-in-Ok-write_all-clause-sends : goal.returns-in-Ok-write_all-clause-sends
returns-in-Ok-write_all-clause-sends g c =
    let t : Texts = texts_of c.in-Some.parts in
    let parts : bundle_texts c.args.bytes.now ≡ Some t =
    sym c.in-Ok.ensures ∙ ap (λ (o : Option BundleTexts). option_map texts_of o) c.in-Some.is in
    let appended : Appends (g.K.Sink.written c.args.out.now) (g.K.Sink.written c.write_all.new.sink) (string_bytes c.answer_texts-reply.result.text) =
    subst (λ (l : List ℕ). Appends (g.K.Sink.written c.args.out.now) (g.K.Sink.written c.write_all.new.sink) l) c.as_bytes.ensures.value c.in-Ok-write_all.ensures.whole in
    bundle_sends c.what_is_said_is_sent.ensures.whole c.args.outputs c.args.steps (bundle_texts c.args.bytes.now) _ t c.answer_texts-reply.result.answer c.of_session.result _ _ _ parts c.of_session.ensures c.deref.ensures.value c.in_default-first_too_long.ensures.within c.answer_texts-reply.ensures appended

pub returns-clause-sends : goal.returns-clause-sends
returns-clause-sends g c =
    let t : Texts = texts_of c.in-Some.parts in
    let parts : bundle_texts c.args.bytes.now ≡ Some t =
    sym c.in-Ok.ensures ∙ ap (λ (o : Option BundleTexts). option_map texts_of o) c.in-Some.is in
    let count : ℕ = c.in-Err.ensures.prefix.0 in
    let part : count < length (string_bytes c.answer_texts-reply.result.text) =
    subst (λ (l : List ℕ). count < length l) c.as_bytes.ensures.value c.in-Err.ensures.prefix.1 in
    let appended : Appends (g.K.Sink.written c.args.out.now) (g.K.Sink.written c.write_all.new.sink) (take count (string_bytes c.answer_texts-reply.result.text)) =
    subst (λ (l : List ℕ). Appends (g.K.Sink.written c.args.out.now) (g.K.Sink.written c.write_all.new.sink) (take count l)) c.as_bytes.ensures.value c.in-Err.ensures.prefix.2 in
    bundle_sends_prefix c.what_is_said_is_sent.ensures.prefix c.args.outputs c.args.steps (bundle_texts c.args.bytes.now) _ t c.answer_texts-reply.result.answer _ count _ _ parts c.deref.ensures.value c.in_default-first_too_long.ensures.within c.answer_texts-reply.ensures part appended
