use Rattle.std.proofs.Common.{rules, ◌≡◌, List, ◌∷◌, map, ap, sym, ◌∙◌}
use Rattle.std.proofs.lemmas.Result.{err_from_is_err_and}
use Rattle.omf_body.specs.declared.entries.SegmentEntry.{SegmentEntry}
use Rattle.omf_module.specs.Uses.{unknown_id}
use Rattle.omf_module.specs.Reading.{with_contents}
use Rattle.omf_module.proofs.UseLemmas.{unknown_first, known_first}
use Rattle.omf_module.proofs.uses.check_header.Goals as goal

pub returns-in_err-check_id : goal.returns-in_err-check_id
returns-in_err-check_id c =
    let p = err_from_is_err_and c.from_residual.result c.from_residual.ensures.1 in
    let front : c.loop-entry.rest ≡ c.in-Some.entry ∷ c.next.new.self = search rules in
    rw (p.1, p.2) (λ cs.
    let m = with_contents c.args.parts.now cs in
    sym (sym (c.loop-entry.invariant cs) ∙ (ap (λ (es : List SegmentEntry). unknown_id m (map (λ e. e.id) es)) front
    ∙ unknown_first m c.in-Some.entry.id (map (λ (e : SegmentEntry). e.id) c.next.new.self) c.in_err-check_id.field-0.0
    (c.in_err-check_id.ensures cs))))

pub loop-entry-preserved : goal.loop-entry-preserved
loop-entry-preserved c =
    let front : c.loop-entry.rest ≡ c.in-Some.entry ∷ c.next.new.self = search rules in
    λ cs.
    let m = with_contents c.args.parts.now cs in
    sym (known_first m c.in-Some.entry.id (map (λ (e : SegmentEntry). e.id) c.next.new.self) (c.in_ok-check_id.ensures cs))
    ∙ (ap (λ (es : List SegmentEntry). unknown_id m (map (λ e. e.id) es)) (sym front) ∙ c.loop-entry.invariant cs)
