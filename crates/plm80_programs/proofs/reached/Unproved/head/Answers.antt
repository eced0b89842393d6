use Rattle.std.proofs.Common.{◌++◌, ◌∙◌, ap, List, ℕ, []}
use Rattle.std.specs.List.{flat_map}
use Rattle.omf_model.specs.declared.symbols.Public.{Public}
use Rattle.verify80_flow.specs.declared.refusal.Refusal.{Refusal}
use Rattle.verify80_explain_text.specs.Conditions.{reach_conditions}
use Rattle.plm80_names.specs.Printed.{named_refusal_line}
use Rattle.plm80_programs.specs.Explanations.{limit_line}
use Rattle.plm80_programs.specs.Reached.{count_words}
use Rattle.plm80_programs.proofs.FurtherLemmas.{four_parts}
use Rattle.plm80_programs.proofs.reached.Unproved.head.Goals as goal

pub returns : goal.returns
returns c =
    let unproved = c.args.self.now in
    let image = c.args.image.now in
    let lines = flat_map (named_refusal_line image.regions.code c.args.names.now) in
    four_parts [] (count_words unproved) (lines unproved.refusals.items) (limit_line unproved.reach.is_whole) (reach_conditions image c.args.names.now unproved.reach)
    c.append_count.new.text.items c.append_refusals.new.text.items c.append_limit.new.text.items c.append_reach_conditions.new.text.items
    (c.in_ok-append_count.ensures ∙ ap (λ (l : List ℕ). l ++ count_words unproved) c.new-text.ensures.items)
    (c.in_ok-append_refusals.ensures ∙ ap (λ (l : List Refusal). c.append_count.new.text.items ++ lines l) c.deref.ensures.value)
    c.in_ok-append_limit.ensures
    (c.in_ok-append_reach_conditions.ensures ∙ ap (λ (l : List Public). c.append_limit.new.text.items ++ reach_conditions image l unproved.reach) c.publics.ensures)
