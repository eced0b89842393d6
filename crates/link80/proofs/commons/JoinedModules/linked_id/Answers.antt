use Rattle.std.specs.Prelude.{◌≡◌, ◌+◌, ◌≤◌, ◌<◌, Option, ℕ, length}
use Rattle.std.specs.Option.{option_map_or}
use Rattle.std.proofs.Common.{◌∙◌, ap, sym, arith, rules}
use Rattle.omf_model.specs.Place.{common_name}
use Rattle.link80.specs.FirstSight.{number_in}
use Rattle.link80.specs.Linked.{common_names}
use Rattle.link80.proofs.NumberLemmas.{linked_id_is, few_commons}
use Rattle.link80.proofs.commons.JoinedModules.linked_id.Goals as goal
use Rattle.link80.proofs.commons.JoinedModules.linked_id.Goals.{After-number_of, In-Some}

commons_are : (c : After-number_of) → c.self.inside.commons ≡ common_names c.args.self.now
commons_are c = c.self.invariant.0 ∙ ap common_names c.self.view_is

number_is : (c : After-number_of)
    → number_in (common_names c.args.self.now) (common_name c.args.source.now.commons c.args.id) ≡ c.number_of.result
number_is c =
    ap (λ names. number_in names (common_name c.args.source.now.commons c.args.id)) (sym (commons_are c))
    ∙ ap (number_in c.self.inside.commons)
    (sym (c.common_name.ensures ∙ ap (λ commons. common_name commons c.args.id) c.commons.ensures.value))
    ∙ sym c.number_of.ensures.number

few : (c : In-Some) → c.in-Some.number < 249
few c =
    let below : length (common_names c.args.self.now) ≤ 249 =
    few_commons c.args.self.now (ap Rattle.link80.specs.LinkFault.too_many_commons (sym c.self.view_is)
    ∙ c.self.invariant.2) in
    omega (arith, c.in-Some.ensures.within, below, ap length (commons_are c.before))

pub overflow_cast-result : goal.overflow_cast-result
overflow_cast-result c = let small = few c in search rules

pub overflow_add-result : goal.overflow_add-result
overflow_add-result c = let small = few c in search rules

pub returns-in-Some : goal.returns-in-Some
returns-in-Some c =
    sym (linked_id_is c.args.self.now c.args.source.now c.args.id (sym c.is_fixed_id.ensures ∙ c.if-is_fixed_id.false)
    ∙ ap (λ (o : Option ℕ). option_map_or (λ k. 6 + k) o 0) (number_is c.before ∙ c.in-Some.is))

pub returns-in-None : goal.returns-in-None
returns-in-None c =
    sym (linked_id_is c.args.self.now c.args.source.now c.args.id (sym c.is_fixed_id.ensures ∙ c.if-is_fixed_id.false)
    ∙ ap (λ (o : Option ℕ). option_map_or (λ k. 6 + k) o 0) (number_is c.before ∙ c.in-None.is))
