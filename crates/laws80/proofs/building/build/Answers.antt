use Rattle.std.proofs.Common.{◌∙◌, ap, sym, subst, inl, inr}
use Rattle.std.proofs.lemmas.Result.{err_from_is_err_and}
use Rattle.link80.specs.Selection.{modules_with}
use Rattle.place80.specs.PlaceFault.{locate_fault}
use Rattle.place80.specs.Locating.{located_chunks}
use Rattle.laws80.specs.declared.fault.BuildFault.{BuildFault}
use Rattle.laws80.specs.Built.{CannotBeBuilt, by_link, by_place}
use Rattle.laws80.proofs.BuiltLemmas.{holds_modules, from_link_is, from_place_is}
use Rattle.laws80.proofs.building.build.Goals as goal

pub returns-clause-image : goal.returns-clause-image
returns-clause-image c =
    let modules = modules_with c.args.roots.now c.args.libraries.now c.in_ok-linked.linked.taken.items in
    holds_modules c.linking_keeps_bytes.ensures.bytes c.linking_keeps_bytes.ensures.start c.args.options.now c.args.name.now modules c.in_ok-linked.linked.module
    c.in_ok-image.image
    c.in_ok-linked.ensures.sound c.in_ok-linked.ensures.no_fault c.in_ok-linked.ensures.linked (record {
      own_name = c.in_ok-image.ensures.name;
      memory = c.in_ok-image.ensures.memory;
      high = c.in_ok-image.ensures.high;
      regions = c.in_ok-image.ensures.regions;
      begin = c.in_ok-image.ensures.start;
    })

pub returns-clause-no_fault : goal.returns-clause-no_fault
returns-clause-no_fault c = record {
  in_link = c.in_ok-linked.ensures.no_fault;
  in_place = ap (locate_fault c.args.options.now) (sym c.in_ok-linked.ensures.linked) ∙ c.in_ok-image.ensures.none;
}

pub returns-clause-chunks : goal.returns-clause-chunks
returns-clause-chunks c = c.in_ok-image.ensures.chunks ∙ ap (located_chunks c.args.options.now) c.in_ok-linked.ensures.linked

pub returns-in_err-linked-clause-fault : goal.returns-in_err-linked-clause-fault
returns-in_err-linked-clause-fault c =
    let p = err_from_is_err_and c.from_residual.result c.from_residual.ensures.1 in
    rw (p.1, p.2) (λ ne.
    let is = from_link_is c.in_err-linked.field-0.0 ne in
    subst (λ (fault : BuildFault). CannotBeBuilt c.args.options.now c.args.name.now c.args.roots.now c.args.libraries.now fault) (sym is.1)
    (by_link c.in_err-linked.field-0.0 (c.in_err-linked.ensures.fault is.0)))

pub returns-in_err-image-clause-fault : goal.returns-in_err-image-clause-fault
returns-in_err-image-clause-fault c =
    let p = err_from_is_err_and c.from_residual-in_err-image.result c.from_residual-in_err-image.ensures.1 in
    rw (p.1, p.2) (λ ne.
    let is = from_place_is c.in_err-image.field-0.0 ne in
    elim c.in_err-image.ensures.fault [
      | inl memory ↦ absurd (is.0 memory)
      | inr first ↦ subst (λ (fault : BuildFault). CannotBeBuilt c.args.options.now c.args.name.now c.args.roots.now c.args.libraries.now fault) (sym is.1)
          (by_place c.in_ok-linked.linked.taken.items c.in_err-image.field-0.0 c.in_ok-linked.ensures.taken
          c.in_ok-linked.ensures.no_fault
          (ap (locate_fault c.args.options.now) (sym c.in_ok-linked.ensures.linked) ∙ first))
    ])
