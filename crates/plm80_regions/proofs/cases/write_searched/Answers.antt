use Rattle.plm80_regions.proofs.CaseLemmas.{finds_cases, shown_front, shown_front_more, shown_more, shown_nothing}
use Rattle.plm80_names.specs.FrontLaws.{on_err}
use Rattle.plm80_regions.proofs.Names.{[], ◌≡◌, ◌∙◌, arith, refl}
use Rattle.plm80_regions.proofs.cases.write_searched.Goals as goal

pub loop-address-init : goal.loop-address-init
loop-address-init g c = record {
  unfailed = refl;
  shown = shown_nothing c.args.image.now c.args.search.now.reached c.args.search.now.taken c.new-notes.result.items
      (g.K.Sink.written c.args.out.now) c.new-notes.ensures.items;
}

pub loop-address-preserved : goal.loop-address-preserved
loop-address-preserved g c = record {
  unfailed = c.in_ok-write_found.ensures.failures ∙ c.loop-address.invariant.unfailed;
  shown = shown_more c.args.image.now c.args.search.now.reached c.args.search.now.taken c.loop-address.address c.loop-address.notes.items
      (g.K.Sink.written c.args.out.now) (g.K.Sink.written c.loop-address.out) c.loop-address.invariant.shown c.in_ok-found.found
      c.write_found.new.notes.items (g.K.Sink.written c.write_found.new.out) c.in_ok-found.ensures
      c.in_ok-write_found.ensures.written c.in_ok-write_found.ensures.notes;
}

pub returns-clause-found : goal.returns-clause-found
returns-clause-found g c =
    let all : c.loop-address.address ≡ 65536 = omega (arith, c.loop-address-test.false, c.loop-address.auto.address-end) in
    let shown = c.loop-address.invariant.shown in (
      shown.cases,
      finds_cases c.args.image.now [] c.args.search.now.reached c.args.search.now.taken c.loop-address.address shown.cases c.loop-address.notes.items
          c.requires.searched all shown.found,
      shown.written,
    )

pub returns-in_err-found-clause-front : goal.returns-in_err-found-clause-front
returns-in_err-found-clause-front g c =
    on_err c.from_residual.result
    (shown_front c.args.image.now c.args.search.now.reached c.args.search.now.taken c.loop-address.address c.loop-address.notes.items
    (g.K.Sink.written c.args.out.now) (g.K.Sink.written c.loop-address.out) c.loop-address.invariant.shown c.requires.searched)

pub returns-in_err-write_found-clause-front : goal.returns-in_err-write_found-clause-front
returns-in_err-write_found-clause-front g c =
    on_err c.from_residual-in_err-write_found.result
    (shown_front_more c.args.image.now c.args.search.now.reached c.args.search.now.taken c.loop-address.address c.loop-address.notes.items
    (g.K.Sink.written c.args.out.now) (g.K.Sink.written c.loop-address.out) c.loop-address.invariant.shown c.requires.searched c.in_ok-found.found
    (g.K.Sink.written c.write_found.new.out) c.in_ok-found.ensures c.in_err-write_found.ensures.front)
