use Rattle.std.proofs.Common.{subst}
use Rattle.image80.specs.RegionsText.{Refuses, Spells}
use Rattle.verify80_suggest.proofs.WithCasesLemmas.{none_declared, only_memory, read_with}
use Rattle.verify80_suggest.proofs.with_cases.with_cases.Goals as goal

pub regions_with_cases-requires : goal.regions_with_cases-requires
regions_with_cases-requires c = record {
  by_address = c.requires.by_address;
  each = c.requires.each;
  new = none_declared c.args.regions.now c.args.cases.now c.requires.none;
}

pub returns-in-Ok : goal.returns-in-Ok
returns-in-Ok c =
    let made = c.in-Ok.made in
    read_with c.args.regions.now c.args.cases.now c.in_ok-text.text.items c.requires.none c.requires.by_address c.in_ok-text.ensures made
    c.text_of_regions_is_read_as_itself.ensures.one_reading (subst (λ t. Spells t made) c.deref.ensures.value c.in-Ok.ensures.spelled)

pub unreachable-requires : goal.unreachable-requires
unreachable-requires c =
    let fault = c.in-Err.fault in
    c.in_default.not-Memory
    (only_memory c.args.regions.now c.args.cases.now c.in_ok-text.text.items c.requires.none c.requires.by_address c.in_ok-text.ensures fault
    c.text_of_regions_is_read_as_itself.ensures.not_refused (subst (λ t. Refuses t fault) c.deref.ensures.value c.in-Err.ensures.refused))
