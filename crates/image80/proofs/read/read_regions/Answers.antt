use Rattle.std.proofs.Common.{sym}
use Rattle.std.specs.Prelude.{filter_map}
use Rattle.image80.specs.RegionsText.{code_range, data_range}
use Rattle.image80.proofs.OnceLemmas.{cases_differ}
use Rattle.image80.proofs.TextLemmas.{known_version, lacks_stack, overlaps, spells, All-filled, code_in_memory, data_in_memory, stack_in_memory}
use Rattle.image80.proofs.read.read_regions.Goals as goal

pub from_ranges-requires-clause-stack_in_memory : goal.from_ranges-requires-clause-stack_in_memory
from_ranges-requires-clause-stack_in_memory c =
    stack_in_memory c.in_ok-version.version c.args.bytes.now c.in_ok-entries.entries.items c.in-Some.stack (c.in_ok-entries.ensures.good c.args.bytes.now c.in_ok-version.ensures.after)
    (rw (← c.deref.ensures.value) (sym c.in-Some.ensures))

pub from_ranges-requires-clause-code_filled : goal.from_ranges-requires-clause-code_filled
from_ranges-requires-clause-code_filled c = rw c.in_ok-code.ensures (All-filled (filter_map code_range c.deref-2.result.now))

pub from_ranges-requires-clause-data_filled : goal.from_ranges-requires-clause-data_filled
from_ranges-requires-clause-data_filled c = rw c.in_ok-data_ranges.ensures (All-filled (filter_map data_range c.deref-3.result.now))

pub from_ranges-requires-clause-code_in_memory : goal.from_ranges-requires-clause-code_in_memory
from_ranges-requires-clause-code_in_memory c =
    rw (c.in_ok-code.ensures, c.deref-2.ensures.value) (code_in_memory c.in_ok-version.version c.args.bytes.now c.in_ok-entries.entries.items (c.in_ok-entries.ensures.good c.args.bytes.now c.in_ok-version.ensures.after))

pub from_ranges-requires-clause-data_in_memory : goal.from_ranges-requires-clause-data_in_memory
from_ranges-requires-clause-data_in_memory c =
    rw (c.in_ok-data_ranges.ensures, c.deref-3.ensures.value) (data_in_memory c.in_ok-version.version c.args.bytes.now c.in_ok-entries.entries.items (c.in_ok-entries.ensures.good c.args.bytes.now c.in_ok-version.ensures.after))

pub cases_of-requires : goal.cases_of-requires
cases_of-requires c =
    rw c.deref-4.ensures.value (cases_differ c.in_ok-entries.entries.items (c.in_ok-entries.ensures.good c.args.bytes.now c.in_ok-version.ensures.after).once)

pub returns-in_default-clause-refused : goal.returns-in_default-clause-refused
returns-in_default-clause-refused c =
    lacks_stack c.in_ok-version.version c.args.bytes.now c.in_ok-entries.entries.items (c.in_ok-entries.ensures.good c.args.bytes.now c.in_ok-version.ensures.after) (rw (← c.deref.ensures.value) (sym c.in_default.ensures))

pub returns-in_default-2-clause-refused : goal.returns-in_default-2-clause-refused
returns-in_default-2-clause-refused c =
    overlaps c.in_ok-version.version c.args.bytes.now c.in_ok-entries.entries.items c.in-Some.stack c.in_ok-code.code.items c.in_ok-data_ranges.data_ranges.items (c.in_ok-entries.ensures.good c.args.bytes.now c.in_ok-version.ensures.after)
    (rw (← c.deref.ensures.value) (sym c.in-Some.ensures)) (rw (← c.deref-2.ensures.value) c.in_ok-code.ensures) (rw (← c.deref-3.ensures.value) c.in_ok-data_ranges.ensures) (rw c.in_default-2.is at c.in_ok-regions.ensures.overlap)

pub returns-in_err-cases_of-clause-version : goal.returns-in_err-cases_of-clause-version
returns-in_err-cases_of-clause-version c = known_version c.from_residual-in_err-cases_of.result c.args.bytes.now c.in_ok-version.version _ c.in_ok-version.ensures.after

pub returns-clause-spelled : goal.returns-clause-spelled
returns-clause-spelled c =
    spells c.in_ok-version.version c.args.bytes.now c.in_ok-entries.entries.items c.in-Some.stack c.in_ok-code.code.items c.in_ok-data_ranges.data_ranges.items c.in-Some-2.regions c.with_cases.result c.in_ok-cases_of.field-0.items
    (c.in_ok-entries.ensures.good c.args.bytes.now c.in_ok-version.ensures.after)
    (rw (← c.deref.ensures.value) (sym c.in-Some.ensures)) (rw (← c.deref-2.ensures.value) c.in_ok-code.ensures) (rw (← c.deref-3.ensures.value) c.in_ok-data_ranges.ensures) (rw c.in-Some-2.is at c.in_ok-regions.ensures.ranges)
    (rw (← c.deref-4.ensures.value) c.in_ok-cases_of.ensures) c.with_cases.ensures
