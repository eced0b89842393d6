use Rattle.std.proofs.Common.{◌==◌, true, false, [], ap, sym}
use Rattle.omf_core.specs.{Kind.kind_byte, declared.kind.RecordKind.TheVariants.LibraryHeader}
use Rattle.plm80_files.proofs.PieceLemmas.{begun_by, new_file, new_library, not_header}
use Rattle.plm80_files.proofs.link_feed.first_feed.Goals as goal

pub returns-in_ok-take-in-Some-eq44 : goal.returns-in_ok-take-in-Some-eq44
returns-in_ok-take-in-Some-eq44 c = (
  c.in_ok-take-in-Some-eq44.ensures [] (new_library c.new-feed.result c.new-feed.ensures),
  begun_by true c.args.piece.now c.in-Some-eq44.field-0.now (sym c.in-Some-eq44.ensures.value) (ap (λ b. b == kind_byte LibraryHeader) c.in-Some-eq44.field-0-test),
)

pub returns-in_ok-take-in-Some : goal.returns-in_ok-take-in-Some
returns-in_ok-take-in-Some c = (
  c.in_ok-take-in-Some.ensures [] (new_file c.new-feed-in-Some.result c.new-feed-in-Some.ensures),
  begun_by false c.args.piece.now c.in-Some.field-0.now (sym c.in-Some.ensures.value) (not_header c.in-Some.field-0.now c.in-Some.field-0-test.1),
)
