use Rattle.std.proofs.Common.{◌∙◌, ap, subst}
use Rattle.std.specs.Prelude.{◌&&◌, ◌||◌, ◌==◌, length}
use Rattle.image80.specs.Image.{Located}
use Rattle.image80.specs.Range.{in_ranges}
use Rattle.verify80_suggest.specs.Bytes.{has_byte, may_be_code}
use Rattle.verify80_cases.specs.Marks.{AreMarks, marked}
use Rattle.verify80_suggest.specs.Ranges.{CoversBelow}
use Rattle.verify80_suggest.proofs.RangeLemmas.{covers_marks, covers_permuted, covers_same}
use Rattle.verify80_suggest.proofs.StackLemmas.{apart_alone}
use Rattle.verify80_suggest.proofs.suggesting.code_regions.Goals as goal

pub from_disjoint-requires-clause-disjoint : goal.from_disjoint-requires-clause-disjoint
from_disjoint-requires-clause-disjoint c = apart_alone c.in_ok-code.code.items c.new.result.items c.in_ok-code.ensures.apart c.new.ensures.items

pub returns-clause-code : goal.returns-clause-code
returns-clause-code c =
    let rom = c.args.rom.now in
    let bytes = c.in_ok-bytes.bytes.items in
    let room = c.in_ok-room.room.items in
    let code = c.in_ok-code.code.items in
    let chunks = c.args.image.now.chunks in
    let is_room : AreMarks (λ address. marked bytes address && (length rom == 0 || in_ranges rom address)) 65536 room =
    subst (λ m. AreMarks (λ address. marked m address && (length rom == 0 || in_ranges rom address)) 65536 room) c.deref-2.ensures.value c.in_ok-room.ensures in
    let is_bytes : AreMarks (has_byte chunks) 65536 bytes =
    subst (λ m. AreMarks (has_byte m) 65536 bytes) (c.deref.ensures.value ∙ ap (λ (i : Located). i.chunks) c.image.view_is) c.in_ok-bytes.ensures in
    let covers : CoversBelow (marked room) 65536 code = subst (λ m. CoversBelow (marked m) 65536 code) c.deref-3.ensures.value c.in_ok-code.ensures in
    covers_permuted (may_be_code chunks rom) code c.from_disjoint.result.code c.from_disjoint.ensures.same_code
    (covers_same (λ address. marked bytes address && (length rom == 0 || in_ranges rom address)) (may_be_code chunks rom) code
    (covers_marks (λ address. marked bytes address && (length rom == 0 || in_ranges rom address)) room code is_room covers)
    (λ address below. ap (λ b. b && (length rom == 0 || in_ranges rom address)) (is_bytes.exact address below)))
