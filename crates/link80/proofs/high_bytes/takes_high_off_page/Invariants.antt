use Rattle.std.proofs.Common.{◌≡◌, drop}
use Rattle.std.specs.List.{list_any}
use Rattle.link80.specs.LinkFault.{is_high_off_page}
use Rattle.link80.proofs.high_bytes.takes_high_off_page.Given as goal

abbrev pub invariant-loop-fixup : goal.invariant-loop-fixup
invariant-loop-fixup l =
    list_any (is_high_off_page l.modules l.number) (drop l.fixup-index l.fixups)
    ≡ list_any (is_high_off_page l.modules l.number) l.fixups
