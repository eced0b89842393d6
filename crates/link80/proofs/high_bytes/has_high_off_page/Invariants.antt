use Rattle.std.proofs.Common.{◌≡◌, drop}
use Rattle.std.specs.List.{list_any}
use Rattle.link80.specs.LinkFault.{is_high_off_page}
use Rattle.link80.proofs.high_bytes.has_high_off_page.Given as goal

abbrev pub invariant-loop-content : goal.invariant-loop-content
invariant-loop-content l =
    list_any (λ c. list_any (is_high_off_page l.modules l.number) c.fixups) (drop l.content-index l.contents)
    ≡ list_any (λ c. list_any (is_high_off_page l.modules l.number) c.fixups) l.contents
