use Rattle.std.proofs.Common.{◌≡◌, drop}
use Rattle.std.specs.List.{list_any, enumerate_from}
use Rattle.link80.specs.LinkFault.{is_high_off_page}
use Rattle.link80.proofs.high_bytes.any_high_off_page.Given as goal

abbrev pub invariant-loop-number : goal.invariant-loop-number
invariant-loop-number l =
    list_any (λ m. list_any (λ c. list_any (is_high_off_page l.modules m.0) c.fixups) m.1.contents)
    (enumerate_from l.number (drop l.number l.modules))
    ≡ list_any (λ m. list_any (λ c. list_any (is_high_off_page l.modules m.0) c.fixups) m.1.contents) (enumerate_from 0 l.modules)
