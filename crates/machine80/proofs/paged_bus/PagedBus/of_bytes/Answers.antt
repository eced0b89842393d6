use Rattle.std.proofs.Common.{arith}
use Rattle.machine80.proofs.PagesLemmas.{memory_in_pages-cut}
use Rattle.machine80.proofs.paged_bus.PagedBus.of_bytes.Goals as goal

pub returns : goal.returns
returns c = memory_in_pages-cut c.loop-number.pages.items c.args.bytes.now c.requires (λ n h. c.loop-number.invariant.cut n (omega arith))
