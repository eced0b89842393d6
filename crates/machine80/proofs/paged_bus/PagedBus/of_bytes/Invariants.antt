use Rattle.std.proofs.Common.{◌≡◌, ℕ, ◌<◌, ◌*◌, [], take, drop, get_or, length}
use Rattle.std.specs.Prelude.{All}
use Rattle.machine80.proofs.paged_bus.PagedBus.of_bytes.Given as goal

abbrev pub invariant-loop-number : goal.invariant-loop-number
invariant-loop-number l = record {
  count : length l.pages.items ≡ l.number;
  whole : All (λ page. length page ≡ 256) l.pages.items;
  cut : (n : ℕ) → n < l.number → get_or l.pages.items n [] ≡ take 256 (drop (n * 256) l.bytes);
}
