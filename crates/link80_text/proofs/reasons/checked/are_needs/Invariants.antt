-- the needs so far
use Rattle.std.specs.Prelude.{◌≡◌, ◌<◌, ℕ, slice_get, Some}
use Rattle.link80_text.specs.declared.reasons.search.Need.{Need}
use Rattle.link80_text.specs.Found.{IsNearer, IsNeeded}
use Rattle.link80_text.proofs.reasons.checked.are_needs.Given as goal

abbrev pub invariant-loop-number : goal.invariant-loop-number
invariant-loop-number l = record {
  needed : (n : ℕ) (need : Need) → n < l.number → slice_get l.needs n ≡ Some need → IsNeeded l.linked n need;
  nearer : (n : ℕ) (need : Need) → n < l.number → slice_get l.needs n ≡ Some need → IsNearer l.linked.roots l.needs need;
}
