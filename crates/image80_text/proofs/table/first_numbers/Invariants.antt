-- the first ones of the publics so far
use Rattle.std.proofs.Common.{◌≡◌, length, take}
use Rattle.image80_text.specs.Tables.{AreFirst}
use Rattle.image80_text.proofs.table.first_numbers.Given as goal

abbrev pub invariant-loop-number : goal.invariant-loop-number
invariant-loop-number l = record {
  whole : length l.table.items ≡ 65536;
  first : AreFirst (take l.number l.publics) l.table.items;
}
