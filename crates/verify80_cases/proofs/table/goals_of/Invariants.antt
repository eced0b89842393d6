use Rattle.std.proofs.Common.{◌≡◌, ◌<◌, All, length}
use Rattle.verify80_cases.proofs.TableLemmas.{AreFirst}
use Rattle.verify80_cases.proofs.table.goals_of.Given as goal

abbrev pub invariant-loop-number : goal.invariant-loop-number
invariant-loop-number l = record {
  first : AreFirst l.code l.reached l.taken l.table.kind l.table.first l.goals.items;
  count : length l.goals.items ≡ l.number;
  words : All (λ goal. goal < 65536) l.goals.items;
}
