use Rattle.std.proofs.Common.{◌≡◌, ◌+◌, ◌-◌}
use Rattle.std.specs.List.{list_all, range_with_len}
use Rattle.decode80.specs.Fetch.{all_code}
use Rattle.decode80.proofs.fetching.Program.all_code.Given as goal

-- the bytes so far are code
abbrev pub invariant-loop-place : goal.invariant-loop-place
invariant-loop-place g l = all_code (g.Self.Program.code l.self) l.address l.count ≡ list_all (g.Self.Program.code l.self) (range_with_len l.place (l.first + l.count - l.place))
