-- Two pairs of stacks are equal where both their parts are.
use Rattle.std.specs.Prelude.{◌≡◌, true, nat_eq}
use Rattle.std.specs.Cmp.{unsigned_Decides, first_so, second_so}
use Rattle.frames80_interned.specs.declared.pair.Pair.{Pair}
use Rattle.frames80_interned.specs.Stacks.{pair_eq}

pub pair_same : (a b : Pair) → pair_eq a b ≡ true → a ≡ b
pair_same a b same =
    let e1 : a.one ≡ b.one = (unsigned_Decides a.one b.one).0 (first_so (nat_eq a.one b.one) (nat_eq a.other b.other) same) in
    let e2 : a.other ≡ b.other = (unsigned_Decides a.other b.other).0 (second_so (nat_eq a.one b.one) (nat_eq a.other b.other) same) in
    λ i. record { one = e1 i; other = e2 i }
