-- Adding a part's start and then a base is adding their sum.
use Rattle.std.proofs.Common.{arith, inl, inr}
use Rattle.omf_model.specs.PatchLaws.{LowTwice, BothTwice, HighTwice}

pub low_twice : LowTwice
low_twice b u v = omega arith

pub both_twice : BothTwice
both_twice w u v = omega arith

pub high_twice : HighTwice
high_twice b u v (inl h) = omega arith
high_twice b u v (inr h) = omega arith
