use Rattle.std.proofs.Common.{◌≡◌, drop, map, take}
use Rattle.std.specs.List.{enumerate_from}
use Rattle.link80_text.specs.Ends.{AreEnds, AreNear}
use Rattle.link80_text.specs.HighBytes.{first_given, high_of_module, first_high}
use Rattle.link80_text.proofs.causes.high_bytes.first_high.Given as goal

-- the first of the modules that are left is the first of all; the ends are those of the others
abbrev pub invariant-loop-number : goal.invariant-loop-number
invariant-loop-number l = record {
  first : first_given (high_of_module (map (λ m. m.now) l.modules))
      (enumerate_from l.number (map (λ m. m.now) (drop l.number l.modules)))
      ≡ first_high (map (λ m. m.now) l.modules);
  near : AreNear l.number l.ends;
  ends : AreEnds (map (λ m. m.now) (take l.number l.modules)) l.ends;
}
