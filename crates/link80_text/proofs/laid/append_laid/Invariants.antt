-- the lines so far, and those of the modules that are left; and the end of them all
use Rattle.std.proofs.Common.{◌≡◌, ◌++◌, drop, map}
use Rattle.link80.specs.Linked.{parts_end}
use Rattle.link80_text.specs.Words.{laid_text}
use Rattle.link80_text.proofs.laid.append_laid.Given as goal

abbrev pub invariant-loop-source : goal.invariant-loop-source
invariant-loop-source l = record {
  lines : l.text.items ++ laid_text l.commons l.id l.end (map (λ m. m.now) (drop l.source-index l.modules))
      ≡ l.initial.text.items ++ laid_text l.commons l.id 0 (map (λ m. m.now) l.modules);
  ends : parts_end l.id l.end (map (λ m. m.now) (drop l.source-index l.modules)) ≡ parts_end l.id 0 (map (λ m. m.now) l.modules);
}
