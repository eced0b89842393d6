use Rattle.std.proofs.Common.{rules, ◌∙◌, sym, subst, Option, ℕ, ◌≡◌, IfSome, length}
use Rattle.decode80.specs.declared.instr.Instr.{Instr}
use Rattle.decode80.specs.Spelling.{spelling, opcode}
use Rattle.decode80.specs.Decoded.{length_at}
use Rattle.decode80.proofs.Decoded.{length_at-opcode, length_at-some}
use Rattle.decode80.proofs.Unused.{unused_length}
use Rattle.decode80.proofs.decoding.length_of.Goals as goal

pub returns-clause-value : goal.returns-clause-value
unfolding length_at
returns-clause-value c = search rules

pub returns-clause-each : goal.returns-clause-each
returns-clause-each c = λ i same. returns-clause-value c ∙ length_at-opcode _ i same

pub returns-clause-some : goal.returns-clause-some
returns-clause-some c = subst (λ (r : Option ℕ). IfSome r (λ n. (i : Instr) × (opcode i ≡ c.args.first) × (length (spelling i) ≡ n))) (sym (returns-clause-value c)) (length_at-some c.args.first)

pub returns-clause-unused : goal.returns-clause-unused
returns-clause-unused c = unused_length _ _ (search rules) (returns-clause-value c)
