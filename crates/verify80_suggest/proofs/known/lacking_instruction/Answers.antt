use Rattle.std.proofs.Common.{◌≡◌, rules, true, ℕ, All, get_or, subst, sym}
use Rattle.std.specs.Prelude.{take}
use Rattle.std.proofs.lemmas.List.{take_all, take_more}
use Rattle.std.proofs.lemmas.List.Elements.{All-push}
use Rattle.verify80_suggest.specs.Known.{has_instruction}
use Rattle.verify80_suggest.proofs.known.lacking_instruction.Goals as goal

pub loop-at-preserved : goal.loop-at-preserved
loop-at-preserved c =
    let addresses = c.args.addresses.now in
    let i = c.loop-at.at-index in
    let begins : ℕ → Type 0 = λ at. has_instruction c.args.code.now at ≡ true in
    let one : begins (get_or addresses i 0) = search rules in
    subst (All begins) (sym (take_more addresses i 0 c.loop-at-test.true)) (All-push begins (take i addresses) (get_or addresses i 0) c.loop-at.invariant one)

pub returns-clause-fits : goal.returns-clause-fits
returns-clause-fits c =
    subst (All (λ at. has_instruction c.args.code.now at ≡ true)) (take_all c.loop-at.at-index c.args.addresses.now c.loop-at-test.false) c.loop-at.invariant
