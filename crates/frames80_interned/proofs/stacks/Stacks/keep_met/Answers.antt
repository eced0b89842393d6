use Rattle.std.specs.Prelude.{◌<◌, List, length}
use Rattle.std.proofs.Common.{sym, subst, ◌∙◌}
use Rattle.frames80.specs.declared.word.Word.{Word}
use Rattle.frames80_interned.specs.Stacks.{stacks_of, IsMet}
use Rattle.frames80_interned.proofs.MetLemmas.{AreMet-interned, AreMet-unchanged}
use Rattle.frames80_interned.proofs.stacks.Stacks.keep_met.Goals as goal

pub invariant_of-self : goal.invariant_of-self
invariant_of-self c = (c.self.invariant.0, AreMet-unchanged (stacks_of c.self.inside.links.keys) c.self.inside.met c.insert.new.self c.in_err-insert.ensures.err c.self.invariant.1)

pub invariant_of-self-2 : goal.invariant_of-self-2
invariant_of-self-2 c =
    let view = sym (c.self.view_is ∙ c.make_room.ensures) in (
      c.self.invariant.0,
      AreMet-interned (stacks_of c.self.inside.links.keys) c.self.inside.met c.insert.new.self c.args.pair c.args.number (subst (λ (s : List (List Word)). c.args.pair.one < length s) view c.requires.one)
          (subst (λ (s : List (List Word)). c.args.pair.other < length s) view c.requires.other) (subst (λ (s : List (List Word)). IsMet s c.args.pair c.args.number) view c.requires.met) c.in_ok-insert.ensures.updates c.self.invariant.1,
    )
