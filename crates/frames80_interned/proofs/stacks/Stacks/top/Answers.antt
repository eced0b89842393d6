use Rattle.std.proofs.Common.{◌≡◌, ℕ, ◌-◌, suc, List, length, ap, subst, sym, ◌∙◌, arith}
use Rattle.frames80.specs.declared.word.Word.{Word}
use Rattle.frames80_interned.specs.Stacks.{words_at, stacks_of, IsLink}
use Rattle.frames80_interned.proofs.StackLemmas.{bare, read, length-stacks_of}
use Rattle.frames80_interned.proofs.stacks.Stacks.top.Goals as goal

pub returns-then-number-eq-EMPTY-clause-none : goal.returns-then-number-eq-EMPTY-clause-none
returns-then-number-eq-EMPTY-clause-none c =
    ap (words_at c.args.self.now) c.if-number-eq-EMPTY.true ∙ ap (λ s. words_at s 0) (sym c.self.view_is) ∙ bare c.self.inside.links.keys

pub index-requires : goal.index-requires
index-requires c =
    let e : length c.args.self.now ≡ suc (length c.self.inside.links.keys) = ap length (sym c.self.view_is) ∙ length-stacks_of c.self.inside.links.keys in
    omega (arith, c.if-number-eq-EMPTY.false)

pub returns-clause-link : goal.returns-clause-link
returns-clause-link c =
    let e : suc (c.args.number - 1) ≡ c.args.number = omega (arith, c.if-number-eq-EMPTY.false) in
    let is = read c.self.inside.links.keys (c.args.number - 1) c.index.result.now c.self.invariant.0 c.index.ensures in
    subst (λ (s : List (List Word)). IsLink s c.args.number c.index.result.now) c.self.view_is (subst (λ (n : ℕ). IsLink (stacks_of c.self.inside.links.keys) n c.index.result.now) e is)
