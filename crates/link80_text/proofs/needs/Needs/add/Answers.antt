use Rattle.std.proofs.Common.{◌∙◌, ap, sym, subst, ℕ, List, Option}
use Rattle.link80_text.specs.declared.needs.Need.{Need}
use Rattle.link80_text.specs.Needs.{SetsFirst, is_of}
use Rattle.link80_text.proofs.NeedLemmas.{put_first, there_already}
use Rattle.link80_text.proofs.needs.Needs.add.Goals as goal

pub returns-then-is_of : goal.returns-then-is_of
returns-then-is_of c = λ names rest h.
    there_already names c.args.number rest c.args.self.now c.args.name.now
    (ap (λ (a : Option ℕ). is_of c.args.self.now.needs a c.args.number) (sym c.first-first.ensures) ∙ (sym c.is_of.ensures ∙ c.if-is_of.true)) h

pub returns : goal.returns
returns c = λ names rest h.
    let o : Need = record { number = c.args.number; next = c.first-first.result } in
    put_first names c.args.number rest c.args.self.now c.set.new.self c.args.name.now c.in_ok-index.index o
    (ap (λ (a : Option ℕ). is_of c.args.self.now.needs a c.args.number) (sym c.first-first.ensures) ∙ (sym c.is_of.ensures ∙ c.if-is_of.false))
    (ap (λ (a : Option ℕ). record { number = c.args.number; next = a }) c.first-first.ensures)
    (c.in_ok-set.ensures.needs ∙ c.in_ok-index.ensures.needs)
    c.in_ok-index.ensures.index
    (subst (λ (hs : List (List ℕ × ℕ)). SetsFirst c.args.name.now c.in_ok-index.index hs c.set.new.self.heads) c.in_ok-index.ensures.heads c.in_ok-set.ensures.heads) h
