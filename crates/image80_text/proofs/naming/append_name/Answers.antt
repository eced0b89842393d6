use Rattle.std.proofs.Common.{◌≡◌, ◌++◌, append-nil, ap, sym, ◌∙◌, List, ℕ, subst}
use Rattle.std.specs.Prelude.{OnOk}
use Rattle.image80_text.proofs.TextLemmas.{named_above, not_named}
use Rattle.image80_text.proofs.naming.append_name.Goals as goal

pub returns-in-Some : goal.returns-in-Some
returns-in-Some c =
    subst (λ (t : List ℕ). OnOk c.append_above.result (c.append_above.new.text.items ≡ c.args.text.now.items ++ t))
    (named_above c.args.code.now c.args.publics.now c.args.address c.in-Some.public.now c.in-Some.distance
    (sym c.in-Some.ensures.which) c.in-Some.ensures.distance)
    c.append_above.ensures

pub returns-in-None : goal.returns-in-None
returns-in-None c =
    sym (ap (λ (t : List ℕ). c.args.text.now.items ++ t)
    (not_named c.args.code.now c.args.publics.now c.args.address (sym c.in-None.ensures.which))
    ∙ append-nil c.args.text.now.items)
