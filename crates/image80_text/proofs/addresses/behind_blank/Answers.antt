use Rattle.std.proofs.Common.{◌+◌, ap, ◌∙◌, [], drop, Option, ℕ}
use Rattle.std.specs.Option.{option_map_or}
use Rattle.std.proofs.lemmas.List.{take_rest}
use Rattle.image80_text.proofs.addresses.behind_blank.Goals as goal

pub returns-in-Some : goal.returns-in-Some
returns-in-Some c =
    take_rest c.args.line.now (c.in-Some.at + 1)
    ∙ ap (λ (o : Option ℕ). option_map_or (λ n. drop (n + 1) c.args.line.now) o []) c.in-Some.ensures

pub returns-in-None : goal.returns-in-None
returns-in-None c = ap (λ (o : Option ℕ). option_map_or (λ n. drop (n + 1) c.args.line.now) o []) c.in-None.ensures
