use Rattle.std.proofs.Common.{◌++◌, ◌∙◌, List, ℕ, ap, sym, arith, rules, []}
use Rattle.std.specs.Prelude.{◌≡◌}
use Rattle.report80.specs.PageText.{name_line, names_below}
use Rattle.report80.proofs.RangeLemmas.{more_names, no_names}
use Rattle.report80.proofs.names.name_lines.Goals as goal

pub loop-address-init : goal.loop-address-init
loop-address-init c =
    let none : c.new-lines.result.items ≡ [] = search rules in
    none ∙ no_names c.args.publics.now

pub loop-address-preserved : goal.loop-address-preserved
loop-address-preserved c =
    c.in_ok-append_name_line.ensures
    ∙ ap (λ (shown : List ℕ). shown ++ name_line c.args.publics.now c.loop-address.address) c.loop-address.invariant
    ∙ sym (more_names c.args.publics.now c.loop-address.address)

pub returns : goal.returns
returns c =
    let all : c.loop-address.address ≡ 65536 = omega arith in
    c.loop-address.invariant ∙ ap (names_below c.args.publics.now) all
