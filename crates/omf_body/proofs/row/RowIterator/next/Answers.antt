use Rattle.std.proofs.Common.{◌≡◌, ◌<◌, ◌∷◌, length, Ok, sym, ap, ◌∙◌, arith, rules}
use Rattle.std.proofs.lemmas.List.{nil_from_length}
use Rattle.std.proofs.lemmas.Bool.Decides.{nat_tests}
use Rattle.omf_body.specs.Layouts.{entries_of}
use Rattle.omf_body.proofs.Rows.{next, no_fault, shows_none}
use Rattle.omf_body.proofs.row.RowIterator.next.Goals as goal

pub returns-then-is_empty-clause-steps : goal.returns-then-is_empty-clause-steps
returns-then-is_empty-clause-steps g c =
    let none : length c.self.inside.bytes.now ≡ 0 = grind (arith, nat_tests) in
    sym c.self.view_is ∙ shows_none g.E.Entry.layout c.self.inside.bytes.now (nil_from_length c.self.inside.bytes.now none)

pub invariant_of-self : goal.invariant_of-self
invariant_of-self g c =
    let some : 0 < length c.self.inside.bytes.now = grind (arith, nat_tests) in
    let n = next g.E.Entry.layout g.met.E.Entry.laws c.self.inside.bytes.now c.in-Ok.entry c.rest-in-Ok.inside.bytes.now c.self.invariant some
    (ap g.E.Entry.layout.read (sym c.new-cursor.ensures) ∙ (c.in-Ok.ensures.read ∙ ap (λ r. Ok (c.in-Ok.entry, r)) (sym c.rest.ensures ∙ sym c.rest-in-Ok.view_is))) in
    n.spelled

pub unreachable-requires : goal.unreachable-requires
unreachable-requires g c =
    let some : 0 < length c.self.inside.bytes.now = grind (arith, nat_tests) in
    no_fault g.E.Entry.layout g.met.E.Entry.laws c.self.inside.bytes.now c.in-Err.field-0 c.self.invariant some
    (ap g.E.Entry.layout.read (sym c.new-cursor.ensures) ∙ c.in-Err.ensures.fault)

pub returns-clause-steps : goal.returns-clause-steps
returns-clause-steps g c =
    let some : 0 < length c.self.inside.bytes.now = grind (arith, nat_tests) in
    let n = next g.E.Entry.layout g.met.E.Entry.laws c.self.inside.bytes.now c.in-Ok.entry c.rest-in-Ok.inside.bytes.now c.self.invariant some
    (ap g.E.Entry.layout.read (sym c.new-cursor.ensures) ∙ (c.in-Ok.ensures.read ∙ ap (λ r. Ok (c.in-Ok.entry, r)) (sym c.rest.ensures ∙ sym c.rest-in-Ok.view_is))) in
    sym c.self.view_is ∙ n.shows

pub returns-clause-goes : goal.returns-clause-goes
returns-clause-goes g c =
    let some : 0 < length c.self.inside.bytes.now = grind (arith, nat_tests) in
    let n = next g.E.Entry.layout g.met.E.Entry.laws c.self.inside.bytes.now c.in-Ok.entry c.rest-in-Ok.inside.bytes.now c.self.invariant some
    (ap g.E.Entry.layout.read (sym c.new-cursor.ensures) ∙ (c.in-Ok.ensures.read ∙ ap (λ r. Ok (c.in-Ok.entry, r)) (sym c.rest.ensures ∙ sym c.rest-in-Ok.view_is))) in
    let steps : c.args.self.now ≡ c.in-Ok.entry ∷ entries_of g.E.Entry.layout c.rest-in-Ok.inside.bytes.now = sym c.self.view_is ∙ n.shows in
    rw steps (search rules)
