use Rattle.std.specs.Prelude.{◌≡◌, ◌+◌, ℕ, List, Option, Bool, true, false, is_none, is_some, not, drop, filter}
use Rattle.std.proofs.Common.{◌∙◌, ap, sym}
use Rattle.std.specs.Global.{Vec}
use Rattle.omf_core.specs.declared.name.Name.{Name}
use Rattle.link80.specs.FirstSight.{number_in, with_names}
use Rattle.link80.proofs.LoopLemmas.{one_new_more, no_new_more}
use Rattle.link80.proofs.symbol_tables.add_undeclared.Goals as goal
use Rattle.link80.proofs.symbol_tables.add_undeclared.Goals.{then-is_none+in_ok-add_name, else-is_none}

-- the answer of a test for nothing
is_answered : (number : Option ℕ) (answer : Bool) → is_some number ≡ not answer → is_none number ≡ answer
is_answered number true is = ap not is
is_answered number false is = ap not is

pub loop-name-preserved : goal.loop-name-preserved
loop-name-preserved c =
    let test : List ℕ → Bool = λ name. is_none (number_in c.args.declared.now name) in
    let left : List (List ℕ) = filter test (drop (c.loop-name.name-index + 1) c.externals-name-items.result.now) in
    let is : test c.name-item.result ≡ c.is_none.result =
    ap (λ name. is_none (number_in c.args.declared.now name)) (sym c.bytes.ensures.value)
    ∙ ap is_none (sym c.number_of.ensures.number) ∙ is_answered c.number_of.result c.is_none.result c.is_none.ensures in
    elim c.if-is_none.branch [
      | then-is_none+in_ok-add_name w ↦ (
        ap (λ names. with_names names left) (w.names-is ∙ w.in_ok-add_name.ensures.names)
            ∙ one_new_more test c.externals-name-items.result.now c.loop-name.name-index c.name-item.result c.loop-name.names
            c.loop-name-test.true c.name-item.is (is ∙ w.if-is_none.true)
            ∙ c.loop-name.invariant.0,
        λ same. ap (λ (v : Vec Name). v.items) w.copies-is ∙ w.in_ok-add_name.ensures.copies (c.loop-name.invariant.1 same)
            ∙ sym w.names-is,
      )
      | else-is_none w ↦ (
        ap (λ names. with_names names left) w.names-is
            ∙ no_new_more test c.externals-name-items.result.now c.loop-name.name-index c.name-item.result c.loop-name.names
            c.loop-name-test.true c.name-item.is (is ∙ w.if-is_none.false)
            ∙ c.loop-name.invariant.0,
        λ same. ap (λ (v : Vec Name). v.items) w.copies-is ∙ c.loop-name.invariant.1 same ∙ sym w.names-is,
      )
    ]
