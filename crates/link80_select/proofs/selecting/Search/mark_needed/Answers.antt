use Rattle.std.specs.Prelude.{ℕ, Option, []}
use Rattle.std.specs.List.{cons_option}
use Rattle.std.proofs.Common.{sym, ◌∙◌, ap, subst}
use Rattle.omf_library.specs.Providers.{first_provider}
use Rattle.link80_select.specs.declared.selecting.Search.{Search}
use Rattle.link80_select.specs.Selecting.{Marks}
use Rattle.link80_select.proofs.MarkLemmas.{marks_none, marks_next}
use Rattle.link80_select.proofs.selecting.Search.mark_needed.Goals as goal
use Rattle.link80_select.proofs.selecting.Search.mark_needed.Goals.{in-Some+in_ok-mark, in_default}

pub loop-name-preserved : goal.loop-name-preserved
loop-name-preserved c =
    let gives = c.first.ensures.first ∙ ap (first_provider c.args.row.now) c.bytes.ensures.value in
    let next = marks_next (first_provider c.args.row.now) c.externals-name-items.result.now c.loop-name.name-index
    c.name-item.result c.first.result c.args.self.now.marked.items
    c.loop-name.self.marked.items c.match-first.self.marked.items c.args.self.now.queue.items c.loop-name.self.queue.items
    c.match-first.self.queue.items c.loop-name-test.true c.name-item.is
    gives c.loop-name.invariant in
    let before = c.loop-name.self in
    next (elim c.match-first.branch [
      | in-Some+in_ok-mark w ↦
          let marks = subst (λ (r : Option ℕ). Marks
          (cons_option r []) before.marked.items before.queue.items w.mark.new.self.marked.items w.mark.new.self.queue.items)
          (sym w.in-Some.is)
          w.in_ok-mark.ensures in
          subst (λ (s : Search). Marks
          (cons_option c.first.result []) before.marked.items before.queue.items s.marked.items s.queue.items)
          (sym w.self-is) marks
      | in_default w ↦
          let marks = subst (λ (r : Option ℕ). Marks
          (cons_option r []) before.marked.items before.queue.items before.marked.items before.queue.items)
          (sym w.in_default.is)
          (marks_none before.marked.items before.queue.items) in
          subst (λ (s : Search). Marks
          (cons_option c.first.result []) before.marked.items before.queue.items s.marked.items s.queue.items)
          (sym w.self-is) marks
    ])
