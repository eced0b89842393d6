use Rattle.std.proofs.Common.{ap, sym, ◌∙◌, ◌++◌, ◌-◌, ◌+◌, ◌≤◌, ◌≡◌, List, [], ◌∷◌, ℕ, length, arith, length-append}
use Rattle.std.specs.Prelude.{filter}
use Rattle.std.specs.List.{range_with_len}
use Rattle.std.proofs.lemmas.List.{append-nil}
use Rattle.std.specs.Global.{Vec}
use Rattle.omf_model.specs.Segments.{has_common_id}
use Rattle.place80.proofs.PlacingLemmas.{from_first_id, ids_step, ids_end, with_id, without_id}
use Rattle.place80.proofs.laying_out.common_ids.Goals as goal
use Rattle.place80.proofs.laying_out.common_ids.Goals.{then-has_common_id+in_ok-push, else-has_common_id}

pub loop-id-init : goal.loop-id-init
loop-id-init c = record {
  ids = ap (λ (x : List ℕ). x ++ filter (has_common_id c.args.commons.now) (range_with_len 6 249)) c.new-ids.ensures.items
      ∙ from_first_id c.args.commons.now;
  few = let none : length c.new-ids.result.items ≡ 0 = ap (λ (l : List ℕ). length l) c.new-ids.ensures.items in omega arith;
}

pub loop-id-preserved : goal.loop-id-preserved
loop-id-preserved c =
    let commons = c.args.commons.now in
    let id = c.loop-id.id in
    let rest = filter (has_common_id commons) (range_with_len (id + 1) (255 - (id + 1))) in
    let before = ap (λ (x : List ℕ). c.loop-id.ids.items ++ x) (sym (ids_step commons id c.loop-id-test.true))
    ∙ c.loop-id.invariant.ids in
    let few : length c.loop-id.ids.items + 6 ≤ id = c.loop-id.invariant.few in
    elim c.if-has_common_id.branch [
      | then-has_common_id+in_ok-push w ↦
          let items : c.if-has_common_id.ids.items ≡ c.loop-id.ids.items ++ id ∷ [] = ap (λ (v : Vec ℕ). v.items) w.ids-is
          ∙ w.in_ok-push.ensures.items in
          let longer : length c.if-has_common_id.ids.items ≡ length c.loop-id.ids.items + 1 = ap (λ (l : List ℕ). length l) items
          ∙ length-append c.loop-id.ids.items (id ∷ []) in
          record {
            ids = ap (λ (x : List ℕ). x ++ rest) items
                ∙ sym (with_id c.loop-id.ids.items rest (has_common_id commons id) id (sym c.has_common_id.ensures
                ∙ w.if-has_common_id.true)) ∙ before;
            few = omega arith;
          }
      | else-has_common_id w ↦
          let items : c.if-has_common_id.ids.items ≡ c.loop-id.ids.items = ap (λ (v : Vec ℕ). v.items) w.ids-is in
          let same : length c.if-has_common_id.ids.items ≡ length c.loop-id.ids.items = ap (λ (l : List ℕ). length l) items in
          record {
            ids = ap (λ (x : List ℕ). x ++ rest) items
                ∙ sym (without_id c.loop-id.ids.items rest (has_common_id commons id) id (sym c.has_common_id.ensures
                ∙ w.if-has_common_id.false)) ∙ before;
            few = omega arith;
          }
    ]

pub returns-clause-ids : goal.returns-clause-ids
returns-clause-ids c =
    sym (append-nil c.loop-id.ids.items)
    ∙ (ap (λ (x : List ℕ). c.loop-id.ids.items ++ x) (sym (ids_end c.args.commons.now c.loop-id.id c.loop-id-test.false))
    ∙ c.loop-id.invariant.ids)
