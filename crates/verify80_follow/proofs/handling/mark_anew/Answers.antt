use Rattle.std.specs.Prelude.{◌≡◌, ◌≤◌, ℕ, Bool, List, false, length, replicate}
use Rattle.std.proofs.Common.{◌∙◌, ap, inl, inr, subst, sym, true≢false}
use Rattle.std.proofs.lemmas.Bool.{cases_lt}
use Rattle.std.proofs.lemmas.List.{length-replicate, get_or-replicate, get_or_past}
use Rattle.verify80_states.specs.Marks.{is_marked}
use Rattle.verify80_follow.proofs.handling.mark_anew.Goals as goal

-- nothing is marked yet
unmarked_in : (n at : ℕ) → is_marked (replicate n false) at ≡ false
unmarked_in n at = elim (cases_lt at n) [
  | inl inside ↦ get_or-replicate n at false false inside
  | inr past ↦ get_or_past (replicate n false) at false (subst (λ (m : ℕ). m ≤ at) (sym (length-replicate n false)) past)
]

pub loop-place-init : goal.loop-place-init
loop-place-init c =
    let none : c.in_ok-marks.marks.items ≡ replicate 65536 false = c.in_ok-marks.ensures.items_if_clones_equal (λ y same. same) in
    record {
      whole = ap length none ∙ length-replicate {A = Bool} 65536 false;
      marked = λ at is. absurd (true≢false (sym is ∙ ap (λ (l : List Bool). is_marked l at) none ∙ unmarked_in 65536 at));
    }
