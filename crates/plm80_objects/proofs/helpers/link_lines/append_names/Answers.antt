use Rattle.plm80_objects.proofs.Names.{◌≡◌, ℕ, suc, ◌+◌, ◌<◌, List, ◌∷◌, ◌++◌, codes, drop, length, flat_map, ◌∙◌, ap, sym, add-one}
use Rattle.plm80_objects.proofs.Names.{append_assoc, drop-cons, get_or, named_line}
use Rattle.plm80_objects.proofs.helpers.link_lines.append_names.Goals as goal

-- one more line, of those of a list that are left
lines_on : {X : Type 0} (f : X → List ℕ) (xs : List X) (i : ℕ) (x : X) (lines after whole : List ℕ) → i < length xs
    → x ≡ get_or xs i x → lines ++ flat_map f (drop i xs) ≡ whole → after ≡ lines ++ f x → after ++ flat_map f (drop (i + 1) xs) ≡ whole
lines_on f xs i x lines after whole lt at so_far one =
    let left : drop i xs ≡ x ∷ drop (i + 1) xs =
    drop-cons xs i x lt ∙ (ap (λ z. z ∷ drop (suc i) xs) (sym at) ∙ ap (λ (n : ℕ). x ∷ drop n xs) (sym (add-one i))) in
    ap (λ (t : List ℕ). t ++ flat_map f (drop (i + 1) xs)) one
    ∙ (append_assoc lines (f x) (flat_map f (drop (i + 1) xs)) ∙ (ap (λ l. lines ++ flat_map f l) (sym left) ∙ so_far))

pub loop-name-preserved : goal.loop-name-preserved
loop-name-preserved c =
    lines_on (named_line (codes "UNRESOLVED ")) c.args.names.now c.loop-name.name-index c.name-item.result c.loop-name.lines.items
    c.append_line.new.lines.items _ c.loop-name-test.true c.name-item.is c.loop-name.invariant
    (c.in_ok-append_line.ensures ∙ ap (λ (word : List ℕ). c.loop-name.lines.items ++ named_line word c.name-item.result) c.as_slice.ensures)
