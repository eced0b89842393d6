-- Bounds of procedures and calls of chains, by address.
use Rattle.std.proofs.Common.{◌≡◌, ℕ, zero, suc, ◌-◌, Bool, true, false, List, [], ◌∷◌, length, drop, get_or, refl, sym, ◌∙◌, ap, arith}
use Rattle.std.proofs.lemmas.List.{drop_all}
use Rattle.std.specs.Prelude.{◌&&◌, ◌||◌, replicate}
use Rattle.std.specs.List.{list_any}
use Rattle.std.proofs.lemmas.Bool.{true≢false}
use Rattle.frames80.specs.declared.procedure.Procedure.{Procedure}
use Rattle.frames80.specs.declared.procedure.Procedure.TheVariants.{Entry}
use Rattle.frames80.specs.PointNumbers.{same_procedure}
use Rattle.verify80_calls.specs.declared.graph.call_graph.Node.{Node}
use Rattle.verify80_calls.specs.declared.graph.chain.Link.{Link}
use Rattle.verify80_calls.specs.Nodes.{bound_of}
use Rattle.verify80_calls.specs.Chain.{is_link}
use Rattle.verify80_calls.specs.Tables.{stands_at}

all_same : {A : Type 0} (n k : ℕ) (x : A) → get_or (replicate n x) k x ≡ x
all_same zero k x = refl
all_same (suc n) zero x = refl
all_same (suc n) (suc k) x = all_same n k x

-- none yet
pub no_bounds : (nodes : List Node) (bounds : List ℕ) → bounds ≡ replicate 65536 0 → (entry : ℕ)
    → get_or bounds entry 0 ≡ bound_of (drop (length nodes - 0) nodes) (Entry entry)
no_bounds nodes bounds is entry =
    ap (λ (l : List ℕ). get_or l entry 0) is ∙ all_same 65536 entry 0
    ∙ sym (ap (λ (l : List Node). bound_of l (Entry entry)) (drop_all (length nodes - 0) nodes (omega arith)))

pub no_marks : (marks : List Bool) → marks ≡ replicate 65536 false → (at : ℕ) → get_or marks at false ≡ false
no_marks marks is at = ap (λ (l : List Bool). get_or l at false) is ∙ all_same 65536 at false

-- no call of a procedure stands where none does
pub none_there : (chain : List Link) (caller : Procedure) (at : ℕ) → list_any (stands_at at) chain ≡ false → list_any (is_link caller at) chain ≡ false
none_there [] caller at none = refl
none_there (link ∷ chain) caller at none =
    let away = first_false (stands_at at link) (list_any (stands_at at) chain) none in
    neither (is_link caller at link) (list_any (is_link caller at) chain) (and-second (same_procedure link.caller caller) (stands_at at link) away)
    (none_there chain caller at (second_false (stands_at at link) (list_any (stands_at at) chain) none))
  where
    first_false : (x y : Bool) → (x || y) ≡ false → x ≡ false
    first_false true y h = h
    first_false false y h = refl

    second_false : (x y : Bool) → (x || y) ≡ false → y ≡ false
    second_false true y h = elim (true≢false h) [ ]
    second_false false y h = h

    neither : (x y : Bool) → x ≡ false → y ≡ false → (x || y) ≡ false
    neither true y e f = e
    neither false y e f = f

    and-second : (x y : Bool) → y ≡ false → (x && y) ≡ false
    and-second true y e = e
    and-second false y e = refl
