-- Texts that grow, and texts that are filled up; what an Ok gives.
use Rattle.std.proofs.Common.{◌≡◌, ℕ, ◌+◌, ◌-◌, List, ◌++◌, length, drop, codes, ap, ◌∙◌, arith, append_assoc, length-append}
use Rattle.std.specs.Prelude.{Result, Ok, Err, OnOk}
use Rattle.verify80_explain_text.specs.Instructions.{filled}

-- a text that is filled up to ten places behind another one
pub filled_up : (old text one all : List ℕ) (before : ℕ) → before ≡ length old → one ≡ old ++ text
    → all ≡ one ++ drop (length one - before) (codes "          ") → all ≡ old ++ filled text
filled_up old text one all before e e₁ e₂ =
    let long : length one ≡ length old + length text = ap length e₁ ∙ length-append old text in
    let shown : length one - before ≡ length text = omega arith in
    e₂ ∙ ap (λ (k : ℕ). one ++ drop k (codes "          ")) shown
    ∙ ap (λ (l : List ℕ). l ++ drop (length text) (codes "          ")) e₁
    ∙ append_assoc old text (drop (length text) (codes "          "))

-- two texts behind another one
pub grown_by_two : (old one two some all : List ℕ) → some ≡ old ++ one → all ≡ some ++ two → all ≡ old ++ (one ++ two)
grown_by_two old one two some all first second = second ∙ ap (λ (l : List ℕ). l ++ two) first ∙ append_assoc old one two

-- what follows from what an answer's Ok gives
pub on_ok : {A E : Type 0} (P Q : Type 0) (r : Result A E) → (P → Q) → OnOk r P → OnOk r Q
on_ok P Q (Ok x) more p = more p
on_ok P Q (Err e) more p = tt
