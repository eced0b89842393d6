use Rattle.std.specs.Prelude.{◌≡◌, ◌||◌, ◌+◌, Bool, ℕ, List, Some, true, false, drop, slice_get}
use Rattle.std.specs.List.{list_any, enumerate_from}
use Rattle.std.proofs.Common.{◌∙◌, ap, sym}
use Rattle.omf_model.specs.Contents.{ContentValue}
use Rattle.omf_model.specs.Modules.{ModuleValue}
use Rattle.link80.specs.LinkFault.{is_high_off_page}
use Rattle.link80.proofs.LoopLemmas.{passes_at}
use Rattle.link80.proofs.high_bytes.any_high_off_page.Goals as goal

abbrev has_one : List ModuleValue → ℕ × ModuleValue → Bool
has_one modules m = list_any (λ c. list_any (is_high_off_page modules m.0) c.fixups) m.1.contents

-- what the modules from this one on have
step : (modules : List ModuleValue) (n : ℕ) (m : ModuleValue) (contents : List ContentValue) (has : Bool)
    → slice_get modules n ≡ Some m → contents ≡ m.contents →
    has ≡ list_any (λ c. list_any (is_high_off_page modules n) c.fixups) contents →
    list_any (has_one modules) (enumerate_from n (drop n modules))
    ≡ (has || list_any (has_one modules) (enumerate_from (n + 1) (drop (n + 1) modules)))
step modules n m contents has at same is =
    passes_at (has_one modules) modules n m at
    ∙ ap (λ b. b || list_any (has_one modules) (enumerate_from (n + 1) (drop (n + 1) modules)))
    (sym (is ∙ ap (λ (l : List ContentValue). list_any (λ k. list_any (is_high_off_page modules n) k.fixups) l) same))

pub returns-then-has_high_off_page : goal.returns-then-has_high_off_page
returns-then-has_high_off_page c =
    sym (sym c.loop-number.invariant
    ∙ step c.args.modules.now c.loop-number.number c.get.result.now c.contents.result.now true c.get.ensures
    c.contents.ensures.value c.if-has_high_off_page.ensures)

pub loop-number-preserved : goal.loop-number-preserved
loop-number-preserved c =
    sym (step c.args.modules.now c.loop-number.number c.get.result.now c.contents.result.now false c.get.ensures
    c.contents.ensures.value c.if-has_high_off_page.ensures)
    ∙ c.loop-number.invariant
