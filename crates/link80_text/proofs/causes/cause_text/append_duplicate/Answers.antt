use Rattle.std.specs.Prelude.{◌≡◌, ◌++◌, ℕ, List, map, OnOk}
use Rattle.std.proofs.Common.{◌∙◌, subst}
use Rattle.link80_text.specs.Causes.{first_two, declarations}
use Rattle.link80_text.proofs.causes.cause_text.append_duplicate.Goals as goal

pub returns : goal.returns
returns c =
    let files = map (λ f. f.now) c.args.files.now in
    let modules = map (λ m. m.now) c.args.modules.now in
    let text = c.args.text.now.items in
    let after = c.append_first_two.new.text.items in
    subst (λ (does : List ℕ). OnOk c.append_first_two.result (after ≡ text ++ first_two files modules does (declarations modules c.args.name.now)))
    c.as_slice.ensures
    (subst (λ (numbers : List ℕ). OnOk c.append_first_two.result (after ≡ text ++ first_two files modules c.as_slice.result.now numbers))
    (c.deref.ensures.value ∙ c.in_ok-numbers.ensures) c.append_first_two.ensures)
