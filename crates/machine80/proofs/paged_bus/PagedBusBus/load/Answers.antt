use Rattle.std.specs.List.{flat_map}
use Rattle.std.proofs.Common.{◌≡◌, ◌∙◌, ap, sym, List, ℕ, arith, length, get_or}
use Rattle.machine80.proofs.PagesLemmas.{length-memory_in_pages, memory_in_a_row}
use Rattle.machine80.proofs.paged_bus.PagedBusBus.load.Goals as goal

pub returns-clause-byte : goal.returns-clause-byte
returns-clause-byte c =
    let row : c.as_flattened.result.now ≡ flat_map (λ (page : List ℕ). page) c.self.inside.pages.items = c.as_flattened.ensures.value ∙ ap (λ (l : List (List ℕ)). flat_map (λ (page : List ℕ). page) l) c.as_slice.ensures.value in
    ap (λ (n : ℕ). get_or c.as_flattened.result.now n 0) c.from.ensures
    ∙ ap (λ (l : List ℕ). get_or l c.args.address 0) row
    ∙ memory_in_a_row c.self.inside.pages.items c.args.address c.self.invariant (omega arith)
    ∙ ap (λ (l : List ℕ). get_or l c.args.address 0) c.self.view_is

pub returns-clause-whole : goal.returns-clause-whole
returns-clause-whole c = sym (ap (λ (l : List ℕ). length l) c.self.view_is) ∙ length-memory_in_pages c.self.inside.pages.items
