use Rattle.std.proofs.Common.{◌≡◌, ◌/◌, ◌<◌, ◌∙◌, ap, sym, subst, List, ℕ, [], arith, length, get_or, set}
use Rattle.machine80.specs.Pages.{memory_in_pages}
use Rattle.machine80.proofs.PagesLemmas.{length-memory_in_pages, memory_in_pages-set, page_at}
use Rattle.machine80.proofs.paged_bus.PagedBusBus.store.Goals as goal

pub returns-clause-stored : goal.returns-clause-stored
returns-clause-stored c =
    let pages : List (List ℕ) = c.self.inside.pages.items in
    let page : List ℕ = c.index_mut.result.now in
    let there : c.from.result < length pages = omega (arith, c.self.invariant.count) in
    let is : page ≡ get_or pages (c.args.address / 256) [] = page_at pages c.from.result page [] there c.index_mut.ensures.value ∙ ap (λ (n : ℕ). get_or pages n []) c.from.ensures in
    let long : length page ≡ 256 = subst (λ (l : List ℕ). length l ≡ 256) (sym is) (c.self.invariant.whole (c.args.address / 256) [] (omega (arith, c.self.invariant.count))) in
    ap (λ (n : ℕ). memory_in_pages (set pages n (set page c.from-2.result c.args.byte))) c.from.ensures
    ∙ ap (λ (n : ℕ). memory_in_pages (set pages (c.args.address / 256) (set page n c.args.byte))) c.from-2.ensures
    ∙ memory_in_pages-set pages c.args.address c.args.byte page (omega arith) c.self.invariant.count is long
    ∙ ap (λ (l : List ℕ). set l c.args.address c.args.byte) c.self.view_is

pub returns-clause-whole : goal.returns-clause-whole
returns-clause-whole c = length-memory_in_pages _
