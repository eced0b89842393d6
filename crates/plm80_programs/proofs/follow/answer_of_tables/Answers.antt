use Rattle.std.specs.Prelude.{Option, not}
use Rattle.plm80_programs.proofs.Names.{◌≡◌, ◌++◌, ◌∙◌, ap, subst, prints, List, ℕ}
use Rattle.decode80.specs.declared.fetching.Fetched.{Fetched}
use Rattle.verify80_follow.specs.Reaching.{AreFollowed, AreStoresFollowed}
use Rattle.plm80_programs.specs.Following.{listing_lines}
use Rattle.plm80_programs.proofs.follow.answer_of_tables.Goals as goal

pub returns : goal.returns
returns c =
    let image = c.args.image.now in
    let names = c.args.names.now in
    let lists = c.args.asked.lists in
    let table = c.args.tables.table.now in
    let reached = c.in_ok-reached.reached.items in
    let stores = c.in_ok-stores.stores in
    let listing : c.in_ok-listing.listing.items ≡ listing_lines lists image names reached =
    c.in_ok-listing.ensures ∙ ap (λ (r : List (Option Fetched)). listing_lines lists image names r) c.deref-3.ensures.value in
    record {
      stores = stores;
      reached = reached;
      are_reached = subst (λ (p : List ℕ). AreFollowed image p reached) (c.deref.ensures.value ∙ c.in_ok-places.ensures) c.in_ok-reached.ensures;
      are_stores = subst (λ (r : List (Option Fetched)). AreStoresFollowed table.listed (not c.args.tables.is_set) r stores) c.deref-2.ensures.value c.in_ok-stores.ensures;
      is = c.prints.ensures
          ∙ ap (λ (l : List ℕ). prints l 0)
          (c.in_ok-extend_from_slice.ensures.items ∙ ap (λ (l : List ℕ). c.in_ok-text.text.items ++ l) (c.deref-4.ensures.value ∙ listing)
          ∙ ap (λ (l : List ℕ). l ++ listing_lines lists image names reached) c.in_ok-text.ensures);
    }
