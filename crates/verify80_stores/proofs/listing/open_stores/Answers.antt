use Rattle.verify80_stores.proofs.Names.{◌∙◌, true, ap, map, subst, sym, AreOpen, is_listed, store_at, stores_by_pair}
use Rattle.verify80_stores.proofs.ListLemmas.{all_of, are_open}
use Rattle.verify80_stores.proofs.listing.open_stores.Goals as goal

pub returns : goal.returns
returns c =
    let reached = c.args.reached.now in
    let notes = c.args.notes.now in
    let addresses = c.in_ok-addresses.addresses.items in
    subst (AreOpen reached notes) (sym (c.in_ok-stores.ensures ∙ ap (map (store_at reached notes)) c.deref.ensures.value))
    (are_open reached notes addresses (all_of (is_listed stores_by_pair true reached notes) addresses c.in_ok-addresses.ensures))
