use Rattle.std.specs.Prelude.{List, Option, ℕ, map}
use Rattle.std.proofs.Common.{◌∙◌, ap, refl, subst, sym}
use Rattle.verify80_stores.specs.declared.stores.OpenStore.{OpenStore}
use Rattle.decode80.specs.declared.fetching.Fetched.{Fetched}
use Rattle.verify80_stores.specs.Pointers.{stores_by_pair}
use Rattle.verify80.specs.Looking.{is_pchl}
use Rattle.verify80_follow.specs.Reaching.{AreAt, AreFollowed, places_of}
use Rattle.verify80_follow.proofs.ReachLemmas.{are_at}
use Rattle.verify80_follow.proofs.reaching.is_listed_in_order.Goals as goal

pub returns : goal.returns
returns c =
    let image = c.args.image.now in
    let places = places_of c.args.table.now c.args.handlers.now in
    let followed : AreFollowed image places c.in_ok-reached.reached.items = subst (λ (p : List ℕ). AreFollowed image p c.in_ok-reached.reached.items) (c.deref.ensures.value ∙ c.in_ok-places.ensures) c.in_ok-reached.ensures in
    let in_stores = subst (λ (r : List (Option Fetched)). AreFollowed image places r) (sym c.deref-4.ensures.value) followed in
    let in_jumps = subst (λ (r : List (Option Fetched)). AreFollowed image places r) (sym c.deref-6.ensures.value) followed in
    λ is. record {
      stores = subst (λ (addresses : List ℕ). AreAt image places stores_by_pair addresses) (c.deref-3.ensures.value ∙ c.in_ok-stores.ensures ∙ ap (map (λ (s : OpenStore). s.at)) c.deref-2.ensures.value)
          (are_at image places c.deref-4.result.now stores_by_pair in_stores c.deref-3.result.now (c.if-not-are_in_order.ensures.ascending refl) (c.if-not-are_in_order.ensures.each refl));
      jumps = subst (λ (addresses : List ℕ). AreAt image places is_pchl addresses) c.deref-5.ensures.value
          (are_at image places c.deref-6.result.now is_pchl in_jumps c.deref-5.result.now (c.are_in_order-2.ensures.ascending is) (c.are_in_order-2.ensures.each is));
    }
