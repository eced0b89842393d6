use Rattle.std.specs.Prelude.{◌≡◌, ℕ, List, ◌∷◌, [], All, map, true}
use Rattle.std.proofs.Common.{subst}
use Rattle.std.proofs.lemmas.Result.{IfOk-weaker}
use Rattle.image80.specs.declared.range.Range.{Range}
use Rattle.verify80_stores.specs.Boards.{is_quiet}
use Rattle.verify80_follow.specs.declared.handling.Handler.{Handler}
use Rattle.verify80_follow.specs.{Reaching.AreListed, Reaching.places_of, Tables.AreFit, Tables.PromiseOfTables}
use Rattle.plm80_programs.specs.Following.{KeepsLivePromise}
use Rattle.plm80_programs.proofs.finding.keep_live_promise.Goals as goal

pub returns : goal.returns
returns c =
    let image = c.args.image.now in
    let found = c.args.found.now in
    let quiet = is_quiet image.regions c.args.quiet.now in
    let Kept : (writes : List Range) (handlers : List Handler) (addresses : List ℕ) (most : ℕ) → Type 0 = λ (writes : List Range) (handlers : List Handler) (addresses : List ℕ) (most : ℕ).
    PromiseOfTables image quiet (is_quiet image.regions writes) found.is_set found.table handlers addresses most in
    let All3 : (writes : List Range) (handlers : List Handler) → Type 0 = λ (writes : List Range) (handlers : List Handler).
    Kept writes handlers (map (λ (handler : Handler). handler.at) handlers) found.most
    × (All (λ (handler : Handler). Kept writes handlers (handler.at ∷ []) handler.table.bytes) handlers
    × AreFit image quiet (is_quiet image.regions writes) found.is_set found.table handlers found.most) in
    let followed = c.in_ok-follows_live.ensures in
    let is = c.if-not-branch.false in
    let all : All3 c.deref.result.now c.deref-2.result.now = (followed.promise is, (followed.each is, followed.fit is)) in
    let here : All3 found.writes.items found.handlers.items = subst (λ (writes : List Range). All3 writes found.handlers.items) c.deref.ensures.value
    (subst (λ (handlers : List Handler). All3 c.deref.result.now handlers) c.deref-2.ensures.value all) in
    IfOk-weaker c.is_listed_in_order.result (λ f. f ≡ true → AreListed image (places_of found.table c.deref-3.result.now) found.table.listed)
    (λ f. f ≡ true → KeepsLivePromise c.args.quiet.now image found)
    (λ f listed listed_is. (here.0, (here.1.0, (here.1.1, subst (λ (handlers : List Handler). AreListed image (places_of found.table handlers) found.table.listed) c.deref-3.ensures.value (listed listed_is)))))
    c.is_listed_in_order.ensures
