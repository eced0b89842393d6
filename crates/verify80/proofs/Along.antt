-- Each run of an accepted program stays on its walks.
use Rattle.std.specs.Prelude.{◌≡◌, ℕ, zero, suc, ◌≤◌, true, [], Option, None, Some, refl}
use Rattle.std.proofs.Common.{◌∙◌, ap, sym, subst}
use Rattle.decode80.specs.declared.fetching.Fetched.{Fetched}
use Rattle.decode80.specs.Fetch.{FetchReadsCodeAlone}
use Rattle.frames80.specs.StackFrame.{main_frame}
use Rattle.frames80.specs.Effects.{effect_of}
use Rattle.frames80.specs.Moves.{moves_of}
use Rattle.frames80.specs.Places.{ChangesByPlaces, ReturnsByPlaces}
use Rattle.image80.specs.Image.{Located}
use Rattle.machine80.specs.Effects.{target}
use Rattle.machine80.specs.Step.{Machine}
use Rattle.machine80.specs.Run.{world_of}
use Rattle.machine80.specs.World.{World, world_at, next_world, following, refuses, returns}
use Rattle.frames80.specs.declared.procedure.Procedure.TheVariants.{Main}
use Rattle.frames80.specs.Code.{role_of}
use Rattle.verify80_flow.specs.Walks.{begins}
use Rattle.verify80_flow.specs.Fitting.{Table, Fits, IsFitted}
use Rattle.verify80_flow.specs.FittingLaws.{NoFault}
use Rattle.verify80.specs.Looking.{code_of}
use Rattle.verify80.specs.LookLaws.{LooksFindWhatIsAdmitted}
use Rattle.verify80.specs.Starts.{IsStart}
use Rattle.verify80.specs.Reached.{IsBehindCall, StaysOnWalks}
use Rattle.verify80.proofs.StoreLemmas.{Ground}
use Rattle.verify80.proofs.ChainLemmas.{Watched}
use Rattle.verify80.proofs.WalkLemmas.{in_main, OnWalk, Admits, admits, Ways, ways}
use Rattle.verify80.proofs.WalkStepLemmas.{Along, goes_along}
use Rattle.verify80.proofs.Headline.{world_in, Finds, finds, leads_on, same_found, watched_from}

module _ (image : Located) (table : Table) (most : ℕ) (rules : Ground image.regions) (fits : Fits (code_of image) table) (printed : table.bound Main ≡ most) (within : most ≤ image.regions.stack.length)
    (changes : ChangesByPlaces) (returns_law : ReturnsByPlaces) (looks : LooksFindWhatIsAdmitted) (fetches : FetchReadsCodeAlone) (none : NoFault (code_of image)) where
  abbrev FindsHere : World → Type 0
  FindsHere w = Finds image table most rules fits printed within changes returns_law looks fetches w

  abbrev finds_here : (w : World) → Watched image table most w → FindsHere w
  finds_here w s = finds image table most rules fits printed within changes returns_law looks fetches w s

  -- a world on a walk
  abbrev Walks : World → Type 0
  Walks w = OnWalk (code_of image) w.machine.cpu.pc w.places

  pub along : (w : World) (f : FindsHere w) → Walks w → Along image w f.found.instr f.found.next
  along w f o =
      let a : Admits (code_of image) o.procedure w.machine.cpu.pc o.frame = admits (code_of image) none o.procedure w.machine.cpu.pc o.frame o.walk in
      let there = f.looked in
      let looked = a.moving.looked in
      let same : a.found ≡ f.found = cc (there, looked) in
      let leads : Ways (code_of image) w.machine.cpu.pc a.found.next w.places a.moves = ways (code_of image) none o.procedure w.machine.cpu.pc o.frame o.walk w.places o.calls a.found a.moves a.moving in
      goes_along image w o.procedure o.frame f.found.next a.moves (subst (λ (x : Fetched). Ways (code_of image) w.machine.cpu.pc x.next w.places a.moves) same leads)
      f.found.instr f.declared f.safe.returning
      (ap (λ (x : Fetched). moves_of (role_of (code_of image) o.procedure) (effect_of x.instr) o.frame) (sym same) ∙ a.moving.moved)

  -- a step stays on walks
  stays : (limit : Option ℕ) (w after : World) → Watched image table most w → Walks w → next_world image.regions limit w ≡ Some after → Walks after
  stays limit w after s o h =
      let f : FindsHere w = finds_here w s in
      leads_on image table most rules fits printed within changes returns_law looks fetches Walks limit w after f (λ m pass e. (along w f o).goes_on (refuses limit w.machine.outputs) m e) h

  followed : (limit : Option ℕ) (w : World) (o : Option World) → ((v : World) → o ≡ Some v → Watched image table most v) → ((v : World) → o ≡ Some v → Walks v) → following image.regions limit o ≡ Some w → Walks w
  followed limit w None watched before h = cc
  followed limit w (Some v) watched before h = stays limit v w (watched v refl) (before v refl) h

  pub starts : (start : Machine) → IsStart image start → Walks (world_of start)
  starts start is_start = record {
    procedure = Main;
    frame = main_frame;
    walk = begins Main start.cpu.pc main_frame (record { procedure = refl; start = is_start.pc; frame = refl });
    calls = in_main Main [] (record { procedure = refl; none = refl });
  }

  module _ (start : Machine) (is_start : IsStart image start) where
    watched_at : (limit : Option ℕ) (n : ℕ) (w : World) → world_at image.regions limit (world_of start) n ≡ Some w → Watched image table most w
    watched_at limit n w h = watched_from image table most rules fits printed within changes returns_law looks fetches start is_start limit w (record { steps = n; is = h })

    always : (limit : Option ℕ) (n : ℕ) (w : World) → world_at image.regions limit (world_of start) n ≡ Some w → Walks w
    always limit zero w h = subst Walks (world_in h) (starts start is_start)
    always limit (suc n) w h = followed limit w (world_at image.regions limit (world_of start) n) (watched_at limit n) (always limit n) h

  pub stays_on_walks : StaysOnWalks image
  stays_on_walks = record {
    stands = λ start is_start limit w at.
        let f = finds_here w (watched_at start is_start limit at.steps w at.is) in
        let o = always start is_start limit at.steps w at.is in
        record { reached = record { procedure = o.procedure; frame = o.frame; walk = o.walk }; found = f.found; looked = f.looked; fetched = f.fetched };
    returning = λ start is_start limit w found at fetched taken.
        let f = finds_here w (watched_at start is_start limit at.steps w at.is) in
        let o = always start is_start limit at.steps w at.is in
        let same = same_found image table most rules fits printed within changes returns_law looks fetches w f found fetched in
        subst (λ (x : Fetched). returns x.instr w.machine.cpu.registers.flags ≡ true → IsBehindCall (code_of image) (target x.instr x.next w.machine.memory w.machine.cpu)) same (along w f o).behind taken;
  }

-- an image that is fitted stays on its walks
pub fitted_stays_on_walks : ChangesByPlaces → ReturnsByPlaces → LooksFindWhatIsAdmitted → FetchReadsCodeAlone → (image : Located) (bytes : ℕ) → Ground image.regions → (fitted : IsFitted (code_of image) bytes) →
    NoFault (code_of image) → bytes ≤ image.regions.stack.length → StaysOnWalks image
fitted_stays_on_walks changes returns_law looks fetches image bytes ground fitted none enough =
    stays_on_walks image fitted.table bytes ground fitted.fits fitted.printed enough changes returns_law looks fetches none
