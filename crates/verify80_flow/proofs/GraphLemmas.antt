-- The lists of depths and calls that are read off a filled table are those of the program's walks.
use Rattle.std.proofs.Common.{◌≡◌, ◌≤◌, ◌*◌, ℕ, List, length, get_or, refl, sym, ap, subst, ◌∙◌, arith}
use Rattle.std.specs.Prelude.{pos, ◌*ℤ◌, ◌-ℤ◌, Some, Contains, All, Any, slice_get}
use Rattle.std.proofs.lemmas.List.Elements.{Contains-get_or}
use Rattle.std.proofs.lemmas.Int.{ints}
use Rattle.decode80.specs.declared.fetching.Fetched.{Fetched}
use Rattle.frames80.specs.declared.role.Role.{Role}
use Rattle.frames80.specs.declared.role.Role.TheVariants.{Main as MainRole, Entry as EntryRole}
use Rattle.frames80.specs.StackFrame.{StackFrame}
use Rattle.frames80.specs.Effects.{effect_of}
use Rattle.frames80.specs.Calls.{depth_of}
use Rattle.frames80.specs.Places.{SameCounts, Covers}
use Rattle.frames80.specs.declared.procedure.Procedure.{Procedure}
use Rattle.verify80_bounds.specs.declared.graph.Depth.{Depth}
use Rattle.verify80_bounds.specs.declared.graph.CallSite.{CallSite}
use Rattle.frames80_interned.specs.Admitted.{move_of}
use Rattle.frames80.specs.Code.{Code, role_of}
use Rattle.verify80_flow.specs.Walks.{Walk, Calls, called}
use Rattle.verify80_flow.specs.Points.{Point}
use Rattle.verify80_bounds.specs.Chains.{IsModest}
use Rattle.verify80_flow.specs.Graph.{HasDepth, HasCall, IsGraph}
use Rattle.verify80_flow.specs.Shown.{Shows, Whole, FrameLaws}
use Rattle.verify80_flow.specs.Known.{Known, is_exact, IsWithin, IsSmall, HasPoint, IsClosed, IsFilled}
use Rattle.verify80_flow.specs.Survey.{depth_at, call_at, IsDepthAt, IsCallAt, IsSurvey}
use Rattle.verify80_flow.proofs.MoveLemmas.{moved_is, called_along}
use Rattle.verify80_flow.proofs.FitLemmas.{covers_walks, found_same, moves_there}
use Rattle.verify80_flow.proofs.KnownTable.{known_table, known_closes, found_stands}
use Rattle.verify80_flow.proofs.ShownLemmas.{asks_whole, calls_along}
use Rattle.verify80_flow.proofs.Slices.{within}

pub all_from : {X : Type 0} (P : X → Type 0) (xs : List X) → ((x : X) → Contains xs x → P x) → All P xs
all_from P xs each k d less = each (get_or xs k d) (Contains-get_or xs k d less)

pub any_from : {X : Type 0} (P : X → Type 0) (xs : List X) (x : X) → Contains xs x → P x → Any P xs
any_from P xs x there is = (there.0, x, there.1, there.2, is)

-- every walk is at a point of the table
pub has_walk : FrameLaws → (code : Code) (known : Known) → IsFilled code known → (p : Procedure) (at : ℕ) (f : StackFrame) → Walk code p at f → HasPoint known p at f
has_walk laws code known filled p at f walk =
    let none : Procedure → ℕ = λ _. 0 in
    let has = covers_walks laws code (known_table known none none) (known_closes code known none none filled.small.apart filled.closed) p at f walk in
    let s = found_stands known.points p at has.frame has.there in
    record { number = s.number; point = s.point; there = s.there; procedure = s.procedure; address = s.address; covers = subst (λ (x : StackFrame). Covers x f) (sym s.frame) has.covers }

-- a walk at each point of the table, with its counts
pub walk_at : (code : Code) (known : Known) → IsFilled code known → (i : ℕ) (point : Point) → slice_get known.points i ≡ Some point → Shows code point.procedure point.at point.frame Whole
walk_at code known filled i point there = (filled.stands.points i point there).by Whole (asks_whole (is_exact known.forgets)) tt

-- the depth goes by the counts
pub depth_same : (role : Role) (f g : StackFrame) → SameCounts f g → depth_of role f ≡ depth_of role g
depth_same (MainRole top) f g same = ap (λ n. pos (2 * n)) same.words
depth_same EntryRole f g same = ap (λ n. pos 2 *ℤ ((pos n -ℤ pos 1) -ℤ pos f.taken)) same.words ∙ ap (λ n. pos 2 *ℤ ((pos (length g.words) -ℤ pos 1) -ℤ pos n)) same.taken

modest : (role : Role) (f : StackFrame) (n : ℕ) → n ≤ 262144 → IsWithin n f → IsModest (depth_of role f)
modest (MainRole top) f n few is = let w = is.words in record { low = omega (arith, ints); high = omega (arith, ints) }
modest EntryRole f n few is = let w = is.words in let t = is.taken in record { low = omega (arith, ints); high = omega (arith, ints) }

pub modest_depths : (code : Code) (known : Known) (wants : List ℕ) (depths : List Depth) (calls : List CallSite) → IsSmall known → IsSurvey code known wants (length known.points) depths calls →
    All (λ (d : Depth). IsModest d.depth) depths
modest_depths code known wants depths calls small s = all_from (λ (d : Depth). IsModest d.depth) depths
    (λ d there. let is = s.depth d there in subst (λ (x : Depth). IsModest x.depth) (sym is.is)
    (modest (role_of code is.point.procedure) is.point.frame (length known.points) small.points (small.frames is.number is.point is.there)))

pub modest_calls : (code : Code) (known : Known) (wants : List ℕ) (depths : List Depth) (calls : List CallSite) → IsSmall known → IsSurvey code known wants (length known.points) depths calls →
    All (λ (c : CallSite). IsModest c.depth) calls
modest_calls code known wants depths calls small s = all_from (λ (c : CallSite). IsModest c.depth) calls
    (λ c there. let is = s.call c there in subst (λ (x : CallSite). IsModest x.depth) (sym is.is)
    (modest (role_of code is.point.procedure) is.point.frame (length known.points) small.points (small.frames is.number is.point is.there)))

-- what is read off a point is a walk's
depth_shown : (code : Code) (known : Known) → IsFilled code known → (d : Depth) → IsDepthAt code known d → HasDepth code d.procedure d.depth
depth_shown code known filled d is =
    let w = walk_at code known filled is.number is.point is.there in
    subst (λ (x : Depth). HasDepth code x.procedure x.depth) (sym is.is)
    (record { at = is.point.at; frame = w.frame; walk = w.walk; is = depth_same (role_of code is.point.procedure) is.point.frame w.frame w.covers.counts })

-- a call at a point is one of each walk that its frame covers
pub call_along : FrameLaws → (code : Code) (known : Known) → IsFilled code known → (i : ℕ) (point : Point) → slice_get known.points i ≡ Some point → (target next : ℕ) →
    Calls code point.procedure point.at point.frame target next → (w : StackFrame) → Covers point.frame w → Calls code point.procedure point.at w target next
call_along laws code known filled i point there target next call w covers =
    subst (λ n. Calls code point.procedure point.at w target n) (sym call.after)
    (calls_along laws (is_exact known.forgets) code point.procedure point.at point.frame call.found call.moves
    (record { shown = filled.stands.points i point there; looked = call.moving.looked; moved = call.moving.moved }) target call.call w covers)

call_shown : FrameLaws → (code : Code) (known : Known) → IsFilled code known → (c : CallSite) → IsCallAt code known c → HasCall code c.caller c.at c.depth c.target
call_shown laws code known filled c is =
    let w = walk_at code known filled is.number is.point is.there in
    subst (λ (x : CallSite). HasCall code x.caller x.at x.depth x.target) (sym is.is)
    (record {
      next = is.next;
      frame = w.frame;
      walk = w.walk;
      call = call_along laws code known filled is.number is.point is.there is.target is.next is.calls w.frame w.covers;
      is = depth_same (role_of code is.point.procedure) is.point.frame w.frame w.covers.counts;
    })

-- and a call of a walk is one of the point's frame
pub call_there : (code : Code) (known : Known) (point : Point) → IsClosed code known point → (w : StackFrame) (target next : ℕ) →
    Calls code point.procedure point.at w target next → Calls code point.procedure point.at point.frame target next
call_there code known point closed w target next call =
    let effect = effect_of call.found.instr in
    let same : closed.found ≡ call.found = found_same (code.look point.at) closed.found call.found closed.moving.looked call.moving.looked in
    let there : closed.moves ≡ move_of effect point.frame = moves_there code point.procedure point.at point.frame closed.found call.found closed.moves closed.moving same in
    let mine : call.moves ≡ move_of effect w = (moved_is (role_of code point.procedure) effect w call.moves call.moving.moved).move in
    record {
      found = closed.found;
      moves = closed.moves;
      moving = closed.moving;
      call = ap called there ∙ called_along effect point.frame w ∙ ap called (sym mine) ∙ call.call;
      after = call.after ∙ ap (λ (x : Fetched). x.next) (sym same);
    }

-- a walk, seen from its point
pub record SeenAt (code : Code) (known : Known) (p : Procedure) (at : ℕ) (f : StackFrame) : Type 0 where
  pub number : ℕ
  pub point : Point
  pub there : slice_get known.points number ≡ Some point
  pub procedure : point.procedure ≡ p
  pub address : point.at ≡ at
  pub covers : Covers point.frame f
  pub calls : (target next : ℕ) → Calls code p at f target next → Calls code point.procedure point.at point.frame target next
  pub depth : depth_of (role_of code point.procedure) point.frame ≡ depth_of (role_of code p) f

pub seen_at : FrameLaws → (code : Code) (known : Known) → IsFilled code known → (p : Procedure) (at : ℕ) (f : StackFrame) → Walk code p at f → SeenAt code known p at f
seen_at laws code known filled p at f walk =
    let has = has_walk laws code known filled p at f walk in
    record {
      number = has.number;
      point = has.point;
      there = has.there;
      procedure = has.procedure;
      address = has.address;
      covers = has.covers;
      calls = λ target next call. call_there code known has.point (filled.closed.points has.number has.point has.there) f target next
          (subst (λ (q : Procedure). Calls code q has.point.at f target next) (sym has.procedure) (subst (λ a. Calls code p a f target next) (sym has.address) call));
      depth = depth_same (role_of code has.point.procedure) has.point.frame f has.covers.counts ∙ ap (λ (q : Procedure). depth_of (role_of code q) f) has.procedure;
    }

-- the lists are the program's
pub are_graph : FrameLaws → (code : Code) (known : Known) (wants : List ℕ) (depths : List Depth) (calls : List CallSite) → IsFilled code known →
    IsSurvey code known wants (length known.points) depths calls → IsGraph code depths calls
are_graph laws code known wants depths calls filled s = record {
  depth = all_from (λ (d : Depth). HasDepth code d.procedure d.depth) depths (λ d there. depth_shown code known filled d (s.depth d there));
  every_depth = λ p depth has.
      let seen = seen_at laws code known filled p has.at has.frame has.walk in
      any_from (λ (d : Depth). (d.procedure ≡ p) × (d.depth ≡ depth)) depths (depth_at code seen.point)
      (s.every_depth seen.number seen.point (within known.points seen.number seen.point seen.there) seen.there) (seen.procedure, seen.depth ∙ sym has.is);
  call = all_from (λ (c : CallSite). HasCall code c.caller c.at c.depth c.target) calls (λ c there. call_shown laws code known filled c (s.call c there));
  every_call = λ p at depth target has.
      let seen = seen_at laws code known filled p at has.frame has.walk in
      any_from (λ (c : CallSite). (c.caller ≡ p) × (c.target ≡ target) × (c.depth ≡ depth)) calls (call_at code seen.point target)
      (s.every_call seen.number seen.point target has.next (within known.points seen.number seen.point seen.there) seen.there (seen.calls target has.next has.call))
      (seen.procedure, refl, seen.depth ∙ sym has.is);
}
