-- A filled table, with the words that are wanted and the bounds: it fits, no refusal holds, and the rows are right.
use Rattle.std.proofs.Common.{◌≡◌, ◌≢◌, ◌<◌, ◌≤◌, ◌+◌, inl, inr, ℕ, zero, suc, Bool, true, false, List, [], ◌∷◌, length, refl, sym, ap, subst, ◌∙◌, arith, true≢false}
use Rattle.std.specs.Prelude.{ℤ, pos, ◌+ℤ◌, ◌≤ℤ◌, Option, Some, None, slice_get, if◌then◌else◌}
use Rattle.frames80.specs.declared.fault.FrameFault.TheVariants.{Sphl as FrameSphl, StackByByte as FrameStackByByte, SetsStack as FrameSetsStack}
use Rattle.frames80.specs.declared.fault.FrameFault.TheVariants.{PopsBelow as FramePopsBelow, ReturnNotOwn as FrameReturnNotOwn, ReturnFromMain as FrameReturnFromMain}
use Rattle.frames80.specs.StackFrame.{StackFrame, entry_frame}
use Rattle.frames80.specs.Calls.{returned, depth_of}
use Rattle.frames80.specs.declared.procedure.Procedure.{Procedure}
use Rattle.frames80.specs.declared.procedure.Procedure.TheVariants.{Main, Entry}
use Rattle.verify80_flow.specs.declared.report.ProcRow.{ProcRow}
use Rattle.frames80.specs.declared.code.LookFault.TheVariants.{Outside, Unused, EnablesInterrupts as LooksAtEi, Pchl as LooksAtPchl, DirectStore as LooksAtStore}
use Rattle.verify80_flow.specs.declared.refusal.Refusal.{Refusal}
use Rattle.verify80_flow.specs.declared.refusal.Refusal.TheVariants.{FetchOutside, UnusedOpcode, EnablesInterrupts, Sphl, Pchl, StackByByte, SetsStack}
use Rattle.verify80_flow.specs.declared.refusal.Refusal.TheVariants.{DirectStore, PopsBelow, ReturnNotOwn, ReturnFromMain, HeightsDiffer, UnevenArguments}
use Rattle.verify80_flow.specs.declared.refusal.Refusal.TheVariants.{ShortArguments, Recursion, StackTooSmall, TooManyPoints, Memory}
use Rattle.frames80.specs.Code.{Code, role_of}
use Rattle.verify80_flow.specs.Walks.{Walk, begins, goes_on, enters, comes_back, Calls}
use Rattle.verify80_flow.specs.Use.{last, through, IsBound}
use Rattle.verify80_flow.specs.Faults.{HoldsAnyway, Many, most_points}
use Rattle.verify80_flow.specs.Fitting.{FrameFits, Fits}
use Rattle.verify80_flow.specs.Rows.{ReturnsWith, Wants, IsRow, AreRows}
use Rattle.verify80_flow.specs.Accepted.{IsMeasured}
use Rattle.verify80_flow.specs.Points.{Point, is_at}
use Rattle.verify80_bounds.specs.Chains.{bytes_of}
use Rattle.verify80_flow.specs.Shown.{FrameLaws}
use Rattle.verify80_flow.specs.Known.{Known, IsFilled, exit_of}
use Rattle.verify80_flow.specs.Survey.{IsEntered, AreWants, IsBounded, takes_in_row, returns_in_row, row_of, AreListed}
use Rattle.verify80_flow.proofs.FitLemmas.{takes_of as taken_at_returns, no_look_fault, no_move_fault, no_differ, no_uneven, no_short}
use Rattle.verify80_flow.proofs.KnownTable.{StandsAt, known_table, known_closes, found_stands, has_point, closes_return, at_is, is_there}
use Rattle.verify80_flow.proofs.GraphLemmas.{all_from, any_from, has_walk, walk_at, depth_same, call_along}
use Rattle.verify80_flow.proofs.PigeonLemmas.{too_many}
use Rattle.verify80_flow.proofs.Slices.{within}

-- all that was found out of a program
pub record IsAnalyzed (code : Code) (known : Known) (wants bytes : List ℕ) : Type 0 where
  pub filled : IsFilled code known
  pub wanted : AreWants known.points wants (length known.points)
  pub bounded : IsBounded code known wants bytes

module _ (laws : FrameLaws) (code : Code) (known : Known) (wants bytes : List ℕ) (is : IsAnalyzed code known wants bytes) where
  call_bytes : (i : ℕ) (point : Point) → slice_get known.points i ≡ Some point → (target next : ℕ) → Calls code point.procedure point.at point.frame target next →
      ((depth_of (role_of code point.procedure) point.frame +ℤ pos 2) +ℤ pos (bytes_of bytes (Entry target))) ≤ℤ pos (bytes_of bytes point.procedure)
  call_bytes i point there target next call =
      let w = walk_at code known is.filled i point there in
      let along = call_along laws code known is.filled i point there target next call w.frame w.covers in
      let mine = is.bounded.bounds.bound point.procedure point.at w.frame w.walk in
      let entered : Walk code (Entry target) target entry_frame =
      enters point.procedure point.at w.frame target next (Entry target) target entry_frame w.walk along (record { procedure = refl; start = refl; frame = refl }) in
      let theirs = is.bounded.bounds.bound (Entry target) target entry_frame entered in
      let depth = depth_same (role_of code point.procedure) point.frame w.frame w.covers.counts in
      subst (λ (d : ℤ). ((d +ℤ pos 2) +ℤ pos (bytes_of bytes (Entry target))) ≤ℤ pos (bytes_of bytes point.procedure)) (sym depth)
      (mine.above ((depth_of (role_of code point.procedure) w.frame +ℤ pos 2) +ℤ pos (bytes_of bytes (Entry target)))
      (through point.procedure target (pos (bytes_of bytes (Entry target))) ((depth_of (role_of code point.procedure) w.frame +ℤ pos 2) +ℤ pos (bytes_of bytes (Entry target)))
      theirs.reached (record { at = point.at; next = next; frame = w.frame; walk = w.walk; call = along; sum = refl })))

  deep : (i : ℕ) (point : Point) → slice_get known.points i ≡ Some point → depth_of (role_of code point.procedure) point.frame ≤ℤ pos (bytes_of bytes point.procedure)
  deep i point there =
      let w = walk_at code known is.filled i point there in
      let mine = is.bounded.bounds.bound point.procedure point.at w.frame w.walk in
      let depth = depth_same (role_of code point.procedure) point.frame w.frame w.covers.counts in
      subst (λ (d : ℤ). d ≤ℤ pos (bytes_of bytes point.procedure)) (sym depth)
      (mine.above (depth_of (role_of code point.procedure) w.frame)
      (last point.procedure (depth_of (role_of code point.procedure) w.frame) (record { at = point.at; frame = w.frame; walk = w.walk; sum = refl })))

  -- each frame fits
  point_fits : (i : ℕ) (point : Point) → slice_get known.points i ≡ Some point → FrameFits code (known_table known (bytes_of wants) (bytes_of bytes)) point.procedure point.at point.frame
  point_fits i point there =
      let closed = is.filled.closed.points i point there in
      let less = within known.points i point there in
      let into = has_point known (bytes_of wants) (bytes_of bytes) is.filled.small.apart in
      record {
        found = closed.found;
        moves = closed.moves;
        moving = closed.moving;
        on = λ to g leads. into point.procedure to g (closed.follows.on to g leads);
        call = λ target called_target.
            let call : Calls code point.procedure point.at point.frame target closed.found.next =
            record { found = closed.found; moves = closed.moves; moving = closed.moving; call = called_target; after = refl } in
            record {
              enters = into (Entry target) target entry_frame (closed.follows.enters target called_target);
              words = is.bounded.words i point target closed.found.next there call;
              bytes = call_bytes i point there target closed.found.next call;
              after = λ taken takes. into point.procedure closed.found.next (returned taken point.frame) (closed.follows.after target taken called_target takes);
            };
        return = closes_return code known (bytes_of wants) (bytes_of bytes) point.procedure point.at point.frame closed.found closed.moves closed.moving closed.follows;
        wants = is.wanted.above i point less there;
        depth = deep i point there;
      }

  pub known_fits : Fits code (known_table known (bytes_of wants) (bytes_of bytes))
  known_fits = record {
    start = has_point known (bytes_of wants) (bytes_of bytes) is.filled.small.apart Main code.start _ is.filled.closed.start;
    frames = λ p at f there. here p at f (found_stands known.points p at f there);
  }
    where
      here : (p : Procedure) (at : ℕ) (f : StackFrame) → StandsAt known.points p at f → FrameFits code (known_table known (bytes_of wants) (bytes_of bytes)) p at f
      here p at f s =
          subst (λ (q : Procedure). FrameFits code (known_table known (bytes_of wants) (bytes_of bytes)) q at f) s.procedure
          (subst (λ a. FrameFits code (known_table known (bytes_of wants) (bytes_of bytes)) s.point.procedure a f) s.address
          (subst (λ (g : StackFrame). FrameFits code (known_table known (bytes_of wants) (bytes_of bytes)) s.point.procedure s.point.at g) s.frame
          (point_fits s.number s.point s.there)))

  -- the main program begins
  main_bound : IsBound code Main (bytes_of bytes Main)
  main_bound = is.bounded.bounds.bound Main code.start _ (begins Main code.start _ (record { procedure = refl; start = refl; frame = refl }))

  -- where a point of that address of that procedure stands
  abbrev place_of : List Point → Procedure → ℕ → ℕ
  place_of [] p at = 0
  place_of (point ∷ points) p at = if is_at p at point then 0 else suc (place_of points p at)

  placed : (points : List Point) (i : ℕ) (point : Point) (p : Procedure) (at : ℕ) → slice_get points i ≡ Some point → point.procedure ≡ p → point.at ≡ at →
      (q : Point) × (slice_get points (place_of points p at) ≡ Some q) × (q.procedure ≡ p) × (q.at ≡ at)
  placed [] i point p at there procedure address = absurd (let e : None ≡ Some point = there in cc)
  placed (first ∷ points) zero point p at there procedure address =
      let same : first ≡ point = cc in
      let yes_here : is_at p at first ≡ true =
      subst (λ (x : Point). is_at p at x ≡ true) (sym same)
      (subst (λ (x : Procedure). is_at x at point ≡ true) procedure (subst (λ a. is_at point.procedure a point ≡ true) address (is_there point))) in
      (first, rw yes_here refl, ap (λ (x : Point). x.procedure) same ∙ procedure, ap (λ (x : Point). x.at) same ∙ address)
  placed (first ∷ points) (suc i) point p at there procedure address = by (is_at p at first) refl (placed points i point p at there procedure address)
    where
      by : (b : Bool) → is_at p at first ≡ b → ((q : Point) × (slice_get points (place_of points p at) ≡ Some q) × (q.procedure ≡ p) × (q.at ≡ at)) →
          (q : Point) × (slice_get (first ∷ points) (place_of (first ∷ points) p at) ≡ Some q) × (q.procedure ≡ p) × (q.at ≡ at)
      by true same rest = let parts = at_is p at first same in (first, rw same refl, parts.0, parts.1)
      by false other rest = (rest.0, rw other rest.1, rest.2, rest.3)

  same_point : (o : Option Point) (x y : Point) → o ≡ Some x → o ≡ Some y → x ≡ y
  same_point o x y one other = cc

  -- there are no more points than stand in the table
  few_points : Many code (most_points + 1) → ⊥
  few_points many = too_many (length known.points) (most_points + 1) (λ n. place_of known.points (many.procedure n) (many.at n))
      (let few = is.filled.small.points in omega arith) (record {
        within = λ n less. let q = there n less in within known.points (place_of known.points (many.procedure n) (many.at n)) q.0 q.1;
        apart = λ n m one other same.
            let q = there n one in
            let r = there m other in
            let e : q.0 ≡ r.0 =
            same_point (slice_get known.points (place_of known.points (many.procedure m) (many.at m))) q.0 r.0
            (subst (λ k. slice_get known.points k ≡ Some q.0) same q.1) r.1 in
            many.apart n m one other (sym q.2 ∙ ap (λ (x : Point). x.procedure) e ∙ r.2) (sym q.3 ∙ ap (λ (x : Point). x.at) e ∙ r.3);
      })
    where
      there : (n : ℕ) → n < most_points + 1 →
          (q : Point) × (slice_get known.points (place_of known.points (many.procedure n) (many.at n)) ≡ Some q) × (q.procedure ≡ many.procedure n) × (q.at ≡ many.at n)
      there n less =
          let has = has_walk laws code known is.filled (many.procedure n) (many.at n) (many.frame n) (many.walk n less) in
          placed known.points has.number has.point (many.procedure n) (many.at n) has.there has.procedure has.address

  no_refusal : (refusal : Refusal) → refusal ≢ Memory → HoldsAnyway code refusal → ⊥
  no_refusal (FetchOutside at) apart holds = no_look_fault laws code _ known_fits at Outside holds
  no_refusal (UnusedOpcode at) apart holds = no_look_fault laws code _ known_fits at Unused holds
  no_refusal (EnablesInterrupts at) apart holds = no_look_fault laws code _ known_fits at LooksAtEi holds
  no_refusal (DirectStore at) apart holds = no_look_fault laws code _ known_fits at LooksAtStore holds
  no_refusal (Sphl at) apart holds = no_move_fault laws code _ known_fits at FrameSphl holds
  no_refusal (Pchl at) apart holds = no_look_fault laws code _ known_fits at LooksAtPchl holds
  no_refusal (StackByByte at) apart holds = no_move_fault laws code _ known_fits at FrameStackByByte holds
  no_refusal (SetsStack at) apart holds = no_move_fault laws code _ known_fits at FrameSetsStack holds
  no_refusal (PopsBelow at) apart holds = no_move_fault laws code _ known_fits at FramePopsBelow holds
  no_refusal (ReturnNotOwn at) apart holds = no_move_fault laws code _ known_fits at FrameReturnNotOwn holds
  no_refusal (ReturnFromMain at) apart holds = no_move_fault laws code _ known_fits at FrameReturnFromMain holds
  no_refusal (HeightsDiffer at) apart holds = no_differ laws code _ known_fits at holds
  no_refusal (UnevenArguments at) apart holds = no_uneven laws code _ known_fits at holds
  no_refusal (ShortArguments at) apart holds = no_short laws code _ known_fits at holds
  no_refusal (Recursion at) apart holds = is.bounded.ends.none at holds
  no_refusal (StackTooSmall need has) apart holds = absurd holds
  no_refusal TooManyPoints apart holds = few_points holds
  no_refusal Memory apart holds = apart refl

  -- rows
  enters_first : (entry : ℕ) (p : Procedure) (at : ℕ) (f : StackFrame) → Walk code p at f → p ≡ Entry entry → Walk code (Entry entry) entry entry_frame
  enters_first entry p at f (begins _ _ _ b) e = absurd (let main : Main ≡ Entry entry = sym b.procedure ∙ e in cc)
  enters_first entry p to g (goes_on _ at f _ _ walk step) e = enters_first entry p at f walk e
  enters_first entry q start g (enters p at f target next _ _ _ walk call i) e =
      let same : Entry target ≡ Entry entry = sym i.procedure ∙ e in
      let n : target ≡ entry = cc in
      subst (λ k. Walk code (Entry k) k entry_frame) n
      (enters p at f target next (Entry target) target entry_frame walk call (record { procedure = refl; start = refl; frame = refl }))
  enters_first entry p next g (comes_back _ at f target _ exit h taken _ walk call callee returns after) e = enters_first entry p at f walk e

  wants_here : (entry : ℕ) → IsEntered known entry → Wants code (Entry entry) (bytes_of wants (Entry entry))
  wants_here entry entered = elim (is.wanted.reached (Entry entry)) [
    | inl none ↦
        let w = walk_at code known is.filled entered.number entered.point entered.there in
        let walk : Walk code (Entry entry) entered.point.at w.frame = subst (λ (q : Procedure). Walk code q entered.point.at w.frame) entered.procedure w.walk in
        record { above = above; at = entered.point.at; frame = w.frame; walk = walk; reached = let least = above entered.point.at w.frame walk in omega (arith, least, none) }
    | inr takes ↦
        let w = walk_at code known is.filled takes.number takes.point takes.there in
        record {
          above = above;
          at = takes.point.at;
          frame = w.frame;
          walk = subst (λ (q : Procedure). Walk code q takes.point.at w.frame) takes.procedure w.walk;
          reached = sym w.covers.counts.taken ∙ takes.is;
        }
  ]
    where
      above : (at : ℕ) (f : StackFrame) → Walk code (Entry entry) at f → f.taken ≤ bytes_of wants (Entry entry)
      above at f walk =
          let has = has_walk laws code known is.filled (Entry entry) at f walk in
          let most = is.wanted.above has.number has.point (within known.points has.number has.point has.there) has.there in
          subst (λ (q : Procedure). f.taken ≤ bytes_of wants q) has.procedure (subst (λ n. n ≤ bytes_of wants has.point.procedure) has.covers.counts.taken most)

  returns_here : (entry : ℕ) (exit : Option ℕ) → exit_of known.exits entry ≡ exit → returns_in_row exit ≡ true → ReturnsWith code (Entry entry) (takes_in_row exit)
  returns_here entry None e returns = absurd (true≢false (sym returns))
  returns_here entry (Some taken) e returns = is.filled.stands.exits entry taken e

  never_here : (entry : ℕ) (exit : Option ℕ) → exit_of known.exits entry ≡ exit → returns_in_row exit ≡ false →
      (takes_in_row exit ≡ 0) × ((taken : ℕ) → ReturnsWith code (Entry entry) taken → ⊥)
  never_here entry None e never = (
    refl,
    λ taken with_taken.
        let table = known_table known (bytes_of wants) (bytes_of bytes) in
        let closes = known_closes code known (bytes_of wants) (bytes_of bytes) is.filled.small.apart is.filled.closed in
        let has = has_point known (bytes_of wants) (bytes_of bytes) is.filled.small.apart (Entry entry) with_taken.at with_taken.frame
        (has_walk laws code known is.filled (Entry entry) with_taken.at with_taken.frame with_taken.walk) in
        let takes : exit_of known.exits entry ≡ Some taken =
        taken_at_returns code table closes (Entry entry) with_taken.at with_taken.frame has taken with_taken.returns in
        absurd (let both : None ≡ Some taken = sym e ∙ takes in cc),
  )
  never_here entry (Some taken) e never = absurd (true≢false never)

  row_is : (entry : ℕ) → IsEntered known entry → IsRow code (row_of known wants bytes entry)
  row_is entry entered =
      let w = walk_at code known is.filled entered.number entered.point entered.there in
      record {
        wants = wants_here entry entered;
        bound = is.bounded.bounds.bound (Entry entry) entered.point.at w.frame (subst (λ (q : Procedure). Walk code q entered.point.at w.frame) entered.procedure w.walk);
        returns = returns_here entry (exit_of known.exits entry) refl;
        never = never_here entry (exit_of known.exits entry) refl;
      }

  rows_are : (rows : List ProcRow) → AreListed known wants bytes 65536 rows → AreRows code rows
  rows_are rows listed = record {
    each = all_from (λ row. IsRow code row) rows (λ row there. let i = listed.each row there in subst (IsRow code) (sym i.is) (row_is row.entry i.entered));
    all = λ entry occurs.
        let has = has_walk laws code known is.filled (Entry entry) entry entry_frame (enters_first entry (Entry entry) occurs.at occurs.frame occurs.walk refl) in
        let less = is.bounded.addresses.within has.number has.point has.there in
        any_from (λ (row : ProcRow). row.entry ≡ entry) rows (row_of known wants bytes entry)
        (listed.all entry (subst (λ n. n < 65536) has.address less) (record { number = has.number; point = has.point; there = has.there; procedure = has.procedure; address = has.address })) refl;
    by_entry = listed.by_entry;
  }

  -- so the program is measured
  pub measured : (rows : List ProcRow) → AreListed known wants bytes 65536 rows → IsMeasured code rows (bytes_of bytes Main)
  measured rows listed = record {
    fitted = record { table = known_table known (bytes_of wants) (bytes_of bytes); fits = known_fits; printed = refl };
    bound = main_bound;
    rows = rows_are rows listed;
    none_holds = no_refusal;
  }
