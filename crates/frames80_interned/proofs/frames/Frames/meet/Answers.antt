use Rattle.std.specs.Prelude.{Some, Result, Err}
use Rattle.std.proofs.Common.{◌≡◌, ap, sym, ◌∙◌, true≢false}
use Rattle.std.proofs.lemmas.Result.{err_from_is_err_and}
use Rattle.frames80.specs.Calls.{agree, merged}
use Rattle.frames80_interned.specs.declared.fault.MeetFault.{MeetFault}
use Rattle.frames80_interned.specs.declared.fault.MeetFault.TheVariants.{HeightsDiffer}
use Rattle.frames80_interned.specs.declared.interned_frame.InternedFrame.{InternedFrame}
use Rattle.frames80_interned.specs.Frames.{frame_at}
use Rattle.frames80_interned.proofs.KeptEquality.{kept_eq, kept_same, kept_own}
use Rattle.frames80_interned.proofs.FrameLemmas.{frame-read, AreInterned-stacks, StayNumbered-stacks, AreInterned-interned, StayNumbered-interned, IsFrame-interned}
use Rattle.frames80_interned.proofs.frames.Frames.meet.Goals as goal

pub invariant_of-self : goal.invariant_of-self
invariant_of-self c = AreInterned-stacks c.self.inside.stacks c.meet_frames.new.stacks c.self.inside.interned.keys c.args.self.now c.self.view_is c.self.invariant c.in_err-met.ensures.stays

pub returns-in_err-met-clause-stays : goal.returns-in_err-met-clause-stays
returns-in_err-met-clause-stays c = StayNumbered-stacks c.self.inside.stacks c.meet_frames.new.stacks c.self.inside.interned.keys c.args.self.now c.self.view_is c.self.invariant c.in_err-met.ensures.stays

pub returns-in_err-met-clause-differ : goal.returns-in_err-met-clause-differ
returns-in_err-met-clause-differ c =
    let one = frame-read c.self.inside.stacks c.self.inside.interned.keys c.args.self.now c.self.view_is c.args.one c.interned_at-first.result c.interned_at-first.ensures in
    let other = frame-read c.self.inside.stacks c.self.inside.interned.keys c.args.self.now c.self.view_is c.args.other c.interned_at-second.result c.interned_at-second.ensures in
    let p = err_from_is_err_and c.from_residual.result c.from_residual.ensures.1 in
    λ is.
    let met : ◌≡◌ {A = Result InternedFrame MeetFault} (Err c.in_err-met.field-0.0) (Err HeightsDiffer) = cc in
    (λ i. agree (one i) (other i)) ∙ c.in_err-met.ensures.differ met

pub invariant_of-self-then-eq : goal.invariant_of-self-then-eq
invariant_of-self-then-eq c = AreInterned-stacks c.self.inside.stacks c.meet_frames.new.stacks c.self.inside.interned.keys c.args.self.now c.self.view_is c.self.invariant c.in_ok-met.ensures.stays

pub returns-then-eq-clause-agree : goal.returns-then-eq-clause-agree
returns-then-eq-clause-agree c =
    let one = frame-read c.self.inside.stacks c.self.inside.interned.keys c.args.self.now c.self.view_is c.args.one c.interned_at-first.result c.interned_at-first.ensures in
    let other = frame-read c.self.inside.stacks c.self.inside.interned.keys c.args.self.now c.self.view_is c.args.other c.interned_at-second.result c.interned_at-second.ensures in
    (λ i. agree (one i) (other i)) ∙ c.in_ok-met.ensures.agree

pub returns-then-eq-clause-merged : goal.returns-then-eq-clause-merged
returns-then-eq-clause-merged c =
    let one = frame-read c.self.inside.stacks c.self.inside.interned.keys c.args.self.now c.self.view_is c.args.one c.interned_at-first.result c.interned_at-first.ensures in
    let other = frame-read c.self.inside.stacks c.self.inside.interned.keys c.args.self.now c.self.view_is c.args.other c.interned_at-second.result c.interned_at-second.ensures in
    let same = kept_same c.in_ok-met.met c.interned_at-first.result (sym c.eq.ensures ∙ c.if-eq.true) in
    let there = c.interned_at-first.ensures ∙ ap (λ (k : InternedFrame). Some k) (sym same) in
    IsFrame-interned c.meet_frames.new.stacks c.self.inside.interned.keys c.args.one c.in_ok-met.met (merged (frame_at c.args.self.now c.args.one) (frame_at c.args.self.now c.args.other)) there (c.in_ok-met.ensures.merged.is ∙ sym (λ i. merged (one i) (other i)))

pub returns-then-eq-clause-stays : goal.returns-then-eq-clause-stays
returns-then-eq-clause-stays c = StayNumbered-stacks c.self.inside.stacks c.meet_frames.new.stacks c.self.inside.interned.keys c.args.self.now c.self.view_is c.self.invariant c.in_ok-met.ensures.stays

pub invariant_of-self-in_err-intern : goal.invariant_of-self-in_err-intern
invariant_of-self-in_err-intern c =
    AreInterned-interned c.self.inside.stacks c.meet_frames.new.stacks c.self.inside.interned.keys c.args.self.now c.self.view_is c.self.invariant c.in_ok-met.ensures.stays c.intern.new.frames.keys c.in_ok-met.met c.intern.ensures.grows
    c.in_ok-met.ensures.merged.there

pub returns-in_err-intern-clause-stays : goal.returns-in_err-intern-clause-stays
returns-in_err-intern-clause-stays c =
    StayNumbered-interned c.self.inside.stacks c.meet_frames.new.stacks c.self.inside.interned.keys c.args.self.now c.self.view_is c.self.invariant c.in_ok-met.ensures.stays c.intern.new.frames.keys c.in_ok-met.met c.intern.ensures.grows

pub invariant_of-self-2 : goal.invariant_of-self-2
invariant_of-self-2 c =
    AreInterned-interned c.self.inside.stacks c.meet_frames.new.stacks c.self.inside.interned.keys c.args.self.now c.self.view_is c.self.invariant c.in_ok-met.ensures.stays c.intern.new.frames.keys c.in_ok-met.met c.intern.ensures.grows
    c.in_ok-met.ensures.merged.there

pub returns-clause-agree : goal.returns-clause-agree
returns-clause-agree c =
    let one = frame-read c.self.inside.stacks c.self.inside.interned.keys c.args.self.now c.self.view_is c.args.one c.interned_at-first.result c.interned_at-first.ensures in
    let other = frame-read c.self.inside.stacks c.self.inside.interned.keys c.args.self.now c.self.view_is c.args.other c.interned_at-second.result c.interned_at-second.ensures in
    (λ i. agree (one i) (other i)) ∙ c.in_ok-met.ensures.agree

pub returns-clause-unchanged : goal.returns-clause-unchanged
returns-clause-unchanged c =
    let one = frame-read c.self.inside.stacks c.self.inside.interned.keys c.args.self.now c.self.view_is c.args.one c.interned_at-first.result c.interned_at-first.ensures in
    let other = frame-read c.self.inside.stacks c.self.inside.interned.keys c.args.self.now c.self.view_is c.args.other c.interned_at-second.result c.interned_at-second.ensures in
    λ same.
    let is = c.in_ok-met.ensures.unchanged (sym (λ i. merged (one i) (other i)) ∙ same ∙ one) in
    let equal = ap (λ (k : InternedFrame). kept_eq k c.interned_at-first.result) is ∙ kept_own c.interned_at-first.result in
    absurd (true≢false (sym equal ∙ sym c.eq.ensures ∙ c.if-eq.false))

pub returns-clause-merged : goal.returns-clause-merged
returns-clause-merged c =
    let one = frame-read c.self.inside.stacks c.self.inside.interned.keys c.args.self.now c.self.view_is c.args.one c.interned_at-first.result c.interned_at-first.ensures in
    let other = frame-read c.self.inside.stacks c.self.inside.interned.keys c.args.self.now c.self.view_is c.args.other c.interned_at-second.result c.interned_at-second.ensures in
    IsFrame-interned c.meet_frames.new.stacks c.intern.new.frames.keys c.in_ok-intern.field-0 c.in_ok-met.met (merged (frame_at c.args.self.now c.args.one) (frame_at c.args.self.now c.args.other)) c.in_ok-intern.ensures.number (c.in_ok-met.ensures.merged.is ∙ sym (λ i. merged (one i) (other i)))

pub returns-clause-stays : goal.returns-clause-stays
returns-clause-stays c =
    StayNumbered-interned c.self.inside.stacks c.meet_frames.new.stacks c.self.inside.interned.keys c.args.self.now c.self.view_is c.self.invariant c.in_ok-met.ensures.stays c.intern.new.frames.keys c.in_ok-met.met c.intern.ensures.grows
