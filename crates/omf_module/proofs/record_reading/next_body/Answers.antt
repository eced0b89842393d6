use Rattle.std.proofs.Common.{ℕ, sym, ap, subst, ◌∙◌, arith, refl, Ok, Err, IsTrue}
use Rattle.std.proofs.lemmas.Result.{err_from_is_err_and}
use Rattle.omf_core.specs.declared.kind.RecordKind.TheVariants.{ModuleHeader, EndOfFile, NamedCommons}
use Rattle.omf_core.specs.Kind.{kind_byte}
use Rattle.omf_core.specs.Record.{SpellsRecord}
use Rattle.omf_body.specs.declared.body.Body.TheVariants as body_of
use Rattle.omf_body.specs.declared.fault.BodyFault.TheVariants as body_fault
use Rattle.omf_body.specs.Bodies.{body_kind}
use Rattle.omf_body.specs.FirstFault.{unknown}
use Rattle.omf_module.specs.declared.fault.Cause.{Cause}
use Rattle.omf_module.specs.declared.fault.Cause.TheVariants.{UnknownKind}
use Rattle.omf_module.specs.Spelled.{stands_alone, FaultsWithin, no_byte, no_record, file_ends, second_header, in_body, in_commons}
use Rattle.omf_module.proofs.FollowLemmas.{followed, followed_commons, commons_spelled_by, is_alone, is_alone_kind}
use Rattle.omf_module.proofs.OneReading.{ok_same, ok_err}
use Rattle.omf_module.proofs.record_reading.next_body.Goals as goal
use Rattle.omf_module.proofs.record_reading.next_body.Goals.{in-NamedCommons+in_ok-take_commons-in-NamedCommons, in_default-kind}

pub returns-then-bytes-at-clause-fault : goal.returns-then-bytes-at-clause-fault
returns-then-bytes-at-clause-fault c = λ _. no_byte (omega (arith, c.if-bytes-at.true))

pub returns-in_err-record-clause-fault : goal.returns-in_err-record-clause-fault
returns-in_err-record-clause-fault c =
    let p = err_from_is_err_and c.from_residual.result c.from_residual.ensures.1 in
    rw (p.1, p.2) (λ _. no_record c.in_err-record.field-0.0 (omega (arith, c.if-bytes-at.false))
    (sym c.in_err-record.ensures.fault))

pub returns-in-ModuleHeader-clause-fault : goal.returns-in-ModuleHeader-clause-fault
returns-in-ModuleHeader-clause-fault c = λ _.
    let is = sym c.in-Some.ensures.kind ∙ ap kind_byte c.in-ModuleHeader.is in
    subst (λ (k : ℕ). FaultsWithin c.args.bytes.now c.args.at c.args.commons.now.items (UnknownKind k)) (sym is)
    (second_header c.in_ok-record.after c.in_ok-record.record.body.now
    (subst (λ (k : ℕ). SpellsRecord c.args.bytes.now c.args.at c.in_ok-record.after k c.in_ok-record.record.body.now) is
    c.in_ok-record.ensures.read))

pub returns-in-EndOfFile-clause-fault : goal.returns-in-EndOfFile-clause-fault
returns-in-EndOfFile-clause-fault c = λ _.
    let is = sym c.in-Some.ensures.kind ∙ ap kind_byte c.in-EndOfFile.is in
    file_ends c.in_ok-record.after c.in_ok-record.record.body.now
    (subst (λ (k : ℕ). SpellsRecord c.args.bytes.now c.args.at c.in_ok-record.after k c.in_ok-record.record.body.now) is
    c.in_ok-record.ensures.read)

pub returns-in_default-clause-fault : goal.returns-in_default-clause-fault
returns-in_default-clause-fault c = λ _.
    let other = c.in_default.ensures.unknown in
    in_body c.in_ok-record.after c.in_ok-record.record.kind c.in_ok-record.record.body.now
    (body_fault.UnknownKind c.in_ok-record.record.kind) c.in_ok-record.ensures.read
    (is_alone c.in_ok-record.record.kind (λ e. other ModuleHeader (sym e)) (λ e. other EndOfFile (sym e))
    (λ e. other NamedCommons (sym e)))
    (unknown c.in_ok-record.record.kind c.in_ok-record.record.body.now (λ b. other (body_kind b)))

pub returns-in_err-take_commons-in-NamedCommons-clause-fault :
    goal.returns-in_err-take_commons-in-NamedCommons-clause-fault
returns-in_err-take_commons-in-NamedCommons-clause-fault c =
    let p = err_from_is_err_and c.from_residual-in_err-take_commons-in-NamedCommons.result
    c.from_residual-in_err-take_commons-in-NamedCommons.ensures.1 in
    rw (p.1, p.2) (λ ne.
    let r = c.in_err-take_commons-in-NamedCommons.ensures.fault ne in
    subst (λ (x : Cause). FaultsWithin c.args.bytes.now c.args.at c.args.commons.now.items x) (sym r.is)
    (in_commons c.in_ok-record.after c.in_ok-record.record.body.now r.fault
    (subst (λ (k : ℕ). SpellsRecord c.args.bytes.now c.args.at c.in_ok-record.after k c.in_ok-record.record.body.now)
    (sym c.in-Some.ensures.kind ∙ ap kind_byte c.in-NamedCommons.is) c.in_ok-record.ensures.read) r.faults))

pub returns-in_err-parse-clause-fault : goal.returns-in_err-parse-clause-fault
returns-in_err-parse-clause-fault c =
    let source = c.in_ok-record.record in
    let p = err_from_is_err_and c.from_residual-in_err-parse.result c.from_residual-in_err-parse.ensures.1 in
    rw (p.1, p.2) (λ _. elim c.match-kind.branch [
      | in-NamedCommons+in_ok-take_commons-in-NamedCommons w ↦
          let t = w.in_ok-take_commons-in-NamedCommons.ensures.taken in
          let is = sym c.in-Some.ensures.kind ∙ ap kind_byte w.in-NamedCommons.is in
          absurd (ok_err (Err c.in_err-parse.field-0.0) (body_of.NamedCommons t.entries) c.in_err-parse.field-0.0
          (c.in_err-parse.ensures.every_body (body_of.NamedCommons t.entries)
          (commons_spelled_by source.kind c.args.commons.now.items w.take_commons.new.commons.items source.body.now is t))
          refl)
      | in_default-kind w ↦
          in_body c.in_ok-record.after source.kind source.body.now c.in_err-parse.field-0.0 c.in_ok-record.ensures.read
          (subst (λ (k : ℕ). IsTrue (stands_alone k)) c.in-Some.ensures.kind
          (is_alone_kind c.in-Some.kind w.in_default-kind.not-ModuleHeader w.in_default-kind.not-EndOfFile
          w.in_default-kind.not-NamedCommons)) c.in_err-parse.ensures.fault
    ])

pub returns-clause-follows : goal.returns-clause-follows
returns-clause-follows c =
    let source = c.in_ok-record.record in
    elim c.match-kind.branch [
      | in-NamedCommons+in_ok-take_commons-in-NamedCommons w ↦
          let t = w.in_ok-take_commons-in-NamedCommons.ensures.taken in
          let is = sym c.in-Some.ensures.kind ∙ ap kind_byte w.in-NamedCommons.is in
          let same = ok_same (Ok c.in_ok-parse.field-0) c.in_ok-parse.field-0 (body_of.NamedCommons t.entries) refl
          (c.in_ok-parse.ensures.every_body (body_of.NamedCommons t.entries)
          (commons_spelled_by source.kind c.args.commons.now.items w.take_commons.new.commons.items source.body.now is t)) in
          rw w.commons-is (followed_commons c.args.bytes.now c.args.at c.in_ok-record.after source.kind source.body.now
          c.args.commons.now.items w.take_commons.new.commons.items c.in_ok-parse.field-0 t is c.in_ok-record.ensures.read
          c.in_ok-record.ensures.longest same)
      | in_default-kind w ↦
          let alone : IsTrue (stands_alone source.kind) =
          subst (λ (k : ℕ). IsTrue (stands_alone k)) c.in-Some.ensures.kind
          (is_alone_kind c.in-Some.kind w.in_default-kind.not-ModuleHeader w.in_default-kind.not-EndOfFile
          w.in_default-kind.not-NamedCommons) in
          rw w.commons-is (followed c.args.bytes.now c.args.at c.in_ok-record.after source.kind source.body.now
          c.args.commons.now.items c.in_ok-parse.field-0 c.in_ok-record.ensures.read c.in_ok-record.ensures.longest
          c.in_ok-parse.ensures.read alone)
    ]
