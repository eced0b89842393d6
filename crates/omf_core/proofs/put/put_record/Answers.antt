use Rattle.std.proofs.Common.{rules, vec_len, ◌≡◌, ℕ, ◌+◌, List, [], ◌++◌, length, subst, sym, ap, ◌∙◌, arith}
use Rattle.std.proofs.lemmas.List.{append-nil, length-append}
use Rattle.omf_core.specs.Record.{SpellsRecord, spelling}
use Rattle.omf_core.proofs.Spelled.{length-spelling, written_is_spelled}
use Rattle.omf_core.proofs.put.put_record.Goals as goal

-- What is written for a record after other bytes spells it.
spelled_after : (before after : List ℕ) (kind : ℕ) (body : List ℕ) → after ≡ before ++ spelling kind body → SpellsRecord after (length before) (length after) kind body
spelled_after before after kind body is =
    let size : length before + 4 + length body ≡ length after = omega (arith, ap length is, length-append before (spelling kind body), length-spelling kind body) in
    let joined : before ++ spelling kind body ++ [] ≡ after = append-nil (before ++ spelling kind body) ∙ sym is in
    subst (λ (to : ℕ). SpellsRecord after (length before) to kind body) size
    (subst (λ (x : List ℕ). SpellsRecord x (length before) (length before + 4 + length body) kind body) joined (written_is_spelled before [] kind body))

pub returns-clause-appended : goal.returns-clause-appended
returns-clause-appended c =
    let kept = c.reserve.ensures.items in
    let last = c.checksum_of-last.ensures in
    let added = c.append_parts.ensures.appended in
    cc

pub returns-clause-spells : goal.returns-clause-spells
returns-clause-spells c =
    let kept = c.reserve.ensures.items in
    let last = c.checksum_of-last.ensures in
    let added = c.append_parts.ensures.appended in
    let from : length c.args.out.now.items ≡ vec_len c.args.out.now = search rules in
    let to : length c.append_parts.new.out.items ≡ vec_len c.append_parts.new.out = search rules in
    rw (← from, ← to) (spelled_after c.args.out.now.items c.append_parts.new.out.items c.args.kind c.args.body.now cc)
