use Rattle.std.proofs.Common.{◌≡◌, ℕ, ◌+◌, ◌-◌, ◌≤◌, List, take, drop, length, slice_index, None, Some, subst, sym, ap, ◌∙◌, arith}
use Rattle.std.proofs.lemmas.List.{take_all, drop_all, length-drop}
use Rattle.std.proofs.lemmas.Result.{err_from_is_err_and}
use Rattle.omf_core.specs.declared.fault.RecordFault.{RecordFault}
use Rattle.omf_core.specs.declared.fault.RecordFault.TheVariants.{Truncated}
use Rattle.omf_core.specs.Record.{SpellsRecord, fault_at, word_at, record_size, head_kind, head_body}
use Rattle.omf_core.proofs.Spelled.{no_fault, spelled_at_start, spelled_from, no_fault_at_record}
use Rattle.omf_core.proofs.record.next_record.Goals as goal

-- What stands from a place on spells the record that is read there, if it has no fault.
read_is_spelled : (bytes rest : List ℕ) (at counted : ℕ) → rest ≡ drop at bytes → fault_at rest at ≡ None → counted ≡ word_at rest 1
    → SpellsRecord bytes at (at + 3 + counted) (slice_index rest 0) (take (2 + counted - 3) (drop 3 rest))
read_is_spelled bytes rest at counted there none is =
    let head : SpellsRecord (drop at bytes) 0 (record_size rest) (slice_index rest 0) (head_body rest) =
    subst (λ (r : List ℕ). SpellsRecord r 0 (record_size rest) (slice_index rest 0) (head_body rest)) there
    (spelled_at_start rest (no_fault rest at none)) in
    let placed : SpellsRecord bytes at (at + 3 + counted) (slice_index rest 0) (head_body rest) =
    subst (λ (to : ℕ). SpellsRecord bytes at to (slice_index rest 0) (head_body rest)) (omega arith) (spelled_from bytes at (record_size rest) (slice_index rest 0) (head_body rest) head) in
    subst (λ (n : ℕ). SpellsRecord bytes at (at + 3 + counted) (slice_index rest 0) (take n (drop 3 rest))) (omega arith) placed

read_body : (rest : List ℕ) (counted : ℕ) → counted ≡ word_at rest 1 → take (2 + counted - 3) (drop 3 rest) ≡ head_body rest
read_body rest counted is = ap (λ (n : ℕ). take n (drop 3 rest)) (omega arith)

-- What stands from a place on, as it is read.
from_place : (bytes rest : List ℕ) (at : ℕ) → rest ≡ take (length bytes - at) (drop at bytes) → rest ≡ drop at bytes
from_place bytes rest at is = is ∙ take_all (length bytes - at) (drop at bytes) (omega (arith, length-drop at bytes))

past_end : (bytes : List ℕ) (at : ℕ) → length bytes ≤ at → Some (Truncated at) ≡ fault_at (drop at bytes) at
past_end bytes at past = sym (ap (λ (r : List ℕ). fault_at r at) (drop_all at bytes past))

-- Where a place has a fault, no record is spelled.
no_record : (bytes : List ℕ) (at : ℕ) (fault : RecordFault) → Some fault ≡ fault_at (drop at bytes) at
    → (kind : ℕ) (body : List ℕ) (after : ℕ) → SpellsRecord bytes at after kind body → ⊥
no_record bytes at fault is kind body after s =
    let none = no_fault_at_record bytes at after kind body s in
    cc

pub returns-in_default-clause-fault : goal.returns-in_default-clause-fault
returns-in_default-clause-fault c = past_end c.args.bytes.now c.args.at (omega (arith, c.in_default.ensures.lookup))

pub returns-in_default-clause-every_record : goal.returns-in_default-clause-every_record
returns-in_default-clause-every_record c = λ kind body after s.
    absurd (no_record c.args.bytes.now c.args.at (Truncated c.args.at) (past_end c.args.bytes.now c.args.at (omega (arith, c.in_default.ensures.lookup))) kind body after s)

pub returns-in_err-counted : goal.returns-in_err-counted
returns-in_err-counted c =
    let bytes = c.args.bytes.now in
    let at = c.args.at in
    let fault = c.in_err-counted.field-0.0 in
    let p = err_from_is_err_and c.from_residual.result c.from_residual.ensures.1 in
    let is : Some fault ≡ fault_at (drop at bytes) at =
    c.in_err-counted.ensures.fault ∙ ap (λ (r : List ℕ). fault_at r at) (from_place bytes c.in-Some.rest.now at c.in-Some.ensures.lookup.0.2) in
    rw (p.1, p.2) (record {
      read = tt;
      every_record = λ kind body after s. absurd (no_record bytes at fault is kind body after s);
      kind = tt;
      body = tt;
      after = tt;
      longest = tt;
      fault = is;
    })

pub returns-clause-read : goal.returns-clause-read
returns-clause-read c =
    read_is_spelled c.args.bytes.now c.in-Some.rest.now c.args.at c.in_ok-counted.counted
    (from_place c.args.bytes.now c.in-Some.rest.now c.args.at c.in-Some.ensures.lookup.0.2) (sym c.in_ok-counted.ensures.fault) c.in_ok-counted.ensures.word

pub returns-clause-kind : goal.returns-clause-kind
returns-clause-kind c = ap head_kind (from_place c.args.bytes.now c.in-Some.rest.now c.args.at c.in-Some.ensures.lookup.0.2)

pub returns-clause-body : goal.returns-clause-body
returns-clause-body c =
    read_body c.in-Some.rest.now c.in_ok-counted.counted c.in_ok-counted.ensures.word
    ∙ ap head_body (from_place c.args.bytes.now c.in-Some.rest.now c.args.at c.in-Some.ensures.lookup.0.2)

pub returns-clause-after : goal.returns-clause-after
returns-clause-after c =
    omega (arith, c.in_ok-counted.ensures.word, ap record_size (from_place c.args.bytes.now c.in-Some.rest.now c.args.at c.in-Some.ensures.lookup.0.2))

pub returns-clause-fault : goal.returns-clause-fault
returns-clause-fault c =
    c.in_ok-counted.ensures.fault ∙ ap (λ (r : List ℕ). fault_at r c.args.at) (from_place c.args.bytes.now c.in-Some.rest.now c.args.at c.in-Some.ensures.lookup.0.2)
