use Rattle.std.proofs.Common.{◌≡◌, ◌≢◌, ◌∙◌, ℕ, ◌≤◌, List, [], length, slice_get, Some, ap, sym, subst}
use Rattle.std.proofs.lemmas.Option.{same_Some}
use Rattle.omf_core.specs.Record.{record_size}
use Rattle.plm80_files.specs.UnreadBytes.{IsBehindEnd, after_record, here, later, none}
use Rattle.plm80_files.proofs.unread_bytes.bytes_behind_end.Goals as goal

-- the end record comes first
ends_here : (bytes after : List ℕ) (kind : ℕ) → record_size bytes ≤ length bytes → slice_get bytes 0 ≡ Some kind → kind ≡ 0x0E
    → after ≡ after_record bytes → IsBehindEnd bytes after
ends_here bytes after kind whole first last is =
    subst (λ (t : List ℕ). IsBehindEnd bytes t) (sym is) (here bytes whole (first ∙ ap (λ (k : ℕ). Some k) last))

-- another record comes first
goes_on : (bytes rest after : List ℕ) (kind : ℕ) → record_size bytes ≤ length bytes → slice_get bytes 0 ≡ Some kind → kind ≢ 0x0E
    → rest ≡ after_record bytes → IsBehindEnd rest after → IsBehindEnd bytes after
goes_on bytes rest after kind whole first other is behind =
    later bytes after whole (λ last. other (same_Some kind 0x0E (sym first ∙ last))) (subst (λ (t : List ℕ). IsBehindEnd t after) is behind)

pub returns-then-kind-eq-END_OF_FILE : goal.returns-then-kind-eq-END_OF_FILE
returns-then-kind-eq-END_OF_FILE c =
    c.loop-kind.invariant c.in-Some.after.now
    (ends_here c.loop-kind.rest.now c.in-Some.after.now c.in-Some.kind c.in-Some.ensures.whole c.in-Some.ensures.kind
    c.if-kind-eq-END_OF_FILE.true c.in-Some.ensures.after)

pub loop-kind-preserved : goal.loop-kind-preserved
loop-kind-preserved c = λ after behind.
    c.loop-kind.invariant after
    (goes_on c.loop-kind.rest.now c.in-Some.after.now after c.in-Some.kind c.in-Some.ensures.whole c.in-Some.ensures.kind
    c.if-kind-eq-END_OF_FILE.false c.in-Some.ensures.after behind)

pub returns : goal.returns
returns c = c.loop-kind.invariant [] (none c.loop-kind.rest.now c.in_default.ensures.none)
