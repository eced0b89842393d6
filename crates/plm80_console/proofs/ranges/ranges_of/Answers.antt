use Rattle.std.proofs.Common.{Bor, ℕ, ◌+◌, ◌<◌, List, [], ◌∷◌, ◌++◌, is_ok, length, map, not, take, refl, ◌∙◌, ap, get_or, subst, sym}
use Rattle.std.proofs.lemmas.{Bool.cond-true, List.get_or-map, List.length-map, List.map_more}
use Rattle.image80.specs.declared.range.Range.{Range}
use Rattle.plm80_console.specs.Ranges.{AreRangesOf, IsRangeText, AreRangesOf.more, AreRangesOf.none}
use Rattle.plm80_console.specs.{Journal.and_blamed, Journal.Blames.wrong}
use Rattle.plm80_console.proofs.RangeLemmas.{written_each}
use Rattle.plm80_console.proofs.ranges.ranges_of.Goals as goal

abbrev text_of : Bor (List ℕ) → List ℕ
text_of text = text.now

-- one range more
ranges_more : (texts : List (Bor (List ℕ))) (i : ℕ) (d : Bor (List ℕ)) (ranges : List Range) (range : Range) → i < length texts
    → AreRangesOf (map (λ t. t.now) (take i texts)) ranges → IsRangeText (get_or texts i d).now range
    → AreRangesOf (map (λ t. t.now) (take (i + 1) texts)) (ranges ++ range ∷ [])
ranges_more texts i d ranges range lt so_far one =
    subst (λ (l : List (List ℕ)). AreRangesOf l (ranges ++ range ∷ []))
    (sym (map_more text_of texts i d lt))
    (more (map text_of (take i texts)) (get_or texts i d).now ranges range so_far one)

pub loop-value-init : goal.loop-value-init
loop-value-init g c = record { ranges = rw c.new-ranges.ensures.items none; unchanged = refl }

pub loop-value-preserved : goal.loop-value-preserved
loop-value-preserved g c =
    let d : Bor (List ℕ) = record { ref_ptr = (0, 0); now = [] } in
    record {
      ranges =
          rw (c.push.ensures.items ∙ cond-true (is_ok c.push.result) (c.loop-value.ranges.items ++ c.in-Some.range ∷ []) c.loop-value.ranges.items
          (c.is_err.ensures.negation ∙ ap not c.if-is_err.false))
          (ranges_more c.args.values.now c.loop-value.value-index d c.loop-value.ranges.items c.in-Some.range
          c.loop-value-test.true c.loop-value.invariant.ranges c.in-Some.ensures.range);
      unchanged = c.loop-value.invariant.unchanged;
    }

pub returns-in_default-clause-fault : goal.returns-in_default-clause-fault
returns-in_default-clause-fault g c =
    let texts = c.args.values.now in
    let d : Bor (List ℕ) = record { ref_ptr = (0, 0); now = [] } in
    let at = c.loop-value.value-index in
    wrong
    (λ ranges are.
    let one = written_each (map text_of texts) ranges are at []
    (subst (λ (n : ℕ). at < n) (sym (length-map texts text_of)) c.loop-value-test.true) in
    c.in_default.ensures.none one.0
    (subst (λ (text : List ℕ). IsRangeText text one.0) (get_or-map text_of texts at d [] c.loop-value-test.true) one.1))
    (c.blame_number.ensures ∙ ap and_blamed c.loop-value.invariant.unchanged)
