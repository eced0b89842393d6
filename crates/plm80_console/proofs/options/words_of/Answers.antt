use Rattle.std.proofs.Common.{Bor, ℕ, ◌+◌, ◌<◌, ◌≡◌, arith, subst, List, [], ◌∷◌, ◌++◌, is_ok, length, map, not, take, refl, ◌∙◌, ap, get_or, sym}
use Rattle.std.specs.Prelude.{All}
use Rattle.std.proofs.lemmas.{Bool.cond-true, List.map_more, List.take_all, List.take_more, List.Elements.All-push}
use Rattle.plm80_console.specs.{Journal.and_blamed, Journal.Blames.wrong, NumberText.IsWordText, NumberText.word_value}
use Rattle.plm80_console.proofs.options.words_of.Goals as goal

abbrev word_of : Bor (List ℕ) → ℕ
word_of value = word_value value.now

-- one word more
words_more : (values : List (Bor (List ℕ))) (i : ℕ) (d : Bor (List ℕ)) (words : List ℕ) (word : ℕ) → i < length values →
    words ≡ map word_of (take i values) → word ≡ word_of (get_or values i d) → words ++ word ∷ [] ≡ map word_of (take (i + 1) values)
words_more values i d words word lt so_far one =
    ap (λ (l : List ℕ). l ++ word ∷ []) so_far
    ∙ ap (λ (w : ℕ). map word_of (take i values) ++ w ∷ []) one
    ∙ sym (map_more word_of values i d lt)

pub loop-value-init : goal.loop-value-init
loop-value-init g c = record { words = rw c.new-words.ensures.items refl; written = λ k d below. absurd (omega (arith, below)); unchanged = refl }

pub loop-value-preserved : goal.loop-value-preserved
loop-value-preserved g c =
    let d : Bor (List ℕ) = record { ref_ptr = (0, 0); now = [] } in
    record {
      words =
          rw (c.push.ensures.items ∙ cond-true (is_ok c.push.result) (c.loop-value.words.items ++ c.in-Some.word ∷ []) c.loop-value.words.items
          (c.is_err.ensures.negation ∙ ap not c.if-is_err.false))
          (words_more c.args.values.now c.loop-value.value-index d c.loop-value.words.items c.in-Some.word
          c.loop-value-test.true c.loop-value.invariant.words c.in-Some.ensures.word.1);
      written =
          subst (λ (l : List (Bor (List ℕ))). All (λ value. IsWordText value.now) l)
          (sym (take_more c.args.values.now c.loop-value.value-index d c.loop-value-test.true))
          (All-push (λ value. IsWordText value.now) (take c.loop-value.value-index c.args.values.now) _ c.loop-value.invariant.written
          c.in-Some.ensures.word.0);
      unchanged = c.loop-value.invariant.unchanged;
    }

pub returns-clause-written : goal.returns-clause-written
returns-clause-written g c =
    subst (λ (l : List (Bor (List ℕ))). All (λ value. IsWordText value.now) l)
    (take_all c.loop-value.value-index c.args.values.now c.loop-value-test.false) c.loop-value.invariant.written

pub returns-in_default-clause-fault : goal.returns-in_default-clause-fault
returns-in_default-clause-fault g c =
    wrong (λ all. c.in_default.ensures.none (all c.loop-value.value-index _ c.loop-value-test.true))
    (c.blame_number.ensures ∙ ap and_blamed c.loop-value.invariant.unchanged)
