use Rattle.plm80_runs.proofs.Names.{◌≡◌, ◌≢◌, ℕ, ◌+◌, ◌<◌, List, [], ◌∷◌, ◌++◌, All, None, Option, Some, IfSome, Err, unwrap_or, length}
use Rattle.plm80_runs.proofs.Names.{map, take, drop, Bor, ◌∙◌, ap, append-nil, get_or, refl, subst, sym, flat_map-append, drop_more}
use Rattle.plm80_runs.proofs.Names.{map-append, map_more, take-append-drop, All-push, Repeated, word_of, IsFirstBadWord, IsGoodWord}
use Rattle.plm80_runs.proofs.Names.{inputs_named}
use Rattle.plm80_runs.proofs.inputs.inputs_of.Goals as goal

-- ---- words of the command line, one after another

abbrev text_of : Bor (List ℕ) → List ℕ
text_of text = text.now

named_more : (words : List (List ℕ)) (word : List ℕ) (before after : List Repeated) → before ≡ inputs_named words
    → after ≡ before ++ unwrap_or (word_of word) [] → after ≡ inputs_named (words ++ word ∷ [])
named_more words word before after so_far one =
    one ∙ ap (λ (l : List Repeated). l ++ unwrap_or (word_of word) []) so_far
    ∙ ap (λ (l : List Repeated). inputs_named words ++ l) (sym (append-nil (unwrap_or (word_of word) [])))
    ∙ sym (flat_map-append (λ (w : List ℕ). unwrap_or (word_of w) []) words (word ∷ []))

texts_split : (texts : List (Bor (List ℕ))) (i : ℕ) (d : Bor (List ℕ)) → i < length texts
    → map (λ t. t.now) texts ≡ map (λ t. t.now) (take i texts) ++ (get_or texts i d).now ∷ map (λ t. t.now) (drop (i + 1) texts)
texts_split texts i d lt =
    ap (map text_of) (sym (take-append-drop i texts))
    ∙ map-append text_of (take i texts) (drop i texts)
    ∙ ap (λ (l : List (Bor (List ℕ))). map text_of (take i texts) ++ map text_of l)
    (drop_more texts i d lt)

-- the first word that names no inputs
first_bad : (texts : List (Bor (List ℕ))) (i : ℕ) (d : Bor (List ℕ)) → i < length texts
    → All IsGoodWord (map (λ t. t.now) (take i texts)) → word_of (get_or texts i d).now ≡ None → IsFirstBadWord (map (λ t. t.now) texts) (get_or texts i d).now
first_bad texts i d lt good bad = record {
  before = map text_of (take i texts);
  after = map text_of (drop (i + 1) texts);
  are_words = texts_split texts i d lt;
  good = good;
  bad = bad;
}

-- one word more that names inputs
good_more : (texts : List (Bor (List ℕ))) (i : ℕ) (d : Bor (List ℕ)) → i < length texts
    → All IsGoodWord (map (λ t. t.now) (take i texts)) → word_of (get_or texts i d).now ≢ None → All IsGoodWord (map (λ t. t.now) (take (i + 1) texts))
good_more texts i d lt good one =
    subst (λ (l : List (List ℕ)). All IsGoodWord l) (sym (map_more text_of texts i d lt))
    (All-push IsGoodWord (map text_of (take i texts)) (get_or texts i d).now good one)

inputs_more : (texts : List (Bor (List ℕ))) (i : ℕ) (d : Bor (List ℕ)) (before after : List Repeated) → i < length texts
    → before ≡ inputs_named (map (λ t. t.now) (take i texts)) → after ≡ before ++ unwrap_or (word_of (get_or texts i d).now) []
    → after ≡ inputs_named (map (λ t. t.now) (take (i + 1) texts))
inputs_more texts i d before after lt so_far one =
    subst (λ (l : List (List ℕ)). after ≡ inputs_named l) (sym (map_more text_of texts i d lt))
    (named_more (map text_of (take i texts)) (get_or texts i d).now before after so_far one)

-- what a word added, if it names inputs
added : (o : Option (List Repeated)) (before after : List Repeated) → o ≢ None → IfSome o (λ inputs. after ≡ before ++ inputs)
    → after ≡ before ++ unwrap_or o []
added None before after some one = absurd (some refl)
added (Some inputs) before after some one = one

-- ---- the loop over them

pub loop-word-preserved : goal.loop-word-preserved
loop-word-preserved c =
    let words = c.args.words.now in
    let i = c.loop-word.word-index in
    let d : Bor (List ℕ) = record { ref_ptr = (0, 0); now = [] } in
    let names : word_of (get_or words i d).now ≢ None =
    subst (λ (bytes : List ℕ). word_of bytes ≢ None) c.as_bytes.ensures.value c.in-Ok.ensures.good in
    record {
      inputs = inputs_more words i d c.loop-word.inputs c.add.new.self c.loop-word-test.true c.loop-word.invariant.inputs
          (added (word_of (get_or words i d).now) c.loop-word.inputs c.add.new.self names
          (subst (λ (bytes : List ℕ). IfSome (word_of bytes) (λ inputs. c.add.new.self ≡ c.loop-word.inputs ++ inputs)) c.as_bytes.ensures.value c.in-Ok.ensures.added));
      good = good_more words i d c.loop-word-test.true c.loop-word.invariant.good names;
    }

pub returns-in-Err-BadInput-clause-fault : goal.returns-in-Err-BadInput-clause-fault
returns-in-Err-BadInput-clause-fault c =
    first_bad c.args.words.now c.loop-word.word-index (record { ref_ptr = (0, 0); now = [] }) c.loop-word-test.true c.loop-word.invariant.good
    (ap word_of (sym c.as_bytes.ensures.value) ∙ c.in-Err-BadInput.ensures.bad (ap Err c.in-Err-BadInput.field-0-is))
