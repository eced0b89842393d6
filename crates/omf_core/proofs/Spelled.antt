-- The laws of spellings.
use Rattle.std.proofs.Common.{◌≡◌, ℕ, ◌+◌, ◌-◌, ◌<◌, ◌≤◌, List, [], ◌∷◌, ◌++◌, length, take, drop, slice_range, slice_index, subst, refl, sym, ◌∙◌, ap, arith, None}
use Rattle.std.proofs.lemmas.List.{get_or_append_left, drop-append-le, take-append-le, nil_from_length, length-append, length-drop}
use Rattle.std.proofs.lemmas.Grind.{common_steps}
use Rattle.std.proofs.lemmas.List.{drop-drop, take_at, take_all, drop_at, length-take-le}
use Rattle.std.proofs.lemmas.Bool.Decides.{nat_tests}
use Rattle.std.proofs.lemmas.List.Sums.{sum_by_push}
use Rattle.omf_core.specs.Record.{SpellsRecord, fault_at, spelling, byte_sum, word_at, record_size, checksum, unsummed}
use Rattle.omf_core.specs.Laws.{OneRecordAtEachPlace, NoSpellingBeginsAnother, NoFaultExactlyAtRecords, RecordsStay, FaultsStay, WrittenIsSpelled}

pub one_record : OneRecordAtEachPlace
one_record bytes from to to' kind kind' body body' a b =
    let same_length : length body ≡ length body' = omega (arith, a.length_word, b.length_word) in
    let same_to : to ≡ to' = omega arith in (
      sym a.kind_byte ∙ b.kind_byte,
      sym a.body_bytes ∙ (ap (λ n. slice_range bytes (from + 3) (n - 1)) same_to ∙ b.body_bytes),
      same_to,
    )

-- a part of the front is a part of the whole
pub slice_range-append : (xs ys : List ℕ) (from to : ℕ) → from ≤ to → to ≤ length xs → slice_range (xs ++ ys) from to ≡ slice_range xs from to
slice_range-append xs ys from to ordered within =
    let inside : from ≤ length xs = omega arith in
    let left : to - from ≤ length (drop from xs) = omega (arith, length-drop from xs) in
    rw (drop-append-le from xs ys inside, take-append-le (to - from) (drop from xs) ys left) refl

pub word_at-append : (xs ys : List ℕ) (i : ℕ) → i + 1 < length xs → word_at (xs ++ ys) i ≡ word_at xs i
word_at-append xs ys i within =
    let low = get_or_append_left xs ys 0 i (omega arith) in
    let high = get_or_append_left xs ys 0 (i + 1) within in
    omega (arith, low, high)

pub records_stay : RecordsStay
records_stay bytes more from to kind body a = record {
  kind_byte = get_or_append_left bytes more 0 from (omega (arith, a.within, a.all_counted)) ∙ a.kind_byte;
  length_word = word_at-append bytes more (from + 1) (omega (arith, a.within, a.all_counted)) ∙ a.length_word;
  body_bytes = slice_range-append bytes more (from + 3) (to - 1) (omega (arith, a.all_counted)) (omega (arith, a.within)) ∙ a.body_bytes;
  all_counted = a.all_counted;
  within = omega (arith, a.within, length-append bytes more);
  sum_zero = ap byte_sum (slice_range-append bytes more from to (omega (arith, a.all_counted)) a.within) ∙ a.sum_zero;
}

pub no_spelling_begins_another : NoSpellingBeginsAnother
no_spelling_begins_another spelled more kind kind' body body' a b =
    let same = one_record (spelled ++ more) 0 (length spelled) (length (spelled ++ more)) kind kind' body body'
    (records_stay spelled more 0 (length spelled) kind body a) b in
    nil_from_length more (omega (arith, same.2, length-append spelled more))

pub slice_range-drop : (xs : List ℕ) (from a b : ℕ) → slice_range (drop from xs) a b ≡ slice_range xs (from + a) (from + b)
slice_range-drop xs from a b =
    let count : b - a ≡ from + b - (from + a) = omega arith in
    rw (drop-drop a from xs, count) refl

-- What is spelled at the start of the rest is spelled there.
pub spelled_from : (bytes : List ℕ) (from size kind : ℕ) (body : List ℕ) → SpellsRecord (drop from bytes) 0 size kind body → SpellsRecord bytes from (from + size) kind body
spelled_from bytes from size kind body a =
    let start : from ≡ from + 0 = omega arith in
    let last : from + size - 1 ≡ from + (size - 1) = omega (arith, a.all_counted) in
    record {
      kind_byte = grind (arith, common_steps, a.kind_byte);
      length_word = grind (arith, common_steps, a.length_word);
      body_bytes = ap (λ n. slice_range bytes (from + 3) n) last ∙ (sym (slice_range-drop bytes from 3 (size - 1)) ∙ a.body_bytes);
      all_counted = omega (arith, a.all_counted);
      within = omega (arith, a.within, a.all_counted, length-drop from bytes);
      sum_zero = ap byte_sum (ap (λ n. slice_range bytes n (from + size)) start ∙ sym (slice_range-drop bytes from 0 size)) ∙ a.sum_zero;
    }

-- the sum of bytes with their checksum
pub byte_sum-checksum : (bytes : List ℕ) → byte_sum (bytes ++ checksum bytes ∷ []) ≡ 0
byte_sum-checksum bytes = omega (arith, sum_by_push (λ x. x) bytes (checksum bytes))

pub length-spelling : (kind : ℕ) (body : List ℕ) → length (spelling kind body) ≡ 4 + length body
length-spelling kind body = omega (arith, length-append body (checksum (unsummed kind body) ∷ []))

pub written_at_start : (kind : ℕ) (body : List ℕ) → SpellsRecord (spelling kind body) 0 (4 + length body) kind body
written_at_start kind body =
    let size = length-spelling kind body in
    let all : slice_range (spelling kind body) 0 (4 + length body) ≡ spelling kind body = take_all (4 + length body - 0) (spelling kind body) (omega (arith, size)) in
    let count : 4 + length body - 1 - 3 ≡ length body = omega arith in
    record {
      kind_byte = refl;
      length_word = omega arith;
      body_bytes = ap (λ n. take n (body ++ checksum (unsummed kind body) ∷ [])) count ∙ take_at body (checksum (unsummed kind body) ∷ []) (length body) refl;
      all_counted = omega arith;
      within = omega (arith, size);
      sum_zero = ap byte_sum all ∙ byte_sum-checksum (unsummed kind body);
    }

pub written_is_spelled : WrittenIsSpelled
written_is_spelled before after kind body =
    let there : drop (length before) (before ++ spelling kind body) ≡ spelling kind body = drop_at before (spelling kind body) (length before) refl in
    let placed : SpellsRecord (before ++ spelling kind body) (length before) (length before + (4 + length body)) kind body =
    spelled_from (before ++ spelling kind body) (length before) (4 + length body) kind body
    (subst (λ rest. SpellsRecord rest 0 (4 + length body) kind body) (sym there) (written_at_start kind body)) in
    records_stay (before ++ spelling kind body) after (length before) (length before + 4 + length body) kind body
    (subst (λ to. SpellsRecord (before ++ spelling kind body) (length before) to kind body) (omega arith) placed)

-- What it means that there is no fault in the rest.
pub record NoFault (rest : List ℕ) : Type 0 where
  pub counts : 0 < word_at rest 1
  pub whole : record_size rest ≤ length rest
  pub sum_zero : byte_sum (take (record_size rest) rest) ≡ 0

pub no_fault : (rest : List ℕ) (at : ℕ) → fault_at rest at ≡ None → NoFault rest
no_fault rest at none = record {
  counts = grind (arith, nat_tests);
  whole = grind (arith, nat_tests);
  sum_zero = grind (arith, nat_tests);
}

-- The head of a rest without a fault is spelled.
pub spelled_at_start : (rest : List ℕ) → NoFault rest → SpellsRecord rest 0 (record_size rest) (slice_index rest 0) (slice_range rest 3 (record_size rest - 1))
spelled_at_start rest none =
    let whole = none.whole in
    let counts = none.counts in
    let size : length (slice_range rest 3 (record_size rest - 1)) ≡ record_size rest - 1 - 3 =
    length-take-le (record_size rest - 1 - 3) (drop 3 rest) (omega (arith, length-drop 3 rest)) in
    let all : record_size rest - 0 ≡ record_size rest = omega arith in
    record {
      kind_byte = refl;
      length_word = omega arith;
      body_bytes = refl;
      all_counted = omega arith;
      within = whole;
      sum_zero = ap (λ n. byte_sum (take n rest)) all ∙ none.sum_zero;
    }

pub no_fault_at_record : (bytes : List ℕ) (from to kind : ℕ) (body : List ℕ) → SpellsRecord bytes from to kind body → fault_at (drop from bytes) from ≡ None
no_fault_at_record bytes from to kind body a = grind (arith, common_steps, a.length_word, a.sum_zero, a.within, a.all_counted)

pub no_fault_exactly_at_records : NoFaultExactlyAtRecords
no_fault_exactly_at_records bytes from = (
  λ none. let rest = drop from bytes in (
    from + record_size (drop from bytes),
    slice_index (drop from bytes) 0,
    slice_range (drop from bytes) 3 (record_size (drop from bytes) - 1),
    spelled_from bytes from (record_size (drop from bytes)) (slice_index (drop from bytes) 0)
        (slice_range (drop from bytes) 3 (record_size (drop from bytes) - 1)) (spelled_at_start (drop from bytes) (no_fault (drop from bytes) from none)),
  ),
  λ spelled. no_fault_at_record bytes from spelled.0 spelled.1 spelled.2 spelled.3,
)

pub faults_stay : FaultsStay
faults_stay rest more at = (λ bad. grind (arith, common_steps), λ zero. grind (arith, common_steps))
