-- Of bytes, only what is written for a record spells it.
use Rattle.std.proofs.Common.{◌≡◌, ℕ, ◌+◌, ◌-◌, ◌*◌, ◌/◌, ◌%◌, ◌<◌, ◌≤◌, List, [], ◌∷◌, ◌++◌, length, take, drop, get_or, slice_range, subst, refl, sym, ◌∙◌, ap, arith}
use Rattle.std.proofs.lemmas.List.{drop-drop, drop_more, drop_all, take-append-drop, take-take, drop-take, length-take-le, length-drop, get_or-take, get_or-drop}
use Rattle.std.proofs.lemmas.List.Sums.{sum_by_push}
use Rattle.omf_core.specs.Record.{spelling, unsummed, checksum, byte_sum, word_at}
use Rattle.omf_core.specs.Laws.{SpelledIsWritten}

-- the two bytes of a word are determined by it
low_byte : (low high word : ℕ) → low < 256 → low + 256 * high ≡ word → low ≡ word % 256
low_byte low high word small is_word = omega arith

high_byte : (low high word : ℕ) → low < 256 → low + 256 * high ≡ word → high ≡ word / 256
high_byte low high word small is_word = omega arith

-- the checksum is determined by the bytes before it
last_byte : (front : List ℕ) (last : ℕ) → last < 256 → byte_sum (front ++ last ∷ []) ≡ 0 → last ≡ checksum front
last_byte front last small zero = omega (arith, sum_by_push (λ x. x) front last)

-- a list of four bytes and those of the body, by its parts
parts : (s : List ℕ) (n : ℕ) → length s ≡ 4 + n
    → s ≡ get_or s 0 0 ∷ get_or s 1 0 ∷ get_or s 2 0 ∷ (take n (drop 3 s) ++ get_or s (3 + n) 0 ∷ [])
parts s n size =
    let first : s ≡ get_or s 0 0 ∷ drop 1 s = drop_more s 0 0 (omega arith) in
    let second : drop 1 s ≡ get_or s 1 0 ∷ drop 2 s = drop_more s 1 0 (omega arith) in
    let third : drop 2 s ≡ get_or s 2 0 ∷ drop 3 s = drop_more s 2 0 (omega arith) in
    let body : drop 3 s ≡ take n (drop 3 s) ++ drop n (drop 3 s) = sym (take-append-drop n (drop 3 s)) in
    let last : drop n (drop 3 s) ≡ get_or s (3 + n) 0 ∷ drop (3 + n + 1) s = drop-drop n 3 s ∙ drop_more s (3 + n) 0 (omega arith) in
    let none : drop (3 + n + 1) s ≡ [] = drop_all (3 + n + 1) s (omega arith) in
    cc

-- a whole list that spells a record is what is written for it
whole_is_written : (s : List ℕ) (kind : ℕ) (body : List ℕ)
    → length s ≡ 4 + length body
    → ((k : ℕ) → k < length s → get_or s k 0 < 256)
    → get_or s 0 0 ≡ kind
    → word_at s 1 ≡ length body + 1
    → take (length body) (drop 3 s) ≡ body
    → byte_sum s ≡ 0
    → s ≡ spelling kind body
whole_is_written s kind body size small is_kind is_word is_body zero =
    let low : get_or s 1 0 ≡ (length body + 1) % 256 = low_byte (get_or s 1 0) (get_or s 2 0) (length body + 1) (small 1 (omega arith)) is_word in
    let high : get_or s 2 0 ≡ (length body + 1) / 256 = high_byte (get_or s 1 0) (get_or s 2 0) (length body + 1) (small 1 (omega arith)) is_word in
    let made : s ≡ get_or s 0 0 ∷ get_or s 1 0 ∷ get_or s 2 0 ∷ (take (length body) (drop 3 s) ++ get_or s (3 + length body) 0 ∷ []) = parts s (length body) size in
    let joined : s ≡ unsummed kind body ++ get_or s (3 + length body) 0 ∷ [] = cc in
    let last : get_or s (3 + length body) 0 ≡ checksum (unsummed kind body) =
    last_byte (unsummed kind body) (get_or s (3 + length body) 0) (small (3 + length body) (omega arith)) (ap byte_sum (sym joined) ∙ zero) in
    joined ∙ ap (λ x. unsummed kind body ++ x ∷ []) last

-- an element of a part
part_at : (bytes : List ℕ) (from to k : ℕ) → k < to - from → get_or (slice_range bytes from to) k 0 ≡ get_or bytes (from + k) 0
part_at bytes from to k below = get_or-take (to - from) (drop from bytes) k 0 below ∙ get_or-drop from bytes k 0

-- the body within the bytes of its record
part_body : (bytes : List ℕ) (from to n : ℕ) → to ≡ from + 4 + n → take n (drop 3 (slice_range bytes from to)) ≡ slice_range bytes (from + 3) (to - 1)
part_body bytes from to n counted =
    let whole : to - from ≡ 3 + (1 + n) = omega arith in
    let count : to - 1 - (from + 3) ≡ n = omega arith in
    let shorter : n ≤ 1 + n = omega arith in
    rw (whole, drop-take 3 (1 + n) (drop from bytes), take-take n (1 + n) (drop 3 (drop from bytes)) shorter, drop-drop 3 from bytes, count) refl

pub spelled_is_written : SpelledIsWritten
spelled_is_written bytes from to kind body all a =
    let counted = a.all_counted in
    let within = a.within in
    let is_word = a.length_word in
    let size : length (slice_range bytes from to) ≡ to - from =
    length-take-le (to - from) (drop from bytes) (omega (arith, length-drop from bytes)) in
    let at_0 = part_at bytes from to 0 (omega arith) in
    let at_1 = part_at bytes from to 1 (omega arith) in
    let at_2 = part_at bytes from to 2 (omega arith) in
    let start : from + 0 ≡ from = omega arith in
    let next : from + 2 ≡ from + 1 + 1 = omega arith in
    let high : get_or (slice_range bytes from to) 2 0 ≡ get_or bytes (from + 1 + 1) 0 = at_2 ∙ ap (λ i. get_or bytes i 0) next in
    whole_is_written (slice_range bytes from to) kind body (omega arith)
    (λ k below. subst (λ byte. byte < 256) (sym (part_at bytes from to k (omega arith))) (all (from + k) 0 (omega arith)))
    (at_0 ∙ (ap (λ i. get_or bytes i 0) start ∙ a.kind_byte))
    (omega arith)
    (part_body bytes from to (length body) counted ∙ a.body_bytes)
    a.sum_zero
