-- The laws of records that follow one another.
use Rattle.std.proofs.Common.{◌≡◌, ℕ, ◌+◌, ◌≤◌, inl, inr, List, [], ◌∷◌, ◌++◌, length, subst, refl, sym, ◌∙◌, ap, arith, append_assoc}
use Rattle.std.proofs.lemmas.List.{length-append}
use Rattle.omf_core.specs.Record.{SpellsRecord, spelling}
use Rattle.omf_core.specs.Records.{RecordValue, SpellsRecords, spellings}
use Rattle.omf_core.specs.Laws.{OneListBeginsTheOther, OneListAtEachStretch, ListsJoin, ListGrows, ListsStay, WrittenListIsSpelled}
use Rattle.omf_core.proofs.Spelled.{one_record, records_stay, written_is_spelled, length-spelling}

abbrev value_of : ℕ → List ℕ → RecordValue
value_of kind body = record { kind = kind; body = body }

same_value : (r s : RecordValue) → r.kind ≡ s.kind → r.body ≡ s.body → r ≡ s
same_value r s kinds bodies =
    ap (λ kind. value_of kind r.body) kinds ∙ ap (λ body. value_of s.kind body) bodies

-- the first records of two lists that are spelled from one place on
pub same_first : (bytes : List ℕ) (from : ℕ) (r s : RecordValue)
    → SpellsRecord bytes from (from + 4 + length r.body) r.kind r.body
    → SpellsRecord bytes from (from + 4 + length s.body) s.kind s.body
    → r ≡ s
same_first bytes from r s a b =
    let same = one_record bytes from (from + 4 + length r.body) (from + 4 + length s.body) r.kind s.kind r.body s.body a b in
    same_value r s same.0 same.1

pub one_list_begins_the_other : OneListBeginsTheOther
one_list_begins_the_other bytes from to to' [] records' a b = inl (records', refl)
one_list_begins_the_other bytes from to to' (r ∷ rs) [] a b = inr (r ∷ rs, refl)
one_list_begins_the_other bytes from to to' (r ∷ rs) (s ∷ ss) a b =
    let first : r ≡ s = same_first bytes from r s a.0 b.0 in
    let rest : SpellsRecords bytes (from + 4 + length r.body) to' ss =
    subst (λ (v : RecordValue). SpellsRecords bytes (from + 4 + length v.body) to' ss) (sym first) b.1 in
    elim (one_list_begins_the_other bytes (from + 4 + length r.body) to to' rs ss a.1 rest) [
      | inl m ↦ inl (m.0, cc)
      | inr m ↦ inr (m.0, cc)
    ]

-- records that are spelled end no earlier than they begin
pub spelled_forward : (bytes : List ℕ) (from to : ℕ) (records : List RecordValue) → SpellsRecords bytes from to records → from ≤ to
spelled_forward bytes from to [] a = omega (arith, a)
spelled_forward bytes from to (r ∷ rs) a = omega (arith, spelled_forward bytes (from + 4 + length r.body) to rs a.1)

pub one_list_at_each_stretch : OneListAtEachStretch
one_list_at_each_stretch bytes from to [] [] a b = refl
one_list_at_each_stretch bytes from to [] (s ∷ ss) a b = absurd (omega (arith, a, spelled_forward bytes (from + 4 + length s.body) to ss b.1))
one_list_at_each_stretch bytes from to (r ∷ rs) [] a b = absurd (omega (arith, b, spelled_forward bytes (from + 4 + length r.body) to rs a.1))
one_list_at_each_stretch bytes from to (r ∷ rs) (s ∷ ss) a b =
    let first : r ≡ s = same_first bytes from r s a.0 b.0 in
    let rest : SpellsRecords bytes (from + 4 + length r.body) to ss =
    subst (λ (v : RecordValue). SpellsRecords bytes (from + 4 + length v.body) to ss) (sym first) b.1 in
    let others : rs ≡ ss = one_list_at_each_stretch bytes (from + 4 + length r.body) to rs ss a.1 rest in
    cc

pub lists_join : ListsJoin
lists_join bytes from middle to [] records' a b = subst (λ place. SpellsRecords bytes place to records') (sym a) b
lists_join bytes from middle to (r ∷ rs) records' a b = (a.0, lists_join bytes (from + 4 + length r.body) middle to rs records' a.1 b)

pub list_grows : ListGrows
list_grows bytes from middle to records next a b =
    let here : middle + 4 + length next.body ≡ to = sym b.all_counted in
    let first : SpellsRecord bytes middle (middle + 4 + length next.body) next.kind next.body =
    subst (λ place. SpellsRecord bytes middle place next.kind next.body) b.all_counted b in
    lists_join bytes from middle to records (next ∷ []) a (first, here)

pub lists_stay : ListsStay
lists_stay bytes more from to [] a = a
lists_stay bytes more from to (r ∷ rs) a =
    (records_stay bytes more from (from + 4 + length r.body) r.kind r.body a.0, lists_stay bytes more (from + 4 + length r.body) to rs a.1)

-- what is spelled of a list, with its first record: s and t are the bytes of the first and of the others
written_step : (before s t after : List ℕ) (r : RecordValue) (rs : List RecordValue)
    → length s ≡ 4 + length r.body
    → SpellsRecord (before ++ s ++ (t ++ after)) (length before) (length before + 4 + length r.body) r.kind r.body
    → SpellsRecords (before ++ s ++ t ++ after) (length (before ++ s)) (length (before ++ s) + length t) rs
    → SpellsRecords (before ++ (s ++ t) ++ after) (length before) (length before + length (s ++ t)) (r ∷ rs)
written_step before s t after r rs size first others =
    let place : length (before ++ s) ≡ length before + 4 + length r.body = omega (arith, length-append before s) in
    let end : length (before ++ s) + length t ≡ length before + length (s ++ t) = omega (arith, length-append before s, length-append s t) in
    let bytes : before ++ s ++ t ++ after ≡ before ++ (s ++ t) ++ after = ap (λ x. x ++ after) (append_assoc before s t) in
    let front : before ++ s ++ (t ++ after) ≡ before ++ (s ++ t) ++ after = sym (append_assoc (before ++ s) t after) ∙ bytes in (
      subst (λ (x : List ℕ). SpellsRecord x (length before) (length before + 4 + length r.body) r.kind r.body) front first,
      subst (λ (x : List ℕ). SpellsRecords x (length before + 4 + length r.body) (length before + length (s ++ t)) rs) bytes
          (subst (λ (x : ℕ). SpellsRecords (before ++ s ++ t ++ after) x (length before + length (s ++ t)) rs) place
          (subst (λ (x : ℕ). SpellsRecords (before ++ s ++ t ++ after) (length (before ++ s)) x rs) end others)),
    )

pub written_list_is_spelled : WrittenListIsSpelled
written_list_is_spelled before after [] = omega arith
written_list_is_spelled before after (r ∷ rs) =
    written_step before (spelling r.kind r.body) (spellings rs) after r rs (length-spelling r.kind r.body)
    (written_is_spelled before (spellings rs ++ after) r.kind r.body)
    (written_list_is_spelled (before ++ spelling r.kind r.body) after rs)
