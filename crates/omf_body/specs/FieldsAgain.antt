-- Fields that are written are read again.
use Rattle.std.proofs.Common.{◌≡◌, ℕ, suc, ◌+◌, ◌*◌, ◌/◌, ◌%◌, Bool, true, false, List, ◌∷◌, ◌++◌, length, take, drop, Ok, Err, refl, ap, ◌∙◌, arith, add-one}
use Rattle.std.specs.Prelude.{nat_lt, if◌then◌else◌}
use Rattle.std.proofs.lemmas.Bool.{lt-ltb}
use Rattle.std.proofs.lemmas.List.{take_at, drop_at, length-append}
use Rattle.omf_core.specs.Name.{is_name, name_spelling}
use Rattle.omf_body.specs.declared.fault.FieldFault.TheVariants.{BadBody, BadName}
use Rattle.omf_body.specs.declared.field.Field.{Field}
use Rattle.omf_body.specs.declared.field.Field.TheVariants.{Low, High, Both}
use Rattle.omf_body.specs.Fields.{read_word, word_bytes, read_name, read_field, field_byte}

pub word_again : (word : ℕ) (rest : List ℕ) → read_word (word_bytes word ++ rest) ≡ Ok (word, rest)
word_again word rest =
    let whole : word % 256 + 256 * (word / 256) ≡ word = omega arith in
    ap (λ (w : ℕ). Ok (w, rest)) whole

name_by : (held good : Bool) (x : List ℕ × List ℕ) → held ≡ true → good ≡ true →
    (if held then (if good then Ok x else Err BadName) else Err BadBody) ≡ Ok x
name_by true true x a b = refl
name_by true false x a b = absurd cc
name_by false good x a b = absurd cc

pub name_again : (name rest : List ℕ) → is_name name ≡ true → read_name (name_spelling name ++ rest) ≡ Ok (name, rest)
name_again name rest ok =
    let taken : take (length name) (name ++ rest) ≡ name = take_at name rest (length name) refl in
    let held : nat_lt (length name) (suc (length (name ++ rest))) ≡ true =
    lt-ltb (length name) (suc (length (name ++ rest))) (omega (arith, length-append name rest)) in
    let good : is_name (take (length name) (name ++ rest)) ≡ true = ap is_name taken ∙ ok in
    let after : drop (length name + 1) (length name ∷ (name ++ rest)) ≡ rest =
    ap (λ n. drop n (length name ∷ (name ++ rest))) (add-one (length name)) ∙ drop_at name rest (length name) refl in
    let raw = name_by (nat_lt (length name) (suc (length (name ++ rest)))) (is_name (take (length name) (name ++ rest)))
    (take (length name) (name ++ rest), drop (length name + 1) (length name ∷ (name ++ rest))) held good in
    raw ∙ (ap (λ (n : List ℕ). Ok (n, drop (length name + 1) (length name ∷ (name ++ rest)))) taken
    ∙ ap (λ (r : List ℕ). Ok (name, r)) after)

pub field_again : (field : Field) (rest : List ℕ) → read_field (field_byte field ∷ rest) ≡ Ok (field, rest)
field_again Low rest = refl
field_again High rest = refl
field_again Both rest = refl
