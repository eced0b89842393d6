use Rattle.std.proofs.Common.{◌≡◌, ℕ, ◌+◌, ◌-◌, ◌<◌, ◌≤◌, true, false, List, length, drop, get_or, slice_index, slice_range, IsTrue, refl, sym, ap, ◌∙◌, arith}
use Rattle.std.proofs.lemmas.Bool.{false≢true}
use Rattle.std.proofs.lemmas.List.{drop-drop, length-take-le, length-drop, get_or-drop}
use Rattle.std.proofs.lemmas.Grind.{get_or_default_zero}
use Rattle.omf_core.specs.Name.{SpellsName, is_name, holds_name, counted_bytes}
use Rattle.omf_core.proofs.SpelledNames.{name_at, held_at_name}
use Rattle.omf_core.proofs.split.split_name.Goals as goal

byte_there : (bytes : List ℕ) (at byte : ℕ) → at < length bytes → byte ≡ get_or bytes at byte → byte ≡ slice_index bytes at
byte_there bytes at byte within is = is ∙ get_or_default_zero bytes at byte within

-- What is taken at a place, and is a name, is spelled there.
taken : (bytes name : List ℕ) (at n : ℕ) → n ≡ slice_index bytes at → at + 1 + n ≤ length bytes → name ≡ slice_range bytes (at + 1) (at + 1 + n) → is_name name ≡ true
    → SpellsName bytes at (at + 1 + n) name
taken bytes name at n counts within is named =
    let size : length (slice_range bytes (at + 1) (at + 1 + n)) ≡ at + 1 + n - (at + 1) = length-take-le (at + 1 + n - (at + 1)) (drop (at + 1) bytes) (omega (arith, length-drop (at + 1) bytes)) in
    let same : length name ≡ n = ap length is ∙ (size ∙ omega arith) in
    record {
      length_byte = sym counts ∙ sym same;
      name_bytes = sym is;
      all_counted = ap (λ (k : ℕ). at + 1 + k) (sym same);
      within = within;
      is_one = named;
    }

counted_there : (bytes name : List ℕ) (at n : ℕ) → n ≡ slice_index bytes at → name ≡ slice_range bytes (at + 1) (at + 1 + n) → name ≡ counted_bytes (drop at bytes)
counted_there bytes name at n counts is =
    let here : slice_index (drop at bytes) 0 ≡ slice_index bytes at = get_or-drop at bytes 0 0 ∙ ap (slice_index bytes) (omega arith) in
    let count : at + 1 + n - (at + 1) ≡ slice_index (drop at bytes) 0 = omega (arith, here, counts) in
    is ∙ rw (count, drop-drop 1 at bytes) refl

-- Where the bytes end before all that are counted, or what is counted is no name, none is spelled.
cut_off : (bytes : List ℕ) (at n : ℕ) → n ≡ slice_index bytes at → length bytes < at + 1 + n → (name : List ℕ) (after : ℕ) → SpellsName bytes at after name → ⊥
cut_off bytes at n counts short name after s =
    let counted = s.all_counted in
    let within = s.within in
    let same = s.length_byte in
    omega arith

past_end : (bytes : List ℕ) (at : ℕ) → length bytes ≤ at → (name : List ℕ) (after : ℕ) → SpellsName bytes at after name → ⊥
past_end bytes at past name after s =
    let counted = s.all_counted in
    let within = s.within in
    omega arith

not_named : (bytes other : List ℕ) (at n : ℕ) → n ≡ slice_index bytes at → other ≡ slice_range bytes (at + 1) (at + 1 + n) → is_name other ≡ false
    → (name : List ℕ) (after : ℕ) → SpellsName bytes at after name → ⊥
not_named bytes other at n counts is bad name after s =
    let to : after ≡ at + 1 + n = s.all_counted ∙ ap (λ (k : ℕ). at + 1 + k) (sym s.length_byte ∙ sym counts) in
    let same : name ≡ other = sym s.name_bytes ∙ (ap (slice_range bytes (at + 1)) to ∙ sym is) in
    absurd (false≢true (sym bad ∙ (ap is_name (sym same) ∙ s.is_one)))

-- Where none is spelled, the bytes begin with none.
none_held : (bytes : List ℕ) (at : ℕ) → ((name : List ℕ) (after : ℕ) → SpellsName bytes at after name → ⊥) → IsTrue (holds_name (drop at bytes)) → ⊥
none_held bytes at none held = none (counted_bytes (drop at bytes)) (at + 1 + slice_index (drop at bytes) 0) (name_at bytes at held)

pub returns-in_err-length : goal.returns-in_err-length
returns-in_err-length c =
    let none = past_end c.args.body.now c.args.at (omega (arith, c.in_err-length.ensures.lookup)) in
    rw c.from_residual.ensures (record {
      split = tt;
      every_name = λ name after s. absurd (none name after s);
      exactly = (λ no. absurd (false≢true no), λ held. absurd (none_held c.args.body.now c.args.at none held));
      counted = tt;
    })

pub returns-in_err-name : goal.returns-in_err-name
returns-in_err-name c =
    let none = cut_off c.args.body.now c.args.at c.in_ok-length.field-0.now (byte_there c.args.body.now c.args.at c.in_ok-length.field-0.now (omega (arith, c.in_ok-length.ensures.lookup)) c.in_ok-length.ensures.lookup.1) (omega (arith, c.in_err-name.ensures.lookup)) in
    rw c.from_residual-in_err-name.ensures (record {
      split = tt;
      every_name = λ name after s. absurd (none name after s);
      exactly = (λ no. absurd (false≢true no), λ held. absurd (none_held c.args.body.now c.args.at none held));
      counted = tt;
    })

pub returns-then-is_name : goal.returns-then-is_name
returns-then-is_name c =
    let spelled = taken c.args.body.now c.in_ok-name.name.now c.args.at c.in_ok-length.field-0.now (byte_there c.args.body.now c.args.at c.in_ok-length.field-0.now (omega (arith, c.in_ok-length.ensures.lookup)) c.in_ok-length.ensures.lookup.1) (omega (arith, c.in_ok-name.ensures.lookup)) c.in_ok-name.ensures.lookup.0.2 (sym c.if-is_name.ensures) in
    record {
      split = spelled;
      every_name = λ name after s. refl;
      exactly = (λ yes. held_at_name c.args.body.now c.args.at (c.args.at + 1 + c.in_ok-length.field-0.now) c.in_ok-name.name.now spelled, λ held. refl);
      counted = counted_there c.args.body.now c.in_ok-name.name.now c.args.at c.in_ok-length.field-0.now (byte_there c.args.body.now c.args.at c.in_ok-length.field-0.now (omega (arith, c.in_ok-length.ensures.lookup)) c.in_ok-length.ensures.lookup.1) c.in_ok-name.ensures.lookup.0.2;
    }

pub returns-else-is_name : goal.returns-else-is_name
returns-else-is_name c =
    let none = not_named c.args.body.now c.in_ok-name.name.now c.args.at c.in_ok-length.field-0.now (byte_there c.args.body.now c.args.at c.in_ok-length.field-0.now (omega (arith, c.in_ok-length.ensures.lookup)) c.in_ok-length.ensures.lookup.1) c.in_ok-name.ensures.lookup.0.2 (sym c.if-is_name.ensures) in
    record {
      split = tt;
      every_name = λ name after s. absurd (none name after s);
      exactly = (λ no. absurd (false≢true no), λ held. absurd (none_held c.args.body.now c.args.at none held));
      counted = tt;
    }
