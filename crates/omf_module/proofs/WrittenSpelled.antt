-- Records that are written one after another are spelled, wherever they stand.
use Rattle.std.proofs.Common.{◌≡◌, ℕ, ◌+◌, ◌≤◌, List, [], ◌∷◌, ◌++◌, length, refl, sym, ap, ◌∙◌, subst, arith, append_assoc, IsTrue}
use Rattle.std.specs.List.{flat_map, AllByRecursion}
use Rattle.std.proofs.lemmas.List.{append-nil, length-append}
use Rattle.omf_core.specs.Kind.{kind_byte}
use Rattle.omf_core.specs.Record.{SpellsRecord, spelling, unsummed, checksum}
use Rattle.omf_core.specs.Laws.{WrittenIsSpelled}
use Rattle.omf_body.specs.declared.body.Body.{Body}
use Rattle.omf_body.specs.Bodies.{body_kind, body_bytes, is_sound_body, record_bytes}
use Rattle.omf_module.specs.declared.module_file.PlacedBody.{PlacedBody}
use Rattle.omf_module.specs.Records.{SpellsBody, SpellsBodies}

-- bodies at the places where they stand after these bytes
abbrev pub placed_after : List ℕ → List Body → List PlacedBody
placed_after before [] = []
placed_after before (b ∷ bs) = record { at = length before; body = b } ∷ placed_after (before ++ record_bytes b) bs

-- a body that can be written, and is read again
pub record Fits (b : Body) : Type 0 where
  pub sound : IsTrue (is_sound_body b)
  pub short : length (body_bytes b) ≤ 65534

spelling_length : (before : List ℕ) (kind : ℕ) (body : List ℕ)
    → length before + 4 + length body ≡ length (before ++ spelling kind body)
spelling_length before kind body =
    omega (
      arith,
      length-append before (spelling kind body),
      length-append (unsummed kind body)
          (checksum (unsummed kind body) ∷ []),
    )

pub one_spelled : WrittenIsSpelled → (before after : List ℕ) (b : Body) → Fits b
    → SpellsBody (before ++ record_bytes b ++ after) (length before) (length (before ++ record_bytes b)) b
one_spelled law before after b fit = record {
  framed = subst (λ (to : ℕ). SpellsRecord (before ++ record_bytes b ++ after) (length before) to (kind_byte (body_kind b))
      (body_bytes b))
      (spelling_length before (kind_byte (body_kind b)) (body_bytes b))
      (law before after (kind_byte (body_kind b)) (body_bytes b));
  sound = fit.sound;
  fits = fit.short;
}

pub bodies_spelled : WrittenIsSpelled → (before after : List ℕ) (bs : List Body) → AllByRecursion Fits bs
    → SpellsBodies (before ++ flat_map record_bytes bs ++ after) (length before) (length (before ++ flat_map record_bytes bs))
    (placed_after before bs)
bodies_spelled law before after [] fit = ap length (sym (append-nil before))
bodies_spelled law before after (b ∷ bs) fit =
    let rest = flat_map record_bytes bs in
    let front : before ++ record_bytes b ++ rest ≡ before ++ (record_bytes b ++ rest) =
    append_assoc before (record_bytes b) rest in
    let whole : before ++ record_bytes b ++ (rest ++ after) ≡ before ++ (record_bytes b ++ rest) ++ after =
    sym (append_assoc (before ++ record_bytes b) rest after) ∙ ap (λ (bytes : List ℕ). bytes ++ after) front in (
      refl,
      (
        length (before ++ record_bytes b),
        subst (λ (bytes : List ℕ). SpellsBody bytes (length before) (length (before ++ record_bytes b)) b) whole
            (one_spelled law before (rest ++ after) b fit.0),
        subst (λ (bytes : List ℕ). SpellsBodies (bytes ++ after) (length (before ++ record_bytes b)) (length bytes)
            (placed_after (before ++ record_bytes b) bs)) front
            (bodies_spelled law (before ++ record_bytes b) after bs fit.1),
      ),
    )
