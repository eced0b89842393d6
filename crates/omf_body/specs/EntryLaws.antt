-- What is written of an entry is read as that entry.
use Rattle.std.proofs.Common.{◌≡◌, ℕ, ◌+◌, ◌*◌, ◌/◌, ◌%◌, ◌&&◌, List, [], ◌∷◌, ◌++◌, Result, Ok, Err, ap, ◌∙◌, arith, append_assoc, IsTrue}
use Rattle.std.proofs.lemmas.Bool.{and_parts, cond-true}
use Rattle.omf_core.specs.Name.{is_name, name_spelling}
use Rattle.omf_core.specs.SegmentId.{is_common_id}
use Rattle.omf_body.specs.declared.fault.FieldFault.{FieldFault}
use Rattle.omf_body.specs.declared.fault.FieldFault.TheVariants.{BadBody}
use Rattle.omf_body.specs.declared.entries.SegmentEntry.{SegmentEntry}
use Rattle.omf_body.specs.declared.entries.CommonEntry.{CommonEntry}
use Rattle.omf_body.specs.declared.entries.PublicEntry.{PublicEntry}
use Rattle.omf_body.specs.declared.entries.ExternalEntry.{ExternalEntry}
use Rattle.omf_body.specs.declared.entries.OffsetEntry.{OffsetEntry}
use Rattle.omf_body.specs.declared.entries.IndexEntry.{IndexEntry}
use Rattle.omf_body.specs.Fields.{◌>>=◌, read_byte, read_name}
use Rattle.omf_body.specs.Layouts.{IsLayout}
use Rattle.omf_body.specs.Entries.{segment_layout, common_layout, public_layout, external_layout, offset_layout, index_layout}
use Rattle.omf_body.specs.FieldsAgain.{name_again}

whole : (word : ℕ) → word % 256 + 256 * (word / 256) ≡ word
whole word = omega arith

pub segment_laws : IsLayout SegmentEntry segment_layout
segment_laws = record {
  again = λ (e : SegmentEntry) rest sound.
      ap (λ (w : ℕ). Ok (record { id = e.id; length = w; alignment = e.alignment }, rest)) (whole e.length);
  some = λ e. omega arith;
}

common_again : (e : CommonEntry) (rest : List ℕ) → IsTrue (is_common_id e.id && is_name e.name) →
    common_layout.read (common_layout.bytes e ++ rest) ≡ Ok (e, rest)
common_again e rest sound =
    let parts = and_parts (is_common_id e.id) (is_name e.name) sound in
    cond-true (is_common_id e.id) (read_name (name_spelling e.name ++ rest) >>= λ name.
    Ok (record { id = e.id; name = name.0 }, name.1)) (Err BadBody) parts.0
    ∙ ap (λ (r : Result (List ℕ × List ℕ) FieldFault). r >>= λ name.
    Ok (record { id = e.id; name = name.0 }, name.1)) (name_again e.name rest parts.1)

pub common_laws : IsLayout CommonEntry common_layout
common_laws = record { again = common_again; some = λ e. omega arith }

public_again : (e : PublicEntry) (rest : List ℕ) → IsTrue (is_name e.name) →
    public_layout.read (public_layout.bytes e ++ rest) ≡ Ok (e, rest)
public_again e rest sound =
    ap (λ (w : ℕ). read_name (name_spelling e.name ++ e.unread ∷ [] ++ rest) >>= λ name. read_byte name.1 >>= λ unread.
    Ok (record { offset = w; name = name.0; unread = unread.0 }, unread.1)) (whole e.offset)
    ∙ (ap (λ (bytes : List ℕ). read_name bytes >>= λ name. read_byte name.1 >>= λ unread.
    Ok (record { offset = e.offset; name = name.0; unread = unread.0 }, unread.1))
    (append_assoc (name_spelling e.name) (e.unread ∷ []) rest)
    ∙ ap (λ (r : Result (List ℕ × List ℕ) FieldFault). r >>= λ name. read_byte name.1 >>= λ unread.
    Ok (record { offset = e.offset; name = name.0; unread = unread.0 }, unread.1))
    (name_again e.name (e.unread ∷ rest) sound))

pub public_laws : IsLayout PublicEntry public_layout
public_laws = record { again = public_again; some = λ e. omega arith }

external_again : (e : ExternalEntry) (rest : List ℕ) → IsTrue (is_name e.name) →
    external_layout.read (external_layout.bytes e ++ rest) ≡ Ok (e, rest)
external_again e rest sound =
    ap (λ (bytes : List ℕ). read_name bytes >>= λ name. read_byte name.1 >>= λ unread.
    Ok (record { name = name.0; unread = unread.0 }, unread.1)) (append_assoc (name_spelling e.name) (e.unread ∷ []) rest)
    ∙ ap (λ (r : Result (List ℕ × List ℕ) FieldFault). r >>= λ name. read_byte name.1 >>= λ unread.
    Ok (record { name = name.0; unread = unread.0 }, unread.1)) (name_again e.name (e.unread ∷ rest) sound)

pub external_laws : IsLayout ExternalEntry external_layout
external_laws = record { again = external_again; some = λ e. omega arith }

pub offset_laws : IsLayout OffsetEntry offset_layout
offset_laws = record {
  again = λ (e : OffsetEntry) rest sound. ap (λ (w : ℕ). Ok (record { offset = w }, rest)) (whole e.offset);
  some = λ e. omega arith;
}

pub index_laws : IsLayout IndexEntry index_layout
index_laws = record {
  again = λ (e : IndexEntry) rest sound.
      ap (λ (w : ℕ). Ok (record { index = w; offset = e.offset % 256 + 256 * (e.offset / 256) }, rest)) (whole e.index)
      ∙ ap (λ (w : ℕ). Ok (record { index = e.index; offset = w }, rest)) (whole e.offset);
  some = λ e. omega arith;
}
