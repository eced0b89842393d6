-- What is written of a library spells it.
use Rattle.std.proofs.Common.{◌≡◌, ℕ, ◌+◌, ◌*◌, ◌/◌, ◌%◌, List, [], ◌∷◌, ◌++◌, length, refl, sym, ◌∙◌, subst, arith, append_assoc}
use Rattle.std.specs.List.{flat_map}
use Rattle.std.proofs.lemmas.List.{append-nil, length-append}
use Rattle.omf_core.specs.Record.{SpellsRecord, spelling, unsummed, checksum}
use Rattle.omf_core.specs.Records.{spellings}
use Rattle.omf_core.specs.Laws.{WrittenIsSpelled, WrittenListIsSpelled}
use Rattle.omf_module.specs.Spelled.{SpellsModules}
use Rattle.omf_module.specs.Writing.{module_bytes}
use Rattle.omf_module.specs.StayLaws.{ModulesStand}
use Rattle.omf_library.specs.Writing.{header_body, index_records, library_bytes, WrittenLibraryIsSpelled}

spelling_length : (kind : ℕ) (body : List ℕ) → length (spelling kind body) ≡ 4 + length body
spelling_length kind body = length-append (unsummed kind body) (checksum (unsummed kind body) ∷ []) ∙ (omega arith)

word_again : (w : ℕ) → w ≡ w % 256 + 256 * (w / 256)
word_again w = omega arith

pub library_spelled : WrittenIsSpelled → WrittenListIsSpelled → ModulesStand → WrittenLibraryIsSpelled
unfolding library_bytes
library_spelled law lists stand ms all =
    let header = spelling 0x2C (header_body ms) in
    let modules = flat_map module_bytes ms in
    let index = spellings (index_records ms) in
    let end = spelling 0x0E [] in
    let from_header : header ++ (modules ++ (index ++ end)) ≡ header ++ modules ++ index ++ end =
    sym (append_assoc header modules (index ++ end)) ∙ sym (append_assoc (header ++ modules) index end) in
    record {
      first = length header;
      index = length (header ++ modules);
      end = length (header ++ modules) + length index;
      records = index_records ms;
      begins = record {
        kind = 0x2C;
        body = header_body ms;
        framed = subst (λ (to : ℕ). SpellsRecord (header ++ modules ++ index ++ end) 0 to 0x2C (header_body ms))
            (sym (spelling_length 0x2C (header_body ms)))
            (subst (λ (bytes : List ℕ). SpellsRecord bytes 0 (4 + length (header_body ms)) 0x2C (header_body ms)) from_header
            (law [] (modules ++ (index ++ end)) 0x2C (header_body ms)));
        header = refl;
        count = word_again (length ms);
      };
      spelled = subst (λ (bytes : List ℕ). SpellsModules bytes (length header) (length (header ++ modules)) ms)
          (sym (append_assoc (header ++ modules) index end)) (stand.spelled header (index ++ end) ms all);
      indexed = record { spelled = lists (header ++ modules) end (index_records ms); kinds = refl };
      ends = record {
        next = length (header ++ modules ++ index) + 4 + 0;
        body = [];
        spelled = subst (λ (from : ℕ). SpellsRecord (header ++ modules ++ index ++ end) from
            (length (header ++ modules ++ index) + 4 + 0) 0x0E []) (length-append (header ++ modules) index)
            (subst (λ (bytes : List ℕ). SpellsRecord bytes (length (header ++ modules ++ index))
            (length (header ++ modules ++ index) + 4 + 0) 0x0E []) (append-nil (header ++ modules ++ index ++ end))
            (law (header ++ modules ++ index) [] 0x0E []));
      };
    }
