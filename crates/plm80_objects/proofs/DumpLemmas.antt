-- The dumps that files have: one more beside those of files before it, or why it is none.
use Rattle.std.specs.Prelude.{◌≢◌, ◌||◌, ◌==◌}
use Rattle.std.specs.{List.AllZip, List.after_first, List.before_first, List.list_any, List.position_or_len, Str.Parse.AllDigits}
use Rattle.std.proofs.Math.{Bool.or-false, Seq.drop-append-add, Seq.get_or-append_seam, Seq.take-append_seam}
use Rattle.std.proofs.lemmas.{Bool.eq-eqb, Bool.ne_eqb, Grind.flat_map-append, List.Sums.position_or_len_is}
use Rattle.std.proofs.lemmas.List.{get_or_append_left, length-append}
use Rattle.std.proofs.lemmas.List.Elements.{All-push}
use Rattle.std.proofs.lemmas.List.Folds.{Any-from_list_any, list_any-append, list_any_at}
use Rattle.std.proofs.lemmas.List.Quantifiers.{all_pairs_push}
use Rattle.rom80.specs.Rom.{ShareAnAddress, is_among}
use Rattle.rom80.specs.declared.fault.RomFault.{RomFault, TheVariants.DumpsOverlap, TheVariants.EmptyFile, TheVariants.Memory, TheVariants.PastMemory}
use Rattle.plm80_console.specs.{NumberLaws.digits_without, NumberText.word_value}
use Rattle.plm80_objects.specs.Absolute.{AreDumps, AreRomsOf, Overlap, dump_paths, dumps_of, has_byte}
use Rattle.plm80_objects.specs.declared.absolute.AbsoluteArguments.{AbsoluteArguments}
use Rattle.plm80_objects.specs.{Compare.IsDump, RomFaults.HaveDumps, RomFaults.IsRefusedWith, Wrong.HaveNoDumps}
use Rattle.plm80_objects.proofs.Names.{◌≡◌, ℕ, ◌+◌, ◌<◌, Bool, List, [], ◌∷◌, ◌++◌, length, drop, take, map, refl, ◌∙◌, ap}
use Rattle.plm80_objects.proofs.Names.{arith, get_or, subst, sym, append-nil, append_assoc, take-append-drop, take_more, PlacedBytes, chunks_of, is_covered}
use Rattle.plm80_objects.proofs.Names.{paths_of, FileValue, Journal, and_read, file_value, DumpValue, RomFile, AreRead, AreDumpsRead, chunks_from, rom_paths}
use Rattle.plm80_objects.proofs.Names.{Bor, IsRomFile}
use Rattle.plm80_objects.proofs.ReadLemmas.{one_read}

abbrev pub rom_path : RomFile → List ℕ
rom_path rom = rom.path.now

abbrev dump_at : RomFile → FileValue → DumpValue
dump_at rom file = record { first = rom.first; bytes = file.bytes }

-- those of further files stand behind
dumps_behind : (roms more : List RomFile) (files others : List FileValue) → paths_of files ≡ rom_paths roms
    → dumps_of (roms ++ more) (files ++ others) ≡ dumps_of roms files ++ dumps_of more others
dumps_behind [] more [] others are = refl
dumps_behind [] more (file ∷ files) others are = absurd cc
dumps_behind (rom ∷ roms) more [] others are = absurd cc
dumps_behind (rom ∷ roms) more (file ∷ files) others are =
    ap (λ (dumps : List DumpValue). dump_at rom file ∷ dumps) (dumps_behind roms more files others (ap (drop 1) are))

abbrev AreCovered : List PlacedBytes → List DumpValue → Type 0
AreCovered chunks dumps = (address : ℕ) → is_covered chunks address ≡ list_any (has_byte address) dumps

module _ (dumps : List DumpValue) (dump : DumpValue) (chunks : List PlacedBytes) (covered : AreCovered chunks dumps) where
  -- one more that has bytes, ends in memory, and overlaps none
  dumps_more : AreDumps dumps → IsDump dump.first dump.bytes → (ShareAnAddress chunks dump.first (length dump.bytes) → ⊥)
      → AreDumps (dumps ++ dump ∷ [])
  dumps_more are whole apart = record {
    whole = All-push (λ (d : DumpValue). IsDump d.first d.bytes) dumps dump are.whole whole;
    apart = all_pairs_push (λ (d e : DumpValue). Overlap d e → ⊥) dumps dump are.apart
        (λ k d below overlap.
        apart (overlap.0, covered overlap.0 ∙ list_any_at (has_byte overlap.0) dumps k d below overlap.1, overlap.2));
  }

  covered_more : (all : List PlacedBytes)
      → ((address : ℕ) → is_covered all address ≡ (is_covered chunks address || is_among dump.first (length dump.bytes) address))
      → AreCovered all (dumps ++ dump ∷ [])
  covered_more all more address =
      more address ∙ ap (λ (b : Bool). b || has_byte address dump) (covered address)
      ∙ ap (λ (b : Bool). list_any (has_byte address) dumps || b) (sym (or-false (has_byte address dump)))
      ∙ sym (list_any-append (has_byte address) dumps (dump ∷ []))

  module _ (behind : List DumpValue) (are : AreDumps (dumps ++ dump ∷ behind)) where
    last_below : length dumps < length (dumps ++ dump ∷ behind)
    last_below = omega (arith, length-append dumps (dump ∷ behind))

    last_whole : IsDump dump.first dump.bytes
    last_whole =
        subst (λ (d : DumpValue). IsDump d.first d.bytes) (get_or-append_seam dumps dump behind dump) (are.whole (length dumps) dump last_below)

    last_apart : ShareAnAddress chunks dump.first (length dump.bytes) → ⊥
    last_apart share =
        let found = Any-from_list_any (has_byte share.0) dumps (sym (covered share.0) ∙ share.1) in
        are.apart found.0 (length dumps) found.1 found.2 last_below (
          share.0,
          ap (has_byte share.0) (get_or_append_left dumps (dump ∷ behind) found.1 found.0 found.2 ∙ found.3) ∙ found.4,
          ap (has_byte share.0) (get_or-append_seam dumps dump behind found.1) ∙ share.2,
        )

  -- one that is refused is none beside them, whatever stands behind it
  refused : (behind : List DumpValue) (fault : RomFault) → fault ≢ Memory → IsRefusedWith chunks dump.first dump.bytes fault
      → AreDumps (dumps ++ dump ∷ behind) → ⊥
  refused behind PastMemory no_memory past are = (last_whole behind are).1 past
  refused behind EmptyFile no_memory empty are = (last_whole behind are).0 empty
  refused behind DumpsOverlap no_memory overlap are = last_apart behind are overlap.1
  refused behind Memory no_memory memory are = no_memory refl

have_more : (roms : List RomFile) (rom : RomFile) (files : List FileValue) (file : FileValue) (chunks all : List PlacedBytes)
    → paths_of files ≡ rom_paths roms → HaveDumps roms files chunks → all ≡ chunks ++ chunks_of rom.first file.bytes
    → ((address : ℕ) → is_covered all address ≡ (is_covered chunks address || is_among rom.first (length file.bytes) address))
    → IsDump rom.first file.bytes → (ShareAnAddress chunks rom.first (length file.bytes) → ⊥) → HaveDumps (roms ++ rom ∷ []) (files ++ file ∷ []) all
have_more roms rom files file chunks all named have all_are covers whole apart =
    let dumps = dumps_of roms files in
    let dump = dump_at rom file in
    let own = chunks_of rom.first file.bytes in
    let more : dumps_of (roms ++ rom ∷ []) (files ++ file ∷ []) ≡ dumps ++ dump ∷ [] = dumps_behind roms (rom ∷ []) files (file ∷ []) named in
    record {
      are_dumps = subst AreDumps (sym more) (dumps_more dumps dump chunks have.covered have.are_dumps whole apart);
      chunks_are = all_are ∙ ap (λ (cs : List PlacedBytes). cs ++ own) have.chunks_are
          ∙ sym (ap chunks_from more ∙ flat_map-append (λ (d : DumpValue). chunks_of d.first d.bytes) dumps (dump ∷ [])
          ∙ ap (λ (cs : List PlacedBytes). chunks_from dumps ++ cs) (append-nil own));
      covered = λ address.
          subst (λ (ds : List DumpValue). is_covered all address ≡ list_any (has_byte address) ds) (sym more)
          (covered_more dumps dump chunks have.covered all covers address);
    }

no_dumps : (roms rest : List RomFile) (rom : RomFile) (files : List FileValue) (file : FileValue) (chunks : List PlacedBytes) (fault : RomFault)
    → paths_of files ≡ rom_paths roms → HaveDumps roms files chunks → IsRefusedWith chunks rom.first file.bytes fault → fault ≢ Memory
    → HaveNoDumps (roms ++ rom ∷ rest) (files ++ file ∷ [])
no_dumps roms rest rom files file chunks fault named have is no_memory others are =
    refused (dumps_of roms files) (dump_at rom file) chunks have.covered (dumps_of rest others) fault no_memory is
    (subst AreDumps
    (ap (dumps_of (roms ++ rom ∷ rest)) (append_assoc files (file ∷ []) others) ∙ dumps_behind roms (rom ∷ rest) files (file ∷ others) named) are)

module _ (roms : List RomFile) (i : ℕ) (d : RomFile) (bytes : List ℕ) {old between new : Journal} {chunks : List PlacedBytes} (below : i < length roms)
    (read : AreDumpsRead (take i roms) old between chunks) (one : new ≡ and_read between (get_or roms i d).path.now bytes) where
  -- one more was read, and is a dump beside them
  pub dumps_read : (all : List PlacedBytes) → all ≡ chunks ++ chunks_of (get_or roms i d).first bytes
      → ((address : ℕ) → is_covered all address ≡ (is_covered chunks address || is_among (get_or roms i d).first (length bytes) address))
      → IsDump (get_or roms i d).first bytes → (ShareAnAddress chunks (get_or roms i d).first (length bytes) → ⊥)
      → AreDumpsRead (take (i + 1) roms) old new all
  dumps_read all are covers whole apart =
      let rom = get_or roms i d in
      let file = file_value rom.path.now bytes in
      one_read rom_path roms i d old between new (HaveDumps (take i roms)) (HaveDumps (take (i + 1) roms)) bytes chunks all all below read one refl
      (λ files named have.
      subst (λ (rs : List RomFile). HaveDumps rs (files ++ file ∷ []) all) (sym (take_more roms i d below))
      (have_more (take i roms) rom files file chunks all named have are covers whole apart))

  -- one more was read, and is none
  pub refused_read : (fault : RomFault) → IsRefusedWith chunks (get_or roms i d).first bytes fault
      → AreRead (λ (files : List FileValue) (cs : List PlacedBytes). fault ≢ Memory → HaveNoDumps roms files) (rom_paths (take (i + 1) roms)) old new chunks
  refused_read fault is =
      let rom = get_or roms i d in
      let file = file_value rom.path.now bytes in
      let parts : take i roms ++ rom ∷ drop (i + 1) roms ≡ roms =
      sym (sym (take-append-drop (i + 1) roms) ∙ ap (λ (rs : List RomFile). rs ++ drop (i + 1) roms) (take_more roms i d below)
      ∙ append_assoc (take i roms) (rom ∷ []) (drop (i + 1) roms)) in
      one_read rom_path roms i d old between new (HaveDumps (take i roms))
      (λ (files : List FileValue) (cs : List PlacedBytes). fault ≢ Memory → HaveNoDumps roms files) bytes chunks chunks chunks below read one refl
      (λ files named have no_memory.
      subst (λ (rs : List RomFile). HaveNoDumps rs (files ++ file ∷ [])) parts
      (no_dumps (take i roms) (drop (i + 1) roms) rom files file chunks fault named have is no_memory))

-- ---- the texts that name dumps

abbrev AreNamed : List (Bor (List ℕ)) → List RomFile → Type 0
AreNamed = AllZip (λ (text : Bor (List ℕ)) (rom : RomFile). IsRomFile text.now rom)

-- the first equals sign stands behind the digits
sign_at : (digits path : List ℕ) → AllDigits 16 digits → position_or_len (λ byte. byte == 61) (digits ++ 61 ∷ path) ≡ length digits
sign_at digits path all =
    let text = digits ++ 61 ∷ path in
    position_or_len_is (λ byte. byte == 61) text (length digits) 0 (omega (arith, length-append digits (61 ∷ path)))
    (λ k below.
    ne_eqb (get_or text k 0) 61
    (subst (λ (n : ℕ). n ≢ 61) (sym (get_or_append_left digits (61 ∷ path) 0 k below)) (digits_without 61 (omega arith) digits all k below)))
    (λ below. eq-eqb (get_or text (length digits) 0) 61 (get_or-append_seam digits 61 path 0))

path_behind : (text : List ℕ) (rom : RomFile) → IsRomFile text rom → rom.path.now ≡ after_first (λ byte. byte == 61) text
path_behind text rom is =
    let path = rom.path.now in
    sym
    (ap (after_first (λ byte. byte == 61)) is.text_is
    ∙ ap (λ (n : ℕ). drop (n + 1) (is.digits ++ 61 ∷ path)) (sign_at is.digits path is.is_word.0.1)
    ∙ drop-append-add is.digits (61 ∷ path) 1)

address_before : (text : List ℕ) (rom : RomFile) → IsRomFile text rom → rom.first ≡ word_value (before_first (λ byte. byte == 61) text)
address_before text rom is =
    let path = rom.path.now in
    is.first_is
    ∙ ap word_value
    (sym
    (ap (before_first (λ byte. byte == 61)) is.text_is
    ∙ ap (λ (n : ℕ). take n (is.digits ++ 61 ∷ path)) (sign_at is.digits path is.is_word.0.1)
    ∙ take-append_seam is.digits (61 ∷ path)))

paths_behind : (texts : List (Bor (List ℕ))) (roms : List RomFile) → AreNamed texts roms
    → rom_paths roms ≡ map (λ (text : Bor (List ℕ)). after_first (λ byte. byte == 61) text.now) texts
paths_behind [] [] are = refl
paths_behind [] (rom ∷ roms) are = absurd are
paths_behind (text ∷ texts) [] are = absurd are
paths_behind (text ∷ texts) (rom ∷ roms) are = λ k. path_behind text.now rom are.0 k ∷ paths_behind texts roms are.1 k

pub paths_are : (asked : AbsoluteArguments) (roms : List RomFile) → AreRomsOf asked roms → rom_paths roms ≡ dump_paths asked
paths_are asked [] are = absurd are
paths_are asked (rom ∷ roms) are = λ k. are.0 k ∷ paths_behind asked.further.items roms are.2 k

further_same : (texts : List (Bor (List ℕ))) (roms others : List RomFile) (files : List FileValue) → AreNamed texts roms → AreNamed texts others
    → dumps_of roms files ≡ dumps_of others files
further_same [] [] [] files are are' = refl
further_same [] [] (other ∷ others) files are are' = absurd are'
further_same [] (rom ∷ roms) others files are are' = absurd are
further_same (text ∷ texts) [] others files are are' = absurd are
further_same (text ∷ texts) (rom ∷ roms) [] files are are' = absurd are'
further_same (text ∷ texts) (rom ∷ roms) (other ∷ others) [] are are' = refl
further_same (text ∷ texts) (rom ∷ roms) (other ∷ others) (file ∷ files) are are' = λ k.
    record { first = (address_before text.now rom are.0 ∙ sym (address_before text.now other are'.0)) k; bytes = file.bytes } ∷ further_same texts roms others files are.1 are'.1 k

-- the arguments write one list of dumps
pub dumps_same : (asked : AbsoluteArguments) (roms others : List RomFile) (files : List FileValue) → AreRomsOf asked roms → AreRomsOf asked others
    → dumps_of roms files ≡ dumps_of others files
dumps_same asked [] others files are are' = absurd are
dumps_same asked (rom ∷ roms) [] files are are' = absurd are'
dumps_same asked (rom ∷ roms) (other ∷ others) [] are are' = refl
dumps_same asked (rom ∷ roms) (other ∷ others) (file ∷ files) are are' = λ k.
    record { first = (are.1.1 ∙ sym are'.1.1) k; bytes = file.bytes } ∷ further_same asked.further.items roms others files are.2 are'.2 k
