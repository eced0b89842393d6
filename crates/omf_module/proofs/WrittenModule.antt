-- What is written of modules spells them, and so does a file.
use Rattle.std.proofs.Common.{◌≡◌, ℕ, List, [], ◌∷◌, ◌++◌, length, refl, sym, ap, ◌∙◌, subst, arith, append_assoc}
use Rattle.std.specs.List.{flat_map, AllByRecursion}
use Rattle.std.proofs.lemmas.List.{append-nil, length-append}
use Rattle.std.proofs.lemmas.Grind.{flat_map-append}
use Rattle.omf_core.specs.Record.{SpellsRecord}
use Rattle.omf_core.specs.Laws.{WrittenIsSpelled}
use Rattle.omf_body.specs.declared.body.Body.TheVariants.{ModuleHeader, ModuleEnd, EndOfFile}
use Rattle.omf_body.specs.Bodies.{record_bytes}
use Rattle.omf_model.specs.declared.segment.Segment.{Segment}
use Rattle.omf_model.specs.Modules.{ModuleValue, made_of}
use Rattle.omf_model.specs.Rules.{IsModule}
use Rattle.omf_module.specs.Records.{SpellsBody, SpellsBodies}
use Rattle.omf_module.specs.Spelled.{SpellsModule, SpellsModules}
use Rattle.omf_module.specs.Writing.{header_body, end_body, bodies_within, module_bytes, file_bytes}
use Rattle.omf_module.specs.WritingLaws.{IsReadAgain, WrittenModuleIsSpelled, WrittenFileIsSpelled}
use Rattle.omf_module.proofs.WrittenSpelled.{placed_after, one_spelled, bodies_spelled}
use Rattle.omf_module.proofs.WrittenSound.{header_fits, end_fits}
use Rattle.omf_module.proofs.WrittenSays.{name_of, records_after, within_passes, says_module, uses_none}

three_joined : (before header within end : List ℕ)
    → before ++ header ++ within ++ end ≡ before ++ (header ++ (within ++ (end ++ [])))
three_joined before header within end = simp (append_assoc, append-nil)

module_is : (m : ModuleValue) (before : List ℕ)
    → before ++ record_bytes (ModuleHeader (header_body m)) ++ flat_map record_bytes (bodies_within m)
    ++ record_bytes (ModuleEnd (end_body m.start)) ≡ before ++ module_bytes m
unfolding module_bytes
module_is m before =
    three_joined before (record_bytes (ModuleHeader (header_body m))) (flat_map record_bytes (bodies_within m))
    (record_bytes (ModuleEnd (end_body m.start)))
    ∙ ap (λ (bytes : List ℕ). before ++ (record_bytes (ModuleHeader (header_body m)) ++ bytes))
    (sym (flat_map-append record_bytes (bodies_within m) (ModuleEnd (end_body m.start) ∷ [])))

-- the bytes of the three, seen from each
from_within : (before header within end after : List ℕ)
    → before ++ header ++ within ++ (end ++ after) ≡ before ++ header ++ within ++ end ++ after
from_within before header within end after = sym (append_assoc (before ++ header ++ within) end after)

from_header : (before header within end after : List ℕ)
    → before ++ header ++ (within ++ (end ++ after)) ≡ before ++ header ++ within ++ end ++ after
from_header before header within end after = sym (append_assoc (before ++ header) within (end ++ after))
    ∙ from_within before header within end after

same_form : (m : ModuleValue) → IsModule m → m ≡ made_of m
same_form m is = ap (λ (segments : List (ℕ × Segment)). record m { segments = segments }) is.canonical

spelled_in : WrittenIsSpelled → (m : ModuleValue) → IsModule m → (before after header within end : List ℕ)
    → header ≡ record_bytes (ModuleHeader (header_body m)) → within ≡ flat_map record_bytes (bodies_within m)
    → end ≡ record_bytes (ModuleEnd (end_body m.start))
    → SpellsModule (before ++ header ++ within ++ end ++ after) (length before) (length (before ++ header ++ within ++ end)) m
spelled_in law m is before after header within end eh ew ee =
    let bytes = before ++ header ++ within ++ end ++ after in
    let front = before ++ header in
    let h : SpellsBody (before ++ header ++ (within ++ (end ++ after))) (length before) (length front)
    (ModuleHeader (header_body m)) =
    subst (λ (bs : List ℕ). SpellsBody (before ++ bs ++ (within ++ (end ++ after))) (length before) (length (before ++ bs))
    (ModuleHeader (header_body m))) (sym eh)
    (one_spelled law before (within ++ (end ++ after)) (ModuleHeader (header_body m))
    (header_fits m is.canonical (name_of m is.names))) in
    let w : SpellsBodies (front ++ within ++ (end ++ after)) (length front) (length (front ++ within))
    (placed_after front (bodies_within m)) =
    subst (λ (bs : List ℕ). SpellsBodies (front ++ bs ++ (end ++ after)) (length front) (length (front ++ bs))
    (placed_after front (bodies_within m))) (sym ew)
    (bodies_spelled law front (end ++ after) (bodies_within m) (within_passes m is).fit) in
    let e : SpellsBody (front ++ within ++ end ++ after) (length (front ++ within)) (length (front ++ within ++ end))
    (ModuleEnd (end_body m.start)) =
    subst (λ (bs : List ℕ). SpellsBody (front ++ within ++ bs ++ after) (length (front ++ within))
    (length (front ++ within ++ bs)) (ModuleEnd (end_body m.start))) (sym ee)
    (one_spelled law (front ++ within) after (ModuleEnd (end_body m.start)) (end_fits m.start)) in
    record {
      records = records_after m front (length before) (length (front ++ within));
      begins = refl;
      spelled = record {
        first = length front;
        header = subst (λ (bs : List ℕ). SpellsBody bs (length before) (length front) (ModuleHeader (header_body m)))
            (from_header before header within end after) h;
        within = subst (λ (bs : List ℕ). SpellsBodies bs (length front) (length (front ++ within))
            (placed_after front (bodies_within m))) (from_within before header within end after) w;
        follow = (within_passes m is).follow front;
        end = e;
      };
      used = uses_none m front (length before) (length (front ++ within)) is;
      says = same_form m is ∙ sym (ap made_of (says_module m front (length before) (length (front ++ within)) is));
    }

pub module_spelled : WrittenIsSpelled → WrittenModuleIsSpelled
module_spelled law m is before after =
    subst (λ (to : ℕ). SpellsModule (before ++ module_bytes m ++ after) (length before) to m)
    (length-append before (module_bytes m))
    (subst (λ (bytes : List ℕ). SpellsModule (bytes ++ after) (length before) (length bytes) m) (module_is m before)
    (spelled_in law m is before after (record_bytes (ModuleHeader (header_body m))) (flat_map record_bytes (bodies_within m))
    (record_bytes (ModuleEnd (end_body m.start))) refl refl refl))

-- ---- files

pub modules_spelled : (before after : List ℕ) (ms : List ModuleValue) → AllByRecursion IsReadAgain ms
    → SpellsModules (before ++ flat_map module_bytes ms ++ after) (length before) (length (before ++ flat_map module_bytes ms)) ms
modules_spelled before after [] all = ap length (sym (append-nil before))
modules_spelled before after (m ∷ ms) all =
    let rest = flat_map module_bytes ms in
    let front : before ++ module_bytes m ++ rest ≡ before ++ (module_bytes m ++ rest) =
    append_assoc before (module_bytes m) rest in
    let whole : before ++ module_bytes m ++ (rest ++ after) ≡ before ++ (module_bytes m ++ rest) ++ after =
    sym (append_assoc (before ++ module_bytes m) rest after) ∙ ap (λ (bytes : List ℕ). bytes ++ after) front in
    let one : SpellsModule (before ++ module_bytes m ++ (rest ++ after)) (length before) (length (before ++ module_bytes m)) m =
    subst (λ (to : ℕ). SpellsModule (before ++ module_bytes m ++ (rest ++ after)) (length before) to m)
    (sym (length-append before (module_bytes m))) (all.0 before (rest ++ after)) in (
      length (before ++ module_bytes m),
      subst (λ (bytes : List ℕ). SpellsModule bytes (length before) (length (before ++ module_bytes m)) m) whole one,
      subst (λ (bytes : List ℕ). SpellsModules (bytes ++ after) (length (before ++ module_bytes m)) (length bytes) ms) front
          (modules_spelled (before ++ module_bytes m) after ms all.1),
    )

read_again : WrittenModuleIsSpelled → (ms : List ModuleValue) → AllByRecursion IsModule ms → AllByRecursion IsReadAgain ms
read_again law [] all = tt
read_again law (m ∷ ms) all = (law m all.0, read_again law ms all.1)

pub file_spelled : WrittenIsSpelled → WrittenFileIsSpelled
unfolding file_bytes
file_spelled law ms some all =
    let bytes = flat_map module_bytes ms in
    let end = one_spelled law bytes [] (EndOfFile []) record { sound = refl; short = omega arith } in
    record {
      some = some;
      end = length bytes;
      spelled = modules_spelled [] (record_bytes (EndOfFile [])) ms (read_again (module_spelled law) ms all);
      ends = record {
        next = length (bytes ++ record_bytes (EndOfFile []));
        body = [];
        spelled = subst (λ (bs : List ℕ). SpellsRecord bs (length bytes) (length (bytes ++ record_bytes (EndOfFile []))) 0x0E [])
            (append-nil (bytes ++ record_bytes (EndOfFile []))) end.framed;
      };
    }
