-- Words that only one choice of bases leaves are those that only one choice of values does.
use Rattle.std.specs.Prelude.{◌≡◌, ℕ, ◌+◌, ◌%◌, ◌<◌, ◌≤◌, ◌==◌, ◌||◌, Bool, true, false, if◌then◌else◌, Some, List, [], ◌∷◌, length, IsTrue}
use Rattle.std.specs.List.{AllByRecursion, list_any}
use Rattle.std.proofs.Common.{refl, sym, ◌∙◌, ap, arith, inl, inr}
use Rattle.std.proofs.lemmas.Bool.{ne_eqb, eq-eqb, ltb-true, true≢false, cases_Bool, cases_lt}
use Rattle.omf_model.specs.declared.fixup.Target.{Target}
use Rattle.omf_model.specs.declared.fixup.Target.TheVariants as target
use Rattle.omf_model.specs.Modules.{ModuleValue}
use Rattle.omf_model.specs.Rules.{has_target}
use Rattle.omf_model.specs.Place.{Bases}
use Rattle.omf_model.specs.SoundModules.{RulesOf, CommonsByName, PartsOfOneStartAtZero}
use Rattle.rom80_find.specs.Dump.{DumpValue, dump_byte}
use Rattle.rom80_pattern.specs.declared.code_byte.CodeByte.{CodeByte}
use Rattle.rom80_pattern.specs.CodeBytes.{number_of, half_of, byte_by}
use Rattle.rom80_pattern.specs.Modules.{code_length, code_bytes}
use Rattle.rom80_find.specs.declared.words.Word.{Word}
use Rattle.rom80_find.specs.Places.{LiesWith, LiesAt, IsOnly, AreBelow}
use Rattle.rom80_find.specs.Words.{has_word, AreOnlyWords}
use Rattle.rom80_find.specs.Lies.{given_word, IsOnlyWord, IsFirst, AreModuleWords}
use Rattle.rom80_find.proofs.BaseLemmas.{values_of, value_segment, value_name, small_id, bases_by, values_agree}
use Rattle.rom80_find.proofs.ModuleLieLemmas.{by_bases, with_values, lies_as_module}

-- ---- a value without a byte in the code may be any word

module _ (value : ℕ → ℕ) (number word : ℕ) where
  abbrev changed : ℕ → ℕ
  changed n = if n == number then word else value n

  changed_at : changed number ≡ word
  changed_at = ap (λ (t : Bool). if t then word else value number) (eq-eqb number number refl)

  changed_other : (n : ℕ) → (n == number) ≡ false → changed n ≡ value n
  changed_other n other = ap (λ (t : Bool). if t then word else value n) other

  bytes_kept : (dump : DumpValue) (address : ℕ) (bs : List CodeByte) → list_any (λ b. number_of b.target == number) bs ≡ false
      → AllByRecursion (λ b. dump_byte dump ((address + b.offset) % 65536) ≡ Some (byte_by value b)) bs
      → AllByRecursion (λ b. dump_byte dump ((address + b.offset) % 65536) ≡ Some (byte_by changed b)) bs
  bytes_kept dump address [] none has = tt
  bytes_kept dump address (b ∷ bs) none has =
      let parts = or_none (number_of b.target == number) (list_any (λ b. number_of b.target == number) bs) none in
      (has.0 ∙ ap (λ (v : ℕ). Some (half_of b.half ((v + b.addend) % 65536))) (sym (changed_other (number_of b.target) parts.0)), bytes_kept dump address bs parts.1 has.1)
    where
      or_none : (a b : Bool) → (a || b) ≡ false → (a ≡ false) × (b ≡ false)
      or_none true b e = elim (true≢false e) [ ]
      or_none false b e = (refl, e)

  lies_changed : (dump : DumpValue) (code : List CodeByte) (address : ℕ) → 2 ≤ number → list_any (λ b. number_of b.target == number) code ≡ false
      → LiesWith dump code address value → LiesWith dump code address changed
  lies_changed dump code address two none lies = record {
    absolute = changed_other 0 (ne_eqb 0 number (λ e. omega (arith, two, e))) ∙ lies.absolute;
    here = changed_other 1 (ne_eqb 1 number (λ e. omega (arith, two, e))) ∙ lies.here;
    bytes = bytes_kept dump address code none lies.bytes;
  }

-- so a value with only one has a byte
pub has_a_byte : (dump : DumpValue) (code : List CodeByte) (address number word : ℕ) → 2 ≤ number → LiesAt dump code address
    → IsOnly dump code address number word → list_any (λ b. number_of b.target == number) code ≡ true
has_a_byte dump code address number word two lies only = elim (cases_Bool (list_any (λ b. number_of b.target == number) code)) [
  | inl e ↦ e
  | inr e ↦ elim (clash (changed lies.value number 0 number) (changed lies.value number 1 number) (changed_at lies.value number 0) (changed_at lies.value number 1)
      (only (changed lies.value number 0) (lies_changed lies.value number 0 dump code address two e lies.lies))
      (only (changed lies.value number 1) (lies_changed lies.value number 1 dump code address two e lies.lies))) [ ]
]
  where
    clash : (a b : ℕ) → a ≡ 0 → b ≡ 1 → a % 65536 ≡ word → b % 65536 ≡ word → ⊥
    clash a b ea eb one other = omega arith

-- and a number above those of all bytes has none
none_above : (count number : ℕ) → count ≤ number → (bs : List CodeByte) → AreBelow count bs → list_any (λ b. number_of b.target == number) bs ≡ false
none_above count number le [] below = refl
none_above count number le (b ∷ bs) below =
    ap (λ (t : Bool). t || list_any (λ b. number_of b.target == number) bs) (ne_eqb (number_of b.target) number (λ e. above below.0 e))
    ∙ none_above count number le bs below.1
  where
    above : number_of b.target < count → number_of b.target ≡ number → ⊥
    above lt e = omega (arith, le, lt, e)

-- ---- the words of a module

module _ (dump : DumpValue) (m : ModuleValue) (address count : ℕ) (words : List Word) (rules : RulesOf m) (by_name : CommonsByName) (at_zero : PartsOfOneStartAtZero)
    (short : code_length m < 65536) (some : 0 < length (code_bytes m)) (la : address < 65536) (below : AreBelow count (code_bytes m))
    (h : AreOnlyWords dump (code_bytes m) address count words) where
  -- the value of a target by bases is what they give it
  given_value : (bases : Bases) (t : Target) → IsTrue (has_target m.commons (length m.externals) t) → values_of m bases (number_of t) ≡ given_word bases m t
  given_value bases (target.Segment id) has = value_segment m bases id (small_id m rules id has)
  given_value bases (target.External index) has = value_name m bases index

  -- and what bases by values give a target is its value
  given_back : (value : ℕ → ℕ) → value 0 ≡ 0 → (t : Target) → IsTrue (has_target m.commons (length m.externals) t) → IsFirst m t
      → given_word (bases_by m value) m t % 65536 ≡ value (number_of t) % 65536
  given_back value z (target.Segment id) has is = (values_agree m value by_name at_zero rules z).places id 0 has ∙ none (value id)
    where
      none : (v : ℕ) → (v + 0) % 65536 ≡ v % 65536
      none v = omega arith
  given_back value z (target.External index) has is =
      (values_agree m value by_name at_zero rules z).names index (ltb-true index (length m.externals) has) ∙ ap (λ (n : ℕ). value (256 + n) % 65536) is

  listed_only : (t : Target) (word : ℕ) → IsTrue (has_target m.commons (length m.externals) t)
      → has_word words (number_of t) word ≡ true → IsOnlyWord dump m address t word
  listed_only t word has e bases lies =
      let near = h.within (number_of t) word e in
      let only = ((h.each (number_of t) word near.0 near.1).0 e).1 in
      ap (λ (n : ℕ). n % 65536) (sym (given_value bases t has))
      ∙ only (values_of m bases) (with_values dump m address rules by_name at_zero short la bases lies)

  only_value : (t : Target) (word : ℕ) → IsTrue (has_target m.commons (length m.externals) t) → IsFirst m t
      → IsOnlyWord dump m address t word → IsOnly dump (code_bytes m) address (number_of t) word
  only_value t word has is only value lies =
      sym (given_back value lies.absolute t has is)
      ∙ only (bases_by m value) (by_bases dump m address rules by_name at_zero short la value some lies)

  only_listed : (t : Target) (word : ℕ) → IsTrue (has_target m.commons (length m.externals) t) → 2 ≤ number_of t → IsFirst m t
      → IsOnlyWord dump m address t word → has_word words (number_of t) word ≡ true
  only_listed t word has two is only =
      let value-only = only_value t word has is only in
      elim (cases_lt (number_of t) count) [
        | inl lt ↦ (h.each (number_of t) word two lt).1 (small (h.lies.value (number_of t)) (value-only h.lies.value h.lies.lies), value-only)
        | inr free ↦ elim (true≢false (sym (has_a_byte dump (code_bytes m) address (number_of t) word two h.lies value-only)
            ∙ none_above count (number_of t) free (code_bytes m) below)) [ ]
      ]
    where
      small : (v : ℕ) → v % 65536 ≡ word → word < 65536
      small v e = omega arith

  pub module_words : AreModuleWords dump m address words
  module_words = record {
    lies = (lies_as_module dump m address rules by_name at_zero short la).0 (some, h.lies);
    only = listed_only;
    all = only_listed;
  }
