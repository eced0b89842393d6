-- A module without a byte in CODE lies nowhere.
use Rattle.std.specs.Prelude.{◌≡◌, ℕ, ◌<◌, ◌≤◌, List, [], length, IsTrue}
use Rattle.std.proofs.Common.{sym, ap, subst, arith}
use Rattle.std.proofs.lemmas.Bool.{true≢false}
use Rattle.omf_model.specs.Modules.{ModuleValue}
use Rattle.omf_model.specs.Rules.{is_sound}
use Rattle.rom80_find.specs.Dump.{DumpValue}
use Rattle.rom80_pattern.specs.declared.code_byte.CodeByte.{CodeByte}
use Rattle.rom80_pattern.specs.Modules.{code_bytes, code_length}
use Rattle.rom80_find.specs.Lies.{HasModule, AreModulePlaces}
use Rattle.rom80_find.specs.Laws.{PatternsLieAsModules}

module _ (law : PatternsLieAsModules) (dump : DumpValue) (m : ModuleValue) (sound : IsTrue (is_sound m)) (short : code_length m ≤ 65535)
    (code : List CodeByte) (is : code ≡ code_bytes m) where
  pub empty_nowhere : length code ≡ 0 → (address : ℕ) → address < 65536 → HasModule dump m address → ⊥
  empty_nowhere none address lt has =
      let some : 0 < length (code_bytes m) = ((law dump m address sound (omega (arith, short)) lt).1 has).0 in
      let same : length code ≡ length (code_bytes m) = ap (λ (l : List CodeByte). length l) is in
      omega arith

  pub empty_places : length code ≡ 0 → AreModulePlaces dump m []
  empty_places none = record {
    lies = λ address e. elim (true≢false (sym e)) [ ];
    all = λ address lt has. elim (empty_nowhere none address lt has) [ ];
    ascending = λ i j d ij lj. elim (lt_zero j lj) [ ];
  }
    where
      lt_zero : (j : ℕ) → j < 0 → ⊥
      lt_zero j lt = omega arith

  pub has_bytes : (length code ≡ 0 → ⊥) → 0 < length (code_bytes m)
  has_bytes some =
      let same : length code ≡ length (code_bytes m) = ap (λ (l : List CodeByte). length l) is in
      subst (λ (n : ℕ). 0 < n) same (more (length code) some)
    where
      more : (n : ℕ) → (n ≡ 0 → ⊥) → 0 < n
      more n ne = omega (arith, ne)
