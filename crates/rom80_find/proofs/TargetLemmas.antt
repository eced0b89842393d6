-- A word that is listed is that of a target which the module has, and of externals of one name of the first.
use Rattle.std.specs.Prelude.{◌≡◌, ℕ, zero, suc, ◌+◌, ◌-◌, ◌<◌, ◌≤◌, ◌==◌, ◌&&◌, ◌||◌, filter, nat_eq, cond, Bool, true, false, Some, None, List, [], ◌∷◌, length, find, take, IsTrue}
use Rattle.std.specs.List.{AllByRecursion, list_any, last_or}
use Rattle.std.specs.Option.{option_map_or}
use Rattle.std.specs.Cmp.Lexicographic.{pointwise}
use Rattle.std.proofs.Common.{refl, sym, ◌∙◌, ap, subst, arith, inl, inr}
use Rattle.std.proofs.lemmas.Bool.{eqb-true, eq-eqb, ltb-true, lt-ltb, true≢false, or_cases, or_right, cases_Bool}
use Rattle.omf_body.specs.declared.field.Field.{Field}
use Rattle.omf_body.specs.declared.field.Field.TheVariants as field
use Rattle.omf_model.specs.declared.symbols.Public.{Public}
use Rattle.omf_model.specs.declared.fixup.Fixup.{Fixup}
use Rattle.omf_model.specs.declared.fixup.Target.{Target}
use Rattle.omf_model.specs.declared.fixup.Target.TheVariants as target
use Rattle.omf_model.specs.Contents.{ContentValue}
use Rattle.omf_model.specs.Segments.{has_segment}
use Rattle.omf_model.specs.Modules.{ModuleValue}
use Rattle.omf_model.specs.Rules.{has_target}
use Rattle.omf_model.specs.ImageByte.{name_at}
use Rattle.omf_model.specs.SoundModules.{RulesOf}
use Rattle.rom80_find.specs.Dump.{DumpValue}
use Rattle.rom80_pattern.specs.declared.code_byte.CodeByte.{CodeByte}
use Rattle.rom80_pattern.specs.declared.resolving.Resolved.{Resolved}
use Rattle.rom80_pattern.specs.CodeBytes.{number_of, has_small_id}
use Rattle.rom80_pattern.specs.Modules.{first_with, resolved, has_byte, plain_byte, field_byte, fixup_byte, byte_by_fixups, byte_in, covers_code, code_byte_at, code_length, code_bytes}
use Rattle.rom80_find.specs.declared.words.Word.{Word}
use Rattle.rom80_find.specs.Words.{has_word, AreOnlyWords, IsOfATarget}
use Rattle.rom80_find.specs.Lies.{IsFirst, MayBeListed}
use Rattle.rom80_find.proofs.BaseLemmas.{small_id}
use Rattle.rom80_find.proofs.ChunkLemmas.{mapped_from, last_map}
use Rattle.rom80_find.proofs.ModuleLieLemmas.{all_of_each, last_sound}
use Rattle.rom80_find.proofs.ExternalLemmas.{first_name}
use Rattle.rom80_find.proofs.OnlyWordLemmas.{has_a_byte}

-- ---- the first external of a name is the first of its own

abbrev first_of : List (List ℕ) → ℕ → ℕ
first_of ns index = first_with (take index ns) (name_at ns index)

first_within : (ns : List (List ℕ)) (index : ℕ) → index < length ns → first_of ns index ≤ index
first_within [] index lt = elim lt [ ]
first_within (n ∷ ns) zero lt = omega arith
first_within (n ∷ ns) (suc i) lt = go (pointwise nat_eq n (name_at ns i)) (first_within ns i (omega arith))
  where
    go : (t : Bool) → first_of ns i ≤ i → cond t 0 (suc (first_of ns i)) ≤ suc i
    go true le = omega arith
    go false le = omega (arith, le)

first_again : (ns : List (List ℕ)) (index : ℕ) → index < length ns → first_of ns (first_of ns index) ≡ first_of ns index
first_again [] index lt = elim lt [ ]
first_again (n ∷ ns) zero lt = refl
first_again (n ∷ ns) (suc i) lt = elim (cases_Bool (pointwise nat_eq n (name_at ns i))) [
  | inl e ↦ ap (λ (t : Bool). first_of (n ∷ ns) (cond t 0 (suc (first_of ns i)))) e ∙ sym (ap (λ (t : Bool). cond t 0 (suc (first_of ns i))) e)
  | inr e ↦ ap (λ (t : Bool). first_of (n ∷ ns) (cond t 0 (suc (first_of ns i)))) e
      ∙ ap (λ (t : Bool). cond t 0 (suc (first_of ns (first_of ns i)))) (ap (λ (name : List ℕ). pointwise nat_eq n name) (first_name ns i (omega arith)) ∙ e)
      ∙ ap (λ (k : ℕ). suc k) (first_again ns i (omega arith))
      ∙ sym (ap (λ (t : Bool). cond t 0 (suc (first_of ns i))) e)
]

-- ---- the targets of a module's code

-- a target that the module has, of externals of one name the first
record IsKnown (m : ModuleValue) (t : Target) : Type 0 where
  has : IsTrue (has_target m.commons (length m.externals) t)
  first : IsFirst m t

module _ (m : ModuleValue) (rules : RulesOf m) where
  declared : (name : List ℕ) (r : Resolved) → IsKnown m r.target → (ps : List Public) → AllByRecursion (λ (p : Public). has_segment m.commons p.segment ≡ true) ps
      → IsKnown m (option_map_or (λ p. record { target = target.Segment p.segment; addend = p.offset }) (find (λ p. pointwise nat_eq p.name name) ps) r).target
  declared name r known [] has = known
  declared name r known (p ∷ ps) has = go (declared name r known ps has.1) (pointwise nat_eq p.name name)
    where
      go : IsKnown m (option_map_or (λ (p : Public). record { target = target.Segment p.segment; addend = p.offset }) (find (λ p. pointwise nat_eq p.name name) ps) r).target
          → (t : Bool) → IsKnown m (option_map_or (λ (p : Public). record { target = target.Segment p.segment; addend = p.offset }) (cond t (Some p) (find (λ p. pointwise nat_eq p.name name) ps)) r).target
      go rest true = record { has = has.0; first = tt }
      go rest false = rest

  resolved_known : (t : Target) → IsTrue (has_target m.commons (length m.externals) t) → IsKnown m (resolved m t).target
  resolved_known (target.Segment id) has = record { has = has; first = tt }
  resolved_known (target.External index) has =
      let lt : index < length m.externals = ltb-true index (length m.externals) has in
      let within = first_within m.externals index lt in
      declared (name_at m.externals index) (record { target = target.External (first_of m.externals index); addend = 0 })
      (record { has = lt-ltb (first_of m.externals index) (length m.externals) (omega (arith, lt, within)); first = first_again m.externals index lt })
      m.publics rules.publics

  field_known : (f : Field) (r : Resolved) (c : ContentValue) (at i : ℕ) → IsKnown m r.target → IsKnown m (field_byte f r c at i).target
  field_known field.Low r c at i known = known
  field_known field.High r c at i known = known
  field_known field.Both r c at i known = known

  byte_known : (c : ContentValue) (i : ℕ) (fs : List Fixup) → AllByRecursion (λ f. IsTrue (has_target m.commons (length m.externals) f.target)) fs
      → IsKnown m (byte_by_fixups m c i fs).target
  byte_known c i [] has = record { has = refl; first = tt }
  byte_known c i (f ∷ fs) has = go (byte_known c i fs has.1) (has_byte c i f)
    where
      go : IsKnown m (byte_by_fixups m c i fs).target → (t : Bool)
          → IsKnown m (option_map_or (fixup_byte m c i) (cond t (Some f) (find (has_byte c i) fs)) (plain_byte c i)).target
      go rest true = field_known f.field (resolved m f.target) c (f.offset - c.offset) i (resolved_known f.target has.0)
      go rest false = rest

  bytes_known : AllByRecursion (λ b. IsKnown m b.target) (code_bytes m)
  bytes_known = all_of_each (λ (b : CodeByte). IsKnown m b.target) (code_byte_at m) 0 (code_length m) each
    where
      each : (o : ℕ) → o < 0 + code_length m → (b : CodeByte) → code_byte_at m o ≡ Some b → IsKnown m b.target
      each o lt b e =
          let at = mapped_from (byte_in m o) (last_or None (filter (covers_code o) m.contents)) b (sym (last_map (byte_in m o) None (filter (covers_code o) m.contents)) ∙ e) in
          let sound = last_sound m rules o at.0 at.1 in
          subst (λ (b : CodeByte). IsKnown m b.target) at.2 (byte_known at.0 (o - at.0.offset) at.0.fixups sound.1.1.targets)

-- ---- so each word is that of a target which may be listed

same_target : (t u : Target) → has_small_id t ≡ true → has_small_id u ≡ true → number_of t ≡ number_of u → t ≡ u
same_target (target.Segment a) (target.Segment b) st su e = ap (λ (id : ℕ). target.Segment id) e
same_target (target.Segment a) (target.External j) st su e = elim (past (ltb-true a 256 st)) [ ]
  where
    past : a < 256 → ⊥
    past lt = omega (arith, lt, e)
same_target (target.External i) (target.Segment b) st su e = elim (past (ltb-true b 256 su)) [ ]
  where
    past : b < 256 → ⊥
    past lt = omega (arith, lt, e)
same_target (target.External i) (target.External j) st su e = ap (λ (index : ℕ). target.External index) (less i j e)
  where
    less : (i j : ℕ) → 256 + i ≡ 256 + j → i ≡ j
    less i j e = omega arith

module _ (dump : DumpValue) (m : ModuleValue) (address count : ℕ) (rules : RulesOf m) where
  small : (t : Target) → IsKnown m t → has_small_id t ≡ true
  small (target.Segment id) known = lt-ltb id 256 (small_id m rules id known.has)
  small (target.External index) known = refl

  among : (t : Target) → has_small_id t ≡ true → (bs : List CodeByte) → AllByRecursion (λ b. IsKnown m b.target) bs
      → list_any (λ b. number_of b.target == number_of t) bs ≡ true → IsKnown m t
  among t st [] known has = elim (true≢false (sym has)) [ ]
  among t st (b ∷ bs) known has = elim (or_cases (number_of b.target == number_of t) (list_any (λ b. number_of b.target == number_of t) bs) has) [
    | inl e ↦ subst (λ (u : Target). IsKnown m u) (same_target b.target t (small b.target known.0) st (eqb-true (number_of b.target) (number_of t) e)) known.0
    | inr e ↦ among t st bs known.1 e
  ]

  word_listed : (words : List Word) → AreOnlyWords dump (code_bytes m) address count words → (w : Word)
      → has_word words (number_of w.target) w.word ≡ true → IsOfATarget w → MayBeListed m w.target
  word_listed words are w has small-id =
      let near = are.within (number_of w.target) w.word has in
      let only = ((are.each (number_of w.target) w.word near.0 near.1).0 has).1 in
      let known = among w.target small-id (code_bytes m) (bytes_known m rules) (has_a_byte dump (code_bytes m) address (number_of w.target) w.word near.0 are.lies only) in
      record { has = known.has; not_fixed = near.0; first = known.first }

  pub words_listed : (words : List Word) → AreOnlyWords dump (code_bytes m) address count words → AllByRecursion IsOfATarget words
      → AllByRecursion (λ w. MayBeListed m w.target) words
  words_listed words are targets = each words targets (λ w has. has)
    where
      here : (w : Word) (ws : List Word) → has_word (w ∷ ws) (number_of w.target) w.word ≡ true
      here w ws = ap (λ (t : Bool). (t && (w.word == w.word)) || has_word ws (number_of w.target) w.word) (eq-eqb (number_of w.target) (number_of w.target) refl)
          ∙ ap (λ (t : Bool). t || has_word ws (number_of w.target) w.word) (eq-eqb w.word w.word refl)

      each : (ws : List Word) → AllByRecursion IsOfATarget ws
          → ((w : Word) → has_word ws (number_of w.target) w.word ≡ true → has_word words (number_of w.target) w.word ≡ true)
          → AllByRecursion (λ w. MayBeListed m w.target) ws
      each [] small-ids inside = tt
      each (w ∷ ws) small-ids inside = (
        word_listed words are w (inside w (here w ws)) small-ids.0,
        each ws small-ids.1 (λ v has. inside v (or_right (number_of w.target == number_of v.target && w.word == v.word) (has_word ws (number_of v.target) v.word) has)),
      )
