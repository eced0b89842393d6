-- Records of a module, one after another.
use Rattle.std.proofs.Common.{◌≡◌, ◌≢◌, ◌⊎◌, inl, inr, ℕ, true, List, [], ◌∷◌, ◌++◌, refl, sym, ap, subst, ◌∙◌, append_assoc, IsTrue}
use Rattle.std.proofs.lemmas.Bool.{and_parts, and_from}
use Rattle.std.proofs.lemmas.List.{append-nil}
use Rattle.std.proofs.lemmas.Grind.{flat_map-append}
use Rattle.omf_body.specs.declared.body.Body.{Body}
use Rattle.omf_body.specs.declared.body.EndBody.{EndBody}
use Rattle.omf_body.specs.declared.body.HeaderBody.{HeaderBody}
use Rattle.omf_body.specs.declared.body.Body.TheVariants.{ModuleHeader, ModuleEnd}
use Rattle.omf_module.specs.declared.fault.Cause.{Cause}
use Rattle.omf_module.specs.declared.fault.Cause.TheVariants.{Memory}
use Rattle.omf_module.specs.declared.fault.ModuleFault.{ModuleFault}
use Rattle.omf_module.specs.declared.module_file.PlacedBody.{PlacedBody}
use Rattle.omf_model.specs.declared.symbols.Common.{Common}
use Rattle.omf_module.specs.Fault.{fault_of}
use Rattle.omf_module.specs.Records.{SpellsBody, SpellsBodies, commons_in, commons_of, may_follow, each_follows}
use Rattle.omf_module.specs.Uses.{fault_by}
use Rattle.omf_module.specs.Spelled.{FaultsRecords, FaultsModule, in_records}
use Rattle.omf_module.specs.Reading.{Follows, is_end, OrNoMemory}

abbrev placed : ℕ → Body → PlacedBody
placed at body = record { at = at; body = body }

pub spells_push : (bytes : List ℕ) (from to next : ℕ) (ps : List PlacedBody) (b : Body) → SpellsBodies bytes from to ps
    → SpellsBody bytes to next b → SpellsBodies bytes from next (ps ++ placed to b ∷ [])
spells_push bytes from to next [] b s one = (sym s, (next, subst (λ (f : ℕ). SpellsBody bytes f next b) (sym s) one, refl))
spells_push bytes from to next (p ∷ ps) b s one = (s.0, (s.1.0, s.1.1, spells_push bytes s.1.0 to next ps b s.1.2 one))

pub follows_push : (commons : List Common) (ps : List PlacedBody) (at : ℕ) (b : Body) → each_follows commons ps ≡ true
    → may_follow (commons ++ commons_of ps) b ≡ true → each_follows commons (ps ++ placed at b ∷ []) ≡ true
follows_push commons [] at b all one =
    and_from (may_follow commons b) true (subst (λ (c : List Common). may_follow c b ≡ true) (append-nil commons) one) refl
follows_push commons (p ∷ ps) at b all one =
    let parts = and_parts (may_follow commons p.body) (each_follows (commons ++ commons_in p.body) ps) all in
    and_from (may_follow commons p.body) (each_follows (commons ++ commons_in p.body) (ps ++ placed at b ∷ [])) parts.0
    (follows_push (commons ++ commons_in p.body) ps at b parts.1
    (subst (λ (c : List Common). may_follow c b ≡ true) (sym (append_assoc commons (commons_in p.body) (commons_of ps))) one))

pub commons_push : (ps : List PlacedBody) (at : ℕ) (b : Body)
    → commons_of (ps ++ placed at b ∷ []) ≡ commons_of ps ++ commons_in b
commons_push ps at b = flat_map-append (λ (p : PlacedBody). commons_in p.body) ps (placed at b ∷ [])
    ∙ ap (λ (c : List Common). commons_of ps ++ c) (append-nil (commons_in b))

-- what was read, and the place where the next record should stand
pub record WithinSoFar (bytes : List ℕ) (first here : ℕ) (bodies : List PlacedBody) (commons : List Common) : Type 0 where
  pub spelled : SpellsBodies bytes first here bodies
  pub follow : IsTrue (each_follows [] bodies)
  pub declared : commons ≡ commons_of bodies

not_ended : (before : List Common) (b : Body) → is_end b ≢ true → (IsTrue (is_end b) ⊎ IsTrue (may_follow before b))
    → may_follow before b ≡ true
not_ended before b other (inl e) = absurd (other e)
not_ended before b other (inr e) = e

pub one_within : (bytes : List ℕ) (first here next : ℕ) (bodies : List PlacedBody) (commons after : List Common) (b : Body)
    → WithinSoFar bytes first here bodies commons → Follows bytes here next commons after b → is_end b ≢ true
    → WithinSoFar bytes first next (bodies ++ placed here b ∷ []) after
one_within bytes first here next bodies commons after b s f other = record {
  spelled = spells_push bytes first here next bodies b s.spelled f.spelled;
  follow = follows_push [] bodies here b s.follow
      (subst (λ (c : List Common). may_follow c b ≡ true) s.declared (not_ended commons b other f.stands));
  declared = f.commons ∙ (ap (λ (c : List Common). c ++ commons_in b) s.declared ∙ sym (commons_push bodies here b));
}

-- a cause at its place, or out of memory
pub by_cause : (P : ModuleFault → Type 0) (here : ℕ) (why : Cause) → (why ≢ Memory → P (fault_by here why))
    → OrNoMemory P (fault_of here why)
by_cause P here Memory is = inl refl
by_cause P here _ is = inr (is (λ e. absurd cc))

pub other_than_end : (b : Body) → ((end : EndBody) → b ≡ ModuleEnd end → ⊥) → is_end b ≢ true
other_than_end (ModuleEnd b) other = absurd (other b refl)
other_than_end _ other = λ e. absurd cc

-- what goes wrong after a header goes wrong in its module
pub header_then : (bytes : List ℕ) (at first : ℕ) (header : HeaderBody) (fault : ModuleFault)
    → SpellsBody bytes at first (ModuleHeader header) → OrNoMemory (FaultsRecords bytes first) fault
    → OrNoMemory (FaultsModule bytes at) fault
header_then bytes at first header fault s (inl none) = inl none
header_then bytes at first header fault s (inr f) = inr (in_records first header fault s f)
