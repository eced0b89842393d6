-- The records of a module are read in one way.
use Rattle.std.proofs.Common.{◌≡◌, ◌⊎◌, inl, inr, ℕ, Option, Some, None, List, [], ◌∷◌, ◌++◌, refl, sym, ap, subst, ◌∙◌, append_assoc, IsTrue}
use Rattle.std.proofs.lemmas.Bool.{and_parts}
use Rattle.std.proofs.lemmas.List.{append-nil}
use Rattle.omf_body.specs.declared.body.HeaderBody.{HeaderBody}
use Rattle.omf_body.specs.declared.body.EndBody.{EndBody}
use Rattle.omf_body.specs.declared.body.Body.{Body}
use Rattle.omf_body.specs.declared.body.Body.TheVariants.{ModuleHeader, ModuleEnd}
use Rattle.omf_module.specs.declared.fault.Cause.{Cause}
use Rattle.omf_module.specs.declared.fault.ModuleFault.{ModuleFault}
use Rattle.omf_module.specs.declared.module_file.PlacedBody.{PlacedBody}
use Rattle.omf_model.specs.declared.symbols.Common.{Common}
use Rattle.omf_model.specs.Modules.{made_of}
use Rattle.omf_module.specs.Records.{SpellsBody, SpellsBodies, commons_in, commons_of, may_follow, each_follows, ModuleRecords, SpellsModuleRecords}
use Rattle.omf_module.specs.Gathered.{parts_of}
use Rattle.omf_module.specs.Uses.{fault_by, use_fault}
use Rattle.omf_module.specs.Spelled.{FaultsWithin, FaultsRecords, in_header, in_records, in_uses}
use Rattle.omf_module.specs.ReadingLaws.{OneModule, OneFault, NeverBoth}
use Rattle.omf_module.proofs.OneReading.{Below, same_body, header_sound, one_header_fault, one_within, within_sound, some_none, some_same, left_same, left_right}

-- ---- records

-- how the records of a module end: with its end, or with a fault
data Tail (bytes : List ℕ) (commons : List Common) (at : ℕ) : ModuleFault ⊎ (ℕ × EndBody × ℕ) → Type 0 where
  ended : (end : EndBody) (after : ℕ) → SpellsBody bytes at after (ModuleEnd end) → Tail bytes commons at (inr (at, end, after))
  stopped : (why : Cause) → FaultsWithin bytes at commons why → Tail bytes commons at (inl (fault_by at why))

-- records from a place on, each of which may follow, and what they end with
abbrev Run : List ℕ → List Common → ℕ → List PlacedBody → ModuleFault ⊎ (ℕ × EndBody × ℕ) → Type 0
Run bytes commons at [] out = Tail bytes commons at out
Run bytes commons at (p ∷ ps) out = (p.at ≡ at)
    × ((next : ℕ) × SpellsBody bytes at next p.body × IsTrue (may_follow commons p.body)
    × Run bytes (commons ++ commons_in p.body) next ps out)

to_run : (bytes : List ℕ) (commons : List Common) (from to : ℕ) (ps : List PlacedBody) (out : ModuleFault ⊎ (ℕ × EndBody × ℕ))
    → SpellsBodies bytes from to ps → IsTrue (each_follows commons ps) → Tail bytes (commons ++ commons_of ps) to out
    → Run bytes commons from ps out
to_run bytes commons from to [] out s f t =
    subst (λ (c : List Common). Tail bytes c from out) (append-nil commons)
    (subst (λ (a : ℕ). Tail bytes (commons ++ []) a out) (sym s) t)
to_run bytes commons from to (p ∷ ps) out s f t =
    let parts = and_parts (may_follow commons p.body) (each_follows (commons ++ commons_in p.body) ps) f in
    let tail = subst (λ (c : List Common). Tail bytes c to out)
    (sym (append_assoc commons (commons_in p.body) (commons_of ps))) t in
    (s.0, (s.1.0, s.1.1, parts.0, to_run bytes (commons ++ commons_in p.body) s.1.0 to ps out s.1.2 parts.1 tail))

end_same : (x y : EndBody) → ModuleEnd x ≡ ModuleEnd y → x ≡ y
end_same x y e = cc

header_same : (x y : HeaderBody) → ModuleHeader x ≡ ModuleHeader y → x ≡ y
header_same x y e = cc

end_follows : (commons : List Common) (x : EndBody) (b : Body) → ModuleEnd x ≡ b → IsTrue (may_follow commons b) → ⊥
end_follows commons x b e f = bad (subst (λ (y : Body). IsTrue (may_follow commons y)) (sym e) f)
  where
    bad : IsTrue (may_follow commons (ModuleEnd x)) → ⊥
    bad f = absurd cc

one_tail : Below → (bytes : List ℕ) (commons : List Common) (at : ℕ) (o p : ModuleFault ⊎ (ℕ × EndBody × ℕ))
    → Tail bytes commons at o → Tail bytes commons at p → o ≡ p
one_tail b bytes commons at o p (ended x after s) (ended y after' t) =
    let same = same_body b bytes at after after' (ModuleEnd x) (ModuleEnd y) s t in
    ap (λ (e : EndBody). inr (at, e, after)) (end_same x y same.0) ∙ ap (λ (a : ℕ). inr (at, y, a)) same.1
one_tail b bytes commons at o p (ended x after s) (stopped why f) =
    absurd (within_sound b bytes at after commons (ModuleEnd x) why s (inl refl) f)
one_tail b bytes commons at o p (stopped why f) (ended y after s) =
    absurd (within_sound b bytes at after commons (ModuleEnd y) why s (inl refl) f)
one_tail b bytes commons at o p (stopped why f) (stopped why' g) =
    ap (λ (w : Cause). inl (fault_by at w)) (one_within b bytes at commons why why' f g)

tail_follows : Below → (bytes : List ℕ) (commons : List Common) (at next : ℕ) (x : Body) (o : ModuleFault ⊎ (ℕ × EndBody × ℕ))
    → Tail bytes commons at o → SpellsBody bytes at next x → IsTrue (may_follow commons x) → ⊥
tail_follows b bytes commons at next x o (ended y after s) t f =
    end_follows commons y x (same_body b bytes at after next (ModuleEnd y) x s t).0 f
tail_follows b bytes commons at next x o (stopped why g) t f = within_sound b bytes at next commons x why t (inr f) g

pub record SameRun (ps qs : List PlacedBody) (o p : ModuleFault ⊎ (ℕ × EndBody × ℕ)) : Type 0 where
  pub records : ps ≡ qs
  pub out : o ≡ p

abbrev placed : ℕ → Body → PlacedBody
placed at body = record { at = at; body = body }

one_run : Below → (bytes : List ℕ) (commons : List Common) (at : ℕ) (ps qs : List PlacedBody) (o p : ModuleFault
    ⊎ (ℕ × EndBody × ℕ)) → Run bytes commons at ps o → Run bytes commons at qs p → SameRun ps qs o p
one_run b bytes commons at [] [] o p r s = record { records = refl; out = one_tail b bytes commons at o p r s }
one_run b bytes commons at [] (y ∷ ys) o p r s = absurd (tail_follows b bytes commons at s.1.0 y.body o r s.1.1 s.1.2)
one_run b bytes commons at (x ∷ xs) [] o p r s = absurd (tail_follows b bytes commons at r.1.0 x.body p s r.1.1 r.1.2)
one_run b bytes commons at (x ∷ xs) (y ∷ ys) o p r s =
    let same = same_body b bytes at r.1.0 s.1.0 x.body y.body r.1.1 s.1.1 in
    let rest = one_run b bytes (commons ++ commons_in y.body) s.1.0 xs ys o p
    (subst (λ (n : ℕ). Run bytes (commons ++ commons_in y.body) n xs o) same.1
    (subst (λ (z : Body). Run bytes (commons ++ commons_in z) r.1.0 xs o) same.0 r.1.3)) s.1.3 in
    record {
      records = ap (λ (n : ℕ). placed n x.body ∷ xs) (r.0 ∙ sym s.0)
          ∙ (ap (λ (z : Body). placed y.at z ∷ xs) same.0 ∙ ap (λ (zs : List PlacedBody). y ∷ zs) rest.records);
      out = rest.out;
    }

-- ---- modules

module_run : (bytes : List ℕ) (after : ℕ) (r : ModuleRecords) (s : SpellsModuleRecords bytes after r)
    → Run bytes [] s.first r.within (inr (r.end_at, r.end, after))
module_run bytes after r s =
    to_run bytes [] s.first r.end_at r.within (inr (r.end_at, r.end, after)) s.within s.follow (ended r.end after s.end)

fault_run : (bytes : List ℕ) (first : ℕ) (f : ModuleFault) (s : FaultsRecords bytes first f) → Run bytes [] first s.before (inl f)
fault_run bytes first f s = to_run bytes [] first s.here s.before (inl f) s.spelled s.follow
    (subst (λ (g : ModuleFault). Tail bytes (commons_of s.before) s.here (inl g)) (sym s.is) (stopped s.why s.faults))

abbrev Out : Type 0
Out = ModuleFault ⊎ (ℕ × EndBody × ℕ)

right_same : (o : Out) (x y : ℕ × EndBody × ℕ) → o ≡ inr x → o ≡ inr y → x ≡ y
right_same o x y e f = cc

record SameRecords (after after' : ℕ) (r s : ModuleRecords) : Type 0 where
  records : r ≡ s
  ends : after ≡ after'

same_records : Below → (bytes : List ℕ) (after after' : ℕ) (r s : ModuleRecords) → r.at ≡ s.at → SpellsModuleRecords bytes after r
    → SpellsModuleRecords bytes after' s → SameRecords after after' r s
same_records b bytes after after' r s at x y =
    let head = same_body b bytes s.at x.first y.first (ModuleHeader r.header) (ModuleHeader s.header)
    (subst (λ (a : ℕ). SpellsBody bytes a x.first (ModuleHeader r.header)) at x.header) y.header in
    let run = one_run b bytes [] y.first r.within s.within (inr (r.end_at, r.end, after)) (inr (s.end_at, s.end, after'))
    (subst (λ (f : ℕ). Run bytes [] f r.within (inr (r.end_at, r.end, after))) head.1 (module_run bytes after r x))
    (module_run bytes after' s y) in
    let ends = right_same (inr (r.end_at, r.end, after)) (r.end_at, r.end, after) (s.end_at, s.end, after') refl run.out in
    record {
      records =
          ap (λ (a : ℕ). by_parts a r.header r.within r.end_at r.end) at
          ∙ (ap (λ (h : HeaderBody). by_parts s.at h r.within r.end_at r.end) (header_same r.header s.header head.0)
          ∙ (ap (λ (w : List PlacedBody). by_parts s.at s.header w r.end_at r.end) run.records
          ∙ ap (λ (e : ℕ × EndBody × ℕ). by_parts s.at s.header s.within e.0 e.1) ends));
      ends = ap (λ (e : ℕ × EndBody × ℕ). e.2) ends;
    }
  where
    by_parts : ℕ → HeaderBody → List PlacedBody → ℕ → EndBody → ModuleRecords
    by_parts a h w e b = record { at = a; header = h; within = w; end_at = e; end = b }

pub one_module : Below → OneModule
one_module b bytes at after after' m m' s t =
    let same = same_records b bytes after after' s.records t.records (s.begins ∙ sym t.begins) s.spelled t.spelled in
    (s.says ∙ (ap (λ (r : ModuleRecords). made_of (parts_of r)) same.records ∙ sym t.says), same.ends)

-- records can't end with an end and with a fault
ends_once : Below → (bytes : List ℕ) (after first : ℕ) (r : ModuleRecords) (h : HeaderBody) (f : ModuleFault)
    → SpellsModuleRecords bytes after r → SpellsBody bytes r.at first (ModuleHeader h) → FaultsRecords bytes first f → ⊥
ends_once b bytes after first r h f x head y =
    let same = same_body b bytes r.at x.first first (ModuleHeader r.header) (ModuleHeader h) x.header head in
    let run = one_run b bytes [] first r.within y.before (inr (r.end_at, r.end, after)) (inl f)
    (subst (λ (n : ℕ). Run bytes [] n r.within (inr (r.end_at, r.end, after))) same.1 (module_run bytes after r x))
    (fault_run bytes first f y) in
    left_right (inl f) f (r.end_at, r.end, after) refl (sym run.out)

faults_once : Below → (bytes : List ℕ) (at first first' : ℕ) (h h' : HeaderBody) (f g : ModuleFault)
    → SpellsBody bytes at first (ModuleHeader h) → FaultsRecords bytes first f → SpellsBody bytes at first' (ModuleHeader h')
    → FaultsRecords bytes first' g → f ≡ g
faults_once b bytes at first first' h h' f g hx x hy y =
    let same = same_body b bytes at first first' (ModuleHeader h) (ModuleHeader h') hx hy in
    let run = one_run b bytes [] first' x.before y.before (inl f) (inl g)
    (subst (λ (n : ℕ). Run bytes [] n x.before (inl f)) same.1 (fault_run bytes first f x)) (fault_run bytes first' g y) in
    left_same (inl f) f g refl run.out

pub header_at : (bytes : List ℕ) (at : ℕ) (after : ℕ) (r : ModuleRecords) (s : SpellsModuleRecords bytes after r) → r.at ≡ at
    → SpellsBody bytes at s.first (ModuleHeader r.header)
header_at bytes at after r s e = subst (λ (a : ℕ). SpellsBody bytes a s.first (ModuleHeader r.header)) e s.header

uses_same : Below → (bytes : List ℕ) (at after after' : ℕ) (r s : ModuleRecords) (o p : Option ModuleFault) → r.at ≡ at
    → s.at ≡ at → SpellsModuleRecords bytes after r → SpellsModuleRecords bytes after' s
    → use_fault r ≡ o → use_fault s ≡ p → o ≡ p
uses_same b bytes at after after' r s o p x y rs ss e f =
    sym e ∙ (ap use_fault (same_records b bytes after after' r s (x ∙ sym y) rs ss).records ∙ f)

pub one_fault : Below → OneFault
one_fault b bytes at f g (in_header w x) (in_header v y) = ap (fault_by at) (one_header_fault b bytes at w v x y)
one_fault b bytes at f g (in_header w x) (in_records first h _ s y) = absurd (header_sound b bytes at first h w s x)
one_fault b bytes at f g (in_header w x) (in_uses after r _ e s u) =
    absurd (header_sound b bytes at s.first r.header w (header_at bytes at after r s e) x)
one_fault b bytes at f g (in_records first h _ s y) (in_header w x) = absurd (header_sound b bytes at first h w s x)
one_fault b bytes at f g (in_records first h _ s x) (in_records first' h' _ t y) =
    faults_once b bytes at first first' h h' f g s x t y
one_fault b bytes at f g (in_records first h _ s y) (in_uses after r _ e t u) =
    absurd (ends_once b bytes after first r h f t (subst (λ (a : ℕ). SpellsBody bytes a first (ModuleHeader h)) (sym e) s) y)
one_fault b bytes at f g (in_uses after r _ e s u) (in_header w x) =
    absurd (header_sound b bytes at s.first r.header w (header_at bytes at after r s e) x)
one_fault b bytes at f g (in_uses after r _ e t u) (in_records first h _ s y) =
    absurd (ends_once b bytes after first r h g t (subst (λ (a : ℕ). SpellsBody bytes a first (ModuleHeader h)) (sym e) s) y)
one_fault b bytes at f g (in_uses after r _ e s u) (in_uses after' r' _ e' s' u') =
    some_same (Some g) f g (sym (uses_same b bytes at after after' r r' (Some f) (Some g) e e' s s' u u')) refl

pub never_both : Below → NeverBoth
never_both b bytes at after m f s (in_header w x) =
    header_sound b bytes at s.spelled.first s.records.header w (header_at bytes at after s.records s.spelled s.begins) x
never_both b bytes at after m f s (in_records first h _ t y) =
    ends_once b bytes after first s.records h f s.spelled
    (subst (λ (a : ℕ). SpellsBody bytes a first (ModuleHeader h)) (sym s.begins) t) y
never_both b bytes at after m f s (in_uses after' r _ e t u) =
    some_none (Some f) f refl (sym (uses_same b bytes at after after' s.records r None (Some f) s.begins e s.spelled t s.used u))
