-- A record that is read after a header and records that declare some commons is an end, or may follow.
use Rattle.std.proofs.Common.{◌≡◌, ◌≢◌, ℕ, ◌<◌, ◌≤◌, Bool, true, false, ◌&&◌, ◌⊎◌, inl, inr, List, [], ◌++◌, length, refl, sym, ap, subst, ◌∙◌, arith, IsTrue}
use Rattle.std.specs.Prelude.{not, ◌==◌}
use Rattle.std.proofs.lemmas.Bool.{eqb-true, false≢true}
use Rattle.std.proofs.lemmas.List.{append-nil}
use Rattle.omf_core.specs.declared.kind.RecordKind.{RecordKind}
use Rattle.omf_core.specs.declared.kind.RecordKind.TheVariants as kind
use Rattle.omf_core.specs.Kind.{kind_byte}
use Rattle.omf_core.specs.Record.{SpellsRecord}
use Rattle.omf_body.specs.declared.body.Body.{Body}
use Rattle.omf_body.specs.declared.body.HeaderBody.{HeaderBody}
use Rattle.omf_body.specs.declared.body.Body.TheVariants.{ModuleHeader, ModuleEnd, EndOfFile, NamedCommons}
use Rattle.omf_body.specs.Bodies.{body_kind, body_bytes, Spells}
use Rattle.omf_model.specs.declared.symbols.Common.{Common}
use Rattle.omf_module.specs.Records.{SpellsBody, commons_in, may_follow}
use Rattle.omf_module.specs.Spelled.{stands_alone}
use Rattle.omf_module.specs.Reading.{BeginsModule, Follows, is_end, TakesCommons}

-- a record that is read is one with its body
pub body_spelled : (bytes : List ℕ) (at next kind : ℕ) (body : List ℕ) (b : Body)
    → SpellsRecord bytes at next kind body → length body ≤ 65534 → Spells kind body b → SpellsBody bytes at next b
body_spelled bytes at next kind body b r fits s = record {
  framed = subst (λ (k : ℕ). SpellsRecord bytes at next k (body_bytes b)) s.of_kind
      (subst (λ (x : List ℕ). SpellsRecord bytes at next kind x) s.joined r);
  sound = s.sound;
  fits = subst (λ (x : List ℕ). length x ≤ 65534) s.joined fits;
}

pub goes_further : (bytes : List ℕ) (at next kind : ℕ) (body : List ℕ) → SpellsRecord bytes at next kind body → at < next
goes_further bytes at next kind body r = omega (arith, r.all_counted)

pub begun : (bytes : List ℕ) (at next kind : ℕ) (body : List ℕ) (b : Body) (header : HeaderBody)
    → SpellsRecord bytes at next kind body → length body ≤ 65534 → Spells kind body b → b ≡ ModuleHeader header
    → BeginsModule bytes at next header
begun bytes at next kind body b header r fits s is = record {
  spelled = subst (λ (x : Body). SpellsBody bytes at next x) is (body_spelled bytes at next kind body b r fits s);
  further = goes_further bytes at next kind body r;
  inside = r.within;
}

-- of the kinds of which no more is asked, an end ends a module, and all others may stand within
pub may_stand : (kind : ℕ) (before : List Common) (b : Body) → kind ≡ kind_byte (body_kind b) → IsTrue (stands_alone kind)
    → (IsTrue (is_end b) ⊎ IsTrue (may_follow before b)) × (commons_in b ≡ [])
may_stand kind before (ModuleHeader b) is alone = absurd (false≢true (subst (λ (k : ℕ). stands_alone k ≡ true) is alone))
may_stand kind before (EndOfFile b) is alone = absurd (false≢true (subst (λ (k : ℕ). stands_alone k ≡ true) is alone))
may_stand kind before (NamedCommons b) is alone = absurd (false≢true (subst (λ (k : ℕ). stands_alone k ≡ true) is alone))
may_stand kind before (ModuleEnd b) is alone = (inl refl, refl)
may_stand kind before _ is alone = (inr refl, refl)

pub followed : (bytes : List ℕ) (at next kind : ℕ) (body : List ℕ) (before : List Common) (b : Body)
    → SpellsRecord bytes at next kind body → length body ≤ 65534 → Spells kind body b → IsTrue (stands_alone kind)
    → Follows bytes at next before before b
followed bytes at next kind body before b r fits s alone =
    let may = may_stand kind before b s.of_kind alone in
    record {
      spelled = body_spelled bytes at next kind body b r fits s;
      stands = may.0;
      commons = sym (append-nil before) ∙ ap (λ (c : List Common). before ++ c) (sym may.1);
      further = goes_further bytes at next kind body r;
      inside = r.within;
    }

-- commons that are taken are the body of their record
pub commons_spelled : (before after : List Common) (body : List ℕ) (t : TakesCommons before body after)
    → Spells 0x2E body (NamedCommons t.entries)
commons_spelled before after body t = record { of_kind = refl; joined = t.spelled.joined; sound = t.spelled.sound }

pub commons_spelled_by : (kind : ℕ) (before after : List Common) (body : List ℕ) → kind ≡ 0x2E
    → (t : TakesCommons before body after) → Spells kind body (NamedCommons t.entries)
commons_spelled_by kind before after body is t =
    subst (λ (k : ℕ). Spells k body (NamedCommons t.entries)) (sym is) (commons_spelled before after body t)

pub followed_commons : (bytes : List ℕ) (at next kind : ℕ) (body : List ℕ) (before after : List Common) (b : Body)
    (t : TakesCommons before body after)
    → kind ≡ 0x2E → SpellsRecord bytes at next kind body → length body ≤ 65534 → b ≡ NamedCommons t.entries
    → Follows bytes at next before after b
followed_commons bytes at next kind body before after b t of_kind r fits is =
    subst (λ (x : Body). Follows bytes at next before after x) (sym is) (record {
      spelled = body_spelled bytes at next 0x2E body (NamedCommons t.entries)
          (subst (λ (k : ℕ). SpellsRecord bytes at next k body) of_kind r) fits (commons_spelled before after body t);
      stands = inr t.new;
      commons = t.all;
      further = goes_further bytes at next kind body r;
      inside = r.within;
    })

pub is_alone : (kind : ℕ) → kind ≢ 0x02 → kind ≢ 0x0E → kind ≢ 0x2E → IsTrue (stands_alone kind)
is_alone kind a b c = three (kind == 0x02) (kind == 0x0E) (kind == 0x2E) (λ e. a (eqb-true kind 0x02 e))
    (λ e. b (eqb-true kind 0x0E e)) (λ e. c (eqb-true kind 0x2E e))
  where
    three : (a b c : Bool) → (a ≡ true → ⊥) → (b ≡ true → ⊥) → (c ≡ true → ⊥) → (not a && not b && not c) ≡ true
    three true b c p q r = absurd (p refl)
    three false true c p q r = absurd (q refl)
    three false false true p q r = absurd (r refl)
    three false false false p q r = refl

pub is_alone_kind : (k : RecordKind) → (k ≡ kind.ModuleHeader → ⊥) → (k ≡ kind.EndOfFile → ⊥) → (k ≡ kind.NamedCommons → ⊥)
    → IsTrue (stands_alone (kind_byte k))
is_alone_kind kind.ModuleHeader a b c = absurd (a refl)
is_alone_kind kind.EndOfFile a b c = absurd (b refl)
is_alone_kind kind.NamedCommons a b c = absurd (c refl)
is_alone_kind _ a b c = refl
