-- Files in pieces: what holds of bytes and of those followed by any others.
use Rattle.std.proofs.Common.{List, ◌++◌, [], ◌<◌, ℕ, subst, sym, append_assoc}
use Rattle.std.specs.Prelude.{All}
use Rattle.std.proofs.lemmas.List.{append-nil}
use Rattle.std.proofs.lemmas.List.Elements.{All-append, All-nil}

-- It holds whatever bytes follow, also if none do.
abbrev pub Lasting : {A : Type 0} → (List ℕ → A → Type 0) → List ℕ → A → Type 0
Lasting Holds bytes a = (more : List ℕ) → All (λ byte. byte < 256) more → Holds (bytes ++ more) a

-- What lasts of some bytes lasts of those and any others.
abbrev pub StayLasting : {A : Type 0} → (List ℕ → A → Type 0) → Type 0
StayLasting {A} Holds =
    (bytes more : List ℕ) (a : A) → All (λ byte. byte < 256) more → Lasting Holds bytes a → Lasting Holds (bytes ++ more) a

pub stay_lasting : {A : Type 0} (Holds : List ℕ → A → Type 0) → StayLasting Holds
stay_lasting Holds bytes more a small lasts others small' =
    subst (λ b. Holds b a) (sym (append_assoc bytes more others))
    (lasts (more ++ others) (All-append (λ byte. byte < 256) more others small small'))

-- It holds of the bytes alone.
pub last_now : {A : Type 0} (Holds : List ℕ → A → Type 0) (bytes : List ℕ) (a : A) → Lasting Holds bytes a → Holds bytes a
last_now Holds bytes a lasts = subst (λ b. Holds b a) (append-nil bytes) (lasts [] (All-nil (λ byte. byte < 256)))
