-- The stacks that links make: how a link is read, and what one more link adds.
use Rattle.std.proofs.Common.{◌≡◌, ◌<◌, ◌≤◌, ℕ, ◌+◌, zero, suc, Bool, true, false, ◌⊎◌, inl, inr, List, [], ◌∷◌, ◌++◌, Some, length, slice_get, slice_index_or, refl, sym, ◌∙◌, ap, subst, arith}
use Rattle.std.specs.Prelude.{if◌then◌else◌}
use Rattle.std.specs.List.{list_any}
use Rattle.std.proofs.lemmas.Option.{same_Some, none-some, slice_get_within, slice_get-get_or, get_or_from_slice_get}
use Rattle.std.proofs.lemmas.List.{length_push}
use Rattle.frames80.specs.declared.word.Word.{Word}
use Rattle.frames80_interned.specs.declared.link.Link.{Link}
use Rattle.frames80_interned.specs.Stacks.{words_at, stacks_after, stacks_of, IsStack, IsLink, LieBeneath, StacksStay, AreLinks}
use Rattle.indexmap.specs.IndexSet.{insert_key}
use Rattle.frames80.specs.Lists.{slice_get-append, slice_get-last, slice_get-push}
use Rattle.frames80_interned.proofs.LinkEquality.{link_eq, link_same}

-- what an index has after a push: what it had, or what was pushed
slice_index_or-push : {X : Type 0} (xs : List X) (y : X) (i : ℕ) (d : X) → (slice_index_or (xs ++ y ∷ []) i d ≡ slice_index_or xs i d) ⊎ (slice_index_or (xs ++ y ∷ []) i d ≡ y)
slice_index_or-push [] y zero d = inr refl
slice_index_or-push [] y (suc i) d = inl refl
slice_index_or-push (z ∷ xs) y zero d = inl refl
slice_index_or-push (z ∷ xs) y (suc i) d = slice_index_or-push xs y i d

-- an insert leaves the keys, or pushes the new one
insert_key-push : {X : Type 0} (eq : X → X → Bool) (old new : List X) (key : X) → new ≡ insert_key eq old key → (new ≡ old) ⊎ (new ≡ old ++ key ∷ [])
insert_key-push eq old new key is = by (list_any (eq key) old) refl
  where
    by : (b : Bool) → list_any (eq key) old ≡ b → (new ≡ old) ⊎ (new ≡ old ++ key ∷ [])
    by true e = inl (is ∙ ap (λ c. if c then old else old ++ key ∷ []) e)
    by false e = inr (is ∙ ap (λ c. if c then old else old ++ key ∷ []) e)

length_after : (stacks : List (List Word)) (links : List Link) → length (stacks_after stacks links) ≡ length stacks + length links
length_after stacks [] = omega arith
length_after stacks (link ∷ links) = omega (arith, length_after (stacks ++ (link.word ∷ words_at stacks link.below) ∷ []) links, length_push stacks (link.word ∷ words_at stacks link.below))

pub length-stacks_of : (links : List Link) → length (stacks_of links) ≡ suc (length links)
length-stacks_of links = let e = length_after ([] ∷ []) links in omega arith

push_after : (stacks : List (List Word)) (links : List Link) (last : Link) →
    stacks_after stacks (links ++ last ∷ []) ≡ stacks_after stacks links ++ (last.word ∷ words_at (stacks_after stacks links) last.below) ∷ []
push_after stacks [] last = refl
push_after stacks (link ∷ links) last = push_after (stacks ++ (link.word ∷ words_at stacks link.below) ∷ []) links last

stacks_of-push : (links : List Link) (last : Link) → stacks_of (links ++ last ∷ []) ≡ stacks_of links ++ (last.word ∷ words_at (stacks_of links) last.below) ∷ []
stacks_of-push = push_after ([] ∷ [])

-- what stays is found by its number
pub words_at-stays : (old new : List (List Word)) → StacksStay old new → (n : ℕ) → n < length old → words_at new n ≡ words_at old n
words_at-stays old new s n h = get_or_from_slice_get new n (words_at old n) [] (s.stays n (words_at old n) (slice_get-get_or old n [] h))

pub within-stays : (old new : List (List Word)) → StacksStay old new → (n : ℕ) → n < length old → n < length new
within-stays old new s n h = slice_get_within new n (words_at old n) (s.stays n (words_at old n) (slice_get-get_or old n [] h))

pub stays-self : (stacks : List (List Word)) → StacksStay stacks stacks
stays-self stacks = record { stays = λ n words e. e }

pub stays-on : (one two three : List (List Word)) → StacksStay one two → StacksStay two three → StacksStay one three
stays-on one two three s t = record { stays = λ n words e. t.stays n words (s.stays n words e) }

stays-push : (stacks : List (List Word)) (words : List Word) → StacksStay stacks (stacks ++ words ∷ [])
stays-push stacks words = record { stays = λ n ws e. slice_get-append stacks (words ∷ []) n ws e }

stays-after : (stacks : List (List Word)) (links : List Link) → StacksStay stacks (stacks_after stacks links)
stays-after stacks [] = stays-self stacks
stays-after stacks (link ∷ links) =
    let more = stacks ++ (link.word ∷ words_at stacks link.below) ∷ [] in
    stays-on stacks more (stacks_after more links) (stays-push stacks (link.word ∷ words_at stacks link.below)) (stays-after more links)

-- a link is read where it stands
read_after : (stacks : List (List Word)) (links : List Link) (i n : ℕ) (link : Link) → slice_get links i ≡ Some link → n ≡ length stacks + i → link.below < n →
    words_at (stacks_after stacks links) n ≡ link.word ∷ words_at (stacks_after stacks links) link.below
read_after stacks [] i n link e at below = absurd (none-some link e)
read_after stacks (l ∷ links) zero n link e at below =
    let same : l ≡ link = same_Some l link e in
    let words = l.word ∷ words_at stacks l.below in
    let more = stacks ++ words ∷ [] in
    let all = stacks_after more links in
    let here : n ≡ length stacks = omega arith in
    let stands : slice_get all (length stacks) ≡ Some words = (stays-after more links).stays (length stacks) words (slice_get-last stacks words) in
    let read : words_at all (length stacks) ≡ words = get_or_from_slice_get all (length stacks) words [] stands in
    let under : l.below < length stacks = subst (λ (k : Link). k.below < length stacks) (sym same) (subst (λ m. link.below < m) here below) in
    let interned : words_at all l.below ≡ words_at stacks l.below = words_at-stays stacks all (stays-after stacks (l ∷ links)) l.below under in
    ap (words_at all) here ∙ read ∙ ap (λ ws. l.word ∷ ws) (sym interned) ∙ ap (λ (k : Link). k.word ∷ words_at all k.below) same
read_after stacks (l ∷ links) (suc i) n link e at below =
    let words = l.word ∷ words_at stacks l.below in
    read_after (stacks ++ words ∷ []) links i n link e (omega (arith, length_push stacks words)) below

pub read : (links : List Link) (i : ℕ) (link : Link) → AreLinks links → slice_get links i ≡ Some link → IsLink (stacks_of links) (suc i) link
read links i link h e = record {
  before = h.before i link e;
  words = read_after ([] ∷ []) links i (suc i) link e (omega arith) (h.before i link e);
  height = h.height i link e;
  skip = h.skip i link e;
  skipped = h.skipped i link e;
}

-- no stack has as many words as there are stacks
short_push : (stacks : List (List Word)) (words : List Word) → ((n : ℕ) → length (words_at stacks n) < length stacks) → length words ≤ length stacks → (n : ℕ) → length (words_at (stacks ++ words ∷ []) n) < length (stacks ++ words ∷ [])
short_push stacks words short fits n = by (slice_index_or-push stacks words n [])
  where
    by : (words_at (stacks ++ words ∷ []) n ≡ words_at stacks n) ⊎ (words_at (stacks ++ words ∷ []) n ≡ words) → length (words_at (stacks ++ words ∷ []) n) < length (stacks ++ words ∷ [])
    by (inl was) = omega (arith, ap length was, short n, length_push stacks words)
    by (inr new) = omega (arith, ap length new, length_push stacks words)

short_after : (stacks : List (List Word)) (links : List Link) → ((n : ℕ) → length (words_at stacks n) < length stacks) → (n : ℕ) → length (words_at (stacks_after stacks links) n) < length (stacks_after stacks links)
short_after stacks [] short n = short n
short_after stacks (link ∷ links) short n =
    let fits : length (link.word ∷ words_at stacks link.below) ≤ length stacks = omega (arith, short link.below) in
    short_after (stacks ++ (link.word ∷ words_at stacks link.below) ∷ []) links (short_push stacks (link.word ∷ words_at stacks link.below) short fits) n

pub short : (links : List Link) (n : ℕ) → length (words_at (stacks_of links) n) < length (stacks_of links)
short links = short_after ([] ∷ []) links first
  where
    first : (n : ℕ) → length (words_at ([] ∷ []) n) < 1
    first zero = omega arith
    first (suc n) = omega arith

-- the links after a push or an insert
stays-links : (old new : List Link) (last : Link) → (new ≡ old) ⊎ (new ≡ old ++ last ∷ []) → StacksStay (stacks_of old) (stacks_of new)
stays-links old new last (inl same) = subst (λ ls. StacksStay (stacks_of old) (stacks_of ls)) (sym same) (stays-self (stacks_of old))
stays-links old new last (inr push) =
    subst (λ s. StacksStay (stacks_of old) s) (sym (ap stacks_of push ∙ stacks_of-push old last)) (stays-push (stacks_of old) (last.word ∷ words_at (stacks_of old) last.below))

-- a link goes on top of a stack that is there, its height is that of its words, and it skips to a stack beneath
pub record IsNewLink (stacks : List (List Word)) (last : Link) : Type 0 where
  pub below : last.below < length stacks
  pub height : last.height ≡ suc (length (words_at stacks last.below))
  pub skip : last.skip < length stacks
  pub skipped : LieBeneath (words_at stacks last.below) (words_at stacks last.skip)

abbrev pub new_link : (below : ℕ) → Word → (height skip : ℕ) → Link
new_link below word height skip = record { below = below; word = word; height = height + 1; skip = skip }

pub is_new_link : (stacks : List (List Word)) (below : ℕ) (word : Word) (height skip : ℕ) → below < length stacks → height ≡ length (words_at stacks below) → skip < length stacks
    → LieBeneath (words_at stacks below) (words_at stacks skip) → IsNewLink stacks (new_link below word height skip)
is_new_link stacks below word height skip there high skip_there lies = record { below = there; height = omega (arith, high); skip = skip_there; skipped = lies }

AreLinks-added : (old new : List Link) (last : Link) → (new ≡ old) ⊎ (new ≡ old ++ last ∷ []) → AreLinks old → IsNewLink (stacks_of old) last → AreLinks new
AreLinks-added old new last (inl same) h l = subst AreLinks (sym same) h
AreLinks-added old new last (inr push) h l = subst AreLinks (sym push) (record { before = before; height = heights; skip = skip; skipped = skipped })
  where
    stays : StacksStay (stacks_of old) (stacks_of (old ++ last ∷ []))
    stays = stays-links old (old ++ last ∷ []) last (inr refl)

    skip : (i : ℕ) (link : Link) → slice_get (old ++ last ∷ []) i ≡ Some link → link.skip < suc i
    skip i link e = by (slice_get-push old last i link e)
      where
        by : (slice_get old i ≡ Some link) ⊎ ((i ≡ length old) × (link ≡ last)) → link.skip < suc i
        by (inl was) = h.skip i link was
        by (inr new) =
            let at : i ≡ length old = new.0 in
            let is : link.skip ≡ last.skip = ap (λ (l : Link). l.skip) new.1 in
            let there = l.skip in
            omega (arith, length-stacks_of old)

    -- what two stacks had they have
    interned : (n m : ℕ) → n < length (stacks_of old) → m < length (stacks_of old) → LieBeneath (words_at (stacks_of old) n) (words_at (stacks_of old) m)
        → LieBeneath (words_at (stacks_of (old ++ last ∷ [])) n) (words_at (stacks_of (old ++ last ∷ [])) m)
    interned n m n_there m_there lies =
        rw (words_at-stays (stacks_of old) (stacks_of (old ++ last ∷ [])) stays n n_there, words_at-stays (stacks_of old) (stacks_of (old ++ last ∷ [])) stays m m_there) lies

    skipped : (i : ℕ) (link : Link) → slice_get (old ++ last ∷ []) i ≡ Some link → LieBeneath (words_at (stacks_of (old ++ last ∷ [])) link.below) (words_at (stacks_of (old ++ last ∷ [])) link.skip)
    skipped i link e = by (slice_get-push old last i link e)
      where
        by : (slice_get old i ≡ Some link) ⊎ ((i ≡ length old) × (link ≡ last)) → LieBeneath (words_at (stacks_of (old ++ last ∷ [])) link.below) (words_at (stacks_of (old ++ last ∷ [])) link.skip)
        by (inl was) =
            let within = slice_get_within old i link was in
            let b = h.before i link was in
            let s = h.skip i link was in
            interned link.below link.skip (omega (arith, length-stacks_of old)) (omega (arith, length-stacks_of old)) (h.skipped i link was)
        by (inr new) = subst (λ (k : Link). LieBeneath (words_at (stacks_of (old ++ last ∷ [])) k.below) (words_at (stacks_of (old ++ last ∷ [])) k.skip)) (sym new.1) (interned last.below last.skip l.below l.skip l.skipped)

    before : (i : ℕ) (link : Link) → slice_get (old ++ last ∷ []) i ≡ Some link → link.below < suc i
    before i link e = by (slice_get-push old last i link e)
      where
        by : (slice_get old i ≡ Some link) ⊎ ((i ≡ length old) × (link ≡ last)) → link.below < suc i
        by (inl was) = h.before i link was
        by (inr new) =
            let at : i ≡ length old = new.0 in
            let is : link.below ≡ last.below = ap (λ (l : Link). l.below) new.1 in
            let there = l.below in
            omega (arith, length-stacks_of old)

    heights : (i : ℕ) (link : Link) → slice_get (old ++ last ∷ []) i ≡ Some link → link.height ≡ length (words_at (stacks_of (old ++ last ∷ [])) (suc i))
    heights i link e = by (slice_get-push old last i link e)
      where
        stands : words_at (stacks_of (old ++ last ∷ [])) (length (stacks_of old)) ≡ last.word ∷ words_at (stacks_of old) last.below
        stands =
            ap (λ s. words_at s (length (stacks_of old))) (stacks_of-push old last)
            ∙ get_or_from_slice_get (stacks_of old ++ (last.word ∷ words_at (stacks_of old) last.below) ∷ []) (length (stacks_of old)) (last.word ∷ words_at (stacks_of old) last.below) [] (slice_get-last (stacks_of old) (last.word ∷ words_at (stacks_of old) last.below))

        by : (slice_get old i ≡ Some link) ⊎ ((i ≡ length old) × (link ≡ last)) → link.height ≡ length (words_at (stacks_of (old ++ last ∷ [])) (suc i))
        by (inl was) =
            let there : suc i < length (stacks_of old) = omega (arith, length-stacks_of old, slice_get_within old i link was) in
            h.height i link was ∙ ap length (sym (words_at-stays (stacks_of old) (stacks_of (old ++ last ∷ [])) stays (suc i) there))
        by (inr new) =
            let at : suc i ≡ length (stacks_of old) = ap suc new.0 ∙ sym (length-stacks_of old) in
            ap (λ (l : Link). l.height) new.1 ∙ l.height ∙ sym (ap length (ap (words_at (stacks_of (old ++ last ∷ []))) at ∙ stands))

-- the number of a link that is there
pushed : (old new : List Link) (last : Link) (i : ℕ) → (new ≡ old) ⊎ (new ≡ old ++ last ∷ []) → AreLinks new → last.below < length (stacks_of old) → slice_get new i ≡ Some last
    → IsStack (stacks_of new) (i + 1) (last.word ∷ words_at (stacks_of old) last.below)
pushed old new last i grows h below e =
    let is = read new i last h e in
    let under = words_at-stays (stacks_of old) (stacks_of new) (stays-links old new last grows) last.below below in
    let at : i + 1 ≡ suc i = omega arith in
    record {
      there = omega (arith, length-stacks_of new, slice_get_within new i last e);
      is = ap (words_at (stacks_of new)) at ∙ is.words ∙ ap (λ ws. last.word ∷ ws) under;
    }

-- the first stack
pub bare : (links : List Link) → words_at (stacks_of links) 0 ≡ []
bare links = words_at-stays ([] ∷ []) (stacks_of links) (stays-after ([] ∷ []) links) 0 (omega arith)

-- what is known when a link is inserted, of the stacks as a contract sees them
module _ (old new : List Link) (stacks : List (List Word)) (last : Link) (view_is : stacks_of old ≡ stacks) (is_new : IsNewLink stacks last) (keys : new ≡ insert_key link_eq old last) where
  grows : (new ≡ old) ⊎ (new ≡ old ++ last ∷ [])
  grows = insert_key-push link_eq old new last keys

  new_there : IsNewLink (stacks_of old) last
  new_there = subst (λ (s : List (List Word)). IsNewLink s last) (sym view_is) is_new

  pub AreLinks-inserted : AreLinks old → AreLinks new
  AreLinks-inserted h = AreLinks-added old new last grows h new_there

  pub stays-inserted : StacksStay stacks (stacks_of new)
  stays-inserted = subst (λ s. StacksStay s (stacks_of new)) view_is (stays-links old new last grows)

  pub stack-inserted : AreLinks old → (i : ℕ) (link : Link) → slice_get new i ≡ Some link → link_eq last link ≡ true → IsStack (stacks_of new) (i + 1) (last.word ∷ words_at stacks last.below)
  stack-inserted h i link e same =
      let is : slice_get new i ≡ Some last = e ∙ ap (λ (l : Link). Some l) (sym (link_same last link same)) in
      subst (λ s. IsStack (stacks_of new) (i + 1) (last.word ∷ words_at s last.below)) view_is (pushed old new last i grows (AreLinks-inserted h) new_there.below is)
