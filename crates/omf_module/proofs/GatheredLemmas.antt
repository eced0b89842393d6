-- Contents are gathered with the fixups up to the next one.
use Rattle.std.proofs.Common.{◌≡◌, ℕ, true, false, Some, None, List, [], ◌∷◌, ◌++◌, refl, sym, ap, ◌∙◌, append_assoc, cond}
use Rattle.std.specs.Prelude.{not}
use Rattle.std.specs.List.{flat_map, take_while}
use Rattle.std.proofs.lemmas.List.{append-nil}
use Rattle.std.proofs.lemmas.List.Sums.{take_while-cons}
use Rattle.omf_body.specs.declared.body.Body.{Body}
use Rattle.omf_body.specs.declared.body.Body.TheVariants.{Content}
use Rattle.omf_model.specs.declared.fixup.Fixup.{Fixup}
use Rattle.omf_model.specs.Contents.{ContentValue}
use Rattle.omf_module.specs.declared.module_file.PlacedBody.{PlacedBody}
use Rattle.omf_module.specs.Gathered.{fixups_in, with_fixups, begins_content, contents_from}
use Rattle.omf_module.specs.GatheredLaws.{fixups_up_to_content, contents_begun, ContentsHaveTheFixupsUpToTheNext}

pub no_fixups_more : (c : ContentValue) → with_fixups c [] ≡ c
no_fixups_more c = ap (λ (fixups : List Fixup). record c { fixups = fixups }) (append-nil c.fixups)

pub fixups_twice : (c : ContentValue) (xs ys : List Fixup) → with_fixups (with_fixups c xs) ys ≡ with_fixups c (xs ++ ys)
fixups_twice c xs ys = ap (λ (fixups : List Fixup). record c { fixups = fixups }) (append_assoc c.fixups xs ys)

-- the fixups of one record and of those after it
fixups_of_first : (own : ℕ) (p : PlacedBody) (ps : List PlacedBody)
    → fixups_up_to_content own (p ∷ ps)
    ≡ cond (not (begins_content p.body)) (fixups_in own p.body ++ fixups_up_to_content own ps) []
fixups_of_first own p ps =
    let all : List PlacedBody → List Fixup = flat_map (λ q. fixups_in own q.body) in
    let front : List PlacedBody = take_while (λ q. not (begins_content q.body)) ps in
    ap all (take_while-cons (λ q. not (begins_content q.body)) p ps)
    ∙ elim (not (begins_content p.body)) as
    (λ b. flat_map (λ q. fixups_in own q.body) (cond b (p ∷ front) [])
    ≡ cond b (fixups_in own p.body ++ flat_map (λ q. fixups_in own q.body) front) []) [
      | true ↦ refl
      | false ↦ refl
    ]

-- a content, and what is gathered after it
abbrev Gathers : ContentValue → List PlacedBody → Type 0
Gathers c ps = contents_from (Some c) ps ≡ with_fixups c (fixups_up_to_content c.segment ps) ∷ contents_begun ps

gathers_first : (c : ContentValue) (at : ℕ) (body : Body) (ps : List PlacedBody) → ((d : ContentValue) → Gathers d ps)
    → Gathers c (record { at = at; body = body } ∷ ps)
gathers_first c at (Content b) ps later =
    let p : PlacedBody = record { at = at; body = Content b } in
    let new : ContentValue = record { segment = b.segment; offset = b.offset; bytes = b.bytes; fixups = [] } in
    ap (λ (l : List ContentValue). c ∷ l) (later new)
    ∙ ap (λ (d : ContentValue). d ∷ contents_begun (p ∷ ps))
    (sym (ap (with_fixups c) (fixups_of_first c.segment p ps) ∙ no_fixups_more c))
gathers_first c at body ps later =
    later (with_fixups c (fixups_in c.segment body))
    ∙ ap (λ (d : ContentValue). d ∷ contents_begun ps)
    (fixups_twice c (fixups_in c.segment body) (fixups_up_to_content c.segment ps)
    ∙ sym (ap (with_fixups c) (fixups_of_first c.segment (record { at = at; body = body }) ps)))

gathers : (ps : List PlacedBody) (c : ContentValue) → Gathers c ps
gathers [] c = ap (λ (d : ContentValue). d ∷ []) (sym (no_fixups_more c))
gathers (p ∷ ps) c = gathers_first c p.at p.body ps (gathers ps)

begins_first : (at : ℕ) (body : Body) (ps : List PlacedBody) → contents_from None ps ≡ contents_begun ps
    → contents_from None (record { at = at; body = body } ∷ ps) ≡ contents_begun (record { at = at; body = body } ∷ ps)
begins_first at (Content b) ps later =
    gathers ps (record { segment = b.segment; offset = b.offset; bytes = b.bytes; fixups = [] })
begins_first at body ps later = later

pub contents_have_the_fixups_up_to_the_next : ContentsHaveTheFixupsUpToTheNext
contents_have_the_fixups_up_to_the_next [] = refl
contents_have_the_fixups_up_to_the_next (p ∷ ps) = begins_first p.at p.body ps (contents_have_the_fixups_up_to_the_next ps)
