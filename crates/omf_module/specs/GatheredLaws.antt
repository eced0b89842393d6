-- The contents that records say, in other words: each that a record begins, with the fixups up to the next one. (It follows from
-- the definitions.)
use Rattle.std.specs.Prelude.{◌≡◌, ℕ, not, Option, Some, None, List, [], ◌∷◌, filter_map}
use Rattle.std.specs.List.{flat_map, take_while}
use Rattle.omf_body.specs.declared.body.Body.{Body}
use Rattle.omf_body.specs.declared.body.Body.TheVariants.{Content}
use Rattle.omf_model.specs.declared.fixup.Fixup.{Fixup}
use Rattle.omf_model.specs.Contents.{ContentValue}
use Rattle.omf_module.specs.declared.module_file.PlacedBody.{PlacedBody}
use Rattle.omf_module.specs.Gathered.{fixups_in, begins_content, contents_from}

-- each record, with those after it
abbrev pub with_rest : List PlacedBody → List (PlacedBody × List PlacedBody)
with_rest [] = []
with_rest (p ∷ ps) = (p, ps) ∷ with_rest ps

-- the fixups of these records up to the first that begins a content
abbrev pub fixups_up_to_content : ℕ → List PlacedBody → List Fixup
fixups_up_to_content own ps = flat_map (λ p. fixups_in own p.body) (take_while (λ p. not (begins_content p.body)) ps)

-- the content that a record begins, with its fixups among the records after it
abbrev pub content_begun : List PlacedBody → Body → Option ContentValue
content_begun after (Content b) =
    Some (record { segment = b.segment; offset = b.offset; bytes = b.bytes; fixups = fixups_up_to_content b.segment after })
content_begun after _ = None

abbrev pub contents_begun : List PlacedBody → List ContentValue
contents_begun ps = filter_map (λ r. content_begun r.1 r.0.body) (with_rest ps)

-- The contents of records are those that they begin, each with the fixups of the records after it up to the next content.
abbrev pub ContentsHaveTheFixupsUpToTheNext : Type 0
ContentsHaveTheFixupsUpToTheNext = (ps : List PlacedBody) → contents_from None ps ≡ contents_begun ps
