use Rattle.std.proofs.Common.{rules, ◌≡◌, ◌≤◌, ◌∙◌, ℕ, List, length, sym, subst}
use Rattle.std.specs.Prelude.{IfOk}
use Rattle.omf_library.specs.Writing.{header_body}
use Rattle.omf_library.proofs.WritingLemmas.{fits, file_is}
use Rattle.omf_library.proofs.writing.library_with.Goals as goal

pub file_of-requires-clause-names : goal.file_of-requires-clause-names
file_of-requires-clause-names c =
    subst (λ (l : List ℕ). length l ≤ 65534) (sym c.requires.names) (fits c.args.modules.now c.requires.fits).names

pub file_of-requires-clause-locations : goal.file_of-requires-clause-locations
file_of-requires-clause-locations c =
    subst (λ (l : List ℕ). length l ≤ 65534) (sym c.requires.locations) (fits c.args.modules.now c.requires.fits).locations

pub file_of-requires-clause-dictionary : goal.file_of-requires-clause-dictionary
file_of-requires-clause-dictionary c =
    subst (λ (l : List ℕ). length l ≤ 65534) (sym c.requires.dictionary) (fits c.args.modules.now c.requires.fits).dictionary

pub returns : goal.returns
returns c =
    let ms = c.args.modules.now in
    let index = c.args.index.now in
    let header : c.in_ok-header.header.items ≡ header_body ms = search rules in
    subst (λ (x : List ℕ). IfOk c.file_of.result (λ file. file.items ≡ x))
    (file_is ms c.deref.result.now c.args.bytes.now index.names.items index.locations.items index.dictionary.items
    (c.deref.ensures.value ∙ header) c.requires.bytes c.requires.names c.requires.locations c.requires.dictionary)
    c.file_of.ensures
