-- Paths that two arguments share, and arguments that share none.
use Rattle.std.specs.Prelude.{◌≡◌, ◌≢◌, ℕ, ◌<◌, ◌≤◌, Bool, false, ◌||◌, Option, Some, None, option_map, unwrap_or, List, [], ◌∷◌, length, map, slice_get}
use Rattle.std.specs.{Borrow.Bor, List.list_any, Str.bytes_eq}
use Rattle.std.proofs.Common.{◌∙◌, ap, sym, refl, subst, get_or, arith}
use Rattle.std.proofs.lemmas.Option.{get_or_from_slice_get, slice_get_within}
use Rattle.clap.specs.declared.parser.matches.ArgMatches.{ArgMatches}
use Rattle.plm80_console.specs.ApartPaths.{IsApart, IsApartFrom, has_path, path_to_write, stands_behind}
use Rattle.plm80_console.specs.declared.syntax.Kind.TheVariants.{Paths, PathsAt}
use Rattle.plm80_console.specs.{Arguments.argument_values, Kinds.may_replace, SharedPaths.IsWrittenBy}
use Rattle.plm80_console.specs.declared.{shared_paths.SharedPath.SharedPath, syntax.Argument.Argument, syntax.Kind.Kind}

pub is_written_by : (matches : ArgMatches) (shared : SharedPath) → Some shared.path.now ≡ path_to_write matches shared.written
    → may_replace shared.written.kind shared.other.name.now ≡ false → IsWrittenBy matches shared
is_written_by matches shared is apart = record { written = sym is; apart = apart }

pub apart_there : (matches : ArgMatches) (written : Argument) (path : List ℕ) (arguments : List Argument) (place : ℕ) (d other : Argument)
    → slice_get arguments place ≡ Some other → IsApartFrom matches written path (get_or arguments place d)
    → IsApartFrom matches written path other
apart_there matches written path arguments place d other stands apart =
    subst (λ (a : Argument). IsApartFrom matches written path a) (get_or_from_slice_get arguments place other d stands) apart

-- all others are apart from the one with this index
pub all_apart : (matches : ArgMatches) (arguments : List Argument) (index : ℕ) (written : Argument) (path : List ℕ) (count : ℕ)
    → slice_get arguments index ≡ Some written → path_to_write matches written ≡ Some path → length arguments ≤ count
    → ((place : ℕ) → place < count → (other : Argument) → slice_get arguments place ≡ Some other → place ≢ index
    → IsApartFrom matches written path other)
    → IsApart matches arguments index
all_apart matches arguments index written path count is writes ends each = λ found its there its_path place other stands differs.
    let same : found ≡ written = (let both : Some found ≡ Some written = sym there ∙ is in cc) in
    let paths : its ≡ path = (let both : Some its ≡ Some path = sym its_path ∙ (ap (path_to_write matches) same ∙ writes) in cc) in
    let below : place < length arguments = slice_get_within arguments place other stands in
    let apart : IsApartFrom matches written path other = each place (omega (arith, ends)) other stands differs in
    λ stays. ap (λ (p : List ℕ). has_path other.kind matches other.name.now p) paths
    ∙ apart (ap (λ (w : Argument). may_replace w.kind other.name.now) (sym same) ∙ stays)

-- the values of an argument, lent or not
any_texts : (test : List ℕ → Bool) (xs : List (Bor (List ℕ))) → list_any (λ x. test x.now) xs ≡ list_any test (map (λ x. x.now) xs)
any_texts test [] = refl
any_texts test (x ∷ xs) = ap (λ (b : Bool). test x.now || b) (any_texts test xs)

pub values_given : (given : Option (Bor (List (Bor (List ℕ))))) (found : Option (List (List ℕ))) (nothing values : Bor (List (Bor (List ℕ))))
    → option_map (λ s. map (λ v. v.now) s.now) given ≡ found → values ≡ unwrap_or given nothing → nothing.now ≡ []
    → map (λ v. v.now) values.now ≡ unwrap_or found []
values_given (Some s) found nothing values is same empty =
    ap (λ (v : Bor (List (Bor (List ℕ)))). map (λ t. t.now) v.now) same ∙ ap (λ (f : Option (List (List ℕ))). unwrap_or f []) is
values_given None found nothing values is same empty =
    ap (λ (v : Bor (List (Bor (List ℕ)))). map (λ t. t.now) v.now) same
    ∙ (ap (λ (ts : List (Bor (List ℕ))). map (λ t. t.now) ts) empty ∙ ap (λ (f : Option (List (List ℕ))). unwrap_or f []) is)

-- an argument with paths, and one with numbers and paths
pub has_among : (matches : ArgMatches) (kind : Kind) (name path : List ℕ) (values : List (Bor (List ℕ))) (result : Bool)
    → kind ≡ Paths → map (λ v. v.now) values ≡ argument_values matches name
    → result ≡ list_any (λ own. bytes_eq own.now path) values → result ≡ has_path kind matches name path
has_among matches kind name path values result is values_are any =
    let all : result ≡ has_path Paths matches name path =
    any ∙ (any_texts (λ own. bytes_eq own path) values ∙ ap (λ (ts : List (List ℕ)). list_any (λ own. bytes_eq own path) ts) values_are) in
    subst (λ (k : Kind). result ≡ has_path k matches name path) (sym is) all

pub has_behind : (matches : ArgMatches) (kind : Kind) (word : Bor (List ℕ)) (name path : List ℕ) (values : List (Bor (List ℕ))) (result : Bool)
    → kind ≡ PathsAt word → map (λ v. v.now) values ≡ argument_values matches name
    → result ≡ list_any (λ value. stands_behind value.now path) values → result ≡ has_path kind matches name path
has_behind matches kind word name path values result is values_are any =
    let all : result ≡ has_path (PathsAt word) matches name path =
    any ∙ (any_texts (λ value. stands_behind value path) values
    ∙ ap (λ (ts : List (List ℕ)). list_any (λ value. stands_behind value path) ts) values_are) in
    subst (λ (k : Kind). result ≡ has_path k matches name path) (sym is) all
