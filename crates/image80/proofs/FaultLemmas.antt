-- A text is refused for one cause.
use Rattle.std.proofs.Common.{◌≡◌, ◌≢◌, ℕ, suc, ◌+◌, true, false, List, [], ◌∷◌, ◌++◌, length, drop, map, append_assoc, append-nil, refl, ap, sym, subst, ◌∙◌}
use Rattle.std.specs.Prelude.{All}
use Rattle.std.proofs.lemmas.List.Elements.{All-head, All-tail}
use Rattle.image80.specs.declared.entry.Entry.{Entry}
use Rattle.image80.specs.declared.fault.RegionsFault.{RegionsFault}
use Rattle.image80.specs.declared.fault.RegionsFault.TheVariants.{BadLine, BadVersion, RegionsOverlap, NoStack, Memory}
use Rattle.image80.specs.declared.version.Version.{Version}
use Rattle.image80.specs.Lines.{parts}
use Rattle.image80.specs.RegionsText.{heading, entry_text, stack_ranges, GoodStart, IsProper, IsBadLine, IsFirstBadLine, Refuses}
use Rattle.image80.specs.RegionsText.IsFirstBadLine.{in_heading, after}
use Rattle.image80.proofs.ReadingLemmas.{entry_same, no_bad_line, same_entries, tail_same, version_same}
use Rattle.image80.proofs.OnceLemmas.{AreOnce, once-at}

-- something is left where a line is
some_left : (es : List Entry) (line : List ℕ) (others : List (List ℕ)) → map entry_text es ++ line ∷ others ≡ [] → ⊥
some_left [] line others same = cc
some_left (e ∷ es) line others same = cc

-- a line that a good entry spells, which repeats nothing and has something after it, is not bad
good_not_bad : (v : Version) (done es : List Entry) (e : Entry) (line : List ℕ) (others : List (List ℕ)) → (others ≡ [] → ⊥) → line ≡ entry_text e → IsProper v e →
    AreOnce (done ++ e ∷ es) → IsBadLine v done line others → ⊥
good_not_bad v done es e line [] some spelled proper once bad = some refl
good_not_bad v done es e line (o ∷ os) some spelled proper once bad =
    let both : true ≡ false = sym (bad e proper spelled) ∙ once-at done e es once in
    cc

-- two bad lines after good ones stand at one place
one_place : (v : Version) (done es fs : List Entry) (l m : List ℕ) (os ps : List (List ℕ)) → map entry_text es ++ l ∷ os ≡ map entry_text fs ++ m ∷ ps →
    All (IsProper v) es → All (IsProper v) fs → AreOnce (done ++ es) → AreOnce (done ++ fs) →
    IsBadLine v (done ++ es) l os → IsBadLine v (done ++ fs) m ps → length es ≡ length fs
one_place v done [] [] l m os ps same es_in fs_in es_once fs_once es_bad fs_bad = refl
one_place v done [] (f ∷ fs) l m os ps same es_in fs_in es_once fs_once es_bad fs_bad =
    absurd (good_not_bad v done fs f l os (λ none. some_left fs m ps (ap (λ ls. drop 1 ls) (sym same) ∙ none)) (cc)
    (All-head (IsProper v) f fs fs_in) fs_once (subst (λ xs. IsBadLine v xs l os) (append-nil done) es_bad))
one_place v done (e ∷ es) [] l m os ps same es_in fs_in es_once fs_once es_bad fs_bad =
    absurd (good_not_bad v done es e m ps (λ none. some_left es l os (ap (λ ls. drop 1 ls) same ∙ none)) (cc)
    (All-head (IsProper v) e es es_in) es_once (subst (λ xs. IsBadLine v xs m ps) (append-nil done) fs_bad))
one_place v done (e ∷ es) (f ∷ fs) l m os ps same es_in fs_in es_once fs_once es_bad fs_bad =
    let here : f ≡ e = entry_same v v f e (All-head (IsProper v) f fs fs_in) (All-head (IsProper v) e es es_in) (cc) in
    let es_moved : done ++ e ∷ es ≡ (done ++ e ∷ []) ++ es = sym (append_assoc done (e ∷ []) es) in
    let fs_moved : done ++ f ∷ fs ≡ (done ++ e ∷ []) ++ fs = ap (λ x. done ++ x ∷ fs) here ∙ sym (append_assoc done (e ∷ []) fs) in
    let later : length es ≡ length fs =
    one_place v (done ++ e ∷ []) es fs l m os ps (ap (λ ls. drop 1 ls) same)
    (All-tail (IsProper v) e es es_in) (All-tail (IsProper v) f fs fs_in)
    (subst AreOnce es_moved es_once) (subst AreOnce fs_moved fs_once)
    (subst (λ xs. IsBadLine v xs l os) es_moved es_bad) (subst (λ xs. IsBadLine v xs m ps) fs_moved fs_bad) in
    ap (λ n. suc n) later

-- a good start of a text of one version is one of the same version
same_start : (text : List ℕ) (v w : Version) (fs : List Entry) (others ps : List (List ℕ)) → parts text ≡ heading v ∷ others → GoodStart w text fs ps → w ≡ v
same_start text v w fs others ps is good = version_same w v _ _ (sym good.lines ∙ is)

-- a text has one first bad line
one_line : (text : List ℕ) (n m : ℕ) → IsFirstBadLine text n → IsFirstBadLine text m → n ≡ m
one_line text n m (in_heading v n_is alone) (in_heading w m_is also) = n_is ∙ sym m_is
one_line text n m (in_heading v n_is alone) (after w fs line others good bad counted) = absurd (some_left fs line others (tail_same w v _ _ (sym good.lines ∙ alone)))
one_line text n m (after v es line others good bad counted) (in_heading w m_is alone) = absurd (some_left es line others (tail_same v w _ _ (sym good.lines ∙ alone)))
one_line text n m (after v es l os es_good es_bad n_is) (after w fs k ps fs_good fs_bad m_is) =
    let same : w ≡ v = same_start text v w fs _ _ es_good.lines fs_good in
    n_is ∙ ap (λ c. c + 2) (one_place v [] es fs l k os ps (tail_same v w _ _ (sym es_good.lines ∙ fs_good.lines)) es_good.proper (subst (λ u. All (IsProper u) fs) same fs_good.proper)
    es_good.once fs_good.once es_bad (subst (λ u. IsBadLine u fs k ps) same fs_bad)) ∙ sym m_is

-- a bad line stands in a text of a version
bad_line_version : (text : List ℕ) (n : ℕ) → IsFirstBadLine text n → ((version : Version) (others : List (List ℕ)) → parts text ≡ heading version ∷ others → ⊥) → ⊥
bad_line_version text n (in_heading v counted alone) other = other v [] alone
bad_line_version text n (after v es line others good bad counted) other = other v (map entry_text es ++ line ∷ others) good.lines

-- a text is refused for one cause
pub one_fault : (text : List ℕ) (f g : RegionsFault) → Refuses text f → Refuses text g → f ≢ Memory → g ≢ Memory → f ≡ g
one_fault text Memory g f_holds g_holds f_is g_is = absurd (f_is refl)
one_fault text f Memory f_holds g_holds f_is g_is = absurd (g_is refl)
one_fault text (BadLine n) (BadLine m) f_holds g_holds f_is g_is = ap BadLine (one_line text n m f_holds g_holds)
one_fault text (BadLine n) BadVersion f_holds g_holds f_is g_is = absurd (bad_line_version text n f_holds g_holds)
one_fault text (BadLine n) RegionsOverlap f_holds g_holds f_is g_is = absurd (no_bad_line text g_holds.version g_holds.entries n g_holds.good f_holds)
one_fault text (BadLine n) NoStack f_holds g_holds f_is g_is = absurd (no_bad_line text g_holds.version g_holds.entries n g_holds.good f_holds)
one_fault text BadVersion (BadLine n) f_holds g_holds f_is g_is = absurd (bad_line_version text n g_holds f_holds)
one_fault text BadVersion BadVersion f_holds g_holds f_is g_is = refl
one_fault text BadVersion RegionsOverlap f_holds g_holds f_is g_is = absurd (f_holds _ _ g_holds.good.lines)
one_fault text BadVersion NoStack f_holds g_holds f_is g_is = absurd (f_holds _ _ g_holds.good.lines)
one_fault text RegionsOverlap (BadLine n) f_holds g_holds f_is g_is = absurd (no_bad_line text f_holds.version f_holds.entries n f_holds.good g_holds)
one_fault text RegionsOverlap BadVersion f_holds g_holds f_is g_is = absurd (g_holds _ _ f_holds.good.lines)
one_fault text RegionsOverlap RegionsOverlap f_holds g_holds f_is g_is = refl
one_fault text RegionsOverlap NoStack f_holds g_holds f_is g_is =
    let none : f_holds.stack ∷ [] ≡ [] = sym f_holds.one ∙ ap stack_ranges (same_entries text f_holds.version g_holds.version f_holds.entries g_holds.entries f_holds.good g_holds.good) ∙ g_holds.none in cc
one_fault text NoStack (BadLine n) f_holds g_holds f_is g_is = absurd (no_bad_line text f_holds.version f_holds.entries n f_holds.good g_holds)
one_fault text NoStack BadVersion f_holds g_holds f_is g_is = absurd (g_holds _ _ f_holds.good.lines)
one_fault text NoStack RegionsOverlap f_holds g_holds f_is g_is =
    let none : g_holds.stack ∷ [] ≡ [] = sym g_holds.one ∙ ap stack_ranges (same_entries text g_holds.version f_holds.version g_holds.entries f_holds.entries g_holds.good f_holds.good) ∙ f_holds.none in cc
one_fault text NoStack NoStack f_holds g_holds f_is g_is = refl
