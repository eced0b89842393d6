-- What is suggested of the addresses below one.
use Rattle.std.specs.Prelude.{◌≡◌, ◌⊎◌, ℕ, ◌+◌, ◌<◌, Bool, true, false, List, [], ◌∷◌, ◌++◌, Contains, map}
use Rattle.std.proofs.Common.{arith, inl, inr, sym, subst, true≢false, ◌∙◌}
use Rattle.std.proofs.lemmas.Bool.{cases_eq}
use Rattle.std.proofs.lemmas.List.{map-append}
use Rattle.std.proofs.lemmas.List.Elements.{All-nil, All-push, Contains-append_left, Contains-push}
use Rattle.std.proofs.lemmas.List.Quantifiers.{all_pairs_push}
use Rattle.image80.specs.Case.{DeclaredCase}
use Rattle.image80.specs.Image.{Located}
use Rattle.verify80_cases.specs.declared.search.SuggestedCase.{SuggestedCase}
use Rattle.verify80_cases.specs.Suggested.{AreSuggestedBelow, IsSuggested, IsSuggestedCase, is_open}

abbrev addresses : List DeclaredCase → List ℕ
addresses cases = map (λ case. case.at) cases

-- whether the PCHL at an address is named
abbrev Names : List DeclaredCase → List ℕ → ℕ → Type 0
Names cases others at = Contains (addresses cases) at ⊎ Contains others at

module _ (image : Located) (reached taken : List Bool) where
  pub nothing : AreSuggestedBelow image reached taken 0 [] []
  nothing = record {
    each = All-nil (IsSuggested image reached taken);
    by_address = λ i j d before inside. absurd (omega (arith, inside));
    below = All-nil (λ case. case.at < 0);
    are_open = All-nil (λ case. is_open image reached case.at ≡ true);
    others = All-nil (λ at. is_open image reached at ≡ true);
    others_by_address = λ i j d before inside. absurd (omega (arith, inside));
    others_below = All-nil (λ at. at < 0);
    all = λ at less is. absurd (omega (arith, less));
  }

  module _ (at : ℕ) (cases : List DeclaredCase) (others : List ℕ) (so_far : AreSuggestedBelow image reached taken at cases others) where
    all_below : (cases' : List DeclaredCase) (others' : List ℕ) → ((x : ℕ) → Names cases others x → Names cases' others' x) →
        (is_open image reached at ≡ true → Names cases' others' at) → (x : ℕ) → x < at + 1 → is_open image reached x ≡ true → Names cases' others' x
    all_below cases' others' kept here x less is = elim (cases_eq x at) [
      | inl e ↦ subst (Names cases' others') (sym e) (here (subst (λ a. is_open image reached a ≡ true) e is))
      | inr other ↦ kept x (so_far.all x (omega (arith, less, other)) is)
    ]

    -- nothing more is suggested
    pub passed : is_open image reached at ≡ false → AreSuggestedBelow image reached taken (at + 1) cases others
    passed closed = record {
      each = so_far.each;
      by_address = so_far.by_address;
      below = λ k d inside. omega (arith, so_far.below k d inside);
      are_open = so_far.are_open;
      others = so_far.others;
      others_by_address = so_far.others_by_address;
      others_below = λ k d inside. omega (arith, so_far.others_below k d inside);
      all = all_below cases others (λ x named. named) (λ is. absurd (true≢false (sym is ∙ closed)));
    }

    -- a case more
    one_case : (case : DeclaredCase) → is_open image reached at ≡ true → IsSuggested image reached taken case → case.at ≡ at → AreSuggestedBelow image reached taken (at + 1) (cases ++ case ∷ []) others
    one_case case is_here is here = record {
      each = All-push (IsSuggested image reached taken) cases case so_far.each is;
      by_address = all_pairs_push (λ a b. a.at < b.at) cases case so_far.by_address (λ k d inside. omega (arith, so_far.below k d inside, here));
      below = All-push (λ c. c.at < at + 1) cases case (λ k d inside. omega (arith, so_far.below k d inside)) (omega (arith, here));
      are_open = All-push (λ c. is_open image reached c.at ≡ true) cases case so_far.are_open (subst (λ a. is_open image reached a ≡ true) (sym here) is_here);
      others = so_far.others;
      others_by_address = so_far.others_by_address;
      others_below = λ k d inside. omega (arith, so_far.others_below k d inside);
      all = all_below (cases ++ case ∷ []) others
          (λ x named. elim named [
            | inl has ↦ inl (subst (λ xs. Contains xs x) (sym (map-append (λ c. c.at) cases (case ∷ []))) (Contains-append_left (addresses cases) (case.at ∷ []) x has))
            | inr has ↦ inr has
          ])
          (λ e. inl (subst (λ xs. Contains xs at) (sym (map-append (λ c. c.at) cases (case ∷ []))) (subst (Contains (addresses cases ++ case.at ∷ [])) here (Contains-push (addresses cases) case.at))));
    }

    pub one_found : (found : SuggestedCase) → is_open image reached at ≡ true → IsSuggestedCase image reached taken found → found.case.at ≡ at →
        AreSuggestedBelow image reached taken (at + 1) (cases ++ found.case ∷ []) others
    one_found found is_here is here = one_case found.case is_here is.suggested here

    -- a PCHL without a table more
    pub one_other : is_open image reached at ≡ true → AreSuggestedBelow image reached taken (at + 1) cases (others ++ at ∷ [])
    one_other is_here = record {
      each = so_far.each;
      by_address = so_far.by_address;
      below = λ k d inside. omega (arith, so_far.below k d inside);
      are_open = so_far.are_open;
      others = All-push (λ a. is_open image reached a ≡ true) others at so_far.others is_here;
      others_by_address = all_pairs_push (λ a b. a < b) others at so_far.others_by_address (λ k d inside. so_far.others_below k d inside);
      others_below = All-push (λ a. a < at + 1) others at (λ k d inside. omega (arith, so_far.others_below k d inside)) (omega arith);
      all = all_below cases (others ++ at ∷ [])
          (λ x named. elim named [
            | inl has ↦ inl has
            | inr has ↦ inr (Contains-append_left others (at ∷ []) x has)
          ])
          (λ e. inr (Contains-push others at));
    }
