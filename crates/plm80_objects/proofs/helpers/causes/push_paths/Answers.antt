use Rattle.plm80_objects.proofs.Names.{◌≡◌, ℕ, zero, suc, ◌+◌, ◌-◌, List, [], ◌∷◌, ◌++◌, length, take, replicate, repeat, Bor, ◌∙◌, ap, refl}
use Rattle.plm80_objects.proofs.Names.{arith, map-append, take_all}
use Rattle.plm80_objects.proofs.ReadLemmas.{text_of, texts}
use Rattle.plm80_objects.proofs.helpers.causes.push_paths.Goals as goal

texts_of_copies : (n : ℕ) (path : Bor (List ℕ)) → texts (replicate n path) ≡ repeat n (path.now ∷ [])
texts_of_copies zero path = refl
texts_of_copies (suc n) path = ap (λ (ps : List (List ℕ)). path.now ∷ ps) (texts_of_copies n path)

-- as many more copies behind the others
paths_more : (before after : List (Bor (List ℕ))) (path : Bor (List ℕ)) (n m k : ℕ) → m ≡ length before + n → k ≡ length before
    → after ≡ take m before ++ replicate (m - k) path → texts after ≡ texts before ++ repeat n (path.now ∷ [])
paths_more before after path n m k all len is =
    let rest : m - k ≡ n = omega arith in
    let whole : take m before ≡ before = take_all m before (omega arith) in
    ap texts is ∙ ap (λ (ps : List (Bor (List ℕ))). texts (ps ++ replicate (m - k) path)) whole
    ∙ map-append text_of before (replicate (m - k) path)
    ∙ ap (λ (ps : List (List ℕ)). texts before ++ ps) (ap (λ (j : ℕ). texts (replicate j path)) rest ∙ texts_of_copies n path)

pub returns : goal.returns
returns c =
    let all : c.in_ok-len.len ≡ length c.args.paths.now.items + c.args.count = grind arith in
    let len : c.args.paths.now.len ≡ length c.args.paths.now.items = grind arith in
    paths_more c.args.paths.now.items c.resize.new.self.items c.args.path c.args.count c.in_ok-len.len _ all len c.in_ok-resize.ensures.items
