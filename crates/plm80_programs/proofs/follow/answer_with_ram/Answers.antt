use Rattle.std.specs.Prelude.{◌≡◌, Bool, List, ℕ, []}
use Rattle.std.proofs.Common.{Bor, ap, subst, ◌∙◌}
use Rattle.std.proofs.lemmas.Result.{IfOk-weaker}
use Rattle.image80.specs.{Image.Located, declared.range.Range.Range}
use Rattle.omf_model.specs.declared.symbols.Public.{Public}
use Rattle.plm80_console.specs.Answer.{AnswerValue}
use Rattle.plm80_programs.proofs.RamLemmas.{all_data, none_in_ram, same_ram}
use Rattle.plm80_programs.specs.Following.{SaysFollowed}
use Rattle.plm80_programs.proofs.follow.answer_with_ram.Goals as goal

-- the same is said with the same ranges, handlers and flags
says_as : (image : Located) (names : List Public) (answer : AnswerValue) {quiet named : List Range} {i j : Bool} {handlers others : List ℕ} {l m : Bool}
    → quiet ≡ named → i ≡ j → handlers ≡ others → l ≡ m → SaysFollowed quiet i handlers l image names answer → SaysFollowed named j others m image names answer
says_as image names answer {named = named} {i = i} {j = j} {handlers = handlers} {others = others} {l = l} ranges flag addresses lists says =
    subst (λ (b : Bool). SaysFollowed named j others b image names answer) lists
    (subst (λ (h : List ℕ). SaysFollowed named j h l image names answer) addresses
    (subst (λ (b : Bool). SaysFollowed named b handlers l image names answer) flag
    (subst (λ (q : List Range). SaysFollowed q i handlers l image names answer) ranges says)))

pub returns-then-is_none : goal.returns-then-is_none
returns-then-is_none c =
    let quiet = c.in_ok-quiet.quiet.items in
    let ram = same_ram c.args.board.now quiet _ _ c.image.view_is c.in_ok-quiet.ensures in
    let with = c.with_quiet.ensures in
    record {
      quiet = quiet;
      ram = ram;
      prints_followed = record {
        are_data = all_data c.args.image.now.regions quiet ram.are_data;
        says = says_as c.args.image.now c.args.names.now c.in_ok-followed.followed.answer
            (ap (λ (b : Bor (List Range)). b.now) with.quiet ∙ c.deref-2.ensures.value) with.interrupted
            (ap (λ (b : Bor (List ℕ)). b.now) with.handlers) with.lists c.in_ok-followed.ensures;
      };
    }

pub returns : goal.returns
returns c =
    let image = c.args.image.now in
    let ram = none_in_ram c.args.board.now image.regions in
    let with = c.with_quiet-2.ensures in
    IfOk-weaker c.answer_of_following-2.result _ _
    (λ followed says. record {
      quiet = [];
      ram = ram;
      prints_followed = record {
        are_data = all_data image.regions [] ram.are_data;
        says = says_as image c.args.names.now followed.answer (ap (λ (b : Bor (List Range)). b.now) with.quiet) with.interrupted
            (ap (λ (b : Bor (List ℕ)). b.now) with.handlers) with.lists says;
      };
    })
    c.answer_of_following-2.ensures
