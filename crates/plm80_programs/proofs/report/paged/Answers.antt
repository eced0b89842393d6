use Rattle.std.proofs.Common.{ℕ, List, ◌++◌, ◌∙◌, ap, subst}
use Rattle.image80.specs.Image.{Located}
use Rattle.report80.specs.PageText.{image_text, refused_text}
use Rattle.verify80_explain_text.specs.Reaching.{reach_text}
use Rattle.plm80_console.specs.Answer.{AnswerValue, behind_file, prints, writes}
use Rattle.plm80_programs.specs.{Pages.IsRefusedPage, Reached.IsUnproved, Reached.head_lines}
use Rattle.plm80_programs.specs.Pages.AnswersPage.{accepted, refused}
use Rattle.plm80_programs.proofs.report.paged.Goals as goal

pub returns-in_ok-html-in-Ok : goal.returns-in_ok-html-in-Ok
returns-in_ok-html-in-Ok c =
    let html = c.in_ok-html-in-Ok.html.items in
    accepted c.in-Ok.vouched html (record { image_is = c.in-Ok.ensures.image; vouched = c.in-Ok.ensures.vouched }) c.in_ok-html-in-Ok.ensures
    (c.writes.ensures ∙ ap (λ (lines : List ℕ). writes c.args.out.now html lines) c.new.ensures.items)

pub returns-in_ok-html-in-Err : goal.returns-in_ok-html-in-Err
returns-in_ok-html-in-Err c =
    let image = c.in-Err.image in
    let names = c.args.names.now in
    let unproved = c.in_ok-unproved-in-Err.unproved in
    let html = c.in_ok-html-in-Err.html.items in
    let same = c.in-Err.ensures.handed_back in
    let calls = reach_text image names unproved.reach.points.items in
    refused c.in-Err.refusal unproved html c.in-Err.ensures.refused c.in_default.not-Memory
    (subst (λ (i : Located). IsUnproved i c.in-Err.refusal unproved) same c.in_ok-unproved-in-Err.ensures)
    (subst (λ (i : Located). IsRefusedPage i names unproved html) same
    (c.in_ok-html-in-Err.ensures
    ∙ ap (λ (verdict : List ℕ). image_text image verdict ++ refused_text names calls) (c.deref.ensures.value ∙ c.in_ok-lines-in-Err.ensures)))
    (c.behind_file.ensures
    ∙ ap (λ (answer : AnswerValue). behind_file c.args.out.now html answer)
    (c.prints.ensures ∙ ap (λ (lines : List ℕ). prints lines 1)
    (c.in_ok-lines-in-Err.ensures ∙ ap (λ (i : Located). head_lines i names unproved) same)))
