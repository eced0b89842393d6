use Rattle.std.proofs.Common.{◌≡◌, ℕ, List, [], ◌++◌, ◌∙◌, ap, refl}
use Rattle.std.proofs.lemmas.Result.{IfOk-weaker}
use Rattle.image80.specs.Image.{Located}
use Rattle.omf_model.specs.declared.symbols.Public.{Public}
use Rattle.report80.specs.PageText.{image_text, program_text}
use Rattle.verify80_calls.specs.declared.graph.call_graph.Node.{Node}
use Rattle.plm80_programs.specs.{Pages.IsPageOf, Printed.stores_lines}
use Rattle.plm80_programs.proofs.report.page_of.Goals as goal

-- the same page of the same image, report, names and stores
same_page : (nodes : List Node) {i j : Located} {v w : List ℕ} {p q : List Public} {s t : List ℕ} → i ≡ j → v ≡ w → p ≡ q → s ≡ t
    → image_text i v ++ program_text i p nodes s ≡ image_text j w ++ program_text j q nodes t
same_page nodes image verdict names stores = cc (image, verdict, names, stores)

pub returns : goal.returns
returns c =
    let names = c.args.names.now in
    let program = c.args.vouched.now in
    let stores = c.in_ok-stores.stores in
    IfOk-weaker c.program_page.result _ (λ html. IsPageOf names program html.items)
    (λ html is. record {
      nodes = c.in_ok-graph.graph;
      procedures = c.in_ok-graph.ensures.procedures;
      calls = c.in_ok-graph.ensures.calls;
      stores = stores;
      listed = c.in_ok-stores.ensures.listed;
      boards = c.in_ok-stores.ensures.boards refl;
      stack = c.in_ok-stores.ensures.stack;
      shows = is
          ∙ same_page c.in_ok-graph.graph c.image-image.ensures.image (c.deref.ensures.value ∙ c.in_ok-verdict.ensures) c.publics.ensures
          (c.deref-2.ensures.value ∙ c.in_ok-stores-2.ensures ∙ ap (λ (i : Located). stores_lines [] i names stores) c.image-image.ensures.image);
    }) c.program_page.ensures
