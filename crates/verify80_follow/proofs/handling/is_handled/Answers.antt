use Rattle.std.specs.Prelude.{◌≡◌, All, Contains, List, true}
use Rattle.std.proofs.Common.{arith, refl, subst}
use Rattle.std.proofs.lemmas.Bool.Decides.{nat_tests}
use Rattle.image80.specs.Image.{Located}
use Rattle.verify80_states.specs.{Marks.is_marked}
use Rattle.verify80_follow.specs.declared.{followed.Way.Way, stack.StackBounds.StackBounds}
use Rattle.verify80_follow.specs.{Follows.ways_of, Handling.Handles, Handling.IsHandled, Handling.handler_fitting}
use Rattle.verify80_follow.proofs.FitLemmas.{ok_maps}
use Rattle.verify80_follow.proofs.handling.is_handled.Goals as goal

pub returns : goal.returns
returns c =
    let image = c.args.image.now in
    let handler = c.args.handler.now in
    let listed = c.args.around.listed.now in
    let main = c.args.around.main.now in
    let written = is_marked c.args.around.writes.marks.now in
    let quiet = is_marked c.args.looked.quiet.now in
    let code = c.args.looked.code.now in
    let bytes = handler.table.bytes in
    let states = c.deref.result.now in
    let places = c.args.around.places.now in
    let ways = c.deref-3.result.now in
    let all = ways_of ways places in
    let same : c.in_ok-program.program ≡ image = c.in_ok-program.ensures in
    let bounds : StackBounds = record { top = c.top.result; length = bytes } in
    let Each : Located → Type 0 = λ (i : Located). All (Handles main written bounds (handler_fitting i quiet code all listed states bytes)) states in
    let within = c.if-table-around.false in
    ok_maps c.all_handle.result (λ f. f ≡ true → Each c.in_ok-program.program)
    (λ f. f ≡ true → IsHandled image main written quiet places listed c.args.around.most handler)
    (λ f handle is. record {
      of = record {
        table = states;
        ways = ways;
        bytes = bytes;
        bounds = bounds;
        fits = record {
          code = code;
          are_code = c.requires.code;
          start = c.if-not-has_entry.ensures refl;
          states = subst Each same (handle is);
        };
        few = omega arith;
        room = omega arith;
        among = λ way there. subst (λ (l : List Way). Contains l way) c.deref-3.ensures.value there;
      };
      states = c.deref.ensures.value;
      few = grind (arith, nat_tests, within);
    }) c.all_handle.ensures
