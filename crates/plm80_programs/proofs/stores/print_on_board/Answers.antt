use Rattle.std.proofs.Common.{List, subst, sym}
use Rattle.std.proofs.lemmas.Result.{IfOk-weaker}
use Rattle.image80.specs.declared.range.Range.{Range}
use Rattle.plm80_boards.specs.Quiet.{IsQuietIn}
use Rattle.plm80_console.specs.Answer.{AnswerValue}
use Rattle.plm80_names.specs.BlamingLaws.{blamed_of}
use Rattle.plm80_programs.proofs.{BlamedLemmas.not_data, Names.PrintsStores, RamLemmas.same_quiet}
use Rattle.plm80_programs.specs.Printed.{PrintsStoresOn}
use Rattle.plm80_programs.proofs.stores.print_on_board.Goals as goal

pub returns-in-Ok : goal.returns-in-Ok
returns-in-Ok g c =
    let board = c.args.board.now.board in
    let named = c.args.named.items in
    let image = c.args.image in
    let names = c.args.names.now in
    let quiet = c.deref.result.now in
    let is_quiet : IsQuietIn board image.regions named quiet =
    subst (λ (ranges : List Range). IsQuietIn board image.regions named ranges) (sym c.deref.ensures.value)
    (same_quiet board named c.in-Ok.quiet.items _ _ c.image.view_is c.in-Ok.ensures) in
    let whole : (answer : AnswerValue) → PrintsStores quiet image names answer → PrintsStoresOn board named image names answer =
    λ answer is. record { quiet = quiet; is_quiet = is_quiet; prints_stores = is } in
    record {
      done = IfOk-weaker c.print_stores.result _ _
          (λ status is. record { answer = is.answer; answers = whole is.answer is.answers; given = is.given }) c.print_stores.ensures.done;
      fault = blamed_of (PrintsStores quiet image names) (PrintsStoresOn board named image names) whole
          (not_data board image.regions named quiet is_quiet) (g.C.Console.journal c.args.console.now) (g.C.Console.journal c.print_stores.new.console)
          c.print_stores.result c.print_stores.ensures.fault;
    }
