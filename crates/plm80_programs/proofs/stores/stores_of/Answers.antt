use Rattle.plm80_programs.proofs.Names.{◌≡◌, IfOk-weaker, prints, ListedStores, ListsStores, stores_lines, stores_status}
use Rattle.plm80_programs.proofs.stores.stores_of.Goals as goal

pub returns : goal.returns
returns c =
    let quiet = c.args.quiet.now in
    let names = c.args.names.now in
    let program = c.args.vouched.now in
    let stores = c.in_ok-stores.stores in
    IfOk-weaker c.listed.result
    (λ (listed : ListedStores). listed.answer ≡ prints (stores_lines quiet program.image names stores) (stores_status stores))
    (λ (listed : ListedStores). ListsStores quiet names program listed.answer)
    (λ listed is. record {
      stores = stores;
      listed = c.in_ok-stores.ensures.listed;
      boards = c.in_ok-stores.ensures.boards;
      quiet_boards = c.in_ok-stores.ensures.quiet_boards;
      stack = c.in_ok-stores.ensures.stack;
      answer_is = is;
    }) c.listed.ensures
