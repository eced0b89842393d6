use Rattle.verify80_stores.proofs.Names.{◌≡◌, rules, subst, length, AreReached, SetsStack, code_of, true, List, Located, Note}
use Rattle.verify80_stores.proofs.Names.{AreOpen, is_listed, memory_of, HasBytes, RunsKeepTo, AreShown, KeptTable, is_quiet}
use Rattle.verify80_stores.proofs.Names.{is_pchl, AreAllBelow, AreStoresOf, PromiseHoldsOnQuietBoards, is_at, stores_by_pair}
use Rattle.verify80_stores.proofs.{ListLemmas.all_of, StoreLemmas.are_stores, BoardLemmas.holds_on_boards, BoardLemmas.holds_on_quiet_boards}
use Rattle.verify80_stores.proofs.finding.find_stores.Goals as goal

pub returns : goal.returns
returns c =
    let are : AreReached (code_of c.args.vouched.now.image) c.instructions-reached.result.now = search rules in
    let whole : length c.instructions-reached.result.now ≡ 65536 = search rules in
    let vouched = c.args.vouched.now in
    let known = c.runs_of.ensures in
    let quiet = is_quiet vouched.image.regions c.args.quiet.now in
    let reached = c.instructions-reached.result.now in
    let notes = c.in_ok-shown.shown.items in
    let addresses = c.in_ok-addresses.addresses.items in
    let stores = c.in_ok-open.open.items in
    let jumps = c.in_ok-jumps.jumps.items in
    let open_jumps = c.in_ok-open_jumps.open_jumps.items in
    let keeps : (t : KeptTable vouched.image quiet) → RunsKeepTo vouched.image t.table = λ t. c.fitting_states_hold.ensures.keep vouched.image vouched.stack_bytes quiet t.table known.sound known.walks t.kept in
    let shown : AreShown vouched.image quiet reached notes = subst (λ (i : Located). AreShown i (is_quiet i.regions c.args.quiet.now) reached notes) c.image-image.ensures.image c.in_ok-shown.ensures in
    let each_store : AreAllBelow (is_at stores_by_pair reached) 65536 addresses = all_of (is_at stores_by_pair reached) addresses c.in_ok-addresses.ensures in
    let each_open : AreOpen reached notes stores = subst (λ (n : List Note). AreOpen reached n stores) c.deref-2.ensures.value c.in_ok-open.ensures in
    let each_jump : AreAllBelow (is_at is_pchl reached) 65536 jumps = all_of (is_at is_pchl reached) jumps c.in_ok-jumps.ensures in
    let each_open_jump : AreAllBelow (is_listed is_pchl true reached notes) 65536 open_jumps =
    subst (λ (n : List Note). AreAllBelow (is_listed is_pchl true reached n) 65536 open_jumps) c.deref-4.ensures.value
    (all_of (is_listed is_pchl true reached c.deref-4.result.now) open_jumps c.in_ok-open_jumps.ensures) in
    let listed : AreStoresOf vouched.image addresses stores jumps open_jumps =
    are_stores vouched.image vouched.stack_bytes quiet reached notes addresses stores jumps open_jumps known.sound known.walks are whole keeps shown each_store each_open each_jump each_open_jump in
    let on_quiet : PromiseHoldsOnQuietBoards vouched.image quiet vouched.stack_bytes stores open_jumps =
    holds_on_quiet_boards vouched.image vouched.stack_bytes quiet reached notes addresses stores jumps open_jumps known.sound known.walks are whole keeps shown each_store each_open each_jump each_open_jump
    known c.bytes_stay_bytes.ensures.bytes in
    record {
      listed = listed;
      boards = holds_on_boards vouched.image c.args.quiet.now vouched.stack_bytes stores open_jumps on_quiet;
      quiet_boards = on_quiet;
      stack = subst (λ (i : Located). c.in_ok-sets_stack.field-0 ≡ true → SetsStack i) c.image-image.ensures.image c.in_ok-sets_stack.ensures;
      watched = c.watched_runs_go_as_listed.ensures vouched.image addresses stores jumps open_jumps (subst (λ (i : Located). HasBytes (memory_of i.chunks)) c.image-image.ensures.image c.in_ok-holds_bytes.ensures) listed;
    }
