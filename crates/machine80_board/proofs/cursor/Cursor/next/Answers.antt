use Rattle.std.proofs.Common.{◌≡◌, ◌∙◌, ◌<◌, ◌≤◌, List, Some, length, get_or, ap, sym, subst, arith}
use Rattle.board80.specs.declared.byte_list.Item.{Item}
use Rattle.board80.specs.ByteList.{ListedBytes}
use Rattle.machine80_board.proofs.CursorLemmas.{gives_here, byte_in_item, stands_next, gives_for_ever, stands_for_ever, gives_none}
use Rattle.machine80_board.proofs.cursor.Cursor.next.Goals as goal

pub returns-then-self-len-clause-byte : goal.returns-then-self-len-clause-byte
returns-then-self-len-clause-byte c = λ given at.
    let whole : c.deref.result.now ≡ c.args.list.now.items = c.deref.ensures.value ∙ ap (λ (l : ListedBytes). l.items) c.list.view_is in
    let kept = c.pass_used.ensures.kept c.args.list.now given (sym whole) at in
    let within : c.pass_used.new.self.item < length c.deref.result.now = omega (arith, c.if-self-len.true, c.len.ensures, c.deref.ensures.len) in
    let inside = subst (λ (xs : List Item). c.pass_used.new.self.item < length xs) whole within in
    let is_here : c.index.result.now ≡ get_or c.deref.result.now c.pass_used.new.self.item c.index.result.now = subst (λ (xs : List Item). c.index.result.now ≡ get_or xs c.pass_used.new.self.item c.index.result.now) (sym c.deref.ensures.value) c.index.ensures in
    let is = subst (λ (xs : List Item). c.index.result.now ≡ get_or xs c.pass_used.new.self.item c.index.result.now) whole is_here in
    let below = c.pass_used.ensures.ready within c.index.result.now is_here in
    let g = gives_here c.args.list.now c.pass_used.new.self given c.index.result.now inside is below kept in
    ap Some (c.next_of.ensures.byte g.0) ∙ byte_in_item c.args.list.now c.pass_used.new.self.item c.pass_used.new.self.turn c.pass_used.new.self.place given c.index.result.now inside is below g.0 g.1

pub returns-then-self-len-clause-moved : goal.returns-then-self-len-clause-moved
returns-then-self-len-clause-moved c = λ given at.
    let whole : c.deref.result.now ≡ c.args.list.now.items = c.deref.ensures.value ∙ ap (λ (l : ListedBytes). l.items) c.list.view_is in
    let kept = c.pass_used.ensures.kept c.args.list.now given (sym whole) at in
    let within : c.pass_used.new.self.item < length c.deref.result.now = omega (arith, c.if-self-len.true, c.len.ensures, c.deref.ensures.len) in
    let inside = subst (λ (xs : List Item). c.pass_used.new.self.item < length xs) whole within in
    let is_here : c.index.result.now ≡ get_or c.deref.result.now c.pass_used.new.self.item c.index.result.now = subst (λ (xs : List Item). c.index.result.now ≡ get_or xs c.pass_used.new.self.item c.index.result.now) (sym c.deref.ensures.value) c.index.ensures in
    let is = subst (λ (xs : List Item). c.index.result.now ≡ get_or xs c.pass_used.new.self.item c.index.result.now) whole is_here in
    let below = c.pass_used.ensures.ready within c.index.result.now is_here in
    let g = gives_here c.args.list.now c.pass_used.new.self given c.index.result.now inside is below kept in
    stands_next c.args.list.now c.pass_used.new.self c.next_of.new.self given c.index.result.now inside is below g.0 g.1 c.next_of.ensures.moved

pub returns-in-Some-clause-byte : goal.returns-in-Some-clause-byte
returns-in-Some-clause-byte c = λ given at.
    let whole : c.deref.result.now ≡ c.args.list.now.items = c.deref.ensures.value ∙ ap (λ (l : ListedBytes). l.items) c.list.view_is in
    let kept = c.pass_used.ensures.kept c.args.list.now given (sym whole) at in
    let past : length c.deref.result.now ≤ c.pass_used.new.self.item = omega (arith, c.if-self-len.false, c.len.ensures, c.deref.ensures.len) in
    let behind = subst (λ (xs : List Item). length xs ≤ c.pass_used.new.self.item) whole past in
    let is = sym (ap (λ (l : ListedBytes). l.for_ever) c.list.view_is) ∙ c.in-Some.is in
    let g = gives_for_ever c.args.list.now c.pass_used.new.self given c.in-Some.bytes behind is kept in
    ap Some (c.next_in_turn.ensures.byte g.0) ∙ g.1

pub returns-in-Some-clause-moved : goal.returns-in-Some-clause-moved
returns-in-Some-clause-moved c = λ given at.
    let whole : c.deref.result.now ≡ c.args.list.now.items = c.deref.ensures.value ∙ ap (λ (l : ListedBytes). l.items) c.list.view_is in
    let kept = c.pass_used.ensures.kept c.args.list.now given (sym whole) at in
    let past : length c.deref.result.now ≤ c.pass_used.new.self.item = omega (arith, c.if-self-len.false, c.len.ensures, c.deref.ensures.len) in
    let behind = subst (λ (xs : List Item). length xs ≤ c.pass_used.new.self.item) whole past in
    let is = sym (ap (λ (l : ListedBytes). l.for_ever) c.list.view_is) ∙ c.in-Some.is in
    stands_for_ever c.args.list.now c.pass_used.new.self c.next_in_turn.new.self given c.in-Some.bytes behind is kept c.next_in_turn.ensures.moved

pub returns-in-None-clause-byte : goal.returns-in-None-clause-byte
returns-in-None-clause-byte c = λ given at.
    let whole : c.deref.result.now ≡ c.args.list.now.items = c.deref.ensures.value ∙ ap (λ (l : ListedBytes). l.items) c.list.view_is in
    let kept = c.pass_used.ensures.kept c.args.list.now given (sym whole) at in
    let past : length c.deref.result.now ≤ c.pass_used.new.self.item = omega (arith, c.if-self-len.false, c.len.ensures, c.deref.ensures.len) in
    let behind = subst (λ (xs : List Item). length xs ≤ c.pass_used.new.self.item) whole past in
    gives_none c.args.list.now c.pass_used.new.self given behind (sym (ap (λ (l : ListedBytes). l.for_ever) c.list.view_is) ∙ c.in-None.is) kept
