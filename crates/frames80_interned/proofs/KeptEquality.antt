-- Two kept frames are equal where all their parts are.
use Rattle.std.specs.Prelude.{◌≡◌, Bool, true, ◌&&◌, nat_eq, refl}
use Rattle.std.specs.Cmp.{unsigned_Decides, first_so, second_so}
use Rattle.frames80.specs.Word.{word_eq, word_decides}
use Rattle.frames80_interned.specs.declared.interned_frame.InternedFrame.{InternedFrame}

abbrev pub kept_eq : InternedFrame → InternedFrame → Bool
kept_eq a b = nat_eq a.taken b.taken && (nat_eq a.words b.words && (word_eq a.bc b.bc && (word_eq a.de b.de && word_eq a.hl b.hl)))

pub kept_same : (a b : InternedFrame) → kept_eq a b ≡ true → a ≡ b
kept_same a b same =
    let last = word_eq a.de b.de && word_eq a.hl b.hl in
    let pairs = word_eq a.bc b.bc && (word_eq a.de b.de && word_eq a.hl b.hl) in
    let rest = nat_eq a.words b.words && (word_eq a.bc b.bc && (word_eq a.de b.de && word_eq a.hl b.hl)) in
    let h1 = second_so (nat_eq a.taken b.taken) rest same in
    let h2 = second_so (nat_eq a.words b.words) pairs h1 in
    let h3 = second_so (word_eq a.bc b.bc) last h2 in
    let e1 : a.taken ≡ b.taken = (unsigned_Decides a.taken b.taken).0 (first_so (nat_eq a.taken b.taken) rest same) in
    let e2 : a.words ≡ b.words = (unsigned_Decides a.words b.words).0 (first_so (nat_eq a.words b.words) pairs h1) in
    let e3 : a.bc ≡ b.bc = (word_decides a.bc b.bc).0 (first_so (word_eq a.bc b.bc) last h2) in
    let e4 : a.de ≡ b.de = (word_decides a.de b.de).0 (first_so (word_eq a.de b.de) (word_eq a.hl b.hl) h3) in
    let e5 : a.hl ≡ b.hl = (word_decides a.hl b.hl).0 (second_so (word_eq a.de b.de) (word_eq a.hl b.hl) h3) in
    λ i. record { taken = e1 i; words = e2 i; bc = e3 i; de = e4 i; hl = e5 i }

pub kept_own : (a : InternedFrame) → kept_eq a a ≡ true
kept_own a = rw ((unsigned_Decides a.taken a.taken).1 refl, (unsigned_Decides a.words a.words).1 refl, (word_decides a.bc a.bc).1 refl, (word_decides a.de a.de).1 refl, (word_decides a.hl a.hl).1 refl) refl
