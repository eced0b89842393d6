-- Two links are equal where all their parts are.
use Rattle.std.specs.Prelude.{◌≡◌, Bool, true, ◌&&◌, nat_eq}
use Rattle.std.specs.Cmp.{unsigned_Decides, first_so, second_so}
use Rattle.frames80.specs.Word.{word_eq, word_decides}
use Rattle.frames80_interned.specs.declared.link.Link.{Link}

abbrev pub link_eq : Link → Link → Bool
link_eq a b = nat_eq a.below b.below && (word_eq a.word b.word && (nat_eq a.height b.height && nat_eq a.skip b.skip))

pub link_same : (a b : Link) → link_eq a b ≡ true → a ≡ b
link_same a b same =
    let ends = nat_eq a.height b.height && nat_eq a.skip b.skip in
    let rest = second_so (nat_eq a.below b.below) (word_eq a.word b.word && ends) same in
    let last = second_so (word_eq a.word b.word) ends rest in
    let e1 : a.below ≡ b.below = (unsigned_Decides a.below b.below).0 (first_so (nat_eq a.below b.below) (word_eq a.word b.word && ends) same) in
    let e2 : a.word ≡ b.word = (word_decides a.word b.word).0 (first_so (word_eq a.word b.word) ends rest) in
    let e3 : a.height ≡ b.height = (unsigned_Decides a.height b.height).0 (first_so (nat_eq a.height b.height) (nat_eq a.skip b.skip) last) in
    let e4 : a.skip ≡ b.skip = (unsigned_Decides a.skip b.skip).0 (second_so (nat_eq a.height b.height) (nat_eq a.skip b.skip) last) in
    λ i. record { below = e1 i; word = e2 i; height = e3 i; skip = e4 i }
