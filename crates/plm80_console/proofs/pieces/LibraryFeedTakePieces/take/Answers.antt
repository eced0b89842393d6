use Rattle.std.proofs.{Common.◌∙◌, Common.ap, lemmas.Result.on_ok_weaker}
use Rattle.omf_library.specs.{LibraryFeed.LibraryFeedValue, Spelled.FaultsLibrary, declared.fault.LibraryFault.TheVariants.Memory}
use Rattle.plm80_console.proofs.PieceLemmas.{all_bytes, takes}
use Rattle.plm80_console.proofs.pieces.LibraryFeedTakePieces.take.Goals as goal

pub returns : goal.returns
returns c =
    let old = c.args.self.now in
    let new = c.piece.new.self in
    on_ok_weaker c.check_library_memory.result
    (takes FaultsLibrary Memory old.bytes new.bytes c.args.piece.now (all_bytes c.args.piece.now c.type_inv.piece) old.kept new.kept c.piece.result
    (record {
      keeps = λ f is. ap (λ (v : LibraryFeedValue). v.kept) (c.piece.ensures.kept f is).1 ∙ is;
      taken = on_ok_weaker c.piece.result (λ is. (ap (λ (v : LibraryFeedValue). v.bytes) is, ap (λ (v : LibraryFeedValue). v.kept) is)) c.piece.ensures.taken;
      fault = λ f none other is. let x = c.piece.ensures.fault f none other is in (x.0, ap (λ (v : LibraryFeedValue). v.kept) x.1);
    }))
    c.check_library_memory.ensures.taken
