use Rattle.std.proofs.{Common.◌∙◌, Common.ap, lemmas.Result.on_ok_weaker}
use Rattle.omf_module.specs.{Fault.no_memory, FileFeed.FileFeedValue, Spelled.FaultsFile}
use Rattle.plm80_console.proofs.PieceLemmas.{all_bytes, other_fault, takes}
use Rattle.plm80_console.proofs.pieces.FileFeedTakePieces.take.Goals as goal

pub returns : goal.returns
returns c =
    let old = c.args.self.now in
    let new = c.piece.new.self in
    on_ok_weaker c.check_module_memory.result
    (takes FaultsFile no_memory old.bytes new.bytes c.args.piece.now (all_bytes c.args.piece.now c.type_inv.piece) old.kept new.kept c.piece.result
    (record {
      keeps = λ f is. ap (λ (v : FileFeedValue). v.kept) (c.piece.ensures.kept f is).1 ∙ is;
      taken = on_ok_weaker c.piece.result (λ is. (ap (λ (v : FileFeedValue). v.bytes) is, ap (λ (v : FileFeedValue). v.kept) is)) c.piece.ensures.taken;
      fault = λ f none other is.
          let x = other_fault _ c.piece.result f (c.piece.ensures.fault none) other is in (x.0, ap (λ (v : FileFeedValue). v.kept) x.1);
    }))
    c.check_module_memory.ensures.taken
