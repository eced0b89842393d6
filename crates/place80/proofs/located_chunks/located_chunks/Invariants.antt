use Rattle.std.proofs.Common.{◌≡◌, ◌++◌, map, drop}
use Rattle.place80.specs.Locating.{chunk_among}
use Rattle.place80.proofs.located_chunks.located_chunks.Given as goal

-- the chunks so far, and those of the contents that are left
abbrev pub invariant-loop-content : goal.invariant-loop-content
invariant-loop-content l =
    l.chunks.items ++ map (chunk_among l.segments) (drop l.content-index l.contents) ≡ map (chunk_among l.segments) l.contents
