use Rattle.std.proofs.Common.{◌≡◌, ◌+◌, ◌*◌, length, take}
use Rattle.std.specs.Iterator.Adapters.{enumerate_count, enumerate_source}
use Rattle.std.specs.Slice.Iter.{chunks_rest, chunks_size}
use Rattle.controller.specs.Records.{rules_in}
use Rattle.controller.proofs.Reading.{behind}
use Rattle.controller.proofs.counts.read_rules.Given as goal

-- the rules read so far stand ahead of those in the bytes that are left
abbrev pub invariant-loop-place : goal.invariant-loop-place
invariant-loop-place l =
    let count = enumerate_count l.place-iterator in
    let chunks = enumerate_source l.place-iterator in
    (chunks_size chunks ≡ 8)
    × (8 * count + length (chunks_rest chunks) ≡ length l.records)
    × (length l.rules ≡ 1024)
    × (rules_in l.records ≡ behind (take count l.rules) (rules_in (chunks_rest chunks)))
