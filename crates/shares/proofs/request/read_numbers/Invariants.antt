use Rattle.std.proofs.Common.{◌≡◌, map, take, vec_items, string_bytes, decimal}
use Rattle.shares.proofs.request.read_numbers.Given as goal

abbrev pub invariant-loop-word : goal.invariant-loop-word
invariant-loop-word l = map string_bytes (take l.word-index l.words) ≡ map decimal (vec_items l.numbers)
