-- The line that is being read, in bounded memory.
use Rattle.std.specs.Prelude.{◌≡◌, ℕ, List, length, take, nat_lt}
use Rattle.commands.specs.declared.pending.Pending.{Pending}

-- The bytes of the line so far are p: the first 64 of them are kept, and it is known whether there were more.
pub record Holds (p : List ℕ) (pending : Pending) : Type 0 where
  pub front : take pending.len pending.bytes ≡ take 64 p
  pub beyond : pending.more ≡ nat_lt 64 (length p)
