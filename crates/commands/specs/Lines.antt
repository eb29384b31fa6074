-- The lines of a console: how each command is spelled.
use Rattle.std.specs.Prelude.{◌≡◌, ℕ, ◌^◌, ◌<◌, ◌≤◌, List, [], ◌∷◌, ◌++◌, length, codes, decimal, Result, MatchResult, ◌≢◌, slice_index}
use Rattle.model.specs.declared.order.Order.TheVariants.{Enter, Reweigh, Withdraw}
use Rattle.rules.specs.declared.refusal.Refusal.{Refusal}
use Rattle.rules.specs.declared.refusal.Refusal.TheVariants.{Unreadable}
use Rattle.commands.specs.declared.command.Command.{Command}
use Rattle.commands.specs.declared.command.Command.TheVariants.{Make, Place, Look, List as Listing}

-- The bytes of the line that spells a command: a letter, its numbers in decimal digits, one space before each, and the line feed (10).
abbrev pub spelled : Command → List ℕ
spelled (Make width capacity) = codes "m " ++ decimal width ++ codes " " ++ decimal capacity ++ 10 ∷ []
spelled (Place (Enter tag target)) = codes "e " ++ decimal tag ++ codes " " ++ decimal target ++ 10 ∷ []
spelled (Place (Reweigh tag target)) = codes "r " ++ decimal tag ++ codes " " ++ decimal target ++ 10 ∷ []
spelled (Place (Withdraw tag)) = codes "w " ++ decimal tag ++ 10 ∷ []
spelled (Look tag address) = codes "l " ++ decimal tag ++ codes " " ++ decimal address ++ 10 ∷ []
spelled Listing = codes "p" ++ 10 ∷ []

-- All numbers of a command are below 2 ^ 32.
abbrev pub Small : Command → Type 0
Small (Make width capacity) = (width < 2 ^ 32) × (capacity < 2 ^ 32)
Small (Place (Enter tag target)) = (tag < 2 ^ 32) × (target < 2 ^ 32)
Small (Place (Reweigh tag target)) = (tag < 2 ^ 32) × (target < 2 ^ 32)
Small (Place (Withdraw tag)) = tag < 2 ^ 32
Small (Look tag address) = (tag < 2 ^ 32) × (address < 2 ^ 32)
Small Listing = Unit {0}

-- The line spells no command.
abbrev pub Unspelled : List ℕ → Type 0
Unspelled line = (c : Command) → Small c → line ≢ spelled c

-- What the reading of a line answers: the command that it spells, and where it spells none, the refusal that it is unreadable.
abbrev pub Reads : List ℕ → Result Command Refusal → Type 0
Reads line r = MatchResult r (λ c. line ≡ spelled c) (λ why. (why ≡ Unreadable) × Unspelled line)

-- A byte that does not occur in a list.
abbrev pub Without : ℕ → List ℕ → Type 0
Without byte bytes = (k : ℕ) → k < length bytes → slice_index bytes k ≢ byte

-- The laws of the lines.
pub record Lawful : Type 0 where
  -- a line spells at most one command
  pub once : (c d : Command) → Small c → Small d → spelled c ≡ spelled d → c ≡ d
  -- no command's line is longer than 64 bytes
  pub short : (c : Command) → Small c → length (spelled c) ≤ 64
  -- a command's line ends in a line feed, and has no other one
  pub ended : (c : Command) → Small c → (front : List ℕ) × ((spelled c ≡ front ++ 10 ∷ []) × Without 10 front)
