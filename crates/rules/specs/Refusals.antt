-- The refusals by number, and how a call finds the one that it answers with.
use Rattle.std.specs.Prelude.{ℕ, Bool, cond, List, [], ◌∷◌, Some, None, Ok, Err, Option, Result}
use Rattle.rules.specs.declared.refusal.Refusal.{Refusal}
use Rattle.rules.specs.declared.refusal.Refusal.TheVariants.{Unreadable, AboveCeiling, WidthOutOfRange, MemoryNotEmpty, StateMismatch, StepsMismatch, TagOutOfRange, BeyondWidth, AlreadyRegistered, NotRegistered, TooManyServices, RuleCountOutOfRange, BrokenLayout, MemoryFull, NothingToRemove, BufferTooShort}

abbrev pub refusal_number : Refusal → ℕ
refusal_number Unreadable = 1
refusal_number AboveCeiling = 2
refusal_number WidthOutOfRange = 3
refusal_number MemoryNotEmpty = 4
refusal_number StateMismatch = 5
refusal_number StepsMismatch = 6
refusal_number TagOutOfRange = 7
refusal_number BeyondWidth = 8
refusal_number AlreadyRegistered = 9
refusal_number NotRegistered = 10
refusal_number TooManyServices = 11
refusal_number RuleCountOutOfRange = 12
refusal_number BrokenLayout = 13
refusal_number MemoryFull = 14
refusal_number NothingToRemove = 15
refusal_number BufferTooShort = 16

-- A ground: the refusal, and whether it fits.
infix 15 ◌when◌
pub data Ground : Type 0 where
  ◌when◌ : Refusal → Bool → Ground

-- A call tries its grounds in the order of its list, and the first that fits decides; where none fits, the call is carried out.
abbrev pub first : List Ground → Option Refusal
first [] = None
first ((why when fits) ∷ grounds) = cond fits (Some why) (first grounds)

-- What a call refused with, if it refused.
abbrev pub refusal : {T : Type 0} → Result T Refusal → Option Refusal
refusal (Ok x) = None
refusal (Err why) = Some why
