-- What a look answers: the server of the longest match.
use Rattle.std.specs.Prelude.{◌≡◌, ℕ, zero, suc, ◌<◌, Some, None, Option}
use Rattle.std.specs.Option.{option_or}
use Rattle.rules.specs.declared.server.Server.{Server}
use Rattle.memory.specs.Keys.{Covers, cut}
use Rattle.memory.specs.Holding.{Held}

-- The longest match of a key: a held prefix that covers it, and no longer held prefix does.
pub record LongestMatch (held : Held) (key v l : ℕ) (s : Server) : Type 0 where
  pub covers : Covers v l key
  pub holds : held v l ≡ Some s
  pub none_longer : (w k : ℕ) → l < k → Covers w k key → held w k ≡ None

-- A look answers the server of the longest match, and none only where no held prefix covers the key.
abbrev pub Answered : Held → ℕ → Option Server → Type 0
Answered held key None = (v l : ℕ) → Covers v l key → held v l ≡ None
Answered held key (Some s) = (v : ℕ) × (l : ℕ) × LongestMatch held key v l s

-- The first answer from the length n down.
unfoldable pub down_from : ℕ → (ℕ → Option Server) → Option Server
down_from zero f = f zero
down_from (suc n) f = option_or (f (suc n)) (down_from n f)

-- The same answer as a function: try the key's prefixes from length 32 down.
abbrev pub longest : Held → ℕ → Option Server
longest held key = down_from 32 (λ l. held (cut key l) l)
