-- What a reader holds: a finite set of key rules, no two of them with one prefix.
use Rattle.std.specs.Prelude.{◌≡◌, ℕ, Bool, true, false, cond, not, ◌&&◌, ◌||◌, List, [], ◌∷◌, length, is_some, Some, None, Option, ◌==◌}
use Rattle.rules.specs.declared.server.Server.{Server}
use Rattle.rules.specs.Servers.{server_number}
use Rattle.memory.specs.declared.key.Prefix.{Prefix}
use Rattle.memory.specs.declared.key.KeyRule.{KeyRule}

-- For each exact prefix, a value and a length, the server of the rule that is held there, if one is.
abbrev pub Held : Type 0
Held = ℕ → ℕ → Option Server

-- The server at a prefix that was handed in.
abbrev pub at : Held → Prefix → Option Server
at held p = held p.value p.length

abbrev pub same_prefix : Prefix → ℕ → ℕ → Bool
same_prefix p v l = p.value == v && p.length == l

-- Whether a list of prefixes names this one.
abbrev pub among : List Prefix → ℕ → ℕ → Bool
among [] v l = false
among (p ∷ ps) v l = same_prefix p v l || among ps v l

-- Whether no prefix stands twice in a list.
abbrev pub apart : List Prefix → Bool
apart [] = true
apart (p ∷ ps) = not (among ps p.value p.length) && apart ps

-- n prefixes are held: some list of n prefixes has every held one, no other, and none of them twice.
pub record Counted (held : Held) (n : ℕ) : Type 0 where
  pub prefixes : List Prefix
  pub many : length prefixes ≡ n
  pub once : apart prefixes ≡ true
  pub exact : (v l : ℕ) → is_some (held v l) ≡ among prefixes v l

abbrev pub prefixes_of : List KeyRule → List Prefix
prefixes_of [] = []
prefixes_of (r ∷ rs) = r.prefix ∷ prefixes_of rs

-- What a reader holds that has just the rules of a list, no two of them with one prefix.
abbrev pub listed : List KeyRule → Held
listed [] v l = None
listed (r ∷ rs) v l = cond (same_prefix r.prefix v l) (Some r.server) (listed rs v l)

-- A reader holds exactly the rules of a list: no prefix stands twice in the list, and at every prefix the reader has what the list says.
pub record Exactly (held : Held) (rules : List KeyRule) : Type 0 where
  pub once : apart (prefixes_of rules) ≡ true
  pub exact : (v l : ℕ) → held v l ≡ listed rules v l

-- Whether a server is the one of an answer.
abbrev pub same_server : Option Server → Server → Bool
same_server None s = false
same_server (Some t) s = server_number t == server_number s

-- Whether each rule of a list is held.
abbrev pub all_held : Held → List KeyRule → Bool
all_held held [] = true
all_held held (r ∷ rs) = same_server (at held r.prefix) r.server && all_held held rs
