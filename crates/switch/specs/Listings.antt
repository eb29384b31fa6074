-- The listing of the standing rules: a line for each, and a trailer by which a reader finds back to the first line.
use Rattle.std.specs.Prelude.{◌≡◌, ℕ, ◌+◌, ◌-◌, ◌^◌, ◌<◌, List, [], ◌∷◌, ◌++◌, map, length, take, drop, None, codes, decimal, sum_by, Option, nat_lt, slice_index_or}
use Rattle.std.specs.List.{flat_map, AllByRecursion}
use Rattle.rules.specs.declared.refusal.Refusal.TheVariants.{BufferTooShort}
use Rattle.rules.specs.declared.rule.Rule.{Rule}
use Rattle.rules.specs.Refusals.{Ground, ◌when◌}
use Rattle.rules.specs.Servers.{server_number}
use Rattle.memory.specs.declared.key.KeyRule.{KeyRule}
use Rattle.plan.specs.Plans.{rule_total}
use Rattle.model.specs.Keyed.{keyed, tags, table_of, key_rules}

-- A standing rule: the tag of its service, and the rule of the service's table.
pub record Standing : Type 0 where
  pub tag : ℕ
  pub rule : Rule

abbrev pub under : ℕ → Rule → Standing
under t r = record { tag = t; rule = r }

-- The rules of the service under the tag t, in table order, where ds has the weight of each service by tag.
unfoldable pub standing_of : ℕ → List (Option ℕ) → ℕ → List Standing
standing_of W ds t = map (under t) (table_of W (slice_index_or ds t None))

-- The rules of all services, by rising tag and in table order.
unfoldable pub standing : ℕ → List (Option ℕ) → List Standing
standing W ds = flat_map (standing_of W ds) tags

-- ---- the text

-- A number in decimal digits, and the byte behind it: 32 is a space, 10 a line feed.
abbrev pub numbered : ℕ → ℕ → List ℕ
numbered n end = decimal n ++ (end ∷ [])

-- One line: tag, start, length and server.
abbrev pub line : Standing → List ℕ
line s = numbered s.tag 32 ++ (numbered s.rule.start 32 ++ (numbered s.rule.length 32 ++ numbered (server_number s.rule.server) 10))

-- The lines of some rules, one behind the other.
abbrev pub lines : List Standing → List ℕ
lines ss = flat_map line ss

-- The last line: how many bytes it is back from its first byte to the first line, and how many lines there are.
unfoldable pub trailer : ℕ → ℕ → List ℕ
trailer back count = codes "back " ++ (numbered back 32 ++ numbered count 10)

unfoldable pub text_of : List Standing → List ℕ
text_of ss = lines ss ++ trailer (length (lines ss)) (length ss)

-- The listing where ds has the weight of each service by tag.
unfoldable pub listing : ℕ → List (Option ℕ) → List ℕ
listing W ds = text_of (standing W ds)

-- What a buffer holds once a text is written over its front.
abbrev pub over : List ℕ → List ℕ → List ℕ
over text buffer = text ++ drop (length text) buffer

-- The same where the first bytes of the buffer are in use, and the text is written behind them.
abbrev pub behind : ℕ → List ℕ → List ℕ → List ℕ
behind used text buffer = take used buffer ++ (text ++ drop (used + length text) buffer)

-- The one ground: a text that is longer than the buffer.
abbrev pub list_grounds : ℕ → ℕ → List Ground
list_grounds text buffer = (BufferTooShort when nat_lt buffer text) ∷ []

-- ---- reading it back

-- A rule whose numbers fit 32 bits.
abbrev pub Small : Standing → Type 0
Small s = (s.tag < 2 ^ 32) × (s.rule.start < 2 ^ 32) × (s.rule.length < 2 ^ 32)

-- The bytes are the lines of just these rules, in this order, and their trailer.
pub record Lists (bytes : List ℕ) (ss : List Standing) : Type 0 where
  pub small : AllByRecursion Small ss
  pub text : bytes ≡ text_of ss

-- How many bytes the lines take: the sum of their lengths.
abbrev pub way_back : List Standing → ℕ
way_back ss = sum_by (λ s. length (line s)) ss

-- A standing rule as a key rule.
abbrev pub as_key : ℕ → Standing → KeyRule
as_key W s = keyed W s.tag s.rule

-- What a reader learns from the bytes of a listing: the standing rules and no others, since no other list of rules has these bytes. As key rules they
-- are what a memory holds at rest. Wherever in a buffer the listing stands, the trailer comes behind its lines and tells their bytes and their
-- number, and so many bytes back from the trailer's first byte the first line begins.
pub record ReadBack (W : ℕ) (ds : List (Option ℕ)) (bytes : List ℕ) : Type 0 where
  pub lists : Lists bytes (standing W ds)
  pub only : (ss : List Standing) → Lists bytes ss → ss ≡ standing W ds
  pub held : map (as_key W) (standing W ds) ≡ key_rules W ds
  pub trailer_at : (front : List ℕ) → drop (length front + way_back (standing W ds)) (front ++ bytes) ≡ trailer (way_back (standing W ds)) (rule_total W ds)
  pub first_line : (front : List ℕ)
      → take (way_back (standing W ds)) (drop (length front + way_back (standing W ds) - way_back (standing W ds)) (front ++ bytes)) ≡ lines (standing W ds)
