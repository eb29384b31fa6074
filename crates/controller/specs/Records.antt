-- Rules as bytes: a record of eight bytes for each rule, one record behind the other.
use Rattle.std.specs.Prelude.{◌≡◌, ℕ, ◌+◌, ◌*◌, ◌/◌, ◌%◌, ◌^◌, ◌<◌, ◌≤◌, Bool, true, false, cond, ◌&&◌, List, [], ◌∷◌, ◌++◌, length, Some, None, Option, ◌==◌, ◌≢◌, slice_index}
use Rattle.std.specs.List.{AllByRecursion}
use Rattle.rules.specs.declared.rule.Rule.{Rule}
use Rattle.rules.specs.declared.server.Server.{Server}
use Rattle.rules.specs.Prefixes.{all_fit}
use Rattle.rules.specs.Servers.{server_number, server_of}

-- The start in four bytes, the most significant first, then the length, the server's number and two zeros.
abbrev pub record_of : Rule → List ℕ
record_of r =
    (r.start / 2 ^ 24 % 256) ∷ (r.start / 2 ^ 16 % 256) ∷ (r.start / 2 ^ 8 % 256) ∷ (r.start % 256)
    ∷ r.length ∷ server_number r.server ∷ 0 ∷ 0 ∷ []

abbrev pub records_of : List Rule → List ℕ
records_of [] = []
records_of (r ∷ rs) = record_of r ++ records_of rs

-- Reading goes the other way. A server by its number:
abbrev pub server_in : ℕ → Option Server
server_in n = server_of n

abbrev pub rule_to : ℕ → ℕ → Option Server → Option Rule
rule_to s l None = None
rule_to s l (Some x) = Some (record { start = s; length = l; server = x })

-- A record has eight bytes and ends in two zeros.
abbrev pub shaped : List ℕ → Bool
shaped b = length b == 8 && (slice_index b 6 == 0 && slice_index b 7 == 0)

abbrev pub start_in : List ℕ → ℕ
start_in b = slice_index b 0 * 2 ^ 24 + slice_index b 1 * 2 ^ 16 + slice_index b 2 * 2 ^ 8 + slice_index b 3

-- The rule of a record, where the bytes are one.
abbrev pub rule_in : List ℕ → Option Rule
rule_in b = cond (shaped b) (rule_to (start_in b) (slice_index b 4) (server_in (slice_index b 5))) None

abbrev pub ahead : Option Rule → Option (List Rule) → Option (List Rule)
ahead None rest = None
ahead (Some r) None = None
ahead (Some r) (Some rs) = Some (r ∷ rs)

-- The rules of records, where the bytes are records: eight after eight, and none cut short.
abbrev pub rules_in : List ℕ → Option (List Rule)
rules_in [] = Some []
rules_in (a ∷ []) = None
rules_in (a ∷ b ∷ []) = None
rules_in (a ∷ b ∷ c ∷ []) = None
rules_in (a ∷ b ∷ c ∷ d ∷ []) = None
rules_in (a ∷ b ∷ c ∷ d ∷ e ∷ []) = None
rules_in (a ∷ b ∷ c ∷ d ∷ e ∷ f ∷ []) = None
rules_in (a ∷ b ∷ c ∷ d ∷ e ∷ f ∷ g ∷ []) = None
rules_in (a ∷ b ∷ c ∷ d ∷ e ∷ f ∷ g ∷ h ∷ more) = ahead (rule_in (a ∷ b ∷ c ∷ d ∷ e ∷ f ∷ g ∷ h ∷ [])) (rules_in more)

-- The bytes are records, and their rules fit the width.
abbrev pub fitting : ℕ → Option (List Rule) → Bool
fitting W None = false
fitting W (Some rs) = all_fit W rs

abbrev pub in_layout : ℕ → List ℕ → Bool
in_layout W bytes = fitting W (rules_in bytes)

-- Writing and reading are inverse. Records of rules that fit a width are read as those rules; bytes that are read are the records of what they are
-- read as; and bytes that break the layout are the records of no rules that fit.
pub record RecordLaws : Type 0 where
  pub read_back : (W : ℕ) (rs : List Rule) → W ≤ 24 → all_fit W rs ≡ true → rules_in (records_of rs) ≡ Some rs
  pub exact : (bytes : List ℕ) (rs : List Rule) → AllByRecursion (λ b. b < 256) bytes → rules_in bytes ≡ Some rs → bytes ≡ records_of rs
  pub broken : (W : ℕ) (bytes : List ℕ) → W ≤ 24 → in_layout W bytes ≡ false → (rs : List Rule) → all_fit W rs ≡ true → bytes ≢ records_of rs
