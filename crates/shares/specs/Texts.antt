-- What is printed.
use Rattle.std.specs.Prelude.{◌≡◌, ℕ, ◌-◌, ◌^◌, List, [], ◌∷◌, ◌++◌, map, length, replicate, Some, None, codes, decimal, Option, nat_lt}
use Rattle.rules.specs.declared.refusal.Refusal.{Refusal}
use Rattle.rules.specs.declared.refusal.Refusal.TheVariants.{Unreadable, WidthOutOfRange, TagOutOfRange, BeyondWidth, TooManyServices}
use Rattle.rules.specs.declared.rule.Rule.{Rule}
use Rattle.plan.specs.Even.{even}
use Rattle.plan.specs.Measures.{Misses}
use Rattle.plan.specs.Nearest.{nearest}
use Rattle.plan.specs.Plans.{services, beyond, worst_miss, plan_weights, rule_total}
use Rattle.plan.specs.Relative.{relative}
use Rattle.rules.specs.Grounds.{bad_width, weight_grounds, limit_grounds}
use Rattle.rules.specs.Refusals.{Ground, ◌when◌, first}
use Rattle.rules.specs.Shortest.{L}
use Rattle.rules.specs.Tables.{table}
use Rattle.rules.specs.Texts.{rule_text}
use Rattle.shares.specs.declared.request.Request.{Request}
use Rattle.shares.specs.declared.request.Request.TheVariants.{Table, Nearest, Plan}
use Rattle.text.specs.Refused.{refusal_line}
use Rattle.shares.specs.Requests.{Spelled, Unspelled}

-- One rule: start, length and server.
abbrev pub rule_line : Rule → List ℕ
rule_line r = rule_text r ++ codes "\n"

abbrev pub rule_lines : List Rule → List ℕ
rule_lines [] = []
rule_lines (r ∷ rs) = rule_line r ++ rule_lines rs

-- The weight that the rules give, how many they are, and by how many they pass the fewest.
abbrev pub sum_line : ℕ → ℕ → ℕ → List ℕ
sum_line weight rules over =
    codes "weight " ++ (decimal weight ++ (codes " rules " ++ (decimal rules ++ (codes " over " ++ (decimal over ++ codes "\n")))))

-- A table is printed with exactly the weight asked for, the fewest rules, and none over.
abbrev pub table_answer : ℕ → ℕ → Option Refusal → List ℕ
table_answer W d (Some why) = refusal_line why
table_answer W d None = rule_lines (table W d) ++ sum_line d (L W d) 0

-- The nearest weight under one measure, its miss, and the rules of its table.
abbrev pub near_line : List ℕ → ℕ → ℕ → ℕ → List ℕ
near_line name weight miss rules =
    name ++ (codes " " ++ (decimal weight ++ (codes " miss " ++ (decimal miss ++ (codes " rules " ++ (decimal rules ++ codes "\n"))))))

abbrev pub nearest_line : List ℕ → Misses → ℕ → ℕ → ℕ → List ℕ
nearest_line name miss W c n = near_line name (nearest miss W c n) (miss W c (nearest miss W c n)) (L W (nearest miss W c n))

abbrev pub nearest_answer : ℕ → ℕ → ℕ → Option Refusal → List ℕ
nearest_answer W c n (Some why) = refusal_line why
nearest_answer W c n None = nearest_line (codes "even") even W c n ++ nearest_line (codes "relative") relative W c n

-- Services with the tags 0, 1, .. in order, of 64 tags.
abbrev pub tagged : List ℕ → List (Option ℕ)
tagged ts = map Some ts ++ replicate (64 - length ts) None

-- Grounds in their order: a width of 1 to 24, at most 64 services, targets of at most 2 ^ W, a rule for each service.
abbrev pub services_grounds : ℕ → ℕ → List ℕ → List Ground
services_grounds W R ts =
    (WidthOutOfRange when bad_width W) ∷ (TagOutOfRange when nat_lt 64 (length ts)) ∷ (BeyondWidth when beyond (2 ^ W) (tagged ts))
    ∷ (TooManyServices when nat_lt R (services (tagged ts))) ∷ []

-- A line for each target, with its weight in the plan and the rules of its table.
abbrev pub plan_line : ℕ → ℕ → ℕ → List ℕ
plan_line target weight rules =
    codes "target " ++ (decimal target ++ (codes " weight " ++ (decimal weight ++ (codes " rules " ++ (decimal rules ++ codes "\n")))))

abbrev pub plan_lines : ℕ → List ℕ → List (Option ℕ) → List ℕ
plan_lines W [] ds = []
plan_lines W (c ∷ ts) [] = []
plan_lines W (c ∷ ts) (None ∷ ds) = plan_lines W ts ds
plan_lines W (c ∷ ts) (Some d ∷ ds) = plan_line c d (L W d) ++ plan_lines W ts ds

abbrev pub worst_line : ℕ → ℕ → ℕ → List ℕ
worst_line worst rules capacity =
    codes "worst " ++ (decimal worst ++ (codes " rules " ++ (decimal rules ++ (codes " of " ++ (decimal capacity ++ codes "\n")))))

abbrev pub plan_answer : ℕ → ℕ → List ℕ → Option Refusal → List ℕ
plan_answer W R ts (Some why) = refusal_line why
plan_answer W R ts None =
    plan_lines W ts (plan_weights even W R (tagged ts))
    ++ worst_line (worst_miss even W R (tagged ts)) (rule_total W (plan_weights even W R (tagged ts))) R

abbrev pub text_of : Request → List ℕ
text_of (Table W d) = table_answer W d (first (weight_grounds W d))
text_of (Nearest W c n) = nearest_answer W c n (first (limit_grounds W c n))
text_of (Plan W R targets) = plan_answer W R targets.items (first (services_grounds W R targets.items))

-- The answer to a command line: the text of the request that it spells, or that it can't be read.
pub data Answered (words : List (List ℕ)) (text : List ℕ) : Type 0 where
  to : (q : Request) → Spelled words q → text ≡ text_of q → Answered words text
  unread : Unspelled words → text ≡ refusal_line Unreadable → Answered words text
