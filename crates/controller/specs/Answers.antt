-- What the two calls answer and write, by the ground on which they refuse, if there is one.
use Rattle.std.specs.Prelude.{◌≡◌, ℕ, ◌*◌, true, List, ◌++◌, length, drop, Some, None, Option}
use Rattle.rules.specs.declared.counter.Count.{Count}
use Rattle.rules.specs.declared.refusal.Refusal.{Refusal}
use Rattle.rules.specs.declared.rule.Rule.{Rule}
use Rattle.rules.specs.Counts.{Counted}
use Rattle.rules.specs.Prefixes.{all_fit}
use Rattle.rules.specs.Refusals.{refusal_number}
use Rattle.rules.specs.Tables.{table, ShortestTable}
use Rattle.controller.specs.declared.answers.TableAnswer.{TableAnswer}
use Rattle.controller.specs.declared.answers.CountAnswer.{CountAnswer}
use Rattle.controller.specs.Records.{records_of, rules_in}

-- Refused: the refusal's number, and zeros.
abbrev pub no_table : Refusal → TableAnswer
no_table why = record { refusal = refusal_number why; rules = 0 }

abbrev pub no_count : Refusal → CountAnswer
no_count why = record { refusal = refusal_number why; one = 0; two = 0; unmatched = 0; complete = 0; excess = 0 }

-- Carried out: no refusal has the number 0.
abbrev pub table_of : ℕ → TableAnswer
table_of n = record { refusal = 0; rules = n }

-- A count is complete where it has an excess.
abbrev pub has_excess : Option ℕ → ℕ
has_excess None = 0
has_excess (Some x) = 1

abbrev pub excess_or_0 : Option ℕ → ℕ
excess_or_0 None = 0
excess_or_0 (Some x) = x

abbrev pub count_of : Count → CountAnswer
count_of c =
    record { refusal = 0; one = c.one; two = c.two; unmatched = c.unmatched; complete = has_excess c.excess; excess = excess_or_0 c.excess }

-- The buffer held `before` and now holds `after`: the records of the table in its order, and behind them what stood there.
pub record Written (W d : ℕ) (before after : List ℕ) (a : TableAnswer) : Type 0 where
  pub answer : a ≡ table_of (length (table W d))
  pub bytes : after ≡ records_of (table W d) ++ drop (8 * length (table W d)) before
  pub shortest : ShortestTable W d (table W d)

-- The bytes are the records of some rules that fit, and no other rules are read from them; the answer is what the counter finds in these.
pub record Read (W : ℕ) (bytes : List ℕ) (a : CountAnswer) : Type 0 where
  pub rules : List Rule
  pub records : bytes ≡ records_of rules
  pub decoded : rules_in bytes ≡ Some rules
  pub fit : all_fit W rules ≡ true
  pub count : Count
  pub counted : Counted W rules count
  pub answer : a ≡ count_of count

-- Each call refused, and carried out.
abbrev pub Tabled : ℕ → ℕ → List ℕ → List ℕ → TableAnswer → Option Refusal → Type 0
Tabled W d before after a (Some why) = (a ≡ no_table why) × (after ≡ before)
Tabled W d before after a None = Written W d before after a

abbrev pub Tallied : ℕ → List ℕ → CountAnswer → Option Refusal → Type 0
Tallied W bytes a (Some why) = a ≡ no_count why
Tallied W bytes a None = Read W bytes a
