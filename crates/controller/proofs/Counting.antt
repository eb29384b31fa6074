-- What the counter says of the rules in some bytes.
use Rattle.std.proofs.Common.{◌≡◌, ℕ, suc, ◌<◌, true, List, [], ◌∷◌, get_or, IfOk, Some, None, Ok, Err, Result, refl, arith}
use Rattle.std.specs.List.{AllByRecursion}
use Rattle.std.proofs.lemmas.Bool.Decides.{nat_tests}
use Rattle.rules.specs.declared.counter.Count.{Count}
use Rattle.rules.specs.declared.refusal.Refusal.{Refusal}
use Rattle.rules.specs.declared.rule.Rule.{Rule}
use Rattle.rules.specs.Counts.{Counted}
use Rattle.rules.specs.Grounds.{count_grounds}
use Rattle.rules.specs.Prefixes.{all_fit}
use Rattle.rules.specs.Refusals.{first, refusal}
use Rattle.controller.specs.Answers.{Read, count_of}
use Rattle.controller.specs.Records.{rules_in}
use Rattle.controller.proofs.Inverse.{record_laws}

all_bytes : (bs : List ℕ) → ((i : ℕ) → get_or bs i 0 < 256) → AllByRecursion (λ b. b < 256) bs
all_bytes [] h = tt
all_bytes (b ∷ bs) h = (h 0, all_bytes bs (λ i. h (suc i)))

module _ (W : ℕ) (bytes : List ℕ) (rs : List Rule) (e : rules_in bytes ≡ Some rs) where
  all_fitting : None ≡ first (count_grounds W rs) → all_fit W rs ≡ true
  all_fitting n = grind (arith, nat_tests)

  pub read_and_counted : ((i : ℕ) → get_or bytes i 0 < 256) → (r : Result Count Refusal) → refusal r ≡ first (count_grounds W rs) → IfOk r (λ c. Counted W rs c)
      → IfOk r (λ c. Read W bytes (count_of c))
  read_and_counted small (Ok c) n k =
      record { rules = rs; records = record_laws.exact bytes rs (all_bytes bytes small) e; decoded = e; fit = all_fitting n; count = c; counted = k; answer = refl }
  read_and_counted small (Err why) n k = tt
