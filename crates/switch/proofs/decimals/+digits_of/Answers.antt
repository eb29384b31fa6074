use Rattle.std.proofs.Common.{arith, lit<}
use Rattle.std.proofs.lemmas.Fmt.{length-decimal-le}
use Rattle.switch.proofs.Spelling.{one_digit, one_more}
use Rattle.switch.proofs.decimals.+digits_of.Goals as goal

pub returns-then-n-lt10 : goal.returns-then-n-lt10
returns-then-n-lt10 t c = let e = one_digit c.args.n (omega arith) in record { value = omega arith; few = omega arith }

pub returns-else-n-lt10 : goal.returns-else-n-lt10
returns-else-n-lt10 t c =
    let e = one_more c.args.n (omega arith) (omega arith) in
    let b = length-decimal-le 10 c.args.n (lit< tt) (omega arith) (omega arith) in
    record { value = omega arith; few = omega arith }
