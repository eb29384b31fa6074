use Rattle.std.proofs.Common.{◌≡◌, take, sym, arith}
use Rattle.std.proofs.lemmas.List.{take_all}
use Rattle.std.proofs.lemmas.Str.Parse.{digit_at}
use Rattle.text.proofs.Decimal.{looks, written, more}
use Rattle.text.proofs.number.read_number.Goals as goal

pub returns-then-text-eq0 : goal.returns-then-text-eq0
returns-then-text-eq0 c = λ n h e. let f = looks _ n h e in grind (arith, f.some, f.short, f.plain)

pub returns-then-digit-lt48 : goal.returns-then-digit-lt48
returns-then-digit-lt48 c =
    λ n h e. let f = looks _ n h e in grind (arith, digit_at c.args.text.now c.loop-digit.digit-index f.digits (omega arith))

pub loop-digit-preserved : goal.loop-digit-preserved
loop-digit-preserved c =
    more c.args.text.now c.loop-digit.digit-index c.loop-digit.value (omega arith) (omega arith) (omega arith) c.loop-digit.invariant.0
    c.loop-digit.invariant.1

pub returns-then-value-ge4294967296 : goal.returns-then-value-ge4294967296
returns-then-value-ge4294967296 c =
    let all : take c.loop-digit.digit-index c.args.text.now ≡ c.args.text.now = take_all _ _ (omega arith) in
    let is = rw all at c.loop-digit.invariant.1 in
    λ n h e. let f = looks _ n h e in omega (arith, is, f.worth)

pub returns : goal.returns
returns c =
    let all : take c.loop-digit.digit-index c.args.text.now ≡ c.args.text.now = take_all _ _ (omega arith) in
    let is = rw all at c.loop-digit.invariant.1 in
    written _ _ (rw all at c.loop-digit.invariant.0) (omega arith) (λ z. grind arith) (sym is) (omega arith)
