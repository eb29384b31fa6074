-- Numbers in decimal digits, and how long the texts of a listing are.
use Rattle.std.proofs.Common.{◌≡◌, ℕ, ◌+◌, ◌/◌, ◌%◌, ◌^◌, ◌<◌, ◌≤◌, ◌++◌, length, decimal, ap, ◌∙◌, arith}
use Rattle.std.proofs.lemmas.Fmt.{decimal_digit, decimal_step}
use Rattle.std.proofs.lemmas.List.{length-append, length_push}
use Rattle.rules.specs.Servers.{server_number}
use Rattle.switch.specs.Listings.{Standing, numbered, line, trailer}

pub one_digit : (n : ℕ) → n < 10 → length (decimal n) ≡ 1
one_digit n h = ap length (decimal_digit n h)

pub one_more : (n : ℕ) → 10 ≤ n → n < 2 ^ 32 → length (decimal n) ≡ length (decimal (n / 10)) + 1
one_more n h l = ap length (decimal_step n h (omega arith)) ∙ length_push (decimal (n / 10)) (48 + n % 10)

pub numbered_long : (n end : ℕ) → length (numbered n end) ≡ length (decimal n) + 1
numbered_long n end = length_push (decimal n) end

pub line_long : (s : Standing)
    → length (line s) ≡ length (decimal s.tag) + length (decimal s.rule.start) + length (decimal s.rule.length) + length (decimal (server_number s.rule.server)) + 4
line_long s =
    let a = numbered s.tag 32 in
    let b = numbered s.rule.start 32 in
    let c = numbered s.rule.length 32 in
    let d = numbered (server_number s.rule.server) 10 in
    omega (
      arith,
      length-append a (b ++ (c ++ d)),
      length-append b (c ++ d),
      length-append c d,
      numbered_long s.tag 32,
      numbered_long s.rule.start 32,
      numbered_long s.rule.length 32,
      numbered_long (server_number s.rule.server) 10,
    )

pub trailer_long : (back count : ℕ) → length (trailer back count) ≡ length (decimal back) + length (decimal count) + 7
unfolding trailer
trailer_long back count =
    omega (arith, length-append (numbered back 32) (numbered count 10), numbered_long back 32, numbered_long count 10)
