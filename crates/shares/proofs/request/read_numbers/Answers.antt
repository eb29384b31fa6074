use Rattle.std.proofs.Common.{string_bytes, ◌∙◌, arith}
use Rattle.shares.proofs.Words.{not_numbers}
use Rattle.shares.proofs.request.read_numbers.Goals as goal

pub returns-in_default : goal.returns-in_default
returns-in_default c =
    not_numbers string_bytes c.args.words.now c.loop-word.word-index c.word-item.result (omega arith) c.word-item.is
    (λ n h e. c.in_default.ensures n h (c.as_bytes.ensures.value ∙ e))
