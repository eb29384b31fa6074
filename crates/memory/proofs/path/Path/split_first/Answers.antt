use Rattle.std.proofs.Common.{◌≡◌, ◌-◌, ◌*◌, ◌%◌, ◌^◌, ◌<◌, ◌≤◌, sym, subst, arith}
use Rattle.std.proofs.lemmas.Nat.{one_shl}
use Rattle.memory.specs.Tries.{half, Within}
use Rattle.memory.proofs.Halves.{within_one, within_zero}
use Rattle.memory.proofs.path.Path.split_first.Goals as goal
use Rattle.memory.proofs.path.Path.split_first.Goals.{then-bit, else-bit}

pub invariant_of-rest : goal.invariant_of-rest
invariant_of-rest c =
    let me = c.args.self in
    let some : 0 < me.length = omega arith in
    let half_is : 1 * 2 ^ (me.height - 1) % 4294967296 ≡ half me.height = one_shl (me.height - 1) 32 (omega arith) in
    let within : Within (me.height - 1) (me.length - 1) c.if-bit.rest =
    elim c.if-bit.branch [
      | then-bit w ↦ let h : half me.height ≤ me.value = omega (arith, half_is, w.if-bit.true) in let e : c.if-bit.rest ≡ me.value - half me.height = omega (arith, half_is, w.rest-is) in subst (Within (me.height - 1) (me.length - 1)) (sym e) (within_one me.height me.length me.value me.within some h)
      | else-bit w ↦ let h : me.value < half me.height = omega (arith, half_is, w.if-bit.false) in subst (Within (me.height - 1) (me.length - 1)) (sym w.rest-is) (within_zero me.height me.length me.value me.within some h)
    ] in
    record { within = within; low = omega arith }
