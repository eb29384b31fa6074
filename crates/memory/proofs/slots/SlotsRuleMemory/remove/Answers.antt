use Rattle.std.proofs.Common.{is_some, sym, refl, ap, arith}
use Rattle.memory.specs.RowLaws.{row_some}
use Rattle.memory.proofs.RowSearches.{found, missing}
use Rattle.memory.proofs.Writing.{remove_there, remove_absent}
use Rattle.memory.proofs.slots.SlotsRuleMemory.remove.Goals as goal

pub strike-requires : goal.strike-requires
strike-requires c =
    let there = found c.args.self.now.rows.items c.args.prefix.value c.args.prefix.length c.in-Some.i c.in-Some.ensures in
    record { row = there.0; within = omega (arith, there.1, c.args.self.now.rows.ok.0) }

pub returns-in-Some : goal.returns-in-Some
returns-in-Some c =
    let rs = c.args.self.now.rows.items in
    let there = found rs c.args.prefix.value c.args.prefix.length c.in-Some.i c.in-Some.ensures in
    let old = row_some rs c.args.prefix.value c.args.prefix.length (omega (arith, there.0, there.1)) in
    record {
      rules = remove_there c.args.prefix _ (sym c.if-not-is_well_formed.ensures) old.0 old.1 c.strike.ensures.holds c.strike.ensures.len;
      tells = sym (ap is_some old.1);
      limit = c.strike.ensures.capacity;
    }

pub returns : goal.returns
returns c =
    let absent = missing c.args.self.now.rows.items c.args.prefix.value c.args.prefix.length c.in_default.ensures in
    record {
      rules = remove_absent c.args.prefix _ (sym c.if-not-is_well_formed.ensures) absent (λ v l. refl) refl;
      tells = sym (ap is_some absent);
      limit = refl;
    }
