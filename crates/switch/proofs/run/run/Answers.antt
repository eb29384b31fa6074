use Rattle.std.proofs.Common.{ℕ, length, take, Option, sym, refl, ap, ◌∙◌, arith}
use Rattle.std.proofs.lemmas.Bool.{cond-false, le-ltb}
use Rattle.rules.specs.declared.refusal.Refusal.{Refusal}
use Rattle.plan.specs.Measures.{Misses, Lawful}
use Rattle.model.specs.Models.{made, kept_if}
use Rattle.model.proofs.Laws.{law}
use Rattle.switch.specs.Calls.{fresh}
use Rattle.switch.specs.Desks.{desk, view, View}
use Rattle.switch.proofs.Running.{admits, start_kept}
use Rattle.switch.proofs.run.run.Goals as goal

pub returns : goal.returns
returns g c =
    let miss : Misses = g.E.Measure.miss c.args.measure.now in
    let lawful : Lawful miss = g.met.E.Measure.lawful c.args.measure.now in
    let W : ℕ = c.args.width in
    let R : ℕ = g.M.RuleMemory.limit c.args.memory.now in
    let v : View = view g.M.Reader.held_at g.M.Reader.size g.M.RuleMemory.limit c.args.memory.now in
    let done = c.in_ok-resting.ensures in
    let a = admits W v.size done.refused in
    let start = start_kept miss W R lawful a.low a.high (desk c.make.new.register) v c.in_ok-resting.resting
    (done.register ∙ ap (λ (o : Option Refusal). kept_if o (desk c.args.register.now) (fresh W R)) (sym done.refused)) refl a.empty
    (g.met.M.Reader.counted c.args.memory.now) in
    let chain = c.carry_on.ensures.followed (made W R) start in
    let m = c.carry_on.new.memory in
    record {
      refused = sym (cond-false _ _ _ (le-ltb (length c.args.answers.now) (length c.args.calls.now) (omega arith)) ∙ sym done.refused);
      law = law miss lawful W R a.low a.high c.args.calls.now (take (length c.args.calls.now) c.carry_on.new.answers)
          (g.M.Reader.held_at m) (g.M.Reader.size m) chain.answers_are chain.kept.under.holds (g.met.M.Reader.counted m);
      state = chain.kept;
      behind = c.carry_on.ensures.behind;
      untouched = tt;
    }
