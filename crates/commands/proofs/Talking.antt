-- What a console's commands do is what the model says.
use Rattle.std.proofs.Common.{◌≡◌, ℕ, ◌≤◌, ltb, None, Ok, sym, refl, ◌∙◌}
use Rattle.std.proofs.lemmas.Bool.{cond-false, le-ltb}
use Rattle.rules.specs.Grounds.{width_grounds}
use Rattle.rules.specs.Refusals.{first}
use Rattle.memory.specs.Holding.{Counted}
use Rattle.model.specs.Grounds.{making_grounds}
use Rattle.switch.specs.declared.state.Resting.{Resting}
use Rattle.switch.specs.declared.state.State.TheVariants as state
use Rattle.switch.specs.Calls.{fresh}
use Rattle.switch.specs.Desks.{Desk, View}
use Rattle.switch.proofs.Running.{start_kept, admits}
use Rattle.commands.specs.Agreed.{Made}

-- A memory fitted and a switch made.
pub begins : (ceiling W R : ℕ) (d d' : Desk) (v v' : View) (resting : Resting) → R ≤ ceiling → None ≡ first (width_grounds W) → None ≡ first (making_grounds W v'.size)
    → d' ≡ fresh W R → v'.limit ≡ R → v'.size ≡ 0 → ∥ Counted v'.held v'.size ∥₁ → Made ceiling W R d d' v v' (Ok (state.Resting resting))
begins ceiling W R d d' v v' resting few wide makes desk limit none counted =
    let a = admits W v'.size makes in
    record {
      refused = wide ∙ sym (cond-false (ltb ceiling R) _ _ (le-ltb ceiling R few));
      starts = λ miss lawful. record {
        resting = resting;
        rests = refl;
        phase = refl;
        kept = start_kept miss W R lawful a.low a.high d' v' resting desk limit none counted;
      };
      untouched = tt;
    }
