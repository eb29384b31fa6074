-- What the plan of services that fit a switch gives the model.
use Rattle.std.proofs.Common.{◌≡◌, ℕ, zero, suc, ◌^◌, ◌≤◌, false, ltb, List, [], ◌∷◌, length, get_or, replicate, is_some, Some, None, Option, sym, refl, ap, ◌∙◌, subst, arith}
use Rattle.std.proofs.lemmas.Bool.{or_from, le-ltb}
use Rattle.plan.specs.ByTag.{on, by_tag}
use Rattle.plan.specs.Measures.{Misses, Lawful}
use Rattle.plan.specs.Nearest.{nearest, need}
use Rattle.plan.specs.Plans.{beyond, Targets, needs, worst_miss, weights_for, plan_weights, rule_total, largest_miss, Plan}
use Rattle.plan.specs.Rivals.{Best}
use Rattle.plan.proofs.ByTags.{none_above, every_at, by_tag_long, by_tag_at}
use Rattle.plan.proofs.NeedLaws.{need_nearest}
use Rattle.plan.proofs.Optimal.{worst_is, plan_is, plan_best}
use Rattle.model.specs.Grounds.{registered}
use Rattle.model.specs.Sound.{Fitting}

-- Weights of services that stand: one for each, none above 2 ^ W, and rules for all within the capacity.
pub record Planned (miss : Misses) (W R : ℕ) (ts : List (Option ℕ)) : Type 0 where
  pub long : length (plan_weights miss W R ts) ≡ 64
  pub same_tags : (t : ℕ) → registered (plan_weights miss W R ts) t ≡ registered ts t
  pub fit : beyond (2 ^ W) (plan_weights miss W R ts) ≡ false
  pub in_range : (t d : ℕ) → get_or (plan_weights miss W R ts) t None ≡ Some d → d ≤ 2 ^ W
  pub room : rule_total W (plan_weights miss W R ts) ≤ R
  pub worst : largest_miss miss W ts (plan_weights miss W R ts) ≡ worst_miss miss W R ts
  pub best : Best miss W R ts (plan_weights miss W R ts) (worst_miss miss W R ts) (rule_total W (plan_weights miss W R ts))

on_some : {X Y : Type 0} (f : X → Y) (o : Option X) → is_some (on f o) ≡ is_some o
on_some f None = refl
on_some f (Some x) = refl

pub none_beyond : (n : ℕ) (ds : List (Option ℕ)) → ((t d : ℕ) → get_or ds t None ≡ Some d → d ≤ n) → beyond n ds ≡ false
none_beyond n [] h = refl
none_beyond n (None ∷ ds) h = none_beyond n ds (λ t d e. h (suc t) d e)
none_beyond n (Some d ∷ ds) h = or_from (ltb n d) (beyond n ds) (le-ltb n d (h 0 d refl)) (none_beyond n ds (λ t c e. h (suc t) c e))

module _ (miss : Misses) (lawful : Lawful miss) (W R : ℕ) (low : 1 ≤ W) (high : W ≤ 24) (ts : List (Option ℕ)) (f : Fitting W R ts) where
  targets : Targets W ts
  targets = none_above (2 ^ W) ts f.fit

  weight_at : (t d : ℕ) → get_or (plan_weights miss W R ts) t None ≡ Some d → d ≤ 2 ^ W
  unfolding plan_weights weights_for
  weight_at t d e = go (get_or ts t None) refl (sym (by_tag_at (λ c. nearest miss W c (need miss W c (worst_miss miss W R ts))) ts t) ∙ e)
    where
      go : (o : Option ℕ) → get_or ts t None ≡ o → on (λ c. nearest miss W c (need miss W c (worst_miss miss W R ts))) o ≡ Some d → d ≤ 2 ^ W
      go None p q = cc
      go (Some c) p q =
          let same : nearest miss W c (need miss W c (worst_miss miss W R ts)) ≡ d = cc in
          subst (λ (x : ℕ). x ≤ 2 ^ W) same (need_nearest miss lawful W low high c (worst_miss miss W R ts) (every_at (λ c. c ≤ 2 ^ W) ts t c targets p)).weight

  the_plan : Plan miss W R ts (plan_weights miss W R ts) (worst_miss miss W R ts) (needs miss W (worst_miss miss W R ts) ts)
  unfolding plan_weights
  the_plan = plan_is miss lawful W low high R ts targets (worst_miss miss W R ts) (worst_is miss lawful W low high R ts targets f.room)

  the_best : Best miss W R ts (plan_weights miss W R ts) (worst_miss miss W R ts) (needs miss W (worst_miss miss W R ts) ts)
  unfolding plan_weights
  the_best = plan_best miss lawful W low high R ts targets (worst_miss miss W R ts) (worst_is miss lawful W low high R ts targets f.room)

  long_is : length (plan_weights miss W R ts) ≡ 64
  unfolding plan_weights weights_for
  long_is = by_tag_long (λ c. nearest miss W c (need miss W c (worst_miss miss W R ts))) ts ∙ f.long

  tags_are : (t : ℕ) → registered (plan_weights miss W R ts) t ≡ registered ts t
  unfolding plan_weights weights_for
  tags_are t = ap is_some (by_tag_at (λ c. nearest miss W c (need miss W c (worst_miss miss W R ts))) ts t) ∙ on_some _ (get_or ts t None)

  pub planned : Planned miss W R ts
  planned = record {
    long = long_is;
    same_tags = tags_are;
    fit = none_beyond (2 ^ W) (plan_weights miss W R ts) weight_at;
    in_range = weight_at;
    room = omega (arith, the_plan.counted, the_plan.room);
    worst = the_plan.largest;
    best = subst (λ (n : ℕ). Best miss W R ts (plan_weights miss W R ts) (worst_miss miss W R ts) n) (sym the_plan.counted) the_best;
  }

-- With no service the plan has no weight.
pub no_weights : (miss : Misses) (W R n : ℕ) → plan_weights miss W R (replicate n None) ≡ replicate n None
unfolding plan_weights weights_for
no_weights miss W R n = go n (worst_miss miss W R (replicate n None))
  where
    go : (k e : ℕ) → by_tag (λ c. nearest miss W c (need miss W c e)) (replicate k None) ≡ replicate k None
    go zero e = refl
    go (suc k) e = ap (λ (x : List (Option ℕ)). None ∷ x) (go k e)
