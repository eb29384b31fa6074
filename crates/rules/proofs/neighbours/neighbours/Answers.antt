use Rattle.std.proofs.Common.{◌≡◌, ℕ, ◌-◌, ◌^◌, sym, ap, ◌∙◌, subst}
use Rattle.rules.specs.declared.weight.Weight.{Weight}
use Rattle.rules.specs.declared.width.Width.{Width}
use Rattle.rules.specs.Nearby.{Lighter, Heavier}
use Rattle.rules.proofs.Sides.{heavier_mirror}
use Rattle.rules.proofs.neighbours.neighbours.Goals as goal

-- the way by the other server's side: the complement, what is lighter than it, and the complement of that
mirrored : (n : ℕ) (t u l v : Weight) → u.width ≡ t.width → u.addresses ≡ 2 ^ t.width.bits - t.addresses → l.width ≡ u.width
    → Lighter u.width.bits u.addresses n l.addresses → v.addresses ≡ 2 ^ l.width.bits - l.addresses → Heavier t.width.bits t.addresses n v.addresses
mirrored n t u l v p q r h s =
    let W : ℕ = t.width.bits in
    let a : Lighter W u.addresses n l.addresses = subst (λ (w : Width). Lighter w.bits u.addresses n l.addresses) p h in
    let b : Lighter W (2 ^ W - t.addresses) n l.addresses = subst (λ (x : ℕ). Lighter W x n l.addresses) q a in
    let e : v.addresses ≡ 2 ^ W - l.addresses = s ∙ ap (λ (w : Width). 2 ^ w.bits - l.addresses) (r ∙ p) in
    subst (λ (x : ℕ). Heavier W t.addresses n x) (sym e) (heavier_mirror W t.addresses n l.addresses t.inside b)

pub returns-clause-heavier : goal.returns-clause-heavier
returns-clause-heavier c =
    let t = c.in_ok-target.target in
    let k = c.in_ok-target.ensures.kept in
    let u = c.complement in
    let l = c.lighter in
    let v = c.complement-above in
    let h = mirrored c.args.limit t u.result l.result v.result u.ensures.width u.ensures.addresses l.ensures.width l.ensures.weight v.ensures.addresses in
    let g = subst (λ (W : ℕ). Heavier W t.addresses c.args.limit v.result.addresses) k.0 h in
    subst (λ (x : ℕ). Heavier c.args.width x c.args.limit v.result.addresses) k.1 g
