-- No list of rules that leaves no address out gives server 1 a weight with fewer rules than L says: each rule changes the digit count of what a
-- server gets by one at most.
use Rattle.std.proofs.Common.{◌≡◌, ℕ, zero, suc, ◌+◌, ◌-◌, ◌^◌, ◌≤◌, min, Bool, true, false, cond, ◌⊎◌, List, [], ◌∷◌, length, is_some, Some, None, sym, refl, ap, ◌∙◌, subst, inl, inr, arith, pow_pos}
use Rattle.std.specs.List.{AllByRecursion}
use Rattle.rules.specs.declared.rule.Rule.{Rule}
use Rattle.rules.specs.declared.server.Server.{Server}
use Rattle.rules.specs.declared.server.Server.TheVariants.{One, Two}
use Rattle.rules.specs.Digits.{D}
use Rattle.rules.specs.Prefixes.{matches, first_match, same, weight, Covers}
use Rattle.rules.specs.Shortest.{L, LeastRules}
use Rattle.rules.proofs.Cost.{Cost, cost_zero, cost_more, cost_add, cost_flip, cost_D}
use Rattle.rules.proofs.Halves.{is, other, same_other, at, count, count_both, View, whole, child, away, view, keep, side, part, sides, part_fits, halves}
use Rattle.rules.proofs.Shapes.{Shape, shapes}
use Rattle.rules.proofs.Tallies.{tally_ext, within_in}

-- ---- the rules that are not the whole, and the server outside of them

abbrev some_length : ℕ → ℕ
some_length zero = 0
some_length (suc l) = 1

abbrev inner : List Rule → ℕ
inner [] = 0
inner (r ∷ rs) = some_length r.length + inner rs

abbrev pick : ℕ → Server → Server → Server
pick zero x y = x
pick (suc l) x y = y

abbrev top : List Rule → Server → Server
top [] s = s
top (r ∷ rs) s = pick r.length r.server (top rs s)

-- no rule is inside of both halves
side_both : {W : ℕ} {r : Rule} (v : View W 0 r) (w : View W 1 r) → side v + side w ≤ some_length r.length
unfolding side
side_both (whole e z) (whole e' z') = omega arith
side_both (whole e z) (child l t e' b f) = omega (arith, ap some_length e')
side_both (whole e z) (away l e' n) = omega arith
side_both (child l t e b f) (whole e' z') = omega (arith, ap some_length e)
side_both {W} (child l t e b f) (child l' t' e' b' f') = let h = f.low in absurd (omega arith)
side_both (child l t e b f) (away l' e' n) = omega (arith, ap some_length e)
side_both (away l e n) (whole e' z') = omega arith
side_both (away l e n) (child l' t' e' b' f') = omega (arith, ap some_length e')
side_both (away l e n) (away l' e' n') = omega arith

sides_both : (W : ℕ) (rs : List Rule) (f : AllByRecursion (Shape (suc W)) rs) → sides W 0 rs f + sides W 1 rs f ≤ inner rs
unfolding sides
sides_both W [] f = omega arith
sides_both W (r ∷ rs) f = omega (arith, side_both (view W 0 r f.0) (view W 1 r f.0), sides_both W rs f.1)

-- a half has as few inner rules as fall to it, and one less where its outside is another
abbrev Spare : Server → Server → ℕ → ℕ → Type 0
Spare x y i k = ((x ≡ y) × (i ≤ k)) ⊎ (suc i ≤ k)

spare_le : (x y : Server) (i k : ℕ) → Spare x y i k → i ≤ k
spare_le x y i k (inl h) = h.1
spare_le x y i k (inr h) = omega arith

keep_spare : {W q : ℕ} {r : Rule} (v : View W q r) (ps rs : List Rule) (s : Server) (k : ℕ) → Spare (top ps s) (top rs s) (inner ps) k
    → Spare (top (keep v ps) s) (top (r ∷ rs) s) (inner (keep v ps)) (side v + k)
unfolding keep side
keep_spare {r = r} (whole e z) ps rs s k ih =
    inl (sym (ap (λ (n : ℕ). pick n r.server (top rs s)) e), omega (arith, spare_le (top ps s) (top rs s) (inner ps) k ih))
keep_spare {r = r} (child zero t e b f) ps rs s k ih = inr (omega (arith, spare_le (top ps s) (top rs s) (inner ps) k ih))
keep_spare {r = r} (child (suc l) t e b f) ps rs s k (inl h) =
    inl (h.0 ∙ sym (ap (λ (n : ℕ). pick n r.server (top rs s)) e), omega (arith, h.1))
keep_spare {r = r} (child (suc l) t e b f) ps rs s k (inr h) = inr (omega arith)
keep_spare {r = r} (away l e n) ps rs s k (inl h) = inl (h.0 ∙ sym (ap (λ (n : ℕ). pick n r.server (top rs s)) e), omega (arith, h.1))
keep_spare {r = r} (away l e n) ps rs s k (inr h) = inr (omega arith)

part_spare : (W q : ℕ) (rs : List Rule) (f : AllByRecursion (Shape (suc W)) rs) (s : Server)
    → Spare (top (part W q rs f) s) (top rs s) (inner (part W q rs f)) (sides W q rs f)
unfolding part sides
part_spare W q [] f s = inl (refl, omega arith)
part_spare W q (r ∷ rs) f s =
    keep_spare (view W q r f.0) (part W q rs f.1) rs s (sides W q rs f.1) (part_spare W q rs f.1 s)

-- ---- the cost of a list

abbrev Costs : ℕ → ℕ → List Rule → Server → Server → Type 0
Costs n W rs s x = Cost n (count (other x) W rs s)

-- the outside may be taken for the other server, for one rule more
swap : (n W : ℕ) (rs : List Rule) (s x y : Server) → Costs n W rs s x → Costs (suc n) W rs s y
swap n W rs s One One c = cost_more n (suc n) _ (omega arith) c
swap n W rs s One Two c = cost_flip n W (count Two W rs s) (count One W rs s) (count_both Two W rs s) c
swap n W rs s Two One c = cost_flip n W (count One W rs s) (count Two W rs s) (count_both One W rs s) c
swap n W rs s Two Two c = cost_more n (suc n) _ (omega arith) c

settle : (W : ℕ) (ps : List Rule) (s x : Server) (k : ℕ) → Spare (top ps s) x (inner ps) k → Costs (inner ps) W ps s (top ps s) → Costs k W ps s x
settle W ps s x k (inl h) c =
    subst (λ (y : Server). Costs k W ps s y) h.0 (cost_more (inner ps) k (count (other (top ps s)) W ps s) h.1 c)
settle W ps s x k (inr h) c = cost_more (suc (inner ps)) k (count (other x) W ps s) h (swap (inner ps) W ps s (top ps s) x c)

-- at the width 0 the first rule decides
first : (rs : List Rule) → AllByRecursion (Shape 0) rs → (s : Server) → at 0 rs s 0 ≡ top rs s
first [] f s = refl
first (r ∷ rs) f s =
    let e : r.length ≡ 0 = omega (arith, f.0.short) in
    let z : r.start ≡ 0 = omega (arith, f.0.low) in
    let t : matches 0 r 0 ≡ true = within_in r.start (2 ^ (0 - r.length)) 0 (omega arith) (omega (arith, pow_pos (0 - r.length))) in
    ap (λ (b : Bool). cond b r.server (at 0 rs s 0)) t ∙ sym (ap (λ (n : ℕ). pick n r.server (top rs s)) e)

costs : (W : ℕ) (rs : List Rule) → AllByRecursion (Shape W) rs → (s : Server) → Costs (inner rs) W rs s (top rs s)
unfolding count
costs zero rs f s =
    cost_zero (inner rs) _ (omega (arith, ap (is (other (top rs s))) (first rs f s), same_other (top rs s)))
costs (suc W) rs f s =
    let x = top rs s in
    let a = settle W (part W 0 rs f) s x (sides W 0 rs f) (part_spare W 0 rs f s) (costs W (part W 0 rs f) (part_fits W 0 rs f) s) in
    let b = settle W (part W 1 rs f) s x (sides W 1 rs f) (part_spare W 1 rs f s) (costs W (part W 1 rs f) (part_fits W 1 rs f) s) in
    subst (λ (n : ℕ). Cost (inner rs) n) (sym (halves (other x) W rs f s))
    (cost_more (sides W 0 rs f + sides W 1 rs f) (inner rs) _ (sides_both W rs f) (cost_add (sides W 0 rs f) (sides W 1 rs f) _ _ a b))

-- n rules in front of a server cost n
top_spare : (rs : List Rule) (s : Server) → Spare (top rs s) s (inner rs) (length rs)
top_spare [] s = inl (refl, omega arith)
top_spare (r ∷ rs) s = go r.length (top_spare rs s)
  where
    go : (n : ℕ) → Spare (top rs s) s (inner rs) (length rs)
        → Spare (pick n r.server (top rs s)) s (some_length n + inner rs) (length (r ∷ rs))
    go zero ih = inr (omega (arith, spare_le (top rs s) s (inner rs) (length rs) ih))
    go (suc n) (inl h) = inl (h.0, omega (arith, h.1))
    go (suc n) (inr h) = inr (omega arith)

default_costs : (W : ℕ) (rs : List Rule) → AllByRecursion (Shape W) rs → (s : Server) → Costs (length rs) W rs s s
default_costs W rs f s = settle W rs s s (length rs) (top_spare rs s) (costs W rs f s)

-- ---- the last rule of a list that leaves no address out may match all

record Last (W : ℕ) (rs : List Rule) : Type 0 where
  front : List Rule
  server : Server
  fits : AllByRecursion (Shape W) front
  shorter : suc (length front) ≡ length rs
  agrees : (a : ℕ) → is_some (first_match W rs a) ≡ true → first_match W rs a ≡ Some (at W front server a)

last : (W : ℕ) (r : Rule) (rs : List Rule) → AllByRecursion (Shape W) (r ∷ rs) → Last W (r ∷ rs)
last W r [] f = record {
  front = [];
  server = r.server;
  fits = tt;
  shorter = refl;
  agrees = λ a. go (matches W r a);
}
  where
    go : (b : Bool) → is_some (cond b (Some r.server) None) ≡ true → cond b (Some r.server) None ≡ Some r.server
    go true h = refl
    go false h = let z : ◌≡◌ {A = ℕ} 0 1 = cc in absurd (omega arith)
last W r (p ∷ rs) f =
    let i = last W p rs f.1 in
    record {
      front = r ∷ i.front;
      server = i.server;
      fits = (f.0, i.fits);
      shorter = ap suc i.shorter;
      agrees = λ a. go a (matches W r a) (i.agrees a);
    }
  where
    go : {x : Server} (a : ℕ) (b : Bool) → (is_some (first_match W (p ∷ rs) a) ≡ true → first_match W (p ∷ rs) a ≡ Some x)
        → is_some (cond b (Some r.server) (first_match W (p ∷ rs) a)) ≡ true → cond b (Some r.server) (first_match W (p ∷ rs) a) ≡ Some (cond b r.server x)
    go a true ih h = refl
    go a false ih h = ih h

bound : (W : ℕ) (rs : List Rule) (i : Last W rs) → Covers W rs
    → (d : ℕ) → weight W rs ≡ d → 1 + min (D d) (D (2 ^ W - d)) ≤ length rs
unfolding count
bound W rs i all d e = go i.server ones (default_costs W i.front i.fits i.server)
  where
    ones : count One W i.front i.server ≡ d
    ones =
        tally_ext (λ a. is One (at W i.front i.server a)) (λ a. same (Some One) (first_match W rs a)) (2 ^ W)
        (λ a h. sym (ap (same (Some One)) (i.agrees a (all a h))))
        ∙ e

    go : (x : Server) → count One W i.front x ≡ d → Costs (length i.front) W i.front x x → 1 + min (D d) (D (2 ^ W - d)) ≤ length rs
    go One o c =
        let t : count Two W i.front One ≡ 2 ^ W - d = omega (arith, o, count_both One W i.front One) in
        omega (arith, ap D t, cost_D _ _ c, i.shorter)
    go Two o c = omega (arith, ap D o, cost_D _ _ c, i.shorter)

pub least_rules : (W d : ℕ) → LeastRules W d (L W d)
unfolding L
least_rules W d [] s = let h = s.covers 0 (pow_pos W) in let z : ◌≡◌ {A = ℕ} 0 1 = cc in absurd (omega arith)
least_rules W d (r ∷ rs) s = bound W (r ∷ rs) (last W r rs (shapes W (r ∷ rs) s.fit)) s.covers d s.exact
