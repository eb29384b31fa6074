-- Where lengths rise, the first match from the back is the longest match.
use Rattle.std.proofs.Common.{◌≡◌, ℕ, ◌<◌, ◌≤◌, Bool, true, false, cond, List, [], ◌∷◌, ◌++◌, reverse, Some, None, Option, sym, refl, ap, ◌∙◌, subst, arith}
use mathlib.Core.List.{reverse-cons}
use Rattle.std.specs.List.{AllByRecursion}
use Rattle.std.proofs.ByRecursion.{All-push, All-weaker, all-has, has_get_or, has_append_right}
use Rattle.rules.specs.declared.rule.Rule.{Rule}
use Rattle.rules.specs.declared.server.Server.{Server}
use Rattle.rules.specs.Prefixes.{matches, first_match, Longest}
use Rattle.rules.specs.Tables.{Rising}

pub all_reverse : (P : Rule → Type 0) (rs : List Rule) → AllByRecursion P rs → AllByRecursion P (reverse rs)
all_reverse P [] h = tt
all_reverse P (r ∷ rs) (h, k) = subst (λ (x : List Rule). AllByRecursion P x) (sym (reverse-cons r rs)) (All-push P (reverse rs) r (all_reverse P rs k) h)

-- a rule behind all others decides only where none of them does
abbrev or_else : Option Server → Option Server → Option Server
or_else None y = y
or_else (Some x) y = Some x

match_append : (W : ℕ) (ps qs : List Rule) (a : ℕ) → first_match W (ps ++ qs) a ≡ or_else (first_match W ps a) (first_match W qs a)
match_append W [] qs a = refl
match_append W (p ∷ ps) qs a = go (matches W p a) (match_append W ps qs a)
  where
    go : (b : Bool) → first_match W (ps ++ qs) a ≡ or_else (first_match W ps a) (first_match W qs a)
        → cond b (Some p.server) (first_match W (ps ++ qs) a) ≡ or_else (cond b (Some p.server) (first_match W ps a)) (first_match W qs a)
    go true e = refl
    go false e = e

match_behind : (W : ℕ) (q : Rule) (rs : List Rule) (a : ℕ)
    → first_match W (reverse (q ∷ rs)) a ≡ or_else (first_match W (reverse rs) a) (cond (matches W q a) (Some q.server) None)
match_behind W q rs a = ap (λ (x : List Rule). first_match W x a) (reverse-cons q rs) ∙ match_append W (reverse rs) (q ∷ []) a

-- what is left without a server matches no rule
unmatched : (W : ℕ) (rs : List Rule) (a : ℕ) → first_match W (reverse rs) a ≡ None → AllByRecursion (λ q. matches W q a ≡ false) rs
unmatched W [] a e = tt
unmatched W (q ∷ rs) a e = go (first_match W (reverse rs) a) refl (matches W q a) refl (sym (match_behind W q rs a) ∙ e) (unmatched W rs a)
  where
    go : (o : Option Server) → first_match W (reverse rs) a ≡ o → (b : Bool) → matches W q a ≡ b
        → or_else o (cond b (Some q.server) None) ≡ None
        → (first_match W (reverse rs) a ≡ None → AllByRecursion (λ q. matches W q a ≡ false) rs) → AllByRecursion (λ q. matches W q a ≡ false) (q ∷ rs)
    go None f false g h ih = (g, ih f)
    go None f true g h ih = let z : ◌≡◌ {A = ℕ} 0 1 = cc in absurd (omega arith)
    go (Some s) f b g h ih = let z : ◌≡◌ {A = ℕ} 0 1 = cc in absurd (omega arith)

pub longest_match : (W : ℕ) (rs : List Rule) (a : ℕ) (s : Server) → Rising rs → first_match W (reverse rs) a ≡ Some s
    → (r : Rule) × Longest W rs a r × (r.server ≡ s)
longest_match W [] a s h e = let z : ◌≡◌ {A = ℕ} 0 1 = cc in absurd (omega arith)
longest_match W (q ∷ rs) a s (longer, h) e =
    go (first_match W (reverse rs) a) refl (matches W q a) refl (sym (match_behind W q rs a) ∙ e) (λ t. longest_match W rs a t h)
  where
    go : (o : Option Server) → first_match W (reverse rs) a ≡ o → (b : Bool) → matches W q a ≡ b
        → or_else o (cond b (Some q.server) None) ≡ Some s
        → ((t : Server) → first_match W (reverse rs) a ≡ Some t → (r : Rule) × Longest W rs a r × (r.server ≡ t))
        → (r : Rule) × Longest W (q ∷ rs) a r × (r.server ≡ s)
    go None f false g i ih = let z : ◌≡◌ {A = ℕ} 0 1 = cc in absurd (omega arith)
    go None f true g i ih = (
      q,
      record {
        listed = has_get_or (q ∷ rs) 0 q (omega arith);
        hit = g;
        longest = (
          λ _. omega arith,
          All-weaker (λ x. matches W x a ≡ false) (λ x. matches W x a ≡ true → x.length ≤ q.length)
              (λ x n y. let z : ◌≡◌ {A = ℕ} 0 1 = cc in absurd (omega arith)) rs (unmatched W rs a f),
        );
      },
      cc,
    )
    go (Some t) f b g i ih =
        let r = ih t f in
        let e : t ≡ s = cc in (
          r.0,
          record {
            listed = has_append_right (q ∷ []) rs r.0 r.1.listed;
            hit = r.1.hit;
            longest = (λ _. omega (arith, all-has (λ x. q.length < x.length) rs r.0 longer r.1.listed), r.1.longest);
          },
          r.2 ∙ e,
        )
