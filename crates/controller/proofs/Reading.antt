-- Records are read eight bytes after eight.
use Rattle.std.proofs.Common.{◌≡◌, ℕ, ◌+◌, ◌*◌, ◌<◌, min, List, [], ◌∷◌, ◌++◌, length, Some, None, Ok, Option, sym, refl, ap, ◌∙◌, subst, ap₂, append_assoc, arith, length-append}
use Rattle.std.specs.Option.{ok_or}
use Rattle.rules.specs.declared.refusal.Refusal.TheVariants.{BrokenLayout}
use Rattle.rules.specs.declared.rule.Rule.{Rule}
use Rattle.controller.specs.Records.{rule_in, ahead, rules_in}
use Rattle.controller.proofs.Inverse.{rule_long}

-- a rule that was read
pub read_ok : (o : Option Rule) (r : Rule) → Ok r ≡ ok_or o BrokenLayout → Some r ≡ o
read_ok None r e = let z : ◌≡◌ {A = ℕ} 0 1 = cc in absurd (omega arith)
read_ok (Some q) r e = cc

-- rules behind others that are read already
abbrev pub behind : List Rule → Option (List Rule) → Option (List Rule)
behind rs None = None
behind rs (Some more) = Some (rs ++ more)

behind_one : (rs : List Rule) (r : Rule) (o : Option (List Rule)) → behind rs (ahead (Some r) o) ≡ behind (rs ++ r ∷ []) o
behind_one rs r None = refl
behind_one rs r (Some more) = ap (λ (qs : List Rule). Some qs) (sym (append_assoc rs (r ∷ []) more))

-- a piece of fewer than eight bytes is the last, and no record
short : (x more : List ℕ) → length x < 8 → length x ≡ min 8 (length (x ++ more)) → more ≡ []
short x [] l e = refl
short x (m ∷ more) l e = absurd (omega (arith, length-append x (m ∷ more)))

piece : (x more : List ℕ) → length x ≡ min 8 (length (x ++ more)) → 0 < length (x ++ more) → rules_in (x ++ more) ≡ ahead (rule_in x) (rules_in more)
piece [] more e p = absurd (omega arith)
piece (a ∷ []) more e p = rw (short (a ∷ []) more (omega arith) e)
piece (a ∷ b ∷ []) more e p = rw (short (a ∷ b ∷ []) more (omega arith) e)
piece (a ∷ b ∷ c ∷ []) more e p = rw (short (a ∷ b ∷ c ∷ []) more (omega arith) e)
piece (a ∷ b ∷ c ∷ d ∷ []) more e p = rw (short (a ∷ b ∷ c ∷ d ∷ []) more (omega arith) e)
piece (a ∷ b ∷ c ∷ d ∷ f ∷ []) more e p = rw (short (a ∷ b ∷ c ∷ d ∷ f ∷ []) more (omega arith) e)
piece (a ∷ b ∷ c ∷ d ∷ f ∷ g ∷ []) more e p = rw (short (a ∷ b ∷ c ∷ d ∷ f ∷ g ∷ []) more (omega arith) e)
piece (a ∷ b ∷ c ∷ d ∷ f ∷ g ∷ h ∷ []) more e p = rw (short (a ∷ b ∷ c ∷ d ∷ f ∷ g ∷ h ∷ []) more (omega arith) e)
piece (a ∷ b ∷ c ∷ d ∷ f ∷ g ∷ h ∷ i ∷ []) more e p = refl
piece (a ∷ b ∷ c ∷ d ∷ f ∷ g ∷ h ∷ i ∷ j ∷ x) more e p = absurd (omega arith)

-- one turn of the reading: the bytes `all` hold the rules rs and then what `rest` holds, whose first piece is x
module _ (all rest x more : List ℕ) (rs : List Rule) (n : ℕ) (eight : n ≡ 8) (e : rest ≡ x ++ more) (l : length x ≡ min n (length rest)) (p : 0 < length rest)
    (so_far : rules_in all ≡ behind rs (rules_in rest)) where
  next_piece : rules_in rest ≡ ahead (rule_in x) (rules_in more)
  next_piece =
      ap rules_in e ∙ piece x more (l ∙ ap₂ (λ (m : ℕ) (y : List ℕ). min m (length y)) eight e) (subst (λ (y : List ℕ). 0 < length y) e p)

  pub read_one : (r : Rule) (longer : List Rule) → Some r ≡ rule_in x → longer ≡ rs ++ r ∷ [] → rules_in all ≡ behind longer (rules_in more)
  read_one r longer s t =
      so_far ∙ ap (behind rs) (next_piece ∙ ap (λ (o : Option Rule). ahead o (rules_in more)) (sym s)) ∙ behind_one rs r (rules_in more)
      ∙ ap (λ (qs : List Rule). behind qs (rules_in more)) (sym t)

  pub count_one : (r : Rule) (k : ℕ) → Some r ≡ rule_in x → 8 * k + length rest ≡ length all → 8 * (k + 1) + length more ≡ length all
  count_one r k s c = omega (arith, ap length e, length-append x more, rule_long x r (sym s))
