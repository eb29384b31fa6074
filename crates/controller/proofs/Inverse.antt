-- Writing records and reading them are inverse.
use Rattle.std.proofs.Common.{◌≡◌, ℕ, ◌+◌, ◌*◌, ◌/◌, ◌%◌, ◌^◌, ◌<◌, ◌≤◌, Bool, true, false, cond, ◌&&◌, eqb, List, [], ◌∷◌, ◌++◌, length, get_or, Some, None, Option, sym, refl, ap, ◌∙◌, ap₂, arith, pow_mono}
use Rattle.std.specs.List.{AllByRecursion}
use Rattle.std.proofs.lemmas.Bool.Decides.{nat_tests}
use Rattle.rules.specs.declared.rule.Rule.{Rule}
use Rattle.rules.specs.declared.server.Server.{Server}
use Rattle.rules.specs.declared.server.Server.TheVariants.{One, Two}
use Rattle.rules.specs.Prefixes.{fits, all_fit}
use Rattle.rules.specs.Servers.{server_number}
use Rattle.controller.specs.Records.{record_of, records_of, server_in, rule_to, shaped, start_in, rule_in, ahead, rules_in, fitting, in_layout, RecordLaws}
use Rattle.controller.proofs.Numbers.{put_together, first_byte, second_byte, third_byte, fourth_byte}

-- what is written is read back
rule_back : (s l : ℕ) (x : Server) → s < 2 ^ 32 → rule_in (record_of (record { start = s; length = l; server = x })) ≡ Some (record { start = s; length = l; server = x })
rule_back s l One h = ap (λ (n : ℕ). rule_to n l (Some One)) (put_together s h)
rule_back s l Two h = ap (λ (n : ℕ). rule_to n l (Some Two)) (put_together s h)

pub both : {x y : Bool} → x && y ≡ true → (x ≡ true) × (y ≡ true)
both {x = true} {y = true} e = (refl, refl)
both {x = true} {y = false} e = (refl, e)
both {x = false} {y = y} e = let z : ◌≡◌ {A = Bool} false true = e in let w : ◌≡◌ {A = ℕ} 0 1 = cc in absurd (omega arith)

start_small : (W : ℕ) (r : Rule) → W ≤ 24 → fits W r ≡ true → r.start < 2 ^ 32
start_small W r w f =
    let h : r.start < 2 ^ W = grind (arith, nat_tests) in
    let p : 2 ^ W ≤ 2 ^ 24 = pow_mono w in
    omega arith

read_back : (W : ℕ) (rs : List Rule) → W ≤ 24 → all_fit W rs ≡ true → rules_in (records_of rs) ≡ Some rs
read_back W [] w f = refl
read_back W (r ∷ rs) w f =
    ap₂ ahead (rule_back r.start r.length r.server (start_small W r w (both f).0)) (read_back W rs w (both f).1)

-- what is read was written so
told : (t : Bool) (o : Option Rule) (r : Rule) → cond t o None ≡ Some r → (t ≡ true) × (o ≡ Some r)
told true o r e = (refl, e)
told false o r e = let z : ◌≡◌ {A = ℕ} 0 1 = cc in absurd (omega arith)

pub rule_long : (b : List ℕ) (r : Rule) → rule_in b ≡ Some r → length b ≡ 8
rule_long b r e = grind (arith, nat_tests, (told (shaped b) (rule_to (start_in b) (get_or b 4 0) (server_in (get_or b 5 0))) r e).0)

server_told : (n : ℕ) (x : Server) → server_in n ≡ Some x → n ≡ server_number x
server_told n One e = grind (arith, nat_tests)
server_told n Two e = grind (arith, nat_tests)

rule_told : (s l : ℕ) (o : Option Server) (r : Rule) → rule_to s l o ≡ Some r → (r.start ≡ s) × (r.length ≡ l) × (o ≡ Some r.server)
rule_told s l None r e = let z : ◌≡◌ {A = ℕ} 0 1 = cc in absurd (omega arith)
rule_told s l (Some x) r e = (cc, cc, cc)

module _ (a b c d l x y z : ℕ) (ha : a < 256) (hb : b < 256) (hc : c < 256) (hd : d < 256) (r : Rule) where
  rule_exact : rule_in (a ∷ b ∷ c ∷ d ∷ l ∷ x ∷ y ∷ z ∷ []) ≡ Some r → a ∷ b ∷ c ∷ d ∷ l ∷ x ∷ y ∷ z ∷ [] ≡ record_of r
  rule_exact t =
      let n : ℕ = a * 2 ^ 24 + b * 2 ^ 16 + c * 2 ^ 8 + d in
      let k = told (eqb y 0 && eqb z 0) (rule_to n l (server_in x)) r t in
      let q = rule_told n l (server_in x) r k.1 in
      let e : n ≡ r.start = sym q.0 in
      let ea : a ≡ r.start / 2 ^ 24 % 256 = first_byte a b c d ha hb hc hd ∙ ap (λ (m : ℕ). m / 2 ^ 24 % 256) e in
      let eb : b ≡ r.start / 2 ^ 16 % 256 = second_byte a b c d ha hb hc hd ∙ ap (λ (m : ℕ). m / 2 ^ 16 % 256) e in
      let ec : c ≡ r.start / 2 ^ 8 % 256 = third_byte a b c d ha hb hc hd ∙ ap (λ (m : ℕ). m / 2 ^ 8 % 256) e in
      let ed : d ≡ r.start % 256 = fourth_byte a b c d ha hb hc hd ∙ ap (λ (m : ℕ). m % 256) e in
      let el : l ≡ r.length = sym q.1 in
      let ex : x ≡ server_number r.server = server_told x r.server q.2 in
      let ey : y ≡ 0 = grind (arith, nat_tests, k.0) in
      let ez : z ≡ 0 = grind (arith, nat_tests, k.0) in
      cc

ahead_told : (o : Option Rule) (p : Option (List Rule)) (rs : List Rule) → ahead o p ≡ Some rs → (r : Rule) × (qs : List Rule) × (o ≡ Some r) × (p ≡ Some qs) × (r ∷ qs ≡ rs)
ahead_told None p rs e = let z : ◌≡◌ {A = ℕ} 0 1 = cc in absurd (omega arith)
ahead_told (Some r) None rs e = let z : ◌≡◌ {A = ℕ} 0 1 = cc in absurd (omega arith)
ahead_told (Some r) (Some qs) rs e = (r, qs, refl, refl, cc)

nothing : {A : Type 0} (rs : List Rule) → ◌≡◌ {A = Option (List Rule)} None (Some rs) → A
nothing rs e = let z : ◌≡◌ {A = ℕ} 0 1 = cc in absurd (omega arith)

exact : (bytes : List ℕ) (rs : List Rule) → AllByRecursion (λ b. b < 256) bytes → rules_in bytes ≡ Some rs → bytes ≡ records_of rs
exact [] rs h e = let p : [] ≡ rs = cc in ap records_of p
exact (a ∷ []) rs h e = nothing rs e
exact (a ∷ b ∷ []) rs h e = nothing rs e
exact (a ∷ b ∷ c ∷ []) rs h e = nothing rs e
exact (a ∷ b ∷ c ∷ d ∷ []) rs h e = nothing rs e
exact (a ∷ b ∷ c ∷ d ∷ l ∷ []) rs h e = nothing rs e
exact (a ∷ b ∷ c ∷ d ∷ l ∷ x ∷ []) rs h e = nothing rs e
exact (a ∷ b ∷ c ∷ d ∷ l ∷ x ∷ y ∷ []) rs h e = nothing rs e
exact (a ∷ b ∷ c ∷ d ∷ l ∷ x ∷ y ∷ z ∷ more) rs h e =
    let t = ahead_told (rule_in (a ∷ b ∷ c ∷ d ∷ l ∷ x ∷ y ∷ z ∷ [])) (rules_in more) rs e in
    ap₂ (λ (ps qs : List ℕ). ps ++ qs) (rule_exact a b c d l x y z h.0 h.1.0 h.1.1.0 h.1.1.1.0 t.0 t.2)
    (exact more t.1 h.1.1.1.1.1.1.1.1 t.3) ∙ ap records_of t.4

broken : (W : ℕ) (bytes : List ℕ) → W ≤ 24 → in_layout W bytes ≡ false → (rs : List Rule) → all_fit W rs ≡ true → bytes ≡ records_of rs → ⊥
broken W bytes w b rs f e =
    let k : in_layout W bytes ≡ true = ap (fitting W) (ap rules_in e ∙ read_back W rs w f) ∙ f in
    let z : ◌≡◌ {A = ℕ} 0 1 = cc in
    omega arith

pub record_laws : RecordLaws
record_laws = record { read_back = read_back; exact = exact; broken = broken }
