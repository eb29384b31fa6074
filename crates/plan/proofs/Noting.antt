-- What is noted for the services comes to what they need.
use Rattle.std.proofs.Common.{◌≡◌, ℕ, ◌+◌, ◌-◌, ◌^◌, ◌<◌, ◌≤◌, Bool, true, false, cond, leb, ltb, List, [], ◌∷◌, length, get_or, Some, None, Option, sym, refl, ap, ◌∙◌, subst, ap₂, arith}
use native.Mathlib.Decide.{dec_le}
use Rattle.std.proofs.lemmas.Bool.Decides.{nat_tests}
use Rattle.std.proofs.lemmas.List.Sums.{fails_before_first, passes_at_first}
use Rattle.std.specs.List.{position, position_or_len}
use Rattle.std.specs.Option.{unwrap_or}
use Rattle.rules.specs.declared.weight.Weight.{Weight}
use Rattle.plan.specs.declared.reach.Reach.{Reach}
use Rattle.plan.specs.ByTag.{Each}
use Rattle.plan.specs.Measures.{Misses, Lawful}
use Rattle.plan.specs.Nearest.{nearest, need}
use Rattle.plan.specs.Plans.{Targets, needs, weights_for}
use Rattle.plan.specs.Reached.{Noted, need_in, noted_needs, noted_weights}
use Rattle.plan.proofs.ByTags.{each_then}
use Rattle.plan.proofs.LeastNumbers.{least_at, least_mono, leb_from_le, le_from_leb, leb_from_gt}
use Rattle.plan.proofs.NeedLaws.{need_pos, need_miss, need_before, need_most}

-- ---- one service

pub need_in_at : (row : List ℕ) (e n : ℕ) → n ≤ 12 → ((j : ℕ) → j < n → e < get_or row j 0) → (n < 12 → get_or row n 0 ≤ e) → n + 1 ≡ need_in row e
need_in_at row e n h f g =
    let i = least_at (λ k. leb (get_or row k 0) e) 0 12 n (omega arith) (omega arith)
    (λ j l m. leb_from_gt (get_or row j 0) e (f j m)) (λ l. leb_from_le (get_or row n 0) e (g (omega arith))) in
    omega (arith, i)

-- the first place of a miss of at most e, or the last place
pub need_found : (row : List ℕ) (e : ℕ) → length row ≡ 13 → 1 + unwrap_or (position (λ m. leb m e) row) 12 ≡ need_in row e
need_found row e l = go (dec_le 13 (position_or_len p row))
  where
    p : ℕ → Bool
    p m = leb m e

    fails : (j : ℕ) → j < position_or_len p row → e < get_or row j 0
    fails j h = let t = fails_before_first p row j 0 h in grind (arith, nat_tests)

    go : Dec (13 ≤ position_or_len p row) → 1 + unwrap_or (position p row) 12 ≡ need_in row e
    go (yes q) =
        let f : ltb (position_or_len p row) (length row) ≡ false = grind (arith, nat_tests) in
        let k = need_in_at row e 12 (omega arith) (λ j h. fails j (omega arith)) (λ h. absurd (omega arith)) in
        ap (λ (b : Bool). 1 + unwrap_or (cond b (Some (position_or_len p row)) None) 12) f ∙ k
    go (no q) =
        let f : ltb (position_or_len p row) (length row) ≡ true = grind (arith, nat_tests) in
        let t = passes_at_first p row 0 (omega arith) in
        let k = need_in_at row e (position_or_len p row) (omega arith) fails (λ h. grind (arith, nat_tests)) in
        ap (λ (b : Bool). 1 + unwrap_or (cond b (Some (position_or_len p row)) None) 12) f ∙ omega (arith, k)

need_in_mono : (row : List ℕ) (e f : ℕ) → e ≤ f → need_in row f ≤ need_in row e
need_in_mono row e f h =
    omega (
      arith,
      least_mono (λ n. leb (get_or row n 0) e) (λ n. leb (get_or row n 0) f)
          (λ j t. leb_from_le (get_or row j 0) f (omega (arith, le_from_leb (get_or row j 0) e t))) 0 12,
    )

-- a larger miss needs no more
pub noted_mono : (rs : List (Option Reach)) (e f : ℕ) → e ≤ f → noted_needs rs f ≤ noted_needs rs e
noted_mono [] e f h = omega arith
noted_mono (None ∷ rs) e f h = noted_mono rs e f h
noted_mono (Some r ∷ rs) e f h = omega (arith, need_in_mono r.misses e f h, noted_mono rs e f h)

-- ---- what they stand for

-- what is noted of the weights that stand for the targets
pub noted_each : (miss : Misses) (W : ℕ) (ts : List (Option ℕ)) (ws : List (Option Weight)) (rs : List (Option Reach))
    → Each (λ c w. (w.width.bits ≡ W) × (w.addresses ≡ c)) ts ws → Each (λ w r. Noted miss w.width.bits w.addresses r) ws rs → Each (Noted miss W) ts rs
noted_each miss W ts ws rs h k =
    each_then _ _ (Noted miss W) (λ c w r p n. subst (λ (b : ℕ). Noted miss W b r) p.1 (subst (λ (V : ℕ). Noted miss V w.addresses r) p.0 n)) ts ws rs h k

module _ (miss : Misses) (lawful : Lawful miss) (W : ℕ) (low : 1 ≤ W) (high : W ≤ 24) where
  pub noted_need : (c e : ℕ) (r : Reach) → c ≤ 2 ^ W → Noted miss W c r → need_in r.misses e ≡ need miss W c e
  noted_need c e r h i = sym (s ∙ need_in_at r.misses e (need miss W c e - 1) (omega (arith, m)) before (λ l. here))
    where
      p : 0 < need miss W c e
      p = need_pos miss lawful W low high c e h

      m : need miss W c e ≤ 13
      m = need_most miss lawful W low high c e h

      s : need miss W c e ≡ need miss W c e - 1 + 1
      s = omega (arith, p)

      before : (j : ℕ) → j < need miss W c e - 1 → e < get_or r.misses j 0
      before j l =
          let a = need_before miss lawful W low high c e (j + 1) h (omega arith) (omega arith) in
          omega (arith, a, i.misses j (omega (arith, m)))

      here : get_or r.misses (need miss W c e - 1) 0 ≤ e
      here =
          let a = i.misses (need miss W c e - 1) (omega (arith, p, m)) in
          let b = ap (λ (n : ℕ). miss W c (nearest miss W c n)) s in
          omega (arith, a, b, need_miss miss lawful W low high c e h)

  pub noted_all : (e : ℕ) (ts : List (Option ℕ)) (rs : List (Option Reach)) → Targets W ts → Each (Noted miss W) ts rs → noted_needs rs e ≡ needs miss W e ts
  unfolding needs
  noted_all e [] [] h s = refl
  noted_all e [] (r ∷ rs) h s = absurd s
  noted_all e (t ∷ ts) [] h s = absurd s
  noted_all e (None ∷ ts) (None ∷ rs) h (z, s) = noted_all e ts rs h s
  noted_all e (None ∷ ts) (Some r ∷ rs) h (z, s) = absurd z
  noted_all e (Some c ∷ ts) (None ∷ rs) h (z, s) = absurd z
  noted_all e (Some c ∷ ts) (Some r ∷ rs) (h, k) (i, s) = omega (arith, noted_need c e r h i, noted_all e ts rs k s)

  pub noted_given : (e : ℕ) (ts : List (Option ℕ)) (rs : List (Option Reach)) → Targets W ts → Each (Noted miss W) ts rs
      → noted_weights miss e rs ≡ weights_for miss W e ts
  unfolding weights_for
  noted_given e [] [] h s = refl
  noted_given e [] (r ∷ rs) h s = absurd s
  noted_given e (t ∷ ts) [] h s = absurd s
  noted_given e (None ∷ ts) (None ∷ rs) h (z, s) = ap (λ (x : List (Option ℕ)). None ∷ x) (noted_given e ts rs h s)
  noted_given e (None ∷ ts) (Some r ∷ rs) h (z, s) = absurd z
  noted_given e (Some c ∷ ts) (None ∷ rs) h (z, s) = absurd z
  noted_given e (Some c ∷ ts) (Some r ∷ rs) (h, k) (i, s) =
      ap₂ (λ (d : ℕ) (x : List (Option ℕ)). Some d ∷ x) (ap₂ (λ (V n : ℕ). nearest miss V r.target.addresses n) i.width (noted_need c e r h i) ∙ ap (λ (b : ℕ). nearest miss W b (need miss W c e)) i.target) (noted_given e ts rs k s)
