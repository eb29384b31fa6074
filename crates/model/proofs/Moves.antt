-- The change from one list of key rules to another: what is held at every point of it.
use Rattle.std.proofs.Common.{◌≡◌, ℕ, zero, suc, ◌<◌, ◌≤◌, Bool, true, false, cond, not, List, [], ◌∷◌, ◌++◌, map, length, take, drop, is_some, Some, None, Option, sym, refl, ap, ◌∙◌, subst, ap₂, arith}
use Rattle.std.specs.Option.{option_or}
use Rattle.std.proofs.lemmas.Bool.{cond-true, cond-false, false≢true}
use Rattle.std.proofs.lemmas.List.{take-append-drop, take-map, drop-map, append-nil}
use Rattle.rules.specs.declared.server.Server.{Server}
use Rattle.memory.specs.declared.key.Prefix.{Prefix}
use Rattle.memory.specs.declared.key.KeyRule.{KeyRule}
use Rattle.memory.specs.Holding.{Held, at, same_prefix, same_server, listed, Counted}
use Rattle.memory.proofs.Exact.{answer_is}
use Rattle.model.specs.declared.write.Write.{Write}
use Rattle.model.specs.declared.write.Write.TheVariants.{Remove, Put}
use Rattle.model.specs.Changes.{lack_prefix, lack_rule, removed, put, remove, after_write, altered}
use Rattle.model.proofs.Sets.{some_later, at_same, front_none, listed_behind, Apart, apart_front, apart_middle, only, listed_kept, kept_none, apart_kept, within_list, below_list}

-- ---- writes in a row

-- Writes in a row are done one part after the other.
pub altered_append : (h : Held) (xs ys : List Write) → altered h (xs ++ ys) ≡ altered (altered h xs) ys
unfolding altered
altered_append h [] ys = refl
altered_append h (x ∷ xs) ys = altered_append (after_write h x) xs ys

-- Removals leave nothing at their prefixes, and the rest as it was.
altered_removes : (h : Held) (rs : List KeyRule) (v l : ℕ) → altered h (map remove rs) v l ≡ cond (is_some (listed rs v l)) None (h v l)
unfolding altered
altered_removes h [] v l = refl
altered_removes h (r ∷ rs) v l = altered_removes (after_write h (remove r)) rs v l ∙ go (same_prefix r.prefix v l) (is_some (listed rs v l)) refl
  where
    go : (b c : Bool) → is_some (listed rs v l) ≡ c
        → cond c None (cond b None (h v l)) ≡ cond (is_some (cond b (Some r.server) (listed rs v l))) None (h v l)
    go true true e = refl
    go true false e = refl
    go false true e = sym (cond-true _ _ _ e)
    go false false e = sym (cond-false _ _ _ e)

-- Puts of rules that are apart leave those rules, and the rest as it was.
altered_puts : (h : Held) (rs : List KeyRule) → Apart rs → (v l : ℕ) → altered h (map Put rs) v l ≡ option_or (listed rs v l) (h v l)
unfolding altered
altered_puts h [] a v l = refl
altered_puts h (r ∷ rs) a v l = altered_puts (after_write h (Put r)) rs a.1 v l ∙ go (listed rs v l) refl (same_prefix r.prefix v l) refl
  where
    go : (o : Option Server) → listed rs v l ≡ o → (b : Bool) → same_prefix r.prefix v l ≡ b
        → option_or o (cond b (Some r.server) (h v l)) ≡ option_or (cond b (Some r.server) o) (h v l)
    go None e true f = refl
    go None e false f = refl
    go (Some s) e true f = cc (at_same r.prefix v l (λ x y. listed rs x y ≡ None) f a.0)
    go (Some s) e false f = refl

-- ---- the points of a change

-- All removals, then all puts.
abbrev pub moves : List KeyRule → List KeyRule → List Write
moves A B = map remove (removed A B) ++ map Put (put A B)

-- Where some of the removals are done, or all of them and some of the puts.
data Point (rs ps : List KeyRule) (front back : List Write) : Type 0 where
  removing : (xs ys : List KeyRule) → rs ≡ xs ++ ys → front ≡ map remove xs → back ≡ map remove ys ++ map Put ps → Point rs ps front back
  putting : (xs ys : List KeyRule) → ps ≡ xs ++ ys → front ≡ map remove rs ++ map Put xs → back ≡ map Put ys → Point rs ps front back

point : (k : ℕ) (rs ps : List KeyRule) → Point rs ps (take k (map remove rs ++ map Put ps)) (drop k (map remove rs ++ map Put ps))
point zero rs ps = removing [] rs refl refl refl
point (suc k) [] ps =
    putting (take (suc k) ps) (drop (suc k) ps) (sym (take-append-drop (suc k) ps)) (take-map Put (suc k) ps) (drop-map Put (suc k) ps)
point (suc k) (r ∷ rs) ps = go (point k rs ps)
  where
    go : Point rs ps (take k (map remove rs ++ map Put ps)) (drop k (map remove rs ++ map Put ps))
        → Point (r ∷ rs) ps (remove r ∷ take k (map remove rs ++ map Put ps)) (drop k (map remove rs ++ map Put ps))
    go (removing xs ys e f g) = removing (r ∷ xs) ys (ap (λ (z : List KeyRule). r ∷ z) e) (ap (λ (z : List Write). remove r ∷ z) f) g
    go (putting xs ys e f g) = putting xs ys e (ap (λ (z : List Write). remove r ∷ z) f) g

-- ---- the change from A to B

module _ (A B : List KeyRule) (apart_A : Apart A) (apart_B : Apart B) where
  apart_removed : Apart (removed A B)
  apart_removed = apart_kept (lack_prefix B) A apart_A

  apart_put : Apart (put A B)
  apart_put = apart_kept (lack_rule A) B apart_B

  -- what is held after all removals
  abbrev left : Held
  left v l = cond (is_some (listed B v l)) (listed A v l) None

  removals_done : (v l : ℕ) → altered (listed A) (map remove (removed A B)) v l ≡ left v l
  removals_done v l =
      altered_removes (listed A) (removed A B) v l ∙ ap (λ (o : Option Server). cond (is_some o) None (listed A v l)) (listed_kept (lack_prefix B) A apart_A v l)
      ∙ go (is_some (listed B v l)) (listed A v l)
    where
      go : (b : Bool) (o : Option Server) → cond (is_some (only (λ s. not b) o)) None o ≡ cond b o None
      go true None = refl
      go true (Some s) = refl
      go false None = refl
      go false (Some s) = refl

  -- what is held after all removals and some puts
  some_put : (xs ys : List KeyRule) → put A B ≡ xs ++ ys → (v l : ℕ) → altered (listed A) (map remove (removed A B) ++ map Put xs) v l ≡ option_or (listed xs v l) (left v l)
  some_put xs ys e v l =
      ap (λ (h : Held). h v l) (altered_append (listed A) (map remove (removed A B)) (map Put xs))
      ∙ altered_puts (altered (listed A) (map remove (removed A B))) xs (apart_front xs ys (subst Apart e apart_put)) v l
      ∙ ap (option_or (listed xs v l)) (removals_done v l)

  -- After all moves the coming rules are held.
  pub all_done : (v l : ℕ) → altered (listed A) (moves A B) v l ≡ listed B v l
  all_done v l =
      some_put (put A B) [] (sym (append-nil (put A B))) v l
      ∙ ap (λ (o : Option Server). option_or o (left v l)) (listed_kept (lack_rule A) B apart_B v l) ∙ go (listed A v l) (listed B v l)
    where
      pick : (a : Option Server) (s : Server) (b : Bool) → same_server a s ≡ b → option_or (cond (not b) (Some s) None) a ≡ Some s
      pick a s true e = answer_is a s e
      pick a s false e = refl

      go : (a b : Option Server) → option_or (only (λ s. not (same_server a s)) b) (cond (is_some b) a None) ≡ b
      go a None = refl
      go a (Some s) = pick a s (same_server a s) refl

  -- While rules are removed only standing prefixes are held, and while rules are put only coming ones.
  in_removals : (xs : List KeyRule) (v l : ℕ) → is_some (altered (listed A) (map remove xs) v l) ≡ true → is_some (listed A v l) ≡ true
  in_removals xs v l h = go (is_some (listed xs v l)) (ap is_some (sym (altered_removes (listed A) xs v l)) ∙ h)
    where
      go : (b : Bool) → is_some (cond b None (listed A v l)) ≡ true → is_some (listed A v l) ≡ true
      go true k = cc
      go false k = k

  in_puts : (xs ys : List KeyRule) → put A B ≡ xs ++ ys → (v l : ℕ) → is_some (altered (listed A) (map remove (removed A B) ++ map Put xs) v l) ≡ true → is_some (listed B v l) ≡ true
  in_puts xs ys e v l h = go (listed B v l) refl
    where
      go : (b : Option Server) → listed B v l ≡ b → is_some b ≡ true
      go (Some s) f = refl
      go None f =
          let g : listed xs v l ≡ None = front_none xs ys v l (ap (λ (z : List KeyRule). listed z v l) (sym e) ∙ kept_none (lack_rule A) B apart_B v l f) in
          absurd (false≢true (ap₂ (λ (o b : Option Server). is_some (option_or o (cond (is_some b) (listed A v l) None))) (sym g) (sym f) ∙ ap is_some (sym (some_put xs ys e v l)) ∙ h))

  module _ (k : ℕ) where
    abbrev so_far : Held
    so_far = altered (listed A) (take k (moves A B))

    abbrev Here : Type 0
    Here = Point (removed A B) (put A B) (take k (moves A B)) (drop k (moves A B))

    here : Here
    here = point k (removed A B) (put A B)

    -- A prefix that both have is held at every point.
    pub never_gone : (v l : ℕ) → is_some (listed A v l) ≡ true → is_some (listed B v l) ≡ true → is_some (so_far v l) ≡ true
    never_gone v l a b = go here
      where
        none : (o : Option Server) → only (λ s. not true) o ≡ None
        none None = refl
        none (Some s) = refl

        gone : (xs ys : List KeyRule) → removed A B ≡ xs ++ ys → listed xs v l ≡ None
        gone xs ys e =
            front_none xs ys v l (ap (λ (z : List KeyRule). listed z v l) (sym e) ∙ listed_kept (lack_prefix B) A apart_A v l
            ∙ ap (λ (c : Bool). only (λ s. not c) (listed A v l)) b ∙ none (listed A v l))

        go : Here → is_some (so_far v l) ≡ true
        go (removing xs ys e f g) =
            ap (λ (ws : List Write). is_some (altered (listed A) ws v l)) f ∙ ap is_some (altered_removes (listed A) xs v l)
            ∙ ap (λ (o : Option Server). is_some (cond (is_some o) None (listed A v l))) (gone xs ys e) ∙ a
        go (putting xs ys e f g) =
            ap (λ (ws : List Write). is_some (altered (listed A) ws v l)) f ∙ ap is_some (some_put xs ys e v l)
            ∙ some_later (listed xs v l) (left v l) (ap (λ (c : Bool). is_some (cond c (listed A v l) None)) b ∙ a)

    -- The count is never above the larger of the two.
    pub never_above : (n m : ℕ) → length A ≤ m → length B ≤ m → ∥ Counted so_far n ∥₁ → n ≤ m
    never_above n m la lb all = go here
      where
        go : Here → n ≤ m
        go (removing xs ys e f g) =
            omega (arith, within_list A apart_A so_far n all (λ v l s. in_removals xs v l (ap (λ (ws : List Write). is_some (altered (listed A) ws v l)) (sym f) ∙ s)))
        go (putting xs ys e f g) =
            omega (arith, within_list B apart_B so_far n all (λ v l s. in_puts xs ys e v l (ap (λ (ws : List Write). is_some (altered (listed A) ws v l)) (sym f) ∙ s)))

    -- A removal finds its prefix.
    pub removed_there : (p : Prefix) (back : List Write) → drop k (moves A B) ≡ Remove p ∷ back → is_some (at so_far p) ≡ true
    removed_there p back d = go here
      where
        no_puts : (ps : List KeyRule) → map Put ps ≡ Remove p ∷ back → ⊥
        no_puts [] e = cc
        no_puts (q ∷ qs) e = cc

        its_prefix : {x : Prefix} {xs : List Write} → Remove x ∷ xs ≡ Remove p ∷ back → x ≡ p
        its_prefix e = cc

        found : (b : Bool) (o : Option Server) (s : Server) → only (λ s. not b) o ≡ Some s → is_some o ≡ true
        found b None s e = cc
        found b (Some t) s e = refl

        -- what is removed stood there, and no earlier removal took it
        stood : (xs : List KeyRule) (y : KeyRule) (ys : List KeyRule) → removed A B ≡ xs ++ (y ∷ ys) → is_some (at (altered (listed A) (map remove xs)) y.prefix) ≡ true
        stood xs y ys e =
            let alone : at (listed xs) y.prefix ≡ None = apart_middle xs y ys (subst Apart e apart_removed) in
            ap is_some (altered_removes (listed A) xs y.prefix.value y.prefix.length)
            ∙ ap (λ (o : Option Server). is_some (cond (is_some o) None (at (listed A) y.prefix))) alone
            ∙ found (is_some (at (listed B) y.prefix)) (at (listed A) y.prefix) y.server
            (sym (listed_kept (lack_prefix B) A apart_A y.prefix.value y.prefix.length)
            ∙ ap (λ (z : List KeyRule). at (listed z) y.prefix) e ∙ listed_behind xs y ys alone)

        at_point : (xs ys : List KeyRule) → removed A B ≡ xs ++ ys → take k (moves A B) ≡ map remove xs → map remove ys ++ map Put (put A B) ≡ Remove p ∷ back
            → is_some (at so_far p) ≡ true
        at_point xs [] e f g = absurd (no_puts (put A B) g)
        at_point xs (y ∷ ys) e f g =
            ap (λ (ws : List Write). is_some (at (altered (listed A) ws) p)) f
            ∙ subst (λ (q : Prefix). is_some (at (altered (listed A) (map remove xs)) q) ≡ true) (its_prefix g) (stood xs y ys e)

        go : Here → is_some (at so_far p) ≡ true
        go (removing xs ys e f g) = at_point xs ys e f (sym g ∙ d)
        go (putting xs ys e f g) = absurd (no_puts ys (sym g ∙ d))

    -- A put of a new prefix comes before as many are held as the coming rules are.
    pub new_below : (r : KeyRule) (back : List Write) → drop k (moves A B) ≡ Put r ∷ back → at so_far r.prefix ≡ None → (n : ℕ) → ∥ Counted so_far n ∥₁ → n < length B
    new_below r back d new n all = go here
      where
        its_rule : {x : KeyRule} {xs : List Write} → Put x ∷ xs ≡ Put r ∷ back → x ≡ r
        its_rule e = cc

        -- what is put is among the coming rules
        comes : (xs ys : List KeyRule) → put A B ≡ xs ++ (r ∷ ys) → (o : Option Server) → at (listed B) r.prefix ≡ o → is_some o ≡ true
        comes xs ys e (Some s) f = refl
        comes xs ys e None f =
            cc (
              kept_none (lack_rule A) B apart_B r.prefix.value r.prefix.length f,
              ap (λ (z : List KeyRule). at (listed z) r.prefix) e ∙ listed_behind xs r ys (apart_middle xs r ys (subst Apart e apart_put)),
            )

        room : (xs ys : List KeyRule) → put A B ≡ xs ++ ys → map Put ys ≡ Put r ∷ back → take k (moves A B) ≡ map remove (removed A B) ++ map Put xs → n < length B
        room xs [] e g f = cc
        room xs (y ∷ ys) e g f =
            below_list B apart_B so_far n all (λ v l s. in_puts xs (y ∷ ys) e v l (ap (λ (ws : List Write). is_some (altered (listed A) ws v l)) (sym f) ∙ s))
            r.prefix new (comes xs ys (e ∙ ap (λ (z : KeyRule). xs ++ (z ∷ ys)) (its_rule g)) (at (listed B) r.prefix) refl)

        no_removals : (ys : List KeyRule) → map remove ys ++ map Put (put A B) ≡ Put r ∷ back → (ys ≡ []) × (map Put (put A B) ≡ Put r ∷ back)
        no_removals [] e = (refl, e)
        no_removals (y ∷ ys) e = cc

        go : Here → n < length B
        go (putting xs ys e f g) = room xs ys e (sym g ∙ d) f
        go (removing xs ys e f g) =
            let q = no_removals ys (sym g ∙ d) in
            let done : removed A B ≡ xs = e ∙ ap (λ (z : List KeyRule). xs ++ z) q.0 ∙ append-nil xs in
            room [] (put A B) refl q.1 (f ∙ ap (map remove) (sym done) ∙ sym (append-nil (map remove (removed A B))))
