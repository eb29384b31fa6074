-- The lines of a listing, rule by rule.
use Rattle.std.proofs.Common.{◌≡◌, ℕ, suc, ◌+◌, ◌-◌, ◌<◌, ◌≤◌, List, [], ◌∷◌, ◌++◌, map, length, take, drop, Some, None, Option, slice_index_or, sym, refl, ap, ◌∙◌, ap₂, append_assoc, arith}
use borrow.Rule.Slice.PartMut.{put_mid}
use Rattle.std.specs.List.{flat_map}
use Rattle.std.proofs.lemmas.List.{map-append, length-append, length-map, take_at, drop_at, drop-drop}
use Rattle.std.proofs.lemmas.List.Folds.{flat_map-map}
use Rattle.std.proofs.lemmas.Grind.{flat_map-append}
use Rattle.std.proofs.lemmas.Bool.Decides.{nat_tests}
use Rattle.rules.specs.declared.refusal.Refusal.TheVariants.{BufferTooShort}
use Rattle.rules.specs.declared.rule.Rule.{Rule}
use Rattle.rules.specs.Refusals.{first}
use Rattle.model.specs.Keyed.{from, tags, table_of}
use Rattle.switch.specs.declared.tables.TaggedRule.{TaggedRule}
use Rattle.switch.specs.Listings.{Standing, under, standing_of, standing, line, lines, trailer, text_of, listing, over, list_grounds}
use Rattle.switch.specs.Tabled.{tagged, tagged_of, tagged_rules}
use Rattle.switch.proofs.Filling.{lent}

-- ---- the rules of a listing, and the lines of some

abbrev pub as_standing : TaggedRule → Standing
as_standing r = under r.tag r.rule

abbrev pub lines_of : List TaggedRule → List ℕ
lines_of rs = flat_map (λ r. line (as_standing r)) rs

module _ (W : ℕ) (ds : List (Option ℕ)) where
  under_tag : (t : ℕ) (rs : List Rule) → map as_standing (map (tagged W t) rs) ≡ map (under t) rs
  under_tag t [] = refl
  under_tag t (r ∷ rs) = ap (λ (ss : List Standing). under t r ∷ ss) (under_tag t rs)

  of_tags : (ts : List ℕ) → map as_standing (flat_map (tagged_of W ds) ts) ≡ flat_map (standing_of W ds) ts
  unfolding tagged_of standing_of
  of_tags [] = refl
  of_tags (t ∷ ts) =
      map-append as_standing (tagged_of W ds t) (flat_map (tagged_of W ds) ts)
      ∙ ap₂ (λ (xs ys : List Standing). xs ++ ys) (under_tag t (table_of W (slice_index_or ds t None))) (of_tags ts)

  standing_is : map as_standing (tagged_rules W ds) ≡ standing W ds
  unfolding tagged_rules standing
  standing_is = of_tags tags

  pub lines_are : lines_of (tagged_rules W ds) ≡ lines (standing W ds)
  lines_are = sym (flat_map-map line as_standing (tagged_rules W ds)) ∙ ap lines standing_is

  pub count_is : length (tagged_rules W ds) ≡ length (standing W ds)
  count_is = sym (length-map (tagged_rules W ds) as_standing) ∙ ap length standing_is

-- ---- one service after the other

module _ (W : ℕ) (ds : List (Option ℕ)) where
  -- the rules of the tags from i on
  pub from_tag : ℕ → List Standing
  from_tag i = flat_map (standing_of W ds) (from (64 - i) i)

  pub lines_all : lines (from_tag 0) ≡ lines (standing W ds)
  unfolding from_tag standing tags
  lines_all = refl

  tag_more : (i : ℕ) → i < 64 → from_tag i ≡ standing_of W ds i ++ from_tag (i + 1)
  unfolding from_tag from
  tag_more i h =
      let n : 64 - i ≡ suc (64 - (i + 1)) = omega arith in
      let s : suc i ≡ i + 1 = omega arith in
      ap (λ (m : ℕ). flat_map (standing_of W ds) (from m i)) n
      ∙ ap (λ (j : ℕ). standing_of W ds i ++ flat_map (standing_of W ds) (from (64 - (i + 1)) j)) s

  pub lines_more : (i : ℕ) → i < 64 → lines (from_tag i) ≡ lines (standing_of W ds i) ++ lines (from_tag (i + 1))
  lines_more i h = ap lines (tag_more i h) ∙ flat_map-append line (standing_of W ds i) (from_tag (i + 1))

  pub lines_none : (i : ℕ) → 64 ≤ i → lines (from_tag i) ≡ []
  unfolding from_tag from
  lines_none i h = let n : 64 - i ≡ 0 = omega arith in ap (λ (m : ℕ). lines (flat_map (standing_of W ds) (from m i))) n

  -- the rules of one service are those of its table
  pub service_is : (t : ℕ) (rs : List Rule) → rs ≡ table_of W (slice_index_or ds t None) → map (under t) rs ≡ standing_of W ds t
  unfolding standing_of
  service_is t rs e = ap (map (under t)) e

-- ---- the whole text

module _ (W : ℕ) (ds : List (Option ℕ)) (bytes count : ℕ) (b : bytes ≡ length (lines (standing W ds))) (n : count ≡ length (standing W ds)) where
  parts : listing W ds ≡ lines (standing W ds) ++ trailer bytes count
  unfolding listing text_of
  parts = ap₂ (λ (x y : ℕ). lines (standing W ds) ++ trailer x y) (sym b) (sym n)

  pub listing_long : (last : ℕ) → last ≡ length (trailer bytes count) → length (listing W ds) ≡ bytes + last
  listing_long last l = omega (arith, ap length parts, length-append (lines (standing W ds)) (trailer bytes count), b, l)

  -- the lines at the front of a buffer, and the trailer in the rest, which is lent
  pub listing_written : (o out rest : List ℕ) (used : ℕ) → used ≡ length (lines (standing W ds)) → out ≡ over (lines (standing W ds)) o
      → rest ≡ over (trailer bytes count) (take (length out - used) (drop used out)) → put_mid used (length out - used) out rest ≡ over (listing W ds) o
  listing_written o out rest used u e f =
      let front = lines (standing W ds) in
      let back = trailer bytes count in
      let kept : take used out ≡ front = ap₂ (λ (k : ℕ) (w : List ℕ). take k w) u e ∙ take_at front (drop (length front) o) (length front) refl in
      let same : drop used out ≡ drop (length front) o = ap₂ (λ (k : ℕ) (w : List ℕ). drop k w) u e ∙ drop_at front (drop (length front) o) (length front) refl in
      let past : drop (used + length back) out ≡ drop (length front + length back) o
      = sym (drop-drop (length back) used out) ∙ ap (drop (length back)) same ∙ drop-drop (length back) (length front) o in
      lent out rest back used f
      ∙ ap₂ (λ (x y : List ℕ). x ++ (back ++ y)) kept past
      ∙ sym (append_assoc front back (drop (length front + length back) o))
      ∙ ap (λ (k : ℕ). (front ++ back) ++ drop k o) (sym (length-append front back))
      ∙ ap (λ (w : List ℕ). over w o) (sym parts)

pub too_short : (room text : ℕ) → room < text → Some BufferTooShort ≡ first (list_grounds text room)
too_short room text h = grind (arith, nat_tests)

pub long_enough : (room text : ℕ) → text ≤ room → None ≡ first (list_grounds text room)
long_enough room text h = grind (arith, nat_tests)
