-- Records are written one behind the other.
use Rattle.std.proofs.Common.{◌≡◌, ℕ, ◌+◌, ◌-◌, ◌*◌, ◌<◌, ◌≤◌, true, List, [], ◌∷◌, ◌++◌, length, take, drop, sym, ap, ◌∙◌, subst, append_assoc, arith}
use borrow.Rule.Slice.PartMut.{put_mid}
use Rattle.std.specs.List.{AllByRecursion}
use Rattle.std.proofs.lemmas.List.{drop-drop}
use Rattle.std.proofs.lemmas.Slice.{take-put_mid, drop-put_mid}
use Rattle.std.proofs.lemmas.Bool.Decides.{nat_tests}
use Rattle.rules.specs.declared.rule.Rule.{Rule}
use Rattle.rules.specs.Prefixes.{fits, all_fit}
use Rattle.controller.specs.Records.{record_of, records_of}
use Rattle.controller.proofs.Inverse.{both}

-- a table's lengths are bytes
pub small : (W : ℕ) (rs : List Rule) → W ≤ 24 → all_fit W rs ≡ true → AllByRecursion (λ r. r.length < 256) rs
small W [] w f = tt
small W (r ∷ rs) w f =
    let h : fits W r ≡ true = (both f).0 in
    (grind (arith, nat_tests), small W rs w (both f).1)

-- one turn of the writing: up to `at` the buffer has records of the table, the rules of `rest` are still to come, and the record of their first is put
module _ (at : ℕ) (table rest more : List Rule) (r : Rule) (out before put : List ℕ) (s : rest ≡ r ∷ more) (p : put ≡ record_of r)
    (room : 8 * length table ≤ length out) (count : at + 8 * length rest ≡ 8 * length table) where
  inside : at + 8 ≤ length out
  inside = omega (arith, ap length s)

  small_more : AllByRecursion (λ q. q.length < 256) rest → AllByRecursion (λ q. q.length < 256) more
  small_more h = (subst (λ (qs : List Rule). AllByRecursion (λ q. q.length < 256) qs) s h).1

  count_more : at + 8 + 8 * length more ≡ 8 * length table
  count_more = omega (arith, ap length s)

  written_more : take at out ++ records_of rest ≡ records_of table → take (at + 8) (put_mid at (at + 8 - at) out put) ++ records_of more ≡ records_of table
  written_more w =
      ap (λ (bs : List ℕ). bs ++ records_of more) (take-put_mid at (at + 8 - at) out put (at + 8) (omega (arith, ap length p)) (omega (arith, inside)))
      ∙ append_assoc (take at out) put (records_of more) ∙ ap (λ (bs : List ℕ). take at out ++ (bs ++ records_of more)) p
      ∙ ap (λ (rs : List Rule). take at out ++ records_of rs) (sym s) ∙ w

  kept_more : drop at out ≡ drop at before → drop (at + 8) (put_mid at (at + 8 - at) out put) ≡ drop (at + 8) before
  kept_more k =
      drop-put_mid at (at + 8 - at) out put (at + 8) (omega arith) (omega (arith, inside)) (omega (arith, ap length p))
      ∙ sym (drop-drop 8 at out) ∙ ap (drop 8) k ∙ drop-drop 8 at before

  pub turn : AllByRecursion (λ q. q.length < 256) rest × (at + 8 * length rest ≡ 8 * length table) × (take at out ++ records_of rest ≡ records_of table) × (drop at out ≡ drop at before)
      → AllByRecursion (λ q. q.length < 256) more × (at + 8 + 8 * length more ≡ 8 * length table)
      × (take (at + 8) (put_mid at (at + 8 - at) out put) ++ records_of more ≡ records_of table) × (drop (at + 8) (put_mid at (at + 8 - at) out put) ≡ drop (at + 8) before)
  turn inv = (small_more inv.0, count_more, written_more inv.2, kept_more inv.3)
