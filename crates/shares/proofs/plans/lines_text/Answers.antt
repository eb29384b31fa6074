use Rattle.std.proofs.Common.{◌≡◌, List, ℕ, ◌++◌, length, ◌⊎◌, inl, inr, string_bytes, sym, ap, ◌∙◌, append-nil}
use Rattle.std.specs.Iterator.Adapters.{zip_first, zip_second}
use Rattle.std.specs.Slice.Iter.{iter_rest}
use Rattle.shares.proofs.Planning.{lines_end}
use Rattle.shares.proofs.plans.lines_text.Goals as goal

pub returns : goal.returns
returns c =
    let ts = iter_rest (zip_first c.loop-target.target-iterator) in
    let ds = iter_rest (zip_second c.loop-target.target-iterator) in
    let over : (length ts ≡ 0) ⊎ (length ds ≡ 0) = elim c.in-None.ensures.steps [ inl w ↦ inl w.1.0 | inr w ↦ inr w.1.0 ] in
    sym (append-nil (string_bytes c.loop-target.text)) ∙ ap (λ (x : List ℕ). string_bytes c.loop-target.text ++ x) (sym (lines_end c.args.width.bits ts ds over))
    ∙ c.loop-target.invariant.3
