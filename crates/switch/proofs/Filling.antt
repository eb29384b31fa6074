-- A text that is written into a buffer part by part, each part behind those already there.
use Rattle.std.proofs.Common.{◌≡◌, ℕ, ◌+◌, ◌-◌, ◌≤◌, List, [], ◌++◌, length, take, drop, sym, refl, ap, ◌∙◌, append_assoc, arith}
use borrow.Rule.Slice.PartMut.{put_mid}
use Rattle.std.proofs.lemmas.List.{append-nil, length-append, length-drop, length-take-le, take-append-drop, take_at, take_all, take_rest, drop_at, drop_all, drop-drop}
use Rattle.switch.specs.Listings.{over, behind}

-- ---- a part of a buffer that is lent

-- The writer of ys was lent the buffer from `used` on.
pub lent : (o rest ys : List ℕ) (used : ℕ) → rest ≡ over ys (take (length o - used) (drop used o)) → put_mid used (length o - used) o rest ≡ behind used ys o
lent o rest ys used e =
    let end : drop (length o - used) (drop used o) ≡ [] = drop_all (length o - used) (drop used o) (omega (arith, length-drop used o)) in
    ap (λ (w : List ℕ). take used o ++ (rest ++ w)) end
    ∙ ap (λ (w : List ℕ). take used o ++ w) (append-nil rest ∙ e ∙ ap (over ys) (take_rest o used))
    ∙ ap (λ (w : List ℕ). take used o ++ (ys ++ w)) (drop-drop (length ys) used o)

-- as long as what is left
pub lent_long : (o : List ℕ) (used : ℕ) → length (take (length o - used) (drop used o)) ≡ length o - used
lent_long o used = ap length (take_rest o used) ∙ length-drop used o

-- ---- part by part

-- The buffer, once o, has the first `used` bytes of the text and is as it was behind them; the rest of the text is left to write.
pub record Filled (text o : List ℕ) (used : ℕ) (left out : List ℕ) : Type 0 where
  pub within : used ≤ length text
  pub to_write : drop used text ≡ left
  pub bytes : out ≡ take used text ++ drop used o

pub filled_none : (text o : List ℕ) → Filled text o 0 text o
filled_none text o = record { within = omega arith; to_write = refl; bytes = refl }

module _ (text o ys more out : List ℕ) (used : ℕ) (f : Filled text o used (ys ++ more) out) where
  split : text ≡ (take used text ++ ys) ++ more
  split = sym (take-append-drop used text) ∙ ap (λ (w : List ℕ). take used text ++ w) f.to_write ∙ sym (append_assoc (take used text) ys more)

  front : length (take used text ++ ys) ≡ used + length ys
  front = omega (arith, length-append (take used text) ys, length-take-le used text f.within)

  -- the next part fits
  pub part_fits : used + length ys ≤ length text
  part_fits = omega (arith, ap length split, length-append (take used text ++ ys) more, front)

  -- once it is written
  pub filled_more : (used' : ℕ) (out' : List ℕ) → used' ≡ used + length ys → out' ≡ behind used ys out → Filled text o used' more out'
  filled_more used' out' u e =
      let fit = part_fits in
      let kept : take used out ≡ take used text = ap (take used) f.bytes ∙ take_at (take used text) (drop used o) used (length-take-le used text f.within) in
      let same : drop used out ≡ drop used o = ap (drop used) f.bytes ∙ drop_at (take used text) (drop used o) used (length-take-le used text f.within) in
      let past : drop (used + length ys) out ≡ drop (used + length ys) o
      = sym (drop-drop (length ys) used out) ∙ ap (drop (length ys)) same ∙ drop-drop (length ys) used o in
      let first : take (used + length ys) text ≡ take used text ++ ys = ap (take (used + length ys)) split ∙ take_at (take used text ++ ys) more (used + length ys) front in
      record {
        within = omega arith;
        to_write = ap (λ (n : ℕ). drop n text) u ∙ ap (drop (used + length ys)) split ∙ drop_at (take used text ++ ys) more (used + length ys) front;
        bytes =
            e ∙ ap (λ (w : List ℕ). take used out ++ (ys ++ w)) past ∙ ap (λ (w : List ℕ). w ++ (ys ++ drop (used + length ys) o)) kept
            ∙ sym (append_assoc (take used text) ys (drop (used + length ys) o))
            ∙ ap (λ (w : List ℕ). w ++ drop (used + length ys) o) (sym first)
            ∙ ap (λ (n : ℕ). take n text ++ drop n o) (sym u);
      }

-- the text says what is left in another way
pub filled_as : (text o left left' out : List ℕ) (used : ℕ) → left ≡ left' → Filled text o used left out → Filled text o used left' out
filled_as text o left left' out used e f = record { within = f.within; to_write = f.to_write ∙ e; bytes = f.bytes }

-- the buffer keeps its length
pub filled_long : (text o left out : List ℕ) (used : ℕ) → Filled text o used left out → length text ≤ length o → length out ≡ length o
filled_long text o left out used f room =
    omega (arith, f.within, ap length f.bytes, length-append (take used text) (drop used o), length-take-le used text f.within, length-drop used o)

-- nothing is left
pub used_all : (text o out : List ℕ) (used : ℕ) → Filled text o used [] out → used ≡ length text
used_all text o out used f = omega (arith, f.within, ap length f.to_write, length-drop used text)

pub filled_all : (text o out : List ℕ) (used : ℕ) → Filled text o used [] out → out ≡ over text o
filled_all text o out used f =
    f.bytes ∙ ap (λ (n : ℕ). take n text ++ drop n o) (used_all text o out used f)
    ∙ ap (λ (w : List ℕ). w ++ drop (length text) o) (take_all (length text) text (omega arith))

-- ---- a turn of a loop that lends the free rest of the buffer to the writer of the next part

module _ (text o left out ys more : List ℕ) (used : ℕ) (f : Filled text o used left out) (next : left ≡ ys ++ more) where
  pub turn_room : used + length ys ≤ length text
  turn_room = part_fits text o ys more out used (filled_as text o left (ys ++ more) out used next f)

  pub turn : (rest : List ℕ) (k : ℕ) → k ≡ length ys → rest ≡ over ys (take (length out - used) (drop used out))
      → Filled text o (used + k) more (put_mid used (length out - used) out rest)
  turn rest k e wrote =
      filled_more text o ys more out used (filled_as text o left (ys ++ more) out used next f) (used + k) (put_mid used (length out - used) out rest)
      (ap (λ (n : ℕ). used + n) e) (lent out rest ys used wrote)
