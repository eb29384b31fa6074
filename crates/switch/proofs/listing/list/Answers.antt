use Rattle.std.proofs.Common.{◌≡◌, ℕ, ◌+◌, ◌-◌, List, length, take, drop, refl, ap, ◌∙◌, arith}
use Rattle.switch.specs.Listings.{standing, lines, listing, over}
use Rattle.switch.proofs.Lining.{listing_long, listing_written, too_short, long_enough}
use Rattle.switch.proofs.Reading.{read_over}
use Rattle.switch.proofs.listing.list.Goals as goal

pub returns-then-out-extent : goal.returns-then-out-extent
returns-then-out-extent c =
    let W = c.args.register.now.width.bits in
    let ds = c.args.register.now.weights in
    let e = c.measure-extent in
    let b : e.result.bytes ≡ length (lines (standing W ds)) = cc in
    let n : e.result.count ≡ length (standing W ds) = cc in
    let long = listing_long W ds e.result.bytes e.result.count b n c.len.result (c.len.ensures.value ∙ ap length c.trailer-last.ensures) in
    record { refused = too_short (length c.args.out.now) (length (listing W ds)) (omega (arith, long, c.if-out-extent.true)); long = tt; bytes = refl; read = tt; most = omega (arith, long, e.ensures.few, c.len.ensures.fits) }

pub returns : goal.returns
returns c =
    let g = c.args.register.now in
    let W = g.width.bits in
    let ds = g.weights in
    let e = c.measure-extent in
    let o = c.args.out.now in
    let u = c.write_lines-used in
    let v = c.write-rest in
    let b : e.result.bytes ≡ length (lines (standing W ds)) = cc in
    let n : e.result.count ≡ length (standing W ds) = cc in
    let k : u.result ≡ length (lines (standing W ds)) = cc in
    let w : u.new.out ≡ over (lines (standing W ds)) o = cc in
    let l = c.len.ensures.value ∙ ap length c.trailer-last.ensures in
    let long = listing_long W ds e.result.bytes e.result.count b n c.len.result l in
    let last = c.deref.ensures.0 ∙ c.trailer-last.ensures in
    let all : u.result + v.result ≡ length (listing W ds) = omega (arith, long, k, v.ensures.value, ap length last, b, l) in
    let is = listing_written W ds e.result.bytes e.result.count b n o u.new.out v.new.out u.result k w
    (v.ensures.bytes ∙ ap (λ (t : List ℕ). over t (take (length u.new.out - u.result) (drop u.result u.new.out))) last) in
    record {
      refused = long_enough (length o) (length (listing W ds)) (omega (arith, long, c.if-out-extent.false));
      long = all;
      bytes = is;
      read = read_over W ds g.width.most g.weights_fit g.weights_long o _ (u.result + v.result) all is;
      most = omega (arith, long, e.ensures.few, c.len.ensures.fits);
    }
