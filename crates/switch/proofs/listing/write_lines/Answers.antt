use Rattle.std.proofs.Common.{◌+◌, [], sym, arith}
use Rattle.switch.specs.Listings.{standing_of, standing, lines}
use Rattle.switch.proofs.Filling.{lent_long, filled_none, filled_as, turn, turn_room, used_all, filled_all}
use Rattle.switch.proofs.Lining.{from_tag, lines_all, lines_more, lines_none}
use Rattle.switch.proofs.listing.write_lines.Goals as goal

pub loop-tag-init : goal.loop-tag-init
loop-tag-init c =
    let W = c.args.tables.width.bits in
    let ds = c.args.tables.weights.now in
    let o = c.args.out.now in
    filled_as (lines (standing W ds)) o (lines (standing W ds)) (lines (from_tag W ds 0)) o 0 (sym (lines_all W ds)) (filled_none (lines (standing W ds)) o)

pub write_service-used-requires : goal.write_service-used-requires
write_service-used-requires c =
    let W = c.args.tables.width.bits in
    let ds = c.args.tables.weights.now in
    let i = c.loop-tag.tag in
    omega (
      arith,
      turn_room (lines (standing W ds)) c.args.out.now (lines (from_tag W ds i)) c.loop-tag.out (lines (standing_of W ds i)) (lines (from_tag W ds (i + 1))) c.loop-tag.used c.loop-tag.invariant (lines_more W ds i (omega arith)),
      lent_long c.loop-tag.out c.loop-tag.used,
    )

pub loop-tag-preserved : goal.loop-tag-preserved
loop-tag-preserved c =
    let W = c.args.tables.width.bits in
    let ds = c.args.tables.weights.now in
    let i = c.loop-tag.tag in
    turn (lines (standing W ds)) c.args.out.now (lines (from_tag W ds i)) c.loop-tag.out (lines (standing_of W ds i)) (lines (from_tag W ds (i + 1))) c.loop-tag.used
    c.loop-tag.invariant (lines_more W ds i (omega arith)) c.write_service-used.new.out c.write_service-used.result c.write_service-used.ensures.value c.write_service-used.ensures.bytes

pub returns : goal.returns
returns c =
    let W = c.args.tables.width.bits in
    let ds = c.args.tables.weights.now in
    let i = c.loop-tag.tag in
    let o = c.args.out.now in
    let all = filled_as (lines (standing W ds)) o (lines (from_tag W ds i)) [] c.loop-tag.out c.loop-tag.used (lines_none W ds i (omega arith)) c.loop-tag.invariant in
    record {
      value = used_all (lines (standing W ds)) o c.loop-tag.out c.loop-tag.used all;
      bytes = filled_all (lines (standing W ds)) o c.loop-tag.out c.loop-tag.used all;
    }
