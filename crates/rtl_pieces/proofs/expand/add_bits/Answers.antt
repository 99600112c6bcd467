use Rattle.rtl_pieces.proofs.Listing.{places_more, there_more}
use Rattle.rtl_pieces.proofs.expand.add_bits.Goals as goal

pub loop-place-preserved : goal.loop-place-preserved
loop-place-preserved c =
    let line = c.args.line.now in
    let done = c.loop-place.bits.items in
    let new = c.push.new.self.items in (
      places_more line done new c.bit.result c.loop-place.place c.args.range.to _ c.loop-place-test.true c.bit.ensures.place c.in_ok-push.ensures.items c.loop-place.invariant.0,
      there_more line done new c.bit.result c.loop-place.invariant.1 c.bit.ensures.there c.in_ok-push.ensures.items,
    )
