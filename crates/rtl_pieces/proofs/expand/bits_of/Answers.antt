use Rattle.std.proofs.Common.{map}
use Rattle.rtl_pieces.specs.Line.{place_of}
use Rattle.rtl_pieces.specs.Bits.{places_in}
use Rattle.rtl_pieces.proofs.Listing.{lists_has, rises, places_end}
use Rattle.rtl_pieces.proofs.expand.bits_of.Goals as goal

pub returns-clause-exactly : goal.returns-clause-exactly
returns-clause-exactly c =
    let line = c.args.line.now in
    let bits = c.loop-rest.bits.items in
    lists_has line bits c.args.ranges.now (places_end (map (place_of line) bits) c.loop-rest.rest.now (places_in c.args.ranges.now) c.in_default.len_below c.loop-rest.invariant.0)

pub returns-clause-ascending : goal.returns-clause-ascending
returns-clause-ascending c =
    let line = c.args.line.now in
    let bits = c.loop-rest.bits.items in
    rises line bits c.args.ranges.now (places_end (map (place_of line) bits) c.loop-rest.rest.now (places_in c.args.ranges.now) c.in_default.len_below c.loop-rest.invariant.0)
    c.loop-rest.invariant.1 c.requires.ascending
