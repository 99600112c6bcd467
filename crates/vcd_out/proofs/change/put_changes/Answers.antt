use Rattle.std.proofs.Common.{◌++◌, arith}
use Rattle.std.specs.Option.{option_copied}
use Rattle.vcd_out.specs.Changes.{changes}
use Rattle.vcd_out.proofs.Changed.{one_fewer, change_added, room_left}
use Rattle.vcd_out.proofs.change.put_changes.Goals as goal

pub places-preserved : goal.places-preserved
places-preserved c = record {
  written = change_added c.args.old.now c.args.new.now c.places.k c.places.rest.now c.places.text.items c.put_change.new.text.items
      (c.args.text.now.items ++ changes c.args.old.now c.args.new.now 0 c.args.order.now) (option_copied c.at.result) (option_copied c.at-in-len1-up.result)
      c.in-len1-up.len_at_least c.at.ensures c.at-in-len1-up.ensures c.put_change.ensures.items c.places.invariant.written;
  count = let fewer = one_fewer c.places.rest.now c.in-len1-up.len_at_least in let count = c.places.invariant.count in omega arith;
  room =
      let left = room_left c.args.new.now c.places.rest.now (option_copied c.at-in-len1-up.result) c.in-len1-up.len_at_least c.at-in-len1-up.ensures in
      let before = c.places.invariant.room in
      let taken = c.put_change.ensures.room in
      let kept = c.put_change.ensures.capacity in
      omega arith;
  capacity =
      let before = c.places.invariant.capacity in
      let kept = c.put_change.ensures.capacity in
      omega arith;
}
