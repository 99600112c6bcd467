use Rattle.std.proofs.Common.{◌≡◌, length}
use Rattle.vcd_out.proofs.Places.{LinkedFrom}
use Rattle.vcd_out.proofs.links.Links.new.Given as goal

abbrev pub invariant-link : goal.invariant-link
invariant-link l = LinkedFrom l.at l.keys.items l.first.items l.next.items × (length l.first.items ≡ l.bound)

abbrev pub decreases-link : goal.decreases-link
decreases-link l = l.at
