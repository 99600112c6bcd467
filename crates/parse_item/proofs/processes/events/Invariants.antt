use Rattle.std.proofs.Common.{◌-◌, length}
use Rattle.sv_tree.specs.Symbol.{is_event_mark}
use Rattle.sv_tree.specs.TreeItem.{event}
use Rattle.sv_tree.specs.TreeRead.{each, joined}
use Rattle.parse_expr.specs.Parsed.{Parsed}
use Rattle.parse_item.proofs.processes.events.Given as goal

abbrev pub invariant-events : goal.invariant-events
invariant-events l = record {
  reads : Parsed l.source l.depth l.initial.at l.at (each (joined is_event_mark event) l.more);
}

abbrev pub decreases-events : goal.decreases-events
decreases-events l = length l.source.tokens - l.at
