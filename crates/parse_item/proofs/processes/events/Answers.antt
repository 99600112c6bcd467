use Rattle.std.proofs.Common.{◌∙◌, sym, ap}
use Rattle.sv_tree.specs.Symbol.{is_event_mark}
use Rattle.sv_tree.specs.TreeItem.{event}
use Rattle.sv_tree.specs.TreeRead.{joined}
use Rattle.parse_expr.specs.ParsedLaws.{one_at, ◌and◌, each_more}
use Rattle.parse_item.proofs.processes.events.Goals as goal

pub events-preserved : goal.events-preserved
events-preserved c =
    rw c.in_ok-push.ensures.more (record {
      reads = each_more (joined is_event_mark event) c.events.more _ c.events.invariant.reads
          (one_at is_event_mark c.requires.deep (ap is_event_mark (sym c.peek.ensures) ∙ sym c.is_event_mark.ensures ∙ c.events-test.true) c.in_ok-mark.ensures.token
          and c.in_ok-item.ensures.reads);
    })
