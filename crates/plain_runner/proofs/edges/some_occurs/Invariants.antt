use Rattle.std.proofs.Common.{◌≡◌, take}
use Rattle.std.specs.List.{list_any}
use Rattle.plan_types.specs.Machine.{occurs}
use Rattle.plain_runner.proofs.edges.some_occurs.Given as goal

abbrev pub invariant-loop-event : goal.invariant-loop-event
invariant-loop-event l = l.some ≡ list_any (occurs l.built.layout.words.items l.last l.now) (take l.event-index l.list)
