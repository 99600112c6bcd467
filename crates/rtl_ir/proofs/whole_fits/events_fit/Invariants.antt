use Rattle.std.proofs.Common.{◌≡◌, take, true}
use Rattle.std.specs.List.{list_all}
use Rattle.rtl_ir.specs.WithinDesign.{event_fits}
use Rattle.rtl_ir.proofs.whole_fits.events_fit.Given as goal

abbrev pub invariant-loop-event : goal.invariant-loop-event
invariant-loop-event l = list_all (event_fits l.vars) (take l.event-index l.events) ≡ true
