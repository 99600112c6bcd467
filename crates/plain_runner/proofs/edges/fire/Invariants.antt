use Rattle.std.proofs.Common.{◌≡◌, Bool, length, take}
use Rattle.std.specs.List.{list_any}
use Rattle.plan_types.specs.Machine.{fired_of}
use Rattle.plain_runner.proofs.edges.fire.Given as goal

abbrev pub invariant-loop-proc : goal.invariant-loop-proc
invariant-loop-proc l = record {
  many : length l.fired ≡ length l.built.design.procs;
  fired : take l.proc l.fired ≡ fired_of (take l.proc l.built.design.procs) l.built.layout.words.items l.last l.now;
  any : l.any ≡ list_any (λ (f : Bool). f) (fired_of (take l.proc l.built.design.procs) l.built.layout.words.items l.last l.now);
}
