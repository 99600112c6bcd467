use Rattle.std.proofs.Common.{◌≡◌, map, take}
use Rattle.model_build.specs.Settle.{origin_among}
use Rattle.model_build.proofs.settle.origins.Given as goal

abbrev pub invariant-loop-number : goal.invariant-loop-number
invariant-loop-number l = l.places ≡ map (origin_among l.procs l.combs) (take l.number-index l.list)
