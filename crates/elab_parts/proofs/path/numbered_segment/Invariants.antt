use Rattle.std.proofs.Common.{◌≡◌, ◌++◌, replicate, codes}
use Rattle.elab_parts.specs.Paths.{zero_digit}
use Rattle.elab_parts.proofs.path.numbered_segment.Given as goal

abbrev pub invariant-loop : goal.invariant-loop
invariant-loop l = l.bytes.items ≡ codes "genblk" ++ replicate l.counter zero_digit
