use Rattle.std.proofs.Common.{◌≡◌, ◌&&◌, ℕ}
use Rattle.std.specs.Prelude.{nat_lt}
use Rattle.rtl_pieces.specs.Bits.{writes}
use Rattle.rtl_pieces.specs.Owned.{owned_by}
use Rattle.rtl_pieces.proofs.owned.owned.Given as goal

abbrev pub invariant-loop-proc : goal.invariant-loop-proc
invariant-loop-proc l = (p b : ℕ) → owned_by p b l.all.items ≡ (nat_lt p l.proc && writes l.line l.design.procs p b)
