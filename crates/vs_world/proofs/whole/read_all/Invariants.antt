use Rattle.std.proofs.Common.{◌≡◌, ◌≤◌, ◌-◌, ℕ, List, length, take, IfSome, Some}
use Rattle.vs_world.specs.Outside.{OnlyReads}
use Rattle.vs_world.proofs.whole.read_all.Given as goal

abbrev pub invariant-turns : goal.invariant-turns
invariant-turns g l = record {
  bound : length l.out.items ≤ l.limit;
  read : IfSome (g.W.World.told l.initial.world).files (λ files. (bytes : List ℕ) → files l.name ≡ Some bytes → (l.out.items ≡ take (length l.out.items) bytes) × (length l.out.items ≤ length bytes));
  rest : OnlyReads l.name (g.W.World.told l.initial.world) (g.W.World.told l.world);
}

abbrev pub decreases-turns : goal.decreases-turns
decreases-turns g l = l.limit - length l.out.items
