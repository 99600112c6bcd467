use Rattle.std.proofs.Common.{◌≡◌, ◌-◌, ◌≤◌, [], map, length, ℕ}
use Rattle.std.specs.Prelude.{All, Vec}
use Rattle.std.specs.declared.alloc.Global.{Global}
use Rattle.run_status.specs.Answer.{Leaves}
use Rattle.run_input.specs.InputLaws.{ReadsOn}
use Rattle.run_input.proofs.files.read_files.Given as goal

abbrev pub invariant-loop-at : goal.invariant-loop-at
invariant-loop-at g l = record {
  within : l.at ≤ length l.names;
  reads : ReadsOn (g.W.World.told l.initial.world).files l.names l.at (map (λ (v : Vec ℕ Global). v.items) l.files.items);
  count : length l.files.items ≡ l.at;
  few : All (λ (v : Vec ℕ Global). length v.items ≤ 4194304) l.files.items;
  rest : Leaves [] (g.W.World.told l.initial.world) (g.W.World.told l.world);
}

abbrev pub decreases-loop-at : goal.decreases-loop-at
decreases-loop-at g l = length l.names - l.at
