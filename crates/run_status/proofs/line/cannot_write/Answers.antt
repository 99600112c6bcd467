use Rattle.std.proofs.Common.{◌++◌, ℕ, List, subst, refl, inl, inr}
use Rattle.std.specs.Prelude.{codes}
use Rattle.run_status.specs.Answer.{Tells}
use Rattle.run_status.proofs.line.cannot_write.Goals as goal

pub returns-in-Ok : goal.returns-in-Ok
returns-in-Ok g c =
    let told : Tells (codes "cannot write " ++ c.name_of.result.now) (g.W.World.told c.args.world.now) (g.W.World.told c.tell.new.world) = inl c.in-Ok.ensures.ok in
    record { told = (refl, subst (λ (name : List ℕ). Tells (codes "cannot write " ++ name) (g.W.World.told c.args.world.now) (g.W.World.told c.tell.new.world)) c.name_of.ensures told) }

pub returns-in-Err : goal.returns-in-Err
returns-in-Err g c =
    let told : Tells (codes "cannot write " ++ c.name_of.result.now) (g.W.World.told c.args.world.now) (g.W.World.told c.tell.new.world) = inr c.in-Err.ensures.err in
    record { told = (refl, subst (λ (name : List ℕ). Tells (codes "cannot write " ++ name) (g.W.World.told c.args.world.now) (g.W.World.told c.tell.new.world)) c.name_of.ensures told) }
