use Rattle.std.proofs.Common.{◌≡◌, length}
use Rattle.std.specs.List.{list_all}
use Rattle.plan_types.specs.Touches.{keeps_to_its_own}
use Rattle.model_build.proofs.reach.check_touch.Given as goal

abbrev pub invariant-nodes : goal.invariant-nodes
invariant-nodes l =
    list_all (keeps_to_its_own l.ground.design.now l.ground.words.now l.ground.codes.now) l.nodes ≡ list_all (keeps_to_its_own l.ground.design.now l.ground.words.now l.ground.codes.now) l.rest

abbrev pub decreases-nodes : goal.decreases-nodes
decreases-nodes l = length l.rest
