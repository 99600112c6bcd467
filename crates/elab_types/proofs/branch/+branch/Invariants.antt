use Rattle.std.proofs.Common.{◌≡◌, ◌++◌, List, Option, map, drop}
use Rattle.sv_tree.specs.declared.tree.item.GenBlock.{GenBlock}
use Rattle.sv_expr.specs.Environment.{environment}
use Rattle.elab_types.specs.Branch.{Guarded, branch, decided}
use Rattle.elab_types.proofs.branch.+branch.Given as goal

-- the branches so far leave it to those after them
abbrev pub invariant-in_branches-loop-branch : goal.invariant-in_branches-loop-branch
invariant-in_branches-loop-branch l = (more : List Guarded) (last : Option GenBlock)
    → decided (environment l.scope) (map branch l.branches ++ more) last ≡ decided (environment l.scope) (map branch (drop l.branch-index l.branches) ++ more) last
