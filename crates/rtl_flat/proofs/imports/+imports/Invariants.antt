use Rattle.std.proofs.Common.{◌≡◌, ◌++◌, map, take}
use Rattle.std.specs.List.{flat_map}
use Rattle.rtl_flat.specs.Imports.{item_imports, branch_imports}
use Rattle.rtl_flat.proofs.imports.+imports.Given as goal

abbrev pub invariant-add_items-loop-item : goal.invariant-add_items-loop-item
invariant-add_items-loop-item l = map (λ x. x.now) l.list.items ≡ map (λ x. x.now) l.fn.list.items ++ flat_map item_imports (take l.item-index l.items)

abbrev pub invariant-add_branches-loop-branch : goal.invariant-add_branches-loop-branch
invariant-add_branches-loop-branch l = map (λ x. x.now) l.list.items ≡ map (λ x. x.now) l.fn.list.items ++ flat_map branch_imports (take l.branch-index l.branches)
