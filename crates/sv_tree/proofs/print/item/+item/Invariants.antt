use Rattle.std.proofs.Common.{map}
use Rattle.sv_tree.specs.TreeRead.{all_of}
use Rattle.sv_tree.specs.TreeStmt.{texts}
use Rattle.sv_tree.specs.TreeItem.{item_read, item_branch_read}
use Rattle.sv_tree.proofs.Printed.{Prints}
use Rattle.sv_tree.proofs.print.item.+item.Given as goal

abbrev pub invariant-print_items-loop-item : goal.invariant-print_items-loop-item
invariant-print_items-loop-item l = Prints (λ xs. (texts (map item_read xs)).print) l.initial.out l.items l.item-index l.out

abbrev pub invariant-print_item_branches-loop-branch : goal.invariant-print_item_branches-loop-branch
invariant-print_item_branches-loop-branch l = Prints (λ xs. (all_of (map item_branch_read xs)).print) l.initial.out l.branches l.branch-index l.out
