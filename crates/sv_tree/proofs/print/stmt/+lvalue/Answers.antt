use Rattle.std.proofs.Common.{◌≡◌, Option, map, sym, ap, ◌∙◌, subst, add-one}
use Rattle.sv_tree.specs.declared.tree.stmt.Lvalue.{Lvalue}
use Rattle.sv_tree.specs.TreeRead.{Tokens, Read, all_of}
use Rattle.sv_tree.specs.Printed.{Appends}
use Rattle.sv_tree.specs.TreeStmt.{lvalue_read, lvalue_step_read}
use Rattle.sv_tree.specs.TreeStmtLaws.{lvalue-Name, lvalue-Concat, lvalue_step-roll}
use Rattle.sv_tree.proofs.Printed.{◌and◌, prints_next}
use Rattle.sv_tree.proofs.print.stmt.+lvalue.Goals as goal

module _ {old new : Option Tokens} {e f : Lvalue} {r : Read} where
  by_lvalue : e ≡ f → lvalue_read f ≡ r → Appends old r.print new → Appends old (lvalue_read e).print new
  by_lvalue is reads h = subst (λ x. Appends old x.print new) (sym (ap lvalue_read is ∙ reads)) h

pub print_lvalue-returns-in-Name : goal.print_lvalue-returns-in-Name
print_lvalue-returns-in-Name t c = by_lvalue c.in-Name.is (lvalue-Name _ _) (c.push.ensures and (rw c.as_slice.ensures at c.print_selects.ensures))

pub print_lvalue-returns-in-Concat : goal.print_lvalue-returns-in-Concat
print_lvalue-returns-in-Concat t c =
    by_lvalue c.in-Concat.is (lvalue-Concat _ _ _ _)
    (c.push-in-Concat.ensures and (rw c.get.ensures at c.print_lvalue.ensures) and (rw c.as_slice-in-Concat.ensures at c.print_lvalue_steps.ensures) and c.push-in-Concat-2.ensures)

pub print_lvalue_steps-loop-step-preserved : goal.print_lvalue_steps-loop-step-preserved
print_lvalue_steps-loop-step-preserved t c =
    let reads = lvalue_step-roll c.step-item.result.comma c.step-item.result.target in
    rw add-one (prints_next c.step-item.result c.loop-step-test.true c.step-item.is (λ rest r. ap (λ x. x.print ((all_of (map lvalue_step_read rest)).print r)) reads)
    (c.push.ensures and c.print_lvalue.ensures) c.loop-step.invariant)
