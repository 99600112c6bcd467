use Rattle.std.proofs.Common.{◌≡◌, ◌≤◌, ◌+◌, ◌-◌, true, sym, ap, ◌∙◌, arith}
use Rattle.sv_tree.specs.Symbol.{level_of, is_part}
use Rattle.sv_tree.specs.declared.tree.expr.Args.TheVariants as arguments
use Rattle.parse_expr.specs.ParsedLaws.{◌and◌}
use Rattle.parse_expr.proofs.Rules.{rule_name, rule_no_args, rule_args, rule_steps, rule_selects, rule_prefixed, rule_operator, rule_levelled, rule_choice}
use Rattle.parse_expr.proofs.Closings.{is_none, closes_paren, closes_system, closes_call, closes_concat, closes_repeat, closes_bit, closes_part, makes_chosen, closing_goes}
use Rattle.parse_expr.proofs.expression.+grammar.Goals as goal

pub expr-choices-preserved : goal.expr-choices-preserved
expr-choices-preserved t c =
    rw c.in_ok-push.ensures.more (
    rule_choice c.choices.choices c.choices.last c.in_ok-value.value c.in_ok-last-2.last c.in_ok-choice.choice c.in_ok-mark.ensures.deep c.choices.invariant
    c.in_ok-mark.ensures.token c.in_ok-value.ensures.reads c.in_ok-choice.ensures.made c.in_ok-last-2.ensures.reads)

pub expr-returns-clause-reads : goal.expr-returns-clause-reads
expr-returns-clause-reads t c = makes_chosen c.choose.result c.choices.choices c.choices.last c.choices.invariant c.choose.ensures.made

pub binary-loop-level-init : goal.binary-loop-level-init
binary-loop-level-init t c = rule_prefixed c.in_ok-operators.operators c.in_ok-operand.operand c.in_ok-tree.tree c.in_ok-tree.ensures.made c.in_ok-operators.ensures.reads c.in_ok-operand.ensures.reads

pub binary-loop-level-preserved : goal.binary-loop-level-preserved
binary-loop-level-preserved t c =
    rule_levelled c.loop-level.tree c.in_ok-more.more c.in_ok-tree-2.tree c.in_ok-tree-2.ensures.made c.loop-level.auto.level c.loop-level.invariant c.in_ok-more.ensures.reads

pub binary-returns-clause-reads : goal.binary-returns-clause-reads
binary-returns-clause-reads t c =
    let last : c.loop-level.level ≡ c.args.loosest + 1 = omega arith in
    rw last at c.loop-level.invariant

pub steps-operators-preserved : goal.steps-operators-preserved
steps-operators-preserved t c =
    let next : level_of _ ≡ c.args.level = ap level_of (sym c.peek.ensures) ∙ sym c.level_of.ensures ∙ c.operators-test.true in
    let same : c.args.level - 1 + 1 ≡ c.args.level = omega arith in
    rw c.in_ok-push.ensures.more (
    rule_operator c.operators.more c.in_ok-operand.operand c.requires.deep c.operators.invariant next c.in_ok-mark.ensures.token (rw same at c.in_ok-operand.ensures.reads))

pub primary-returns-in_ok-arg-in-System-clause-reads : goal.primary-returns-in_ok-arg-in-System-clause-reads
primary-returns-in_ok-arg-in-System-clause-reads t c =
    closes_system c.args.depth c.system_call.new.at c.system_call.result c.in_ok-arg-in-System.arg c.in_ok-opening-in-System.ensures.deep
    c.in_ok-name-in-System.ensures.token c.in_ok-opening-in-System.ensures.token c.in_ok-arg-in-System.ensures.reads c.system_call.ensures.made

pub primary-returns-in_ok-inner-in-ParenOpen-clause-reads : goal.primary-returns-in_ok-inner-in-ParenOpen-clause-reads
primary-returns-in_ok-inner-in-ParenOpen-clause-reads t c =
    closes_paren c.args.depth c.paren.new.at c.paren.result c.in_ok-inner-in-ParenOpen.inner c.in_ok-opening-in-ParenOpen.ensures.deep
    c.in_ok-opening-in-ParenOpen.ensures.token c.in_ok-inner-in-ParenOpen.ensures.reads c.paren.ensures.made

pub named-returns-then-not-sees-clause-reads : goal.named-returns-then-not-sees-clause-reads
named-returns-then-not-sees-clause-reads t c =
    rule_name c.in_ok-selects.selects c.requires.deep c.in_ok-name.ensures.token c.in_ok-selects.ensures.reads

pub named-returns-then-sees-clause-reads : goal.named-returns-then-sees-clause-reads
named-returns-then-sees-clause-reads t c =
    closes_call c.args.depth c.call.new.at c.call.result arguments.Empty c.in_ok-opening.ensures.deep c.in_ok-name.ensures.token c.in_ok-opening.ensures.token
    (rule_no_args c.in_ok-opening.ensures.token.takes.within) c.call.ensures.made

pub named-returns-clause-reads : goal.named-returns-clause-reads
named-returns-clause-reads t c =
    let operands = c.in_ok-operands.operands in
    closes_call c.args.depth c.call_with.new.at c.call_with.result (arguments.Listed operands.first operands.more) c.in_ok-opening.ensures.deep c.in_ok-name.ensures.token
    c.in_ok-opening.ensures.token (rule_args operands.first operands.more c.in_ok-operands.ensures.reads) c.call_with.ensures.made

pub braced-returns-then-len-gt0-clause-reads : goal.braced-returns-then-len-gt0-clause-reads
braced-returns-then-len-gt0-clause-reads t c =
    let parts = c.in_ok-parts.parts in
    closes_concat c.args.depth c.concat.new.at c.concat.result parts.first parts.more c.in_ok-opening.ensures.deep c.in_ok-opening.ensures.token c.in_ok-parts.ensures.reads
    c.concat.ensures.made

pub braced-returns-clause-reads : goal.braced-returns-clause-reads
braced-returns-clause-reads t c =
    let parts = c.in_ok-parts.parts in
    let inner = c.in_ok-inner.inner in
    let none : parts.more ≡ _ = is_none parts.more (omega (arith, c.len.ensures)) in
    let within : c.args.depth + 2 ≤ 128 = omega (arith, c.in_ok-inner_opening.ensures.deep) in
    closes_repeat c.args.depth c.repeat.new.at c.repeat.result parts.first inner.first parts.more inner.more within none
    c.in_ok-opening.ensures.token c.in_ok-parts.ensures.reads c.in_ok-inner_opening.ensures.token c.in_ok-inner.ensures.reads c.repeat.ensures.made

pub list-commas-preserved : goal.list-commas-preserved
list-commas-preserved t c =
    rw c.in_ok-push.ensures.more (record {
      first = c.commas.invariant.first;
      more = rule_steps c.commas.more c.in_ok-operand.operand c.requires.deep c.commas.invariant.more c.in_ok-mark.ensures.token c.in_ok-operand.ensures.reads;
    })

pub list-returns-clause-reads : goal.list-returns-clause-reads
list-returns-clause-reads t c = c.commas.invariant.first and c.commas.invariant.more

pub selects-selects-preserved : goal.selects-selects-preserved
selects-selects-preserved t c = rw c.in_ok-push.ensures.more (rule_selects c.selects.selects c.in_ok-select.select c.selects.invariant c.in_ok-select.ensures.reads)

pub select-returns-then-not-is_part-clause-reads : goal.select-returns-then-not-is_part-clause-reads
select-returns-then-not-is_part-clause-reads t c =
    closes_bit c.args.depth c.bit_select.new.at c.bit_select.result c.in_ok-from.from c.in_ok-opening.ensures.deep c.in_ok-opening.ensures.token c.in_ok-from.ensures.reads
    c.bit_select.ensures.made

pub select-returns-clause-reads : goal.select-returns-clause-reads
select-returns-clause-reads t c =
    let part : is_part _ ≡ true = ap is_part (sym c.peek.ensures) ∙ sym c.if-not-is_part.ensures in
    closes_part c.args.depth _ c.part_select.new.at c.part_select.result c.in_ok-from.from c.in_ok-to.to c.in_ok-opening.ensures.deep c.in_ok-opening.ensures.token
    c.in_ok-from.ensures.reads part c.in_ok-mark.ensures.token c.in_ok-to.ensures.reads c.part_select.ensures.made

pub select-returns-then-not-is_part-clause-goes : goal.select-returns-then-not-is_part-clause-goes
select-returns-then-not-is_part-clause-goes t c =
    closing_goes c.args.source.now c.bit_select.new.at _ c.bit_select.result _ (omega (arith, c.in_ok-opening.ensures.token.takes.forward, c.in_ok-from.ensures.reads.forward)) c.bit_select.ensures.made

pub select-returns-clause-goes : goal.select-returns-clause-goes
select-returns-clause-goes t c =
    closing_goes c.args.source.now c.part_select.new.at _ c.part_select.result _ (
    omega (arith, c.in_ok-opening.ensures.token.takes.forward, c.in_ok-from.ensures.reads.forward, c.in_ok-mark.ensures.token.forward, c.in_ok-to.ensures.reads.forward))
    c.part_select.ensures.made
