use Rattle.std.proofs.Common.{◌≡◌, ◌≤◌, ◌<◌, ℕ, arith, List, length, None, refl, sym, ap, ◌∙◌, pos}
use Rattle.vs_base.specs.Number.{Number}
use Rattle.sv_tree.specs.declared.symbol.Symbol.{Symbol}
use Rattle.sv_tree.specs.declared.token.Token.{Token}
use Rattle.sv_expr.specs.declared.typed.Typed.{Typed}
use Rattle.sv_expr.specs.Environment.{Environment, environment}
use Rattle.sv_expr.specs.Meaning.{Meaning, own_reading, meaning_of, symbol}
use Rattle.sv_expr.specs.MeaningLaws.{args-Empty, args-Listed, expr-Decimal, expr-Based, expr-Sized, expr-Fill, expr-Name, expr-Paren, expr-Concat, expr-Repeat, expr-Call, expr-System, expr-Prefix, expr-Level, expr-Choose, select-Bit, select-Part}
use Rattle.sv_expr.specs.Walk.{plain_count}
use Rattle.sv_expr.proofs.Walks.{args_fault_is, level_typed, level_in_context, level_comparison, level_logic, choices_kind, choices_fault, choice_found, choice_last, named_is}
use Rattle.sv_expr.proofs.Prefixes.{plain_is, split_is, plain_width, all_width}
use Rattle.sv_expr.proofs.Exprs.{typed_of, typed_by, value_by, own_by, fault_by, args_by, select_by, concatenated_typed, concatenated_value, concatenated_own, parts_whole, joins_next, joins_all}
use Rattle.sv_expr.proofs.walk.+walk.Goals as goal

below : {a b : ℕ} → a ≤ b → (a ≡ b → ⊥) → a < b
below h apart = omega arith

-- ---- types

pub args_fault-returns-in-Empty : goal.args_fault-returns-in-Empty
args_fault-returns-in-Empty t c = args_by (environment c.args.scope.now) c.in-Empty.is (args-Empty (environment c.args.scope.now)) refl

pub args_fault-returns-in-Listed : goal.args_fault-returns-in-Listed
args_fault-returns-in-Listed t c =
    let env : Environment = environment c.args.scope.now in
    let steps = rw (c.typed-first.ensures.typed, c.get.ensures, c.as_slice.ensures) at c.steps_typed.ensures.typed in
    args_by env c.in-Listed.is (args-Listed env _ _) (ap (λ (t : Typed). t.fault) steps ∙ args_fault_is env (meaning_of env c.in-Listed.first).typed c.in-Listed.more)

pub select_typed-returns-in-Bit-clause-typed : goal.select_typed-returns-in-Bit-clause-typed
select_typed-returns-in-Bit-clause-typed t c =
    let env : Environment = environment c.args.scope.now in
    select_by env c.in-Bit.is (select-Bit env _ _ _) (typed_of refl (ap (λ (t : Typed). t.fault) (rw c.get.ensures at c.typed.ensures.typed)))

pub select_typed-returns-in-Part-clause-typed : goal.select_typed-returns-in-Part-clause-typed
select_typed-returns-in-Part-clause-typed t c =
    let env : Environment = environment c.args.scope.now in
    let from = rw c.get-in-Part.ensures at c.own-left.ensures.reading in
    let to = rw c.get-in-Part-2.ensures at c.own-right.ensures.reading in
    let left = rw c.get-in-Part.ensures at c.own-left.ensures.fault in
    let right = rw c.get-in-Part-2.ensures at c.own-right.ensures.fault in
    let earlier = rw (left, right) at c.first-earlier.ensures in
    select_by env c.in-Part.is (select-Part env _ _ _ _ _) (rw (earlier, c.symbol.ensures, from, to) at c.part_typed.ensures.typed)

pub typed-returns-in-Decimal-clause-typed : goal.typed-returns-in-Decimal-clause-typed
typed-returns-in-Decimal-clause-typed t c =
    let env : Environment = environment c.args.scope.now in
    typed_by env c.in-Decimal.is (expr-Decimal env _) (rw c.text_of.ensures at c.decimal_typed.ensures.typed)

pub typed-returns-in-Based-clause-typed : goal.typed-returns-in-Based-clause-typed
typed-returns-in-Based-clause-typed t c =
    let env : Environment = environment c.args.scope.now in
    typed_by env c.in-Based.is (expr-Based env _) (rw c.text_of-in-Based.ensures at c.based_typed.ensures.typed)

pub typed-returns-in-Sized-clause-typed : goal.typed-returns-in-Sized-clause-typed
typed-returns-in-Sized-clause-typed t c =
    let env : Environment = environment c.args.scope.now in
    typed_by env c.in-Sized.is (expr-Sized env _ _) (rw (c.text_of-in-Sized.ensures, c.text_of-in-Sized-2.ensures) at c.sized_typed.ensures.typed)

pub typed-returns-in-Fill-clause-typed : goal.typed-returns-in-Fill-clause-typed
typed-returns-in-Fill-clause-typed t c =
    let env : Environment = environment c.args.scope.now in
    typed_by env c.in-Fill.is (expr-Fill env _) c.fine.ensures

pub named_typed-returns-clause-typed : goal.named_typed-returns-clause-typed
named_typed-returns-clause-typed t c =
    let env : Environment = environment c.args.scope.now in
    let last = rw c.fine.ensures at c.selects_typed-last.ensures.typed in
    rw last at c.by_selects.ensures.typed
    ∙ named_is env (env.constant c.args.name.name.0) (env.variable c.args.name.name.0) (env.memory c.args.name.name.0) c.args.selects.now c.whole-whole.result c.whole-whole.ensures.whole

pub typed-returns-in-Name-clause-typed : goal.typed-returns-in-Name-clause-typed
typed-returns-in-Name-clause-typed t c =
    let env : Environment = environment c.args.scope.now in
    typed_by env c.in-Name.is (expr-Name env _ _) (rw c.as_slice.ensures at c.named_typed.ensures.typed)

pub typed-returns-in-Paren-clause-typed : goal.typed-returns-in-Paren-clause-typed
typed-returns-in-Paren-clause-typed t c =
    let env : Environment = environment c.args.scope.now in
    typed_by env c.in-Paren.is (expr-Paren env _ _ _) (rw c.get.ensures at c.typed.ensures.typed)

pub typed-returns-in-Concat-clause-typed : goal.typed-returns-in-Concat-clause-typed
typed-returns-in-Concat-clause-typed t c =
    let env : Environment = environment c.args.scope.now in
    let first = rw c.get-in-Concat.ensures at c.typed-in-Concat.ensures.typed in
    let parts = rw (first, c.as_slice-in-Concat.ensures) at c.parts_typed-parts.ensures in
    let small = rw first at c.typed-in-Concat.ensures.width in
    typed_by env c.in-Concat.is (expr-Concat env _ _ _ _)
    (rw (c.once.ensures.reading, parts) at c.times_typed.ensures.typed ∙ concatenated_typed env c.in-Concat.open None (pos 1) (meaning_of env c.in-Concat.first) c.in-Concat.more small)

pub typed-returns-in-Repeat-clause-typed : goal.typed-returns-in-Repeat-clause-typed
typed-returns-in-Repeat-clause-typed t c =
    let env : Environment = environment c.args.scope.now in
    let reads = rw c.get-in-Repeat.ensures at c.own-count.ensures.reading in
    let fault = rw c.get-in-Repeat.ensures at c.own-count.ensures.fault in
    let first = rw c.get-in-Repeat-2.ensures at c.typed-in-Repeat.ensures.typed in
    let parts = rw (first, c.as_slice-in-Repeat.ensures) at c.parts_typed-parts-in-Repeat.ensures in
    let earlier = rw (fault, parts) at c.first-earlier.ensures in
    let small = rw first at c.typed-in-Repeat.ensures.width in
    typed_by env c.in-Repeat.is (expr-Repeat env _ _ _ _ _ _ _)
    (rw (earlier, reads, parts) at c.times_typed-in-Repeat.ensures.typed
    ∙ concatenated_typed env c.in-Repeat.open (meaning_of env c.in-Repeat.count).typed.fault (own_reading (meaning_of env c.in-Repeat.count)) (meaning_of env c.in-Repeat.part) c.in-Repeat.more small)

pub typed-returns-in-Call-clause-typed : goal.typed-returns-in-Call-clause-typed
typed-returns-in-Call-clause-typed t c =
    let env : Environment = environment c.args.scope.now in
    typed_by env c.in-Call.is (expr-Call env _ _ _ _) (typed_of c.import_kind.ensures.kind c.args_fault.ensures)

pub typed-returns-in-System-clause-typed : goal.typed-returns-in-System-clause-typed
typed-returns-in-System-clause-typed t c =
    let env : Environment = environment c.args.scope.now in
    typed_by env c.in-System.is (expr-System env _ _ _ _) (rw (c.function_of.ensures, c.typed-in-System.ensures.typed, c.get-in-System.ensures) at c.system_typed.ensures)

pub typed-returns-in-Prefix-clause-typed : goal.typed-returns-in-Prefix-clause-typed
typed-returns-in-Prefix-clause-typed t c =
    let env : Environment = environment c.args.scope.now in
    let inner = rw c.get-in-Prefix.ensures at c.typed-inner.ensures.typed in
    typed_by env c.in-Prefix.is (expr-Prefix env _ _) (typed_of (rw (c.as_slice-in-Prefix.ensures, inner) at c.prefix_kind.ensures.kind) (ap (λ (t : Typed). t.fault) inner))

pub typed-returns-in-Level-clause-typed : goal.typed-returns-in-Level-clause-typed
typed-returns-in-Level-clause-typed t c =
    let env : Environment = environment c.args.scope.now in
    let first = rw c.get-in-Level.ensures at c.typed-in-Level.ensures.typed in
    let by = rw c.as_slice-in-Level.ensures at c.level_class.ensures in
    typed_by env c.in-Level.is (expr-Level env _ _)
    (rw (by, first, c.as_slice-in-Level-2.ensures) at c.steps_typed.ensures.typed ∙ sym (level_typed env (meaning_of env c.in-Level.first) c.in-Level.more))

pub typed-returns-in-Choose-clause-typed : goal.typed-returns-in-Choose-clause-typed
typed-returns-in-Choose-clause-typed t c =
    let env : Environment = environment c.args.scope.now in
    let choices = rw c.as_slice-in-Choose.ensures at c.choices_typed-choices.ensures.typed in
    let last = rw c.get-in-Choose.ensures at c.typed-last.ensures.typed in
    typed_by env c.in-Choose.is (expr-Choose env _ _)
    (typed_of
    (rw (choices, last) at c.wider.ensures ∙ choices_kind env c.in-Choose.choices (meaning_of env c.in-Choose.last).typed.kind)
    (rw (choices, last) at c.first.ensures ∙ choices_fault env c.in-Choose.choices (meaning_of env c.in-Choose.last).typed.fault))

-- ---- values

pub valued-times_value-requires-clause-whole : goal.valued-times_value-requires-clause-whole
valued-times_value-requires-clause-whole t c = λ within.
    let env : Environment = environment c.args.scope.now in
    let first = rw c.get-in-Concat.ensures at c.typed.ensures.typed in
    let parts = rw (first, c.as_slice.ensures) at c.parts_typed-parts.ensures in
    let small = rw first at c.typed.ensures.width in
    let start = rw c.get-in-Concat-2.ensures at c.alone.ensures.value in
    let width = rw start at (rw c.get-in-Concat-2.ensures at c.alone.ensures.width) in
    let joins = rw (start, c.as_slice-in-Concat.ensures) at c.parts_value-value.ensures in
    parts_whole env (pos 1) (meaning_of env c.in-Concat.first) c.in-Concat.more c.parts_value-value.result small width joins (rw (c.once.ensures.reading, parts) at within)
    ∙ sym (ap (λ (t : Typed). t.kind.width) parts)

pub valued-returns-in-Concat-clause-value : goal.valued-returns-in-Concat-clause-value
valued-returns-in-Concat-clause-value t c =
    let env : Environment = environment c.args.scope.now in
    let first = rw c.get-in-Concat.ensures at c.typed.ensures.typed in
    let parts = rw (first, c.as_slice.ensures) at c.parts_typed-parts.ensures in
    let small = rw first at c.typed.ensures.width in
    let start = rw c.get-in-Concat-2.ensures at c.alone.ensures.value in
    let width = rw start at (rw c.get-in-Concat-2.ensures at c.alone.ensures.width) in
    let joins = rw (start, c.as_slice-in-Concat.ensures) at c.parts_value-value.ensures in
    value_by env c.in-Concat.is (expr-Concat env _ _ _ _)
    (rw (c.once.ensures.reading, parts) at c.times_value.ensures.value
    ∙ concatenated_value env c.in-Concat.open None (pos 1) (meaning_of env c.in-Concat.first) c.in-Concat.more c.parts_value-value.result c.args.context small width joins)

pub valued-times_value-requires-in-Repeat-clause-whole : goal.valued-times_value-requires-in-Repeat-clause-whole
valued-times_value-requires-in-Repeat-clause-whole t c = λ within.
    let env : Environment = environment c.args.scope.now in
    let reads = rw c.get-in-Repeat.ensures at c.own-count.ensures.reading in
    let first = rw c.get-in-Repeat-2.ensures at c.typed-in-Repeat.ensures.typed in
    let parts = rw (first, c.as_slice-in-Repeat.ensures) at c.parts_typed-parts-in-Repeat.ensures in
    let small = rw first at c.typed-in-Repeat.ensures.width in
    let start = rw c.get-in-Repeat-3.ensures at c.alone-in-Repeat.ensures.value in
    let width = rw start at (rw c.get-in-Repeat-3.ensures at c.alone-in-Repeat.ensures.width) in
    let joins = rw (start, c.as_slice-in-Repeat-2.ensures) at c.parts_value-value-in-Repeat.ensures in
    parts_whole env (own_reading (meaning_of env c.in-Repeat.count)) (meaning_of env c.in-Repeat.first) c.in-Repeat.more c.parts_value-value-in-Repeat.result small width joins (rw (reads, parts) at within)
    ∙ sym (ap (λ (t : Typed). t.kind.width) parts)

pub valued-returns-in-Repeat-clause-value : goal.valued-returns-in-Repeat-clause-value
valued-returns-in-Repeat-clause-value t c =
    let env : Environment = environment c.args.scope.now in
    let reads = rw c.get-in-Repeat.ensures at c.own-count.ensures.reading in
    let first = rw c.get-in-Repeat-2.ensures at c.typed-in-Repeat.ensures.typed in
    let parts = rw (first, c.as_slice-in-Repeat.ensures) at c.parts_typed-parts-in-Repeat.ensures in
    let small = rw first at c.typed-in-Repeat.ensures.width in
    let start = rw c.get-in-Repeat-3.ensures at c.alone-in-Repeat.ensures.value in
    let width = rw start at (rw c.get-in-Repeat-3.ensures at c.alone-in-Repeat.ensures.width) in
    let joins = rw (start, c.as_slice-in-Repeat-2.ensures) at c.parts_value-value-in-Repeat.ensures in
    value_by env c.in-Repeat.is (expr-Repeat env _ _ _ _ _ _ _)
    (rw (reads, parts) at c.times_value-in-Repeat.ensures.value
    ∙ concatenated_value env c.in-Repeat.open (meaning_of env c.in-Repeat.count).typed.fault (own_reading (meaning_of env c.in-Repeat.count)) (meaning_of env c.in-Repeat.first) c.in-Repeat.more c.parts_value-value-in-Repeat.result c.args.context small width joins)

pub valued-returns-then-plain-marks-clause-value : goal.valued-returns-then-plain-marks-clause-value
valued-returns-then-plain-marks-clause-value t c =
    let env : Environment = environment c.args.scope.now in
    let symbols : Token → Symbol = symbol env in
    let marks : List Token = c.in-Prefix.operators in
    let count = rw c.as_slice-marks.ensures at c.plain_count-plain.ensures.count in
    let all = sym count ∙ rw c.as_slice-marks.ensures at c.if-plain-marks.true in
    let value = rw c.get-then-plain-marks.ensures at c.valued-value.ensures.value in
    value_by env c.in-Prefix.is (expr-Prefix env _ _)
    (rw (value, c.as_slice-marks.ensures) at c.prefixed_all.ensures ∙ sym (plain_is symbols marks (meaning_of env c.in-Prefix.operand) c.args.context all))

pub valued-returns-then-plain-marks-clause-width : goal.valued-returns-then-plain-marks-clause-width
valued-returns-then-plain-marks-clause-width t c =
    let env : Environment = environment c.args.scope.now in
    let symbols : Token → Symbol = symbol env in
    let marks : List Token = c.in-Prefix.operators in
    let count = rw c.as_slice-marks.ensures at c.plain_count-plain.ensures.count in
    let all = sym count ∙ rw c.as_slice-marks.ensures at c.if-plain-marks.true in
    ap (λ (n : Number). n.width) (rw c.as_slice-marks.ensures at c.prefixed_all.ensures) ∙ all_width symbols marks c.valued-value.result all ∙ c.valued-value.ensures.width

pub valued-returns-else-plain-marks-clause-value : goal.valued-returns-else-plain-marks-clause-value
valued-returns-else-plain-marks-clause-value t c =
    let env : Environment = environment c.args.scope.now in
    let symbols : Token → Symbol = symbol env in
    let marks : List Token = c.in-Prefix.operators in
    let count = rw c.as_slice-marks.ensures at c.plain_count-plain.ensures.count in
    let less : plain_count symbols marks < length marks = below (rw (count, c.as_slice-marks.ensures) at c.plain_count-plain.ensures.most) (rw (count, c.as_slice-marks.ensures) at c.if-plain-marks.false) in
    let own = rw c.get-in-Prefix.ensures at c.alone-own.ensures.value in
    let bit = rw (count, own, c.as_slice-marks.ensures) at c.prefixed_from-bit.ensures in
    let inner = rw bit at c.in_context-in-Prefix.ensures in
    value_by env c.in-Prefix.is (expr-Prefix env _ _)
    (rw (count, inner, c.as_slice-marks.ensures) at c.prefixed_before.ensures ∙ sym (split_is symbols marks (meaning_of env c.in-Prefix.operand) c.args.context less))

pub valued-returns-else-plain-marks-clause-width : goal.valued-returns-else-plain-marks-clause-width
valued-returns-else-plain-marks-clause-width t c =
    let env : Environment = environment c.args.scope.now in
    let symbols : Token → Symbol = symbol env in
    let count = rw c.as_slice-marks.ensures at c.plain_count-plain.ensures.count in
    ap (λ (n : Number). n.width) (rw (count, c.as_slice-marks.ensures) at c.prefixed_before.ensures)
    ∙ plain_width symbols c.in-Prefix.operators c.in_context-in-Prefix.result ∙ ap (λ (n : Number). n.width) c.in_context-in-Prefix.ensures

pub valued-returns-in-Decimal-clause-value : goal.valued-returns-in-Decimal-clause-value
valued-returns-in-Decimal-clause-value t c =
    let env : Environment = environment c.args.scope.now in
    value_by env c.in-Decimal.is (expr-Decimal env _) (rw c.text_of.ensures at c.decimal_value.ensures)

pub valued-returns-in-Based-clause-value : goal.valued-returns-in-Based-clause-value
valued-returns-in-Based-clause-value t c =
    let env : Environment = environment c.args.scope.now in
    value_by env c.in-Based.is (expr-Based env _) (rw c.text_of-in-Based.ensures at c.based_value.ensures)

pub valued-returns-in-Sized-clause-value : goal.valued-returns-in-Sized-clause-value
valued-returns-in-Sized-clause-value t c =
    let env : Environment = environment c.args.scope.now in
    value_by env c.in-Sized.is (expr-Sized env _ _) (rw (c.text_of-in-Sized.ensures, c.text_of-in-Sized-2.ensures) at c.sized_value.ensures)

pub valued-returns-in-Fill-clause-value : goal.valued-returns-in-Fill-clause-value
valued-returns-in-Fill-clause-value t c =
    let env : Environment = environment c.args.scope.now in
    value_by env c.in-Fill.is (expr-Fill env _) (rw c.text_of-in-Fill.ensures at c.fill_value.ensures)

pub valued-returns-in-Name-clause-value : goal.valued-returns-in-Name-clause-value
valued-returns-in-Name-clause-value t c =
    let env : Environment = environment c.args.scope.now in
    value_by env c.in-Name.is (expr-Name env _ _) c.constant_value.ensures

pub valued-returns-in-Paren-clause-value : goal.valued-returns-in-Paren-clause-value
valued-returns-in-Paren-clause-value t c =
    let env : Environment = environment c.args.scope.now in
    value_by env c.in-Paren.is (expr-Paren env _ _ _) (rw c.get.ensures at c.valued.ensures.value)

pub valued-returns-in-Call-clause-value : goal.valued-returns-in-Call-clause-value
valued-returns-in-Call-clause-value t c =
    let env : Environment = environment c.args.scope.now in
    value_by env c.in-Call.is (expr-Call env _ _ _ _) c.nothing.ensures

pub valued-returns-in-System-clause-value : goal.valued-returns-in-System-clause-value
valued-returns-in-System-clause-value t c =
    let env : Environment = environment c.args.scope.now in
    let arg = rw c.get-in-System.ensures at c.alone-in-System.ensures.value in
    let value = rw (c.function_of.ensures, arg) at c.system_value-value.ensures in
    value_by env c.in-System.is (expr-System env _ _ _ _) (rw value at c.in_context.ensures)

pub valued-returns-in-Arithmetic-clause-value : goal.valued-returns-in-Arithmetic-clause-value
valued-returns-in-Arithmetic-clause-value t c =
    let env : Environment = environment c.args.scope.now in
    let first = rw c.get-in-Arithmetic.ensures at c.valued-first.ensures.value in
    let is = rw c.as_slice-more.ensures at c.level_class-class.ensures in
    value_by env c.in-Level.is (expr-Level env _ _)
    (rw (first, c.as_slice-more.ensures) at c.steps_value.ensures.value
    ∙ level_in_context env (meaning_of env c.in-Level.first) c.args.context c.in-Level.more c.level_class-class.result is c.in-Arithmetic.is)

pub valued-returns-in-Comparison-clause-value : goal.valued-returns-in-Comparison-clause-value
valued-returns-in-Comparison-clause-value t c =
    let env : Environment = environment c.args.scope.now in
    let m : Meaning = meaning_of env c.in-Level.first in
    let is = rw c.as_slice-more.ensures at c.in-Comparison.ensures in
    let kind = rw c.get-in-Comparison.ensures at c.typed-in-Comparison.ensures.typed in
    let common = rw (kind, c.as_slice-more.ensures) at c.first_context-common.ensures.context in
    let value = rw (c.get-in-Comparison-2.ensures, common) at c.valued-value-in-Comparison.ensures.value in
    let width = rw common at c.valued-value-in-Comparison.ensures.width in
    let left = rw (kind, c.as_slice-more.ensures) at c.steps_left.ensures in
    value_by env c.in-Level.is (expr-Level env _ _)
    (rw left at c.in_context-in-Comparison.ensures
    ∙ sym (level_comparison env m c.valued-value-in-Comparison.result c.args.context c.in-Level.more (sym is) value width))

pub valued-returns-in-Conjunction-clause-value : goal.valued-returns-in-Conjunction-clause-value
valued-returns-in-Conjunction-clause-value t c =
    let env : Environment = environment c.args.scope.now in
    let first = rw c.get-in-Conjunction.ensures at c.alone-in-Conjunction.ensures.value in
    let held = rw first at c.is_true-holds.ensures in
    let is = rw c.as_slice-more.ensures at c.level_class-class.ensures in
    let holds = rw (held, c.as_slice-more.ensures) at c.steps_hold.ensures in
    value_by env c.in-Level.is (expr-Level env _ _)
    (rw holds at c.truth.ensures ∙ level_logic env (meaning_of env c.in-Level.first) c.args.context c.in-Level.more c.level_class-class.result is c.in-Conjunction.is)

pub valued-returns-in-Some-clause-value : goal.valued-returns-in-Some-clause-value
valued-returns-in-Some-clause-value t c =
    let env : Environment = environment c.args.scope.now in
    value_by env c.in-Choose.is (expr-Choose env _ _)
    (choice_found env c.in-Choose.choices (meaning_of env c.in-Choose.last) c.args.context c.in-Some.value (rw c.as_slice-in-Choose.ensures at c.in-Some.ensures.value))

pub valued-returns-in-None-clause-value : goal.valued-returns-in-None-clause-value
valued-returns-in-None-clause-value t c =
    let env : Environment = environment c.args.scope.now in
    value_by env c.in-Choose.is (expr-Choose env _ _)
    (rw c.get-in-None.ensures at c.valued-in-None.ensures.value
    ∙ choice_last env c.in-Choose.choices (meaning_of env c.in-Choose.last) c.args.context (rw c.as_slice-in-Choose.ensures at c.in-None.ensures.value))

-- ---- values alone, with their sign and fault

pub own-returns-in-Paren-clause-reading : goal.own-returns-in-Paren-clause-reading
own-returns-in-Paren-clause-reading t c =
    let env : Environment = environment c.args.scope.now in
    own_by env c.in-Paren.is (expr-Paren env _ _ _) (rw c.get.ensures at c.own.ensures.reading)

pub own-returns-in-Paren-clause-fault : goal.own-returns-in-Paren-clause-fault
own-returns-in-Paren-clause-fault t c =
    let env : Environment = environment c.args.scope.now in
    fault_by env c.in-Paren.is (expr-Paren env _ _ _) (rw c.get.ensures at c.own.ensures.fault)

pub own-times_own-requires : goal.own-times_own-requires
own-times_own-requires t c = record {
  whole = λ within.
      let env : Environment = environment c.args.scope.now in
      let reads = rw c.get-in-Repeat.ensures at c.own-count.ensures.reading in
      let first = rw c.get-in-Repeat-2.ensures at c.typed.ensures.typed in
      let parts = rw (first, c.as_slice.ensures) at c.parts_typed-parts.ensures in
      let small = rw first at c.typed.ensures.width in
      let start = rw c.get-in-Repeat-3.ensures at c.alone.ensures.value in
      let width = rw start at (rw c.get-in-Repeat-3.ensures at c.alone.ensures.width) in
      let joins = rw (start, c.as_slice-in-Repeat.ensures) at c.parts_value-value.ensures in
      parts_whole env (own_reading (meaning_of env c.in-Repeat.count)) (meaning_of env c.in-Repeat.first) c.in-Repeat.more c.parts_value-value.result small width joins (rw (reads, parts) at within)
      ∙ sym (ap (λ (t : Typed). t.kind.width) parts);
}

pub own-returns-in-Repeat-clause-reading : goal.own-returns-in-Repeat-clause-reading
own-returns-in-Repeat-clause-reading t c =
    let env : Environment = environment c.args.scope.now in
    let reads = rw c.get-in-Repeat.ensures at c.own-count.ensures.reading in
    let fault = rw c.get-in-Repeat.ensures at c.own-count.ensures.fault in
    let first = rw c.get-in-Repeat-2.ensures at c.typed.ensures.typed in
    let parts = rw (first, c.as_slice.ensures) at c.parts_typed-parts.ensures in
    let small = rw first at c.typed.ensures.width in
    let start = rw c.get-in-Repeat-3.ensures at c.alone.ensures.value in
    let width = rw start at (rw c.get-in-Repeat-3.ensures at c.alone.ensures.width) in
    let joins = rw (start, c.as_slice-in-Repeat.ensures) at c.parts_value-value.ensures in
    let value = rw (fault, reads, parts) at c.times_own.ensures.value in
    let signed = rw (fault, reads, parts) at c.times_own.ensures.signed in
    own_by env c.in-Repeat.is (expr-Repeat env _ _ _ _ _ _ _)
    (concatenated_own env c.in-Repeat.open (meaning_of env c.in-Repeat.count).typed.fault (own_reading (meaning_of env c.in-Repeat.count)) (meaning_of env c.in-Repeat.first) c.in-Repeat.more c.parts_value-value.result small width joins
    c.times_own.result.value c.times_own.result.signed value signed)

pub own-returns-in-Repeat-clause-fault : goal.own-returns-in-Repeat-clause-fault
own-returns-in-Repeat-clause-fault t c =
    let env : Environment = environment c.args.scope.now in
    let reads = rw c.get-in-Repeat.ensures at c.own-count.ensures.reading in
    let fault = rw c.get-in-Repeat.ensures at c.own-count.ensures.fault in
    let first = rw c.get-in-Repeat-2.ensures at c.typed.ensures.typed in
    let parts = rw (first, c.as_slice.ensures) at c.parts_typed-parts.ensures in
    let small = rw first at c.typed.ensures.width in
    fault_by env c.in-Repeat.is (expr-Repeat env _ _ _ _ _ _ _)
    (rw (fault, reads, parts) at c.times_own.ensures.fault
    ∙ ap (λ (t : Typed). t.fault) (concatenated_typed env c.in-Repeat.open (meaning_of env c.in-Repeat.count).typed.fault (own_reading (meaning_of env c.in-Repeat.count)) (meaning_of env c.in-Repeat.first) c.in-Repeat.more small))

pub parts_value-returns : goal.parts_value-returns
parts_value-returns t c = joins_all (environment c.args.scope.now) c.args.first c.args.more.now c.loop-step.step-index c.loop-step.so_far c.loop-step-test.false c.loop-step.invariant

pub parts_value-loop-step-preserved : goal.parts_value-loop-step-preserved
parts_value-loop-step-preserved t c =
    joins_next (environment c.args.scope.now) c.args.first c.args.more.now c.loop-step.step-index c.step-item.result c.loop-step.so_far c.alone.result c.joined-so_far.result c.loop-step-test.true c.step-item.is
    c.alone.ensures.value c.alone.ensures.width c.joined-so_far.ensures c.loop-step.invariant
