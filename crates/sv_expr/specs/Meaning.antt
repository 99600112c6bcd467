-- The type of an expression, its first fault, and its value in a context (IEEE 1800-2017 11.6.1, 11.8.1, 11.8.2).
use Rattle.std.specs.Prelude.{ℕ, ◌+◌, true, false, if◌then◌else◌, List, [], ◌∷◌, map, fold, Option, Some, None, ℤ, pos, ◌+ℤ◌, ◌-ℤ◌, ◌*ℤ◌}
use Rattle.vs_base.specs.declared.types.ValueType.{ValueType}
use Rattle.vs_base.specs.Number.{Number, reading}
use Rattle.vs_base.specs.Operators.{holds_true, conjunction, disjunction, joined, repeated, log_ceiling}
use Rattle.sv_tree.specs.declared.symbol.Symbol.{Symbol}
use Rattle.sv_tree.specs.declared.symbol.Symbol.TheVariants as sym
use Rattle.sv_tree.specs.declared.token.Token.{Token}
use Rattle.sv_tree.specs.declared.tree.expr.Expr.{Expr}
use Rattle.sv_tree.specs.declared.tree.expr.Args.{Args}
use Rattle.sv_tree.specs.declared.tree.expr.Choice.{Choice}
use Rattle.sv_tree.specs.declared.tree.expr.Select.{Select}
use Rattle.sv_tree.specs.declared.tree.expr.Step.{Step}
use Rattle.sv_tree.specs.declared.tree.expr.Args.TheOpen.{Args-F, Expr-F, Select-F, Choice-F, Step-F}
use Rattle.sv_tree.specs.declared.tree.expr.Args.TheFolds as folds
use Rattle.sv_tree.specs.Spelling.{symbol_of}
use Rattle.sv_expr.specs.declared.fault.WalkFault.{WalkFault}
use Rattle.sv_expr.specs.declared.typed.Typed.{Typed}
use Rattle.sv_expr.specs.declared.operator.Class.{Class}
use Rattle.sv_expr.specs.declared.operator.Class.TheVariants as class
use Rattle.sv_expr.specs.declared.operator.Function.{Function}
use Rattle.sv_expr.specs.declared.operator.Function.TheVariants as function
use Rattle.vs_base.specs.Types.{wider, decimal_type, in_context}
use Rattle.sv_expr.specs.declared.scope.Fixed.{Fixed}
use Rattle.sv_expr.specs.Environment.{Environment, text}
use Rattle.sv_expr.specs.Bound.{bit, fine, ◌before◌, is_width, ranged, whole_part}
use Rattle.sv_expr.specs.Literal.{decimal_number, based_number, based_signed, without_size, of_size, literal_value, nothing, fill_value}
use Rattle.sv_expr.specs.Operator.{class_of, combined, operated, shifted, compared, is_reduction, prefixed, function_of}

-- What an expression means: its own type with its first fault, and its value in each context, whose width and sign go down to the operands that are not taken alone.
pub record Meaning : Type 0 where
  pub typed : Typed
  pub value : ValueType → Number

-- an operator's mark and the operand after it
pub record Operand : Type 0 where
  pub symbol : Symbol
  pub operand : Meaning

-- a test of `?:` and the value where it holds
pub record Chosen : Type 0 where
  pub test : Meaning
  pub value : Meaning

-- the value of an operand taken alone: in its own type
abbrev pub alone : Meaning → Number
alone m = m.value m.typed.kind

-- the number, read with its own sign
abbrev pub own_reading : Meaning → ℤ
own_reading m = reading m.typed.kind.signed (alone m)

-- ---- operators with two operands

abbrev pub combined_typed : Class → Typed → Typed → Typed
combined_typed by a b = record { kind = combined by a.kind b.kind; fault = a.fault before b.fault }

-- a comparison at the wider type of both
abbrev pub compared_value : Meaning → Operand → Number
compared_value a b =
    let t = wider a.typed.kind b.operand.typed.kind in
    compared b.symbol t.signed (a.value t) (b.operand.value t)

abbrev pub combined_value : Class → Meaning → Operand → ValueType → Number
combined_value class.Arithmetic a b context = operated b.symbol context.signed (a.value context) (b.operand.value context)
combined_value class.Shift a b context = shifted b.symbol context.signed (a.value context) (alone b.operand)
combined_value class.Comparison a b context = in_context (compared_value a b) context
combined_value class.Conjunction a b context = in_context (conjunction (alone a) (alone b.operand)) context
combined_value class.Disjunction a b context = in_context (disjunction (alone a) (alone b.operand)) context

abbrev pub combine : Class → Meaning → Operand → Meaning
combine by a b = record { typed = combined_typed by a.typed b.operand.typed; value = combined_value by a b }

-- operators that stand in one list are of one level, and so of one class
abbrev pub level_class : List Operand → Class
level_class [] = class.Arithmetic
level_class (b ∷ more) = class_of b.symbol

-- they group from the left
abbrev pub level : Meaning → List Operand → Meaning
level first more = fold (combine (level_class more)) first more

-- ---- operators before an operand, the outermost first

abbrev pub prefix_kind : List Symbol → ValueType → ValueType
prefix_kind [] kind = kind
prefix_kind (s ∷ more) kind = if is_reduction s then bit else prefix_kind more kind

abbrev pub prefix_value : List Symbol → Meaning → ValueType → Number
prefix_value [] m context = m.value context
prefix_value (s ∷ more) m context =
    if is_reduction s then in_context (prefixed s (prefix_value more m (prefix_kind more m.typed.kind))) context else prefixed s (prefix_value more m context)

abbrev pub prefix : List Symbol → Meaning → Meaning
prefix symbols m = record {
  typed = record { kind = prefix_kind symbols m.typed.kind; fault = m.typed.fault };
  value = prefix_value symbols m;
}

-- ---- `?:`, which groups from the right

abbrev pub choice_kind : List Chosen → ValueType → ValueType
choice_kind [] kind = kind
choice_kind (c ∷ more) kind = wider c.value.typed.kind (choice_kind more kind)

abbrev pub choice_fault : List Chosen → Option WalkFault → Option WalkFault
choice_fault [] fault = fault
choice_fault (c ∷ more) fault = c.test.typed.fault before c.value.typed.fault before choice_fault more fault

-- only the tests up to the one that holds are evaluated, and its value
abbrev pub choice_value : List Chosen → Meaning → ValueType → Number
choice_value [] last context = last.value context
choice_value (c ∷ more) last context = if holds_true (alone c.test) then c.value.value context else choice_value more last context

abbrev pub choose : List Chosen → Meaning → Meaning
choose choices last = record {
  typed = record { kind = choice_kind choices last.typed.kind; fault = choice_fault choices last.typed.fault };
  value = choice_value choices last;
}

-- ---- concatenations: the parts are taken alone, the first one has the highest bits

abbrev pub operands_fault : Option WalkFault → List Operand → Option WalkFault
operands_fault fault more = fold (λ f b. f before b.operand.typed.fault) fault more

abbrev pub parts_fault : Meaning → List Operand → Option WalkFault
parts_fault first more = operands_fault first.typed.fault more

abbrev pub more_width : List Operand → ℕ
more_width [] = 0
more_width (b ∷ more) = b.operand.typed.kind.width + more_width more

abbrev pub parts_width : Meaning → List Operand → ℕ
parts_width first more = first.typed.kind.width + more_width more

abbrev pub parts_value : Meaning → List Operand → Number
parts_value first more = fold (λ n b. joined n (alone b.operand)) (alone first) more

-- so many times the parts; a count is read with its own sign
abbrev pub concatenated : Token → Option WalkFault → ℤ → Meaning → List Operand → Meaning
concatenated brace earlier times first more = record {
  typed = ranged brace.at (earlier before parts_fault first more) (times *ℤ pos (parts_width first more));
  value = λ context. if is_width (whole_part (times *ℤ pos (parts_width first more))) then in_context (repeated (whole_part times) (parts_value first more)) context else nothing context;
}

-- ---- names

-- the type of the last select, or of the whole
abbrev pub selected : Typed → List Typed → Typed
selected whole selects = fold (λ t s. record { kind = s.kind; fault = t.fault before s.fault }) whole selects

-- of a memory the first select is the index of an element
abbrev pub element : ValueType → List Typed → Typed
element kind [] = fine kind
element kind (index ∷ more) = selected (record { kind = kind; fault = index.fault }) more

abbrev pub named_by : Option Fixed → Option ValueType → Option ValueType → List Typed → Typed
named_by (Some k) variable memory selects = selected (fine k.kind) selects
named_by None (Some kind) memory selects = selected (fine kind) selects
named_by None None (Some kind) selects = element kind selects
named_by None None None selects = selected (fine bit) selects

abbrev pub fixed_value : Option Fixed → ValueType → Number
fixed_value (Some k) context = in_context k.value context
fixed_value None context = nothing context

-- what is no constant counts as 0
abbrev pub named : Environment → Token → List Typed → Meaning
named env t selects = record {
  typed = named_by (env.constant t.name.0) (env.variable t.name.0) (env.memory t.name.0) selects;
  value = fixed_value (env.constant t.name.0);
}

abbrev pub kind_or_bit : Option ValueType → ValueType
kind_or_bit (Some kind) = kind
kind_or_bit None = bit

-- ---- selects

-- `[m:l]` has the bits from l to m, `[e +: c]` and `[e -: c]` have c bits
abbrev pub part_width : Symbol → ℤ → ℤ → ℤ
part_width sym.Colon m l = (m -ℤ l) +ℤ pos 1
part_width _ e c = c

-- ---- system functions

abbrev pub system_kind : Function → ValueType → ValueType
system_kind function.CeilingLog kind = decimal_type
system_kind function.Signed kind = record { width = kind.width; signed = true }
system_kind function.Unsigned kind = record { width = kind.width; signed = false }

abbrev pub system_value : Function → Number → Number
system_value function.CeilingLog n = log_ceiling n
system_value _ n = n

abbrev pub system : Function → Meaning → Meaning
system f m = record {
  typed = record { kind = system_kind f m.typed.kind; fault = m.typed.fault };
  value = λ context. in_context (system_value f (alone m)) context;
}

-- ---- one layer of an expression, over what its parts mean

module _ (env : Environment) where
  abbrev pub symbol : Token → Symbol
  symbol = symbol_of env.texts

  abbrev pub literal : Typed → ℕ → Meaning
  literal typed number = record { typed = typed; value = literal_value typed number }

  abbrev pub args_layer : Args-F (Option WalkFault) Meaning Typed Chosen Operand → Option WalkFault
  args_layer Args-F.Empty = None
  args_layer (Args-F.Listed first more) = parts_fault first more

  abbrev pub select_layer : Select-F (Option WalkFault) Meaning Typed Chosen Operand → Typed
  select_layer (Select-F.Bit opens at closes) = record { kind = bit; fault = at.typed.fault }
  select_layer (Select-F.Part opens from mark to closes) =
      ranged opens.at (from.typed.fault before to.typed.fault) (part_width (symbol mark) (own_reading from) (own_reading to))

  abbrev pub choice_layer : Choice-F (Option WalkFault) Meaning Typed Chosen Operand → Chosen
  choice_layer c = record { test = c.test; value = c.value }

  abbrev pub step_layer : Step-F (Option WalkFault) Meaning Typed Chosen Operand → Operand
  step_layer x = record { symbol = symbol x.mark; operand = x.operand }

  abbrev pub expr_layer : Expr-F (Option WalkFault) Meaning Typed Chosen Operand → Meaning
  expr_layer (Expr-F.Decimal t) = literal (without_size t.at (decimal_number (text env t)) true) (decimal_number (text env t))
  expr_layer (Expr-F.Based t) = literal (without_size t.at (based_number (text env t)) (based_signed (text env t))) (based_number (text env t))
  expr_layer (Expr-F.Sized size digits) = literal (of_size size.at (decimal_number (text env size)) (based_signed (text env digits))) (based_number (text env digits))
  expr_layer (Expr-F.Fill t) = record { typed = fine bit; value = fill_value (text env t) }
  expr_layer (Expr-F.Name name selects) = named env name selects
  expr_layer (Expr-F.Paren opens inner closes) = inner
  expr_layer (Expr-F.Concat opens first more closes) = concatenated opens None (pos 1) first more
  expr_layer (Expr-F.Repeat opens count inner_opens first more inner_closes closes) = concatenated opens count.typed.fault (own_reading count) first more
  expr_layer (Expr-F.Call name opens args closes) = record {
    typed = record { kind = kind_or_bit (env.imported name.name.0); fault = args };
    value = nothing;
  }
  expr_layer (Expr-F.System name opens arg closes) = system (function_of (text env name)) arg
  expr_layer (Expr-F.Prefix marks operand) = prefix (map symbol marks) operand
  expr_layer (Expr-F.Level first more) = level first more
  expr_layer (Expr-F.Choose choices last) = choose choices last

  -- ---- whole expressions

  unfoldable pub args_fault : Args → Option WalkFault
  args_fault = folds.fold-Args (Option WalkFault) Meaning Typed Chosen Operand args_layer expr_layer select_layer choice_layer step_layer

  unfoldable pub meaning_of : Expr → Meaning
  meaning_of = folds.fold-Expr (Option WalkFault) Meaning Typed Chosen Operand args_layer expr_layer select_layer choice_layer step_layer

  unfoldable pub select_typed : Select → Typed
  select_typed = folds.fold-Select (Option WalkFault) Meaning Typed Chosen Operand args_layer expr_layer select_layer choice_layer step_layer

  unfoldable pub chosen_of : Choice → Chosen
  chosen_of = folds.fold-Choice (Option WalkFault) Meaning Typed Chosen Operand args_layer expr_layer select_layer choice_layer step_layer

  unfoldable pub operand_of : Step → Operand
  operand_of = folds.fold-Step (Option WalkFault) Meaning Typed Chosen Operand args_layer expr_layer select_layer choice_layer step_layer

  -- the width and sign of an expression, by table 11-21
  abbrev pub TypeOf : Expr → ValueType
  TypeOf e = (meaning_of e).typed.kind

  -- the fault that is met first
  abbrev pub FirstFault : Expr → Option WalkFault
  FirstFault e = (meaning_of e).typed.fault

  -- the value of a constant expression in a context
  abbrev pub ValueOf : Expr → ValueType → Number
  ValueOf e context = (meaning_of e).value context

  -- the value of a constant expression alone, read with its own sign
  abbrev pub OwnReadingOf : Expr → ℤ
  OwnReadingOf e = own_reading (meaning_of e)
