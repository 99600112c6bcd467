-- What the walks over lists in an expression keep, one part after another. `proofs/Walks.antt` has them equal to the definitions.
use Rattle.std.specs.Prelude.{◌≡◌, ◌≤◌, ℕ, suc, ◌+◌, ◌-◌, ◌^◌, min, Bool, true, false, ◌&&◌, ◌||◌, if◌then◌else◌, nat_le, ◌==◌, List, [], ◌∷◌, fold, Option, Some, None, ℤ, pos, ◌*ℤ◌}
use Rattle.vs_base.specs.declared.types.ValueType.{ValueType}
use Rattle.vs_base.specs.declared.origin.Origin.{Origin}
use Rattle.vs_base.specs.Number.{Number}
use Rattle.vs_base.specs.Operators.{holds_true, joined, repeated}
use Rattle.sv_tree.specs.declared.symbol.Symbol.{Symbol}
use Rattle.sv_tree.specs.declared.token.Token.{Token}
use Rattle.sv_tree.specs.declared.tree.expr.Choice.{Choice}
use Rattle.sv_tree.specs.declared.tree.expr.Select.{Select}
use Rattle.sv_tree.specs.declared.tree.expr.Step.{Step}
use Rattle.sv_expr.specs.declared.fault.WalkFault.{WalkFault}
use Rattle.sv_expr.specs.declared.typed.Typed.{Typed}
use Rattle.sv_expr.specs.declared.scope.Fixed.{Fixed}
use Rattle.sv_expr.specs.declared.scope.Whole.{Whole}
use Rattle.sv_expr.specs.declared.walk.Left.{Left}
use Rattle.sv_expr.specs.declared.operator.Class.{Class}
use Rattle.sv_expr.specs.declared.operator.Class.TheVariants as class
use Rattle.vs_base.specs.Types.{wider, in_context}
use Rattle.sv_expr.specs.Bound.{bit, unsigned, ◌before◌, is_width, whole_part, ranged}
use Rattle.sv_expr.specs.Environment.{Environment}
use Rattle.sv_expr.specs.Literal.{nothing}
use Rattle.sv_expr.specs.Operator.{class_of, operated, shifted, compared, is_reduction, prefixed}
use Rattle.sv_expr.specs.Meaning.{Meaning, alone, combined_typed, symbol, meaning_of, select_typed}

-- ---- names

-- the whole that a name denotes, and whether that is an element of a memory
abbrev pub whole_by : Option Fixed → Option ValueType → Option ValueType → Whole
whole_by (Some k) variable memory = record { kind = k.kind; is_memory = false }
whole_by None (Some kind) memory = record { kind = kind; is_memory = false }
whole_by None None (Some kind) = record { kind = kind; is_memory = true }
whole_by None None None = record { kind = bit; is_memory = false }

-- a memory with at most one select is an element
abbrev pub by_selects : Whole → ℕ → Typed → Typed
by_selects whole count last = if whole.is_memory && nat_le count 1 then record { kind = whole.kind; fault = last.fault } else last

-- ---- types

abbrev pub joined_typed : Typed → Typed → Typed
joined_typed a b = record { kind = unsigned (min (a.kind.width + b.kind.width) (2 ^ 32 - 1)); fault = a.fault before b.fault }

abbrev pub with_choice : Typed → Typed → Typed → Typed
with_choice t test value = record { kind = wider t.kind value.kind; fault = (t.fault before test.fault) before value.fault }

abbrev pub with_select : Typed → Typed → Typed
with_select t s = record { kind = s.kind; fault = t.fault before s.fault }

-- no choice yet: every type is wider
abbrev pub no_choice : Typed
no_choice = record { kind = record { width = 0; signed = true }; fault = None }

-- ---- values

abbrev pub next_number : Class → ValueType → Symbol → Number → Meaning → Number
next_number class.Shift context mark n m = shifted mark context.signed n (alone m)
next_number _ context mark n m = operated mark context.signed n (m.value context)

-- a value that is as wide as a context already, or is extended to it
abbrev pub at_width : Number → ValueType → Number
at_width n t = if n.width == t.width then n else in_context n t

-- the type of so many times the parts
abbrev pub times_parts : Origin → Option WalkFault → ℤ → Typed → Typed
times_parts at earlier times parts = ranged at (earlier before parts.fault) (times *ℤ pos parts.kind.width)

-- so many times the bits of a width, where that is a width that a type may have
abbrev pub times_number : ℤ → ℕ → Number → ValueType → Number
times_number times width n context = if is_width (whole_part (times *ℤ pos width)) then in_context (repeated (whole_part times) n) context else nothing context

-- the left side of a comparison with its type, and the next comparison
abbrev pub next_left : Symbol → Left → Meaning → Left
next_left mark left m =
    let t = wider left.kind m.typed.kind in
    record { kind = bit; value = compared mark t.signed (at_width left.value t) (m.value t) }

-- whether both hold, or one of them
abbrev pub next_holds : Class → Bool → Number → Bool
next_holds class.Conjunction holds n = holds && holds_true n
next_holds _ holds n = holds || holds_true n

abbrev pub class_in : (Token → Symbol) → List Step → Class
class_in symbols [] = class.Arithmetic
class_in symbols (s ∷ more) = class_of (symbols s.mark)

-- operators before an operand, the outermost first
abbrev pub prefixed_all : List Symbol → Number → Number
prefixed_all [] n = n
prefixed_all (s ∷ more) n = prefixed s (prefixed_all more n)

-- how many operators stand before the first one that takes its operand alone
abbrev pub plain_count : (Token → Symbol) → List Token → ℕ
plain_count symbols [] = 0
plain_count symbols (t ∷ more) = if is_reduction (symbols t) then 0 else suc (plain_count symbols more)

module _ (env : Environment) where
  abbrev pub steps_typed : Class → Typed → List Step → Typed
  steps_typed by first more = fold (λ t s. combined_typed by t (meaning_of env s.operand).typed) first more

  abbrev pub steps_joined : Typed → List Step → Typed
  steps_joined first more = fold (λ t s. joined_typed t (meaning_of env s.operand).typed) first more

  abbrev pub choices_typed : List Choice → Typed
  choices_typed choices = fold (λ t c. with_choice t (meaning_of env c.test).typed (meaning_of env c.value).typed) no_choice choices

  abbrev pub selects_typed : Typed → List Select → Typed
  selects_typed whole selects = fold (λ t s. with_select t (select_typed env s)) whole selects

  abbrev pub steps_number : Class → ValueType → Number → List Step → Number
  steps_number by context first more = fold (λ n s. next_number by context (symbol env s.mark) n (meaning_of env s.operand)) first more

  abbrev pub steps_left : Left → List Step → Left
  steps_left first more = fold (λ l s. next_left (symbol env s.mark) l (meaning_of env s.operand)) first more

  -- the context of the first comparison
  abbrev pub first_context : ValueType → List Step → ValueType
  first_context kind [] = kind
  first_context kind (s ∷ more) = wider kind (meaning_of env s.operand).typed.kind

  abbrev pub steps_hold : Class → Bool → List Step → Bool
  steps_hold by first more = fold (λ b s. next_holds by b (alone (meaning_of env s.operand))) first more

  abbrev pub steps_width : List Step → ℕ
  steps_width [] = 0
  steps_width (s ∷ more) = (meaning_of env s.operand).typed.kind.width + steps_width more

  abbrev pub steps_value : Number → List Step → Number
  steps_value first more = fold (λ n s. joined n (alone (meaning_of env s.operand))) first more

  -- of parts that are at most 128 bits together, these are joined
  pub record Joins (first : Number) (more done : List Step) (n : Number) : Type 0 where
    pub value : first.width + steps_width more ≤ 128 → n ≡ steps_value first done
    pub width : first.width + steps_width more ≤ 128 → n.width ≡ first.width + steps_width done

  -- the value of the first choice whose test holds
  abbrev pub first_chosen : ValueType → List Choice → Option Number
  first_chosen context [] = None
  first_chosen context (c ∷ more) = if holds_true (alone (meaning_of env c.test)) then Some ((meaning_of env c.value).value context) else first_chosen context more
