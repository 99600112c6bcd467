-- What the walks over lists keep is what the definitions say.
use Rattle.std.proofs.Common.{eq-eqb, ◌≡◌, ◌≤◌, ◌<◌, ℕ, ◌+◌, ◌-◌, ◌^◌, min, max, Bool, true, false, cond, nat_le, ◌&&◌, ◌||◌, List, [], ◌∷◌, map, length, ◌⊎◌, inl, inr, Option, Some, None, refl, sym, ap, ◌∙◌, arith}
use Rattle.std.specs.Prelude.{not, ◌==◌, int_lt, int_le}
use Rattle.std.specs.List.{fold}
use Rattle.std.proofs.lemmas.Bool.{eqb-true}
use Rattle.vs_base.specs.declared.types.ValueType.{ValueType}
use Rattle.vs_base.specs.Number.{Number, reading}
use Rattle.vs_base.specs.Operators.{truth, holds_true, joined}
use Rattle.sv_tree.specs.declared.symbol.Symbol.{Symbol}
use Rattle.sv_tree.specs.declared.symbol.Symbol.TheVariants as sign
use Rattle.sv_tree.specs.declared.tree.expr.Choice.{Choice}
use Rattle.sv_tree.specs.declared.tree.expr.Select.{Select}
use Rattle.sv_tree.specs.declared.tree.expr.Step.{Step}
use Rattle.sv_expr.specs.declared.fault.WalkFault.{WalkFault}
use Rattle.sv_expr.specs.declared.typed.Typed.{Typed}
use Rattle.sv_expr.specs.declared.scope.Whole.{Whole}
use Rattle.sv_expr.specs.declared.operator.Class.{Class}
use Rattle.sv_expr.specs.declared.operator.Class.TheVariants as class
use Rattle.vs_base.specs.Types.{wider, wider_assoc, in_context, in_context-same}
use Rattle.sv_expr.specs.Bound.{bit, fine, ◌before◌}
use Rattle.sv_expr.specs.declared.scope.Fixed.{Fixed}
use Rattle.sv_expr.specs.Environment.{Environment}
use Rattle.sv_expr.specs.Operator.{class_of, operated, shifted, compared}
use Rattle.sv_expr.specs.Meaning.{Meaning, Operand, Chosen, alone, combine, combined_typed, compared_value, level, level_class, choice_kind, choice_fault, choice_value, operands_fault, more_width, selected, element, named_by, symbol, meaning_of, select_typed, chosen_of, operand_of}
use Rattle.sv_expr.specs.MeaningLaws.{step-roll, choice-roll}
use Rattle.sv_expr.specs.Walk.{whole_by, by_selects, joined_typed, with_choice, with_select, no_choice, next_left, at_width, class_in, steps_typed, steps_joined, choices_typed, selects_typed, steps_number, steps_left, first_context, steps_hold, steps_width, steps_value, first_chosen}

pub before_assoc : (a b d : Option WalkFault) → ((a before b) before d) ≡ (a before (b before d))
before_assoc None b d = refl
before_assoc (Some f) b d = refl

pub before_none : (a : Option WalkFault) → (a before None) ≡ a
before_none None = refl
before_none (Some f) = refl

module _ (env : Environment) where
  pub step_is : (s : Step) → operand_of env s ≡ record { symbol = symbol env s.mark; operand = meaning_of env s.operand }
  step_is s = step-roll env s.mark s.operand

  pub choice_is : (c : Choice) → chosen_of env c ≡ record { test = meaning_of env c.test; value = meaning_of env c.value }
  choice_is c = choice-roll env c.test c.question c.value c.colon

  -- ---- operators of one level

  pub class_is : (more : List Step) → level_class (map (operand_of env) more) ≡ class_in (symbol env) more
  class_is [] = refl
  class_is (s ∷ more) = ap (λ o. class_of o.symbol) (step_is s)

  pub steps_typed_is : (by : Class) (m : Meaning) (more : List Step) → (fold (combine by) m (map (operand_of env) more)).typed ≡ steps_typed env by m.typed more
  steps_typed_is by m [] = refl
  steps_typed_is by m (s ∷ more) =
      steps_typed_is by (combine by m (operand_of env s)) more ∙ ap (λ (o : Operand). steps_typed env by (combined_typed by m.typed o.operand.typed) more) (step_is s)

  pub level_typed : (m : Meaning) (more : List Step) → (level m (map (operand_of env) more)).typed ≡ steps_typed env (class_in (symbol env) more) m.typed more
  level_typed m more = ap (λ by. (fold (combine by) m (map (operand_of env) more)).typed) (class_is more) ∙ steps_typed_is (class_in (symbol env) more) m more

  arithmetic_is : (m : Meaning) (context : ValueType) (more : List Step) → (fold (combine class.Arithmetic) m (map (operand_of env) more)).value context ≡ steps_number env class.Arithmetic context (m.value context) more
  arithmetic_is m context [] = refl
  arithmetic_is m context (s ∷ more) =
      arithmetic_is (combine class.Arithmetic m (operand_of env s)) context more
      ∙ ap (λ (o : Operand). steps_number env class.Arithmetic context (operated o.symbol context.signed (m.value context) (o.operand.value context)) more) (step_is s)

  shift_is : (m : Meaning) (context : ValueType) (more : List Step) → (fold (combine class.Shift) m (map (operand_of env) more)).value context ≡ steps_number env class.Shift context (m.value context) more
  shift_is m context [] = refl
  shift_is m context (s ∷ more) =
      shift_is (combine class.Shift m (operand_of env s)) context more
      ∙ ap (λ (o : Operand). steps_number env class.Shift context (shifted o.symbol context.signed (m.value context) (alone o.operand)) more) (step_is s)

  pub level_arithmetic : (m : Meaning) (context : ValueType) (more : List Step) → class_in (symbol env) more ≡ class.Arithmetic → (level m (map (operand_of env) more)).value context ≡ steps_number env class.Arithmetic context (m.value context) more
  level_arithmetic m context more is = ap (λ by. (fold (combine by) m (map (operand_of env) more)).value context) (class_is more ∙ is) ∙ arithmetic_is m context more

  pub level_shift : (m : Meaning) (context : ValueType) (more : List Step) → class_in (symbol env) more ≡ class.Shift → (level m (map (operand_of env) more)).value context ≡ steps_number env class.Shift context (m.value context) more
  level_shift m context more is = ap (λ by. (fold (combine by) m (map (operand_of env) more)).value context) (class_is more ∙ is) ∙ shift_is m context more

  pub level_in_context : (m : Meaning) (context : ValueType) (more : List Step) (by : Class) → by ≡ class_in (symbol env) more → (by ≡ class.Arithmetic) ⊎ (by ≡ class.Shift)
      → steps_number env by context (m.value context) more ≡ (level m (map (operand_of env) more)).value context
  level_in_context m context more by is (inl e) = ap (λ b. steps_number env b context (m.value context) more) e ∙ sym (level_arithmetic m context more (sym is ∙ e))
  level_in_context m context more by is (inr e) = ap (λ b. steps_number env b context (m.value context) more) e ∙ sym (level_shift m context more (sym is ∙ e))

  -- ---- comparisons

  at_width-same : (n : Number) (t : ValueType) → n.width ≡ t.width → at_width n t ≡ n
  at_width-same n t same = ap (λ b. cond b n (in_context n t)) (eq-eqb n.width t.width same)

  at_width-fits : (n : Number) (t : ValueType) → n.value < 2 ^ n.width → at_width n t ≡ in_context n t
  at_width-fits n t fits = by (n.width == t.width) refl
    where
      by : (b : Bool) → (n.width == t.width) ≡ b → at_width n t ≡ in_context n t
      by true e = ap (λ c. cond c n (in_context n t)) e ∙ sym (in_context-same n t fits (eqb-true n.width t.width e))
      by false e = ap (λ c. cond c n (in_context n t)) e

  truth_fits : (b : Bool) → (truth b).value < 2 ^ (truth b).width
  truth_fits true = omega arith
  truth_fits false = omega arith

  compared_fits : (s : Symbol) (signed : Bool) (a b : Number) → (compared s signed a b).value < 2 ^ (compared s signed a b).width
  compared_fits sign.Less signed a b = truth_fits (int_lt (reading signed a) (reading signed b))
  compared_fits sign.LessEqual signed a b = truth_fits (int_le (reading signed a) (reading signed b))
  compared_fits sign.Greater signed a b = truth_fits (int_lt (reading signed b) (reading signed a))
  compared_fits sign.GreaterEqual signed a b = truth_fits (int_le (reading signed b) (reading signed a))
  compared_fits sign.BangEqual signed a b = truth_fits (not (a.value == b.value))
  compared_fits sign.CaseUnequal signed a b = truth_fits (not (a.value == b.value))
  compared_fits _ signed a b = truth_fits (a.value == b.value)

  -- from one bit on
  comparison_is : (m : Meaning) (n : Number) (context : ValueType) (more : List Step) → m.typed.kind ≡ bit → n.value < 2 ^ n.width → ((t : ValueType) → m.value t ≡ in_context n t)
      → (fold (combine class.Comparison) m (map (operand_of env) more)).value context ≡ in_context (steps_left env (record { kind = bit; value = n }) more).value context
  comparison_is m n context [] kind fits is = is context
  comparison_is m n context (s ∷ more) kind fits is =
      let o : Operand = record { symbol = symbol env s.mark; operand = meaning_of env s.operand } in
      let t : ValueType = wider bit o.operand.typed.kind in
      let next : Number = (next_left (symbol env s.mark) (record { kind = bit; value = n }) (meaning_of env s.operand)).value in
      let left : compared_value m (operand_of env s) ≡ next =
      ap (λ (b : Operand). compared_value m b) (step_is s)
      ∙ ap (λ (k : ValueType). compared o.symbol (wider k o.operand.typed.kind).signed (m.value (wider k o.operand.typed.kind)) (o.operand.value (wider k o.operand.typed.kind))) kind
      ∙ ap (λ (v : Number). compared o.symbol t.signed v (o.operand.value t)) (is t ∙ sym (at_width-fits n t fits)) in
      let small : next.value < 2 ^ next.width = compared_fits o.symbol t.signed (at_width n t) (o.operand.value t) in
      comparison_is (combine class.Comparison m (operand_of env s)) next context more refl small (λ u. ap (λ (v : Number). in_context v u) left)

  pub level_comparison : (m : Meaning) (v : Number) (context : ValueType) (more : List Step) → class_in (symbol env) more ≡ class.Comparison
      → v ≡ m.value (first_context env m.typed.kind more) → v.width ≡ (first_context env m.typed.kind more).width
      → (level m (map (operand_of env) more)).value context ≡ in_context (steps_left env (record { kind = m.typed.kind; value = v }) more).value context
  level_comparison m v context [] is value width = absurd (let none : class.Arithmetic ≡ class.Comparison = is in cc)
  level_comparison m v context (s ∷ more) is value width =
      let o : Operand = record { symbol = symbol env s.mark; operand = meaning_of env s.operand } in
      let t : ValueType = wider m.typed.kind o.operand.typed.kind in
      let next : Number = (next_left (symbol env s.mark) (record { kind = m.typed.kind; value = v }) (meaning_of env s.operand)).value in
      let same : at_width v t ≡ m.value t = at_width-same v t width ∙ value in
      let left : compared_value m (operand_of env s) ≡ next =
      ap (λ (b : Operand). compared_value m b) (step_is s) ∙ ap (λ (n : Number). compared o.symbol t.signed n (o.operand.value t)) (sym same) in
      let small : next.value < 2 ^ next.width = compared_fits o.symbol t.signed (at_width v t) (o.operand.value t) in
      ap (λ by. (fold (combine by) m (map (operand_of env) (s ∷ more))).value context) (class_is (s ∷ more) ∙ is)
      ∙ comparison_is (combine class.Comparison m (operand_of env s)) next context more refl small (λ u. ap (λ (n : Number). in_context n u) left)

  -- ---- logical operators

  truth_holds : (b : Bool) → holds_true (in_context (truth b) bit) ≡ b
  truth_holds true = refl
  truth_holds false = refl

  -- the value alone of what is one bit
  held : (m : Meaning) (b : Bool) → m.typed.kind ≡ bit → ((t : ValueType) → m.value t ≡ in_context (truth b) t) → holds_true (alone m) ≡ b
  held m b kind is = ap holds_true (ap m.value kind ∙ is bit) ∙ truth_holds b

  conjunction_is : (m : Meaning) (b : Bool) (context : ValueType) (more : List Step) → m.typed.kind ≡ bit → ((t : ValueType) → m.value t ≡ in_context (truth b) t)
      → (fold (combine class.Conjunction) m (map (operand_of env) more)).value context ≡ in_context (truth (steps_hold env class.Conjunction b more)) context
  conjunction_is m b context [] kind is = is context
  conjunction_is m b context (s ∷ more) kind is =
      let right : Bool = holds_true (alone (meaning_of env s.operand)) in
      let both : (holds_true (alone m) && holds_true (alone (operand_of env s).operand)) ≡ (b && right) =
      ap (λ (o : Operand). holds_true (alone m) && holds_true (alone o.operand)) (step_is s) ∙ ap (λ c. c && right) (held m b kind is) in
      conjunction_is (combine class.Conjunction m (operand_of env s)) (b && right) context more refl (λ t. ap (λ c. in_context (truth c) t) both)

  disjunction_is : (m : Meaning) (b : Bool) (context : ValueType) (more : List Step) → m.typed.kind ≡ bit → ((t : ValueType) → m.value t ≡ in_context (truth b) t)
      → (fold (combine class.Disjunction) m (map (operand_of env) more)).value context ≡ in_context (truth (steps_hold env class.Disjunction b more)) context
  disjunction_is m b context [] kind is = is context
  disjunction_is m b context (s ∷ more) kind is =
      let right : Bool = holds_true (alone (meaning_of env s.operand)) in
      let both : (holds_true (alone m) || holds_true (alone (operand_of env s).operand)) ≡ (b || right) =
      ap (λ (o : Operand). holds_true (alone m) || holds_true (alone o.operand)) (step_is s) ∙ ap (λ c. c || right) (held m b kind is) in
      disjunction_is (combine class.Disjunction m (operand_of env s)) (b || right) context more refl (λ t. ap (λ c. in_context (truth c) t) both)

  pub level_conjunction : (m : Meaning) (context : ValueType) (more : List Step) → class_in (symbol env) more ≡ class.Conjunction
      → (level m (map (operand_of env) more)).value context ≡ in_context (truth (steps_hold env class.Conjunction (holds_true (alone m)) more)) context
  level_conjunction m context [] is = absurd (let none : class.Arithmetic ≡ class.Conjunction = is in cc)
  level_conjunction m context (s ∷ more) is =
      let right : Bool = holds_true (alone (meaning_of env s.operand)) in
      let first : (holds_true (alone m) && holds_true (alone (operand_of env s).operand)) ≡ (holds_true (alone m) && right) =
      ap (λ (o : Operand). holds_true (alone m) && holds_true (alone o.operand)) (step_is s) in
      ap (λ by. (fold (combine by) m (map (operand_of env) (s ∷ more))).value context) (class_is (s ∷ more) ∙ is)
      ∙ conjunction_is (combine class.Conjunction m (operand_of env s)) (holds_true (alone m) && right) context more refl (λ t. ap (λ c. in_context (truth c) t) first)

  pub level_disjunction : (m : Meaning) (context : ValueType) (more : List Step) → class_in (symbol env) more ≡ class.Disjunction
      → (level m (map (operand_of env) more)).value context ≡ in_context (truth (steps_hold env class.Disjunction (holds_true (alone m)) more)) context
  level_disjunction m context [] is = absurd (let none : class.Arithmetic ≡ class.Disjunction = is in cc)
  level_disjunction m context (s ∷ more) is =
      let right : Bool = holds_true (alone (meaning_of env s.operand)) in
      let first : (holds_true (alone m) || holds_true (alone (operand_of env s).operand)) ≡ (holds_true (alone m) || right) =
      ap (λ (o : Operand). holds_true (alone m) || holds_true (alone o.operand)) (step_is s) in
      ap (λ by. (fold (combine by) m (map (operand_of env) (s ∷ more))).value context) (class_is (s ∷ more) ∙ is)
      ∙ disjunction_is (combine class.Disjunction m (operand_of env s)) (holds_true (alone m) || right) context more refl (λ t. ap (λ c. in_context (truth c) t) first)

  pub level_logic : (m : Meaning) (context : ValueType) (more : List Step) (by : Class) → by ≡ class_in (symbol env) more → (by ≡ class.Conjunction) ⊎ (by ≡ class.Disjunction)
      → in_context (truth (steps_hold env by (holds_true (alone m)) more)) context ≡ (level m (map (operand_of env) more)).value context
  level_logic m context more by is (inl e) = ap (λ b. in_context (truth (steps_hold env b (holds_true (alone m)) more)) context) e ∙ sym (level_conjunction m context more (sym is ∙ e))
  level_logic m context more by is (inr e) = ap (λ b. in_context (truth (steps_hold env b (holds_true (alone m)) more)) context) e ∙ sym (level_disjunction m context more (sym is ∙ e))

  -- ---- concatenations

  pub parts_fault_is : (t : Typed) (more : List Step) → (steps_joined env t more).fault ≡ operands_fault t.fault (map (operand_of env) more)
  parts_fault_is t [] = refl
  parts_fault_is t (s ∷ more) =
      parts_fault_is (joined_typed t (meaning_of env s.operand).typed) more ∙ ap (λ (o : Operand). operands_fault (t.fault before o.operand.typed.fault) (map (operand_of env) more)) (sym (step_is s))

  pub args_fault_is : (t : Typed) (more : List Step) → (steps_typed env class.Shift t more).fault ≡ operands_fault t.fault (map (operand_of env) more)
  args_fault_is t [] = refl
  args_fault_is t (s ∷ more) =
      args_fault_is (combined_typed class.Shift t (meaning_of env s.operand).typed) more ∙ ap (λ (o : Operand). operands_fault (t.fault before o.operand.typed.fault) (map (operand_of env) more)) (sym (step_is s))

  pub steps_width_is : (more : List Step) → steps_width env more ≡ more_width (map (operand_of env) more)
  steps_width_is [] = refl
  steps_width_is (s ∷ more) = ap (λ (o : Operand). o.operand.typed.kind.width + steps_width env more) (sym (step_is s)) ∙ ap (λ (w : ℕ). (operand_of env s).operand.typed.kind.width + w) (steps_width_is more)

  pub parts_width_is : (t : Typed) (more : List Step) → t.kind.width ≤ 2 ^ 32 - 1 → (steps_joined env t more).kind.width ≡ min (t.kind.width + steps_width env more) (2 ^ 32 - 1)
  parts_width_is t [] small = omega arith
  parts_width_is t (s ∷ more) small =
      let w : ℕ = (meaning_of env s.operand).typed.kind.width in
      let next : (steps_joined env (joined_typed t (meaning_of env s.operand).typed) more).kind.width ≡ min (min (t.kind.width + w) (2 ^ 32 - 1) + steps_width env more) (2 ^ 32 - 1) =
      parts_width_is (joined_typed t (meaning_of env s.operand).typed) more (omega arith) in
      let order : min (min (t.kind.width + w) (2 ^ 32 - 1) + steps_width env more) (2 ^ 32 - 1) ≡ min (t.kind.width + (w + steps_width env more)) (2 ^ 32 - 1) = omega arith in
      next ∙ order

  pub parts_value_is : (n : Number) (more : List Step) → steps_value env n more ≡ fold (λ k b. joined k (alone b.operand)) n (map (operand_of env) more)
  parts_value_is n [] = refl
  parts_value_is n (s ∷ more) =
      parts_value_is (joined n (alone (meaning_of env s.operand))) more
      ∙ ap (λ (o : Operand). fold (λ (k : Number) (b : Operand). joined k (alone b.operand)) (joined n (alone o.operand)) (map (operand_of env) more)) (sym (step_is s))

  -- ---- `?:`

  choices_kind_from : (t : Typed) (choices : List Choice) (k : ValueType)
      → wider (fold (λ u c. with_choice u (meaning_of env c.test).typed (meaning_of env c.value).typed) t choices).kind k ≡ wider t.kind (choice_kind (map (chosen_of env) choices) k)
  choices_kind_from t [] k = refl
  choices_kind_from t (c ∷ choices) k =
      let m : Meaning = meaning_of env c.value in
      choices_kind_from (with_choice t (meaning_of env c.test).typed m.typed) choices k
      ∙ wider_assoc t.kind m.typed.kind (choice_kind (map (chosen_of env) choices) k)
      ∙ ap (λ (x : Chosen). wider t.kind (wider x.value.typed.kind (choice_kind (map (chosen_of env) choices) k))) (sym (choice_is c))

  pub choices_kind : (choices : List Choice) (k : ValueType) → wider (choices_typed env choices).kind k ≡ choice_kind (map (chosen_of env) choices) k
  choices_kind choices k =
      choices_kind_from no_choice choices k ∙ (let kind : ValueType = choice_kind (map (chosen_of env) choices) k in
      let w : max 0 kind.width ≡ kind.width = omega arith in
      λ i. record { width = w i; signed = kind.signed })

  choices_fault_from : (t : Typed) (choices : List Choice) (f : Option WalkFault)
      → ((fold (λ u c. with_choice u (meaning_of env c.test).typed (meaning_of env c.value).typed) t choices).fault before f) ≡ (t.fault before choice_fault (map (chosen_of env) choices) f)
  choices_fault_from t [] f = refl
  choices_fault_from t (c ∷ choices) f =
      let test : Meaning = meaning_of env c.test in
      let m : Meaning = meaning_of env c.value in
      let rest : Option WalkFault = choice_fault (map (chosen_of env) choices) f in
      choices_fault_from (with_choice t test.typed m.typed) choices f
      ∙ before_assoc (t.fault before test.typed.fault) m.typed.fault rest
      ∙ before_assoc t.fault test.typed.fault (m.typed.fault before rest)
      ∙ ap (λ (x : Chosen). t.fault before (x.test.typed.fault before (x.value.typed.fault before rest))) (sym (choice_is c))

  pub choices_fault : (choices : List Choice) (f : Option WalkFault) → ((choices_typed env choices).fault before f) ≡ choice_fault (map (chosen_of env) choices) f
  choices_fault choices f = choices_fault_from no_choice choices f

  abbrev or_last : Option Number → Number → Number
  or_last None n = n
  or_last (Some v) n = v

  choice_by : (b : Bool) (v n : Number) (found : Option Number) (rest : Number) → rest ≡ or_last found n → cond b v rest ≡ or_last (cond b (Some v) found) n
  choice_by true v n found rest e = refl
  choice_by false v n found rest e = e

  choice_value_is : (choices : List Choice) (last : Meaning) (context : ValueType) → choice_value (map (chosen_of env) choices) last context ≡ or_last (first_chosen env context choices) (last.value context)
  choice_value_is [] last context = refl
  choice_value_is (c ∷ choices) last context =
      ap (λ (x : Chosen). cond (holds_true (alone x.test)) (x.value.value context) (choice_value (map (chosen_of env) choices) last context)) (choice_is c)
      ∙ choice_by (holds_true (alone (meaning_of env c.test))) ((meaning_of env c.value).value context) (last.value context) (first_chosen env context choices) (choice_value (map (chosen_of env) choices) last context) (choice_value_is choices last context)

  pub choice_found : (choices : List Choice) (last : Meaning) (context : ValueType) (v : Number) → Some v ≡ first_chosen env context choices → v ≡ choice_value (map (chosen_of env) choices) last context
  choice_found choices last context v e = ap (λ o. or_last o (last.value context)) e ∙ sym (choice_value_is choices last context)

  pub choice_last : (choices : List Choice) (last : Meaning) (context : ValueType) → None ≡ first_chosen env context choices → last.value context ≡ choice_value (map (chosen_of env) choices) last context
  choice_last choices last context e = ap (λ o. or_last o (last.value context)) e ∙ sym (choice_value_is choices last context)

  -- ---- names

  selects_is : (t : Typed) (selects : List Select) → selects_typed env t selects ≡ selected t (map (select_typed env) selects)
  selects_is t [] = refl
  selects_is t (s ∷ selects) = selects_is (with_select t (select_typed env s)) selects

  element_is : (kind : ValueType) (selects : List Select)
      → by_selects (record { kind = kind; is_memory = true }) (length selects) (selects_typed env (fine kind) selects) ≡ element kind (map (select_typed env) selects)
  element_is kind [] = refl
  element_is kind (s ∷ []) = refl
  element_is kind (s ∷ u ∷ selects) =
      let few : nat_le (length (s ∷ u ∷ selects)) 1 ≡ false = grind arith in
      let last : Typed = selects_typed env (fine kind) (s ∷ u ∷ selects) in
      let one : Typed = record { kind = kind; fault = last.fault } in
      ap (λ b. cond b one last) few ∙ selects_is (record { kind = (select_typed env u).kind; fault = (select_typed env s).fault before (select_typed env u).fault }) selects

  pub named_is : (fixed : Option Fixed) (variable memory : Option ValueType) (selects : List Select) (whole : Whole) → whole ≡ whole_by fixed variable memory
      → by_selects whole (length selects) (selects_typed env (fine whole.kind) selects) ≡ named_by fixed variable memory (map (select_typed env) selects)
  named_is fixed variable memory selects whole is = ap (λ (w : Whole). by_selects w (length selects) (selects_typed env (fine w.kind) selects)) is ∙ by fixed variable memory
    where
      by : (fixed : Option Fixed) (variable memory : Option ValueType) → by_selects (whole_by fixed variable memory) (length selects) (selects_typed env (fine (whole_by fixed variable memory).kind) selects) ≡ named_by fixed variable memory (map (select_typed env) selects)
      by (Some k) v m = selects_is (fine k.kind) selects
      by None (Some kind) m = selects_is (fine kind) selects
      by None None (Some kind) = element_is kind selects
      by None None None = selects_is (fine bit) selects
