-- An expression means what its form says of its parts, and what the walks keep of concatenations is that.
use Rattle.std.proofs.Common.{◌≡◌, ◌≤◌, ◌<◌, ℕ, zero, suc, length, take, get_or, [], ◌∷◌, subst, ◌+◌, ◌-◌, ◌^◌, min, Bool, true, false, cond, List, map, Option, refl, sym, ap, ◌∙◌, arith, ℤ, pos, ◌*ℤ◌}
use Rattle.std.proofs.lemmas.List.{take_all}
use Rattle.std.proofs.lemmas.List.Sums.{fold_more}
use Rattle.vs_base.specs.declared.types.ValueType.{ValueType}
use Rattle.vs_base.specs.Number.{Number, reading}
use Rattle.vs_base.specs.Operators.{joined, repeated}
use Rattle.sv_tree.specs.declared.token.Token.{Token}
use Rattle.sv_tree.specs.declared.tree.expr.Expr.{Expr}
use Rattle.sv_tree.specs.declared.tree.expr.Args.{Args}
use Rattle.sv_tree.specs.declared.tree.expr.Select.{Select}
use Rattle.sv_tree.specs.declared.tree.expr.Step.{Step}
use Rattle.sv_expr.specs.declared.fault.WalkFault.{WalkFault}
use Rattle.sv_expr.specs.declared.typed.Typed.{Typed}
use Rattle.vs_base.specs.Types.{in_context}
use Rattle.sv_expr.specs.Bound.{IsWidth, ◌before◌, is_width, whole_part, ranged}
use Rattle.sv_expr.specs.Literal.{nothing}
use Rattle.sv_expr.specs.Environment.{Environment}
use Rattle.sv_expr.specs.Meaning.{Meaning, alone, own_reading, parts_fault, parts_width, parts_value, concatenated, meaning_of, args_fault, select_typed, operand_of}
use Rattle.sv_expr.specs.Walk.{steps_joined, steps_width, steps_value, times_number, Joins}
use Rattle.sv_expr.proofs.Walks.{parts_fault_is, steps_width_is, parts_width_is, parts_value_is}
use Rattle.sv_expr.proofs.Ranges.{ranged_capped, width_capped, counts}

pub typed_of : {k l : ValueType} {f g : Option WalkFault} → k ≡ l → f ≡ g → ◌≡◌ {A = Typed} (record { kind = k; fault = f }) (record { kind = l; fault = g })
typed_of p q = λ i. record { kind = p i; fault = q i }

module _ (env : Environment) where
  pub typed_by : {e f : Expr} {m : Meaning} {r : Typed} → e ≡ f → meaning_of env f ≡ m → r ≡ m.typed → r ≡ (meaning_of env e).typed
  typed_by is means h = h ∙ sym (ap (λ (m : Meaning). m.typed) (ap (meaning_of env) is ∙ means))

  pub value_by : {e f : Expr} {m : Meaning} {context : ValueType} {r : Number} → e ≡ f → meaning_of env f ≡ m → r ≡ m.value context → r ≡ (meaning_of env e).value context
  value_by {context = context} is means h = h ∙ sym (ap (λ (m : Meaning). m.value context) (ap (meaning_of env) is ∙ means))

  pub own_by : {e f : Expr} {m : Meaning} {r : ℤ} → e ≡ f → meaning_of env f ≡ m → r ≡ own_reading m → r ≡ own_reading (meaning_of env e)
  own_by is means h = h ∙ sym (ap (λ (m : Meaning). own_reading m) (ap (meaning_of env) is ∙ means))

  pub fault_by : {e f : Expr} {m : Meaning} {r : Option WalkFault} → e ≡ f → meaning_of env f ≡ m → r ≡ m.typed.fault → r ≡ (meaning_of env e).typed.fault
  fault_by is means h = h ∙ sym (ap (λ (m : Meaning). m.typed.fault) (ap (meaning_of env) is ∙ means))

  pub args_by : {e f : Args} {r s : Option WalkFault} → e ≡ f → args_fault env f ≡ s → r ≡ s → r ≡ args_fault env e
  args_by is means h = h ∙ sym (ap (args_fault env) is ∙ means)

  pub select_by : {e f : Select} {r s : Typed} → e ≡ f → select_typed env f ≡ s → r ≡ s → r ≡ select_typed env e
  select_by is means h = h ∙ sym (ap (select_typed env) is ∙ means)

  -- ---- concatenations

  width_is : (m : Meaning) (more : List Step) → IsWidth m.typed.kind.width → (steps_joined env m.typed more).kind.width ≡ min (parts_width m (map (operand_of env) more)) (2 ^ 32 - 1)
  width_is m more small =
      let most : m.typed.kind.width ≤ 128 = small.most in
      parts_width_is env m.typed more (omega arith) ∙ ap (λ (w : ℕ). min (m.typed.kind.width + w) (2 ^ 32 - 1)) (steps_width_is env more)

  pub concatenated_typed : (brace : Token) (earlier : Option WalkFault) (count : ℤ) (m : Meaning) (more : List Step) → IsWidth m.typed.kind.width
      → ranged brace.at (earlier before (steps_joined env m.typed more).fault) (count *ℤ pos (steps_joined env m.typed more).kind.width) ≡ (concatenated brace earlier count m (map (operand_of env) more)).typed
  concatenated_typed brace earlier count m more small =
      ap (λ (f : Option WalkFault). ranged brace.at (earlier before f) (count *ℤ pos (steps_joined env m.typed more).kind.width)) (parts_fault_is env m.typed more)
      ∙ ap (λ (w : ℕ). ranged brace.at (earlier before parts_fault m (map (operand_of env) more)) (count *ℤ pos w)) (width_is m more small)
      ∙ ranged_capped brace.at (earlier before parts_fault m (map (operand_of env) more)) count (parts_width m (map (operand_of env) more))

  -- the test of the whole width
  fits_is : (count : ℤ) (m : Meaning) (more : List Step) → IsWidth m.typed.kind.width
      → is_width (whole_part (count *ℤ pos (steps_joined env m.typed more).kind.width)) ≡ is_width (whole_part (count *ℤ pos (parts_width m (map (operand_of env) more))))
  fits_is count m more small =
      ap (λ (w : ℕ). is_width (whole_part (count *ℤ pos w))) (width_is m more small) ∙ width_capped count (parts_width m (map (operand_of env) more))

  pub parts_fit : (count : ℤ) (m : Meaning) (more : List Step) → IsWidth m.typed.kind.width
      → is_width (whole_part (count *ℤ pos (steps_joined env m.typed more).kind.width)) ≡ true → m.typed.kind.width + steps_width env more ≤ 128
  parts_fit count m more small within =
      let wide : parts_width m (map (operand_of env) more) ≤ 128 = (counts count (parts_width m (map (operand_of env) more)) (sym (fits_is count m more small) ∙ within)).wide in
      let same : steps_width env more ≡ _ = steps_width_is env more in
      omega arith

  -- so many times the parts, where they are a width that a type may have and elsewhere
  pub concatenated_value : (brace : Token) (earlier : Option WalkFault) (count : ℤ) (m : Meaning) (more : List Step) (n : Number) (context : ValueType) → IsWidth m.typed.kind.width
      → (alone m).width ≡ m.typed.kind.width → Joins env (alone m) more more n
      → times_number count (steps_joined env m.typed more).kind.width n context ≡ (concatenated brace earlier count m (map (operand_of env) more)).value context
  concatenated_value brace earlier count m more n context small own joins =
      by (is_width (whole_part (count *ℤ pos (steps_joined env m.typed more).kind.width))) refl
    where
      by : (b : Bool) → is_width (whole_part (count *ℤ pos (steps_joined env m.typed more).kind.width)) ≡ b
          → times_number count (steps_joined env m.typed more).kind.width n context ≡ (concatenated brace earlier count m (map (operand_of env) more)).value context
      by true within =
          let value : Number = in_context (repeated (whole_part count) (parts_value m (map (operand_of env) more))) context in
          let fit : m.typed.kind.width + steps_width env more ≤ 128 = parts_fit count m more small within in
          let together : (alone m).width + steps_width env more ≤ 128 = omega arith in
          ap (λ b. cond b (in_context (repeated (whole_part count) n) context) (nothing context)) within
          ∙ ap (λ (k : Number). in_context (repeated (whole_part count) k) context) (joins.value together ∙ parts_value_is env (alone m) more)
          ∙ ap (λ b. cond b value (nothing context)) (sym within ∙ fits_is count m more small)
      by false over =
          let value : Number = in_context (repeated (whole_part count) (parts_value m (map (operand_of env) more))) context in
          ap (λ b. cond b (in_context (repeated (whole_part count) n) context) (nothing context)) over
          ∙ ap (λ b. cond b value (nothing context)) (sym over ∙ fits_is count m more small)

  -- the same taken alone, read with its own sign
  pub concatenated_own : (brace : Token) (earlier : Option WalkFault) (count : ℤ) (m : Meaning) (more : List Step) (n : Number) → IsWidth m.typed.kind.width
      → (alone m).width ≡ m.typed.kind.width → Joins env (alone m) more more n → (value : Number) (signed : Bool)
      → value ≡ times_number count (steps_joined env m.typed more).kind.width n (ranged brace.at (earlier before (steps_joined env m.typed more).fault) (count *ℤ pos (steps_joined env m.typed more).kind.width)).kind
      → signed ≡ (ranged brace.at (earlier before (steps_joined env m.typed more).fault) (count *ℤ pos (steps_joined env m.typed more).kind.width)).kind.signed
      → reading signed value ≡ own_reading (concatenated brace earlier count m (map (operand_of env) more))
  concatenated_own brace earlier count m more n small own joins value signed is sign =
      let whole : Meaning = concatenated brace earlier count m (map (operand_of env) more) in
      let type : ranged brace.at (earlier before (steps_joined env m.typed more).fault) (count *ℤ pos (steps_joined env m.typed more).kind.width) ≡ whole.typed = concatenated_typed brace earlier count m more small in
      ap (λ b. reading b value) (sign ∙ ap (λ (t : Typed). t.kind.signed) type)
      ∙ ap (λ (k : Number). reading whole.typed.kind.signed k)
      (is ∙ ap (λ (t : Typed). times_number count (steps_joined env m.typed more).kind.width n t.kind) type ∙ concatenated_value brace earlier count m more n whole.typed.kind small own joins)

  -- there the parts are as wide as their types say
  pub parts_whole : (count : ℤ) (m : Meaning) (more : List Step) (n : Number) → IsWidth m.typed.kind.width → (alone m).width ≡ m.typed.kind.width → Joins env (alone m) more more n
      → is_width (whole_part (count *ℤ pos (steps_joined env m.typed more).kind.width)) ≡ true → n.width ≡ (steps_joined env m.typed more).kind.width
  parts_whole count m more n small own joins within =
      let fit : m.typed.kind.width + steps_width env more ≤ 128 = parts_fit count m more small within in
      let together : (alone m).width + steps_width env more ≤ 128 = omega arith in
      let wide : n.width ≡ (alone m).width + steps_width env more = joins.width together in
      let same : steps_width env more ≡ _ = steps_width_is env more in
      let counted : (steps_joined env m.typed more).kind.width ≡ min (parts_width m (map (operand_of env) more)) (2 ^ 32 - 1) = width_is m more small in
      omega arith

  -- ---- parts, one after another

  steps_width_next : (more : List Step) (i : ℕ) (s : Step) → i < length more → s ≡ get_or more i s
      → steps_width env (take (i + 1) more) ≡ steps_width env (take i more) + (meaning_of env s.operand).typed.kind.width
  steps_width_next [] i s h is = absurd (omega arith)
  steps_width_next (x ∷ more) zero s h is = ap (λ (y : Step). (meaning_of env y.operand).typed.kind.width + 0) (sym is) ∙ omega arith
  steps_width_next (x ∷ more) (suc i) s h is =
      let less : i < length more = omega arith in
      let rest : steps_width env (take (i + 1) more) ≡ steps_width env (take i more) + (meaning_of env s.operand).typed.kind.width = steps_width_next more i s less is in
      let up : take (suc i + 1) (x ∷ more) ≡ x ∷ take (i + 1) more = ap (λ (k : ℕ). take k (x ∷ more)) (let e : suc i + 1 ≡ suc (i + 1) = omega arith in e) in
      ap (steps_width env) up ∙ ap (λ (w : ℕ). (meaning_of env x.operand).typed.kind.width + w) rest ∙ omega arith

  steps_width_front : (more : List Step) (i : ℕ) → steps_width env (take i more) ≤ steps_width env more
  steps_width_front [] zero = omega arith
  steps_width_front [] (suc i) = omega arith
  steps_width_front (x ∷ more) zero = omega arith
  steps_width_front (x ∷ more) (suc i) = (let rest : steps_width env (take i more) ≤ steps_width env more = steps_width_front more i in omega arith)

  pub joins_none : (first : Number) (more : List Step) → Joins env first more (take 0 more) first
  joins_none first more = record { value = λ h. refl; width = λ h. omega arith }

  pub joins_next : (first : Number) (more : List Step) (i : ℕ) (s : Step) (n part next : Number) → i < length more → s ≡ get_or more i s
      → part ≡ alone (meaning_of env s.operand) → part.width ≡ (meaning_of env s.operand).typed.kind.width → (n.width + part.width ≤ 128 → next ≡ joined n part)
      → Joins env first more (take i more) n → Joins env first more (take (i + 1) more) next
  joins_next first more i s n part next less is value width joins sofar = record {
    value = λ h.
        now h ∙ ap (λ (p : Number). joined n p) value ∙ ap (λ (k : Number). joined k (alone (meaning_of env s.operand))) (sofar.value h)
        ∙ ap (λ (x : Step). joined (steps_value env first (take i more)) (alone (meaning_of env x.operand))) is
        ∙ sym (fold_more (λ (k : Number) (x : Step). joined k (alone (meaning_of env x.operand))) first more i s less);
    width = λ h.
        let own : n.width ≡ first.width + steps_width env (take i more) = sofar.width h in
        let grown : steps_width env (take (i + 1) more) ≡ steps_width env (take i more) + (meaning_of env s.operand).typed.kind.width = steps_width_next more i s less is in
        ap (λ (k : Number). k.width) (now h) ∙ omega arith;
  }
    where
      now : first.width + steps_width env more ≤ 128 → next ≡ joined n part
      now h =
          let own : n.width ≡ first.width + steps_width env (take i more) = sofar.width h in
          let grown : steps_width env (take (i + 1) more) ≡ steps_width env (take i more) + (meaning_of env s.operand).typed.kind.width = steps_width_next more i s less is in
          let front : steps_width env (take (i + 1) more) ≤ steps_width env more = steps_width_front more (i + 1) in
          joins (omega arith)

  pub joins_all : (first : Number) (more : List Step) (i : ℕ) (n : Number) → length more ≤ i → Joins env first more (take i more) n → Joins env first more more n
  joins_all first more i n all h = (let whole : take i more ≡ more = take_all i more all in subst (λ (done : List Step). Joins env first more done n) whole h)
