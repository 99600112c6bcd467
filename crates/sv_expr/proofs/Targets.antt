-- What the walk over the parts of a target keeps is what the definition says.
use Rattle.std.proofs.Common.{◌≡◌, ◌≤◌, ◌<◌, ℕ, ◌+◌, ◌-◌, ◌^◌, min, cond, List, [], ◌∷◌, map, inl, inr, Option, refl, sym, ap, ◌∙◌, arith}
use Rattle.std.proofs.lemmas.Bool.{cases_lt}
use Rattle.vs_base.specs.declared.origin.Origin.{Origin}
use Rattle.sv_tree.specs.declared.tree.stmt.Lvalue.{Lvalue}
use Rattle.sv_tree.specs.declared.tree.stmt.LvalueStep.{LvalueStep}
use Rattle.sv_expr.specs.declared.fault.WalkFault.{WalkFault}
use Rattle.sv_expr.specs.declared.fault.WalkFault.TheVariants.{TooWide}
use Rattle.sv_expr.specs.declared.typed.Typed.{Typed}
use Rattle.sv_expr.specs.Bound.{IsWidth, ◌before◌, bounded, refused, unsigned}
use Rattle.sv_expr.specs.Environment.{Environment}
use Rattle.sv_expr.specs.Target.{total_width, first_fault, target_typed, step_typed, targets_joined}
use Rattle.sv_expr.specs.TargetLaws.{target_step-roll}
use Rattle.sv_expr.specs.Walk.{joined_typed}
use Rattle.sv_expr.proofs.Ranges.{no_width}

bounded_over : (at : Origin) (earlier : Option WalkFault) (w : ℕ) → 128 < w → bounded at earlier (unsigned w) ≡ refused earlier (TooWide at)
bounded_over at earlier w wide =
    let good : Typed = record { kind = unsigned w; fault = earlier } in
    let over : Typed = refused earlier (TooWide at) in
    ap (λ b. cond b good over) (no_width w wide)

bounded_capped : (at : Origin) (earlier : Option WalkFault) (w : ℕ) → bounded at earlier (unsigned (min w (2 ^ 32 - 1))) ≡ bounded at earlier (unsigned w)
bounded_capped at earlier w = elim (cases_lt w (2 ^ 32)) [ inl low ↦ same low | inr high ↦ over high ]
  where
    same : w < 2 ^ 32 → bounded at earlier (unsigned (min w (2 ^ 32 - 1))) ≡ bounded at earlier (unsigned w)
    same low = (let e : min w (2 ^ 32 - 1) ≡ w = omega arith in ap (λ (n : ℕ). bounded at earlier (unsigned n)) e)

    over : 2 ^ 32 ≤ w → bounded at earlier (unsigned (min w (2 ^ 32 - 1))) ≡ bounded at earlier (unsigned w)
    over high = bounded_over at earlier (min w (2 ^ 32 - 1)) (omega arith) ∙ sym (bounded_over at earlier w (omega arith))

module _ (env : Environment) where
  pub target_by : {e f : Lvalue} {r s : Typed} → e ≡ f → target_typed env f ≡ s → r ≡ s → r ≡ target_typed env e
  target_by is means h = h ∙ sym (ap (target_typed env) is ∙ means)

  step_is : (s : LvalueStep) → step_typed env s ≡ target_typed env s.target
  step_is s = target_step-roll env s.comma s.target

  fault_is : (t : Typed) (more : List LvalueStep) → (targets_joined env t more).fault ≡ first_fault t.fault (map (step_typed env) more)
  fault_is t [] = refl
  fault_is t (s ∷ more) =
      fault_is (joined_typed t (target_typed env s.target)) more ∙ ap (λ (x : Typed). first_fault (t.fault before x.fault) (map (step_typed env) more)) (sym (step_is s))

  abbrev steps_width : List LvalueStep → ℕ
  steps_width [] = 0
  steps_width (s ∷ more) = (target_typed env s.target).kind.width + steps_width more

  steps_width_is : (more : List LvalueStep) → steps_width more ≡ total_width (map (step_typed env) more)
  steps_width_is [] = refl
  steps_width_is (s ∷ more) =
      ap (λ (x : Typed). x.kind.width + steps_width more) (sym (step_is s)) ∙ ap (λ (w : ℕ). (step_typed env s).kind.width + w) (steps_width_is more)

  width_is : (t : Typed) (more : List LvalueStep) → t.kind.width ≤ 2 ^ 32 - 1 → (targets_joined env t more).kind.width ≡ min (t.kind.width + steps_width more) (2 ^ 32 - 1)
  width_is t [] small = omega arith
  width_is t (s ∷ more) small =
      let w : ℕ = (target_typed env s.target).kind.width in
      let next : (targets_joined env (joined_typed t (target_typed env s.target)) more).kind.width ≡ min (min (t.kind.width + w) (2 ^ 32 - 1) + steps_width more) (2 ^ 32 - 1) =
      width_is (joined_typed t (target_typed env s.target)) more (omega arith) in
      let order : min (min (t.kind.width + w) (2 ^ 32 - 1) + steps_width more) (2 ^ 32 - 1) ≡ min (t.kind.width + (w + steps_width more)) (2 ^ 32 - 1) = omega arith in
      next ∙ order

  pub concat_is : (at : Origin) (t : Typed) (more : List LvalueStep) → IsWidth t.kind.width
      → bounded at (targets_joined env t more).fault (unsigned (targets_joined env t more).kind.width)
      ≡ bounded at (first_fault t.fault (map (step_typed env) more)) (unsigned (t.kind.width + total_width (map (step_typed env) more)))
  concat_is at t more small =
      let most : t.kind.width ≤ 128 = small.most in
      let kind : ℕ = (targets_joined env t more).kind.width in
      ap (λ (f : Option WalkFault). bounded at f (unsigned kind)) (fault_is t more)
      ∙ ap (λ (w : ℕ). bounded at (first_fault t.fault (map (step_typed env) more)) (unsigned w)) (width_is t more (omega arith))
      ∙ bounded_capped at (first_fault t.fault (map (step_typed env) more)) (t.kind.width + steps_width more)
      ∙ ap (λ (w : ℕ). bounded at (first_fault t.fault (map (step_typed env) more)) (unsigned (t.kind.width + w))) (steps_width_is more)
