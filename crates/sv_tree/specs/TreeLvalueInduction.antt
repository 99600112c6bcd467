-- What every layer keeps holds of what each target of an assignment reads as.
use Rattle.std.proofs.Common.{◌≡◌, List, [], ◌∷◌, map, sym, subst}
use denote.Hole.Holds.{Such}
use Rattle.sv_tree.specs.declared.tree.stmt.Lvalue.{Lvalue}
use Rattle.sv_tree.specs.declared.tree.stmt.LvalueStep.{LvalueStep}
use Rattle.sv_tree.specs.declared.tree.stmt.Lvalue.TheBlock.{the_family, member-Lvalue, member-LvalueStep}
use Rattle.sv_tree.specs.declared.tree.stmt.Lvalue.TheFolds.{claims, ind-Lvalue, map-Lvalue, fold-roll-Lvalue, ind-LvalueStep, map-LvalueStep, fold-roll-LvalueStep}
use Rattle.sv_tree.specs.declared.tree.stmt.Lvalue.TheOpen.{Lvalue-F, LvalueStep-F}
use Rattle.sv_tree.specs.declared.tree.stmt.Lvalue.TheViews.{roll-Lvalue, roll-LvalueStep}
use Rattle.sv_tree.specs.TreeRead.{Read, Each}
use Rattle.sv_tree.specs.TreeStmt.{read_lvalue, read_lvalue_step, lvalue_read, lvalue_step_read}

module _ (PL : Read → Type 0) (PM : Read → Type 0) where
  -- what is known of the parts of what is assigned
  abbrev pub LvalueParts : Lvalue-F Read Read → Type 0
  LvalueParts (Lvalue-F.Name name chosen) = Unit {0}
  LvalueParts (Lvalue-F.Concat opens first more closes) = PL first × Each PM more

  -- what is known of the parts of a further target
  abbrev pub LvalueStepParts : LvalueStep-F Read Read → Type 0
  LvalueStepParts x = PL x.target

  module _
      (lvalue_kept : (x : Lvalue-F Read Read) → LvalueParts x → PL (read_lvalue x))
      (lvalue_step_kept : (x : LvalueStep-F Read Read) → LvalueStepParts x → PM (read_lvalue_step x))
    where
      abbrev LvalueKeeps : Lvalue → Type 0
      LvalueKeeps x = PL (lvalue_read x)

      abbrev LvalueStepKeeps : LvalueStep → Type 0
      LvalueStepKeeps x = PM (lvalue_step_read x)

      abbrev KeptLvalue : Type 0
      KeptLvalue = Such the_family (claims LvalueKeeps LvalueStepKeeps) member-Lvalue

      abbrev KeptLvalueStep : Type 0
      KeptLvalueStep = Such the_family (claims LvalueKeeps LvalueStepKeeps) member-LvalueStep

      each_lvalue_step : (xs : List KeptLvalueStep) → Each PM (map lvalue_step_read (map (λ x. x.0) xs))
      each_lvalue_step [] = tt
      each_lvalue_step (x ∷ xs) = (x.1, each_lvalue_step xs)

      lvalue_rolled : (x : Lvalue-F Lvalue LvalueStep) → lvalue_read (roll-Lvalue x) ≡ read_lvalue (map-Lvalue Lvalue LvalueStep Read Read lvalue_read lvalue_step_read x)
      unfolding lvalue_read lvalue_step_read
      lvalue_rolled = fold-roll-Lvalue Read Read read_lvalue read_lvalue_step

      lvalue_step_rolled : (x : LvalueStep-F Lvalue LvalueStep) → lvalue_step_read (roll-LvalueStep x) ≡ read_lvalue_step (map-LvalueStep Lvalue LvalueStep Read Read lvalue_read lvalue_step_read x)
      unfolding lvalue_read lvalue_step_read
      lvalue_step_rolled = fold-roll-LvalueStep Read Read read_lvalue read_lvalue_step

      lvalue_case : (x : Lvalue-F KeptLvalue KeptLvalueStep) → LvalueKeeps (roll-Lvalue (map-Lvalue KeptLvalue KeptLvalueStep Lvalue LvalueStep (λ x. x.0) (λ x. x.0) x))
      lvalue_case (Lvalue-F.Name name chosen) = subst PL (sym (lvalue_rolled (Lvalue-F.Name name chosen))) (lvalue_kept (Lvalue-F.Name name chosen) tt)
      lvalue_case (Lvalue-F.Concat opens first more closes) = subst PL (sym (lvalue_rolled (Lvalue-F.Concat opens first.0 (map (λ x. x.0) more) closes))) (lvalue_kept (Lvalue-F.Concat opens (lvalue_read first.0) (map lvalue_step_read (map (λ x. x.0) more)) closes) (first.1, each_lvalue_step more))

      lvalue_step_case : (x : LvalueStep-F KeptLvalue KeptLvalueStep) → LvalueStepKeeps (roll-LvalueStep (map-LvalueStep KeptLvalue KeptLvalueStep Lvalue LvalueStep (λ x. x.0) (λ x. x.0) x))
      lvalue_step_case x = subst PM (sym (lvalue_step_rolled (record { comma = x.comma; target = x.target.0 }))) (lvalue_step_kept (record { comma = x.comma; target = (lvalue_read x.target.0) }) x.target.1)

      pub lvalue_keeps : (x : Lvalue) → PL (lvalue_read x)
      lvalue_keeps = ind-Lvalue LvalueKeeps LvalueStepKeeps
          (λ x y is. subst (λ x. LvalueKeeps (roll-Lvalue x)) is (lvalue_case y))
          (λ x y is. subst (λ x. LvalueStepKeeps (roll-LvalueStep x)) is (lvalue_step_case y))

      pub lvalue_step_keeps : (x : LvalueStep) → PM (lvalue_step_read x)
      lvalue_step_keeps = ind-LvalueStep LvalueKeeps LvalueStepKeeps
          (λ x y is. subst (λ x. LvalueKeeps (roll-Lvalue x)) is (lvalue_case y))
          (λ x y is. subst (λ x. LvalueStepKeeps (roll-LvalueStep x)) is (lvalue_step_case y))
