-- How the imports of a design are used.
use Rattle.std.proofs.Common.{◌≡◌, ℕ, suc, ◌+◌, ◌<◌, Bool, List, [], ◌∷◌, map, length, Option, refl, ap, ◌∙◌, arith}
use Rattle.std.specs.Prelude.{unwrap_or}
use Rattle.std.proofs.lemmas.List.{length-map}
use Rattle.rtl_ir.specs.declared.design.Import.{Import}
use Rattle.rtl_ir.specs.declared.whole.Design.{Design}
use Rattle.proc_calls.specs.Calls.{is_called}
use Rattle.dpi_host.specs.declared.mode.Mode.{Mode}
use Rattle.dpi_host.specs.Modes.{is_deemed}
use Rattle.model_build.specs.declared.import.ImportUse.{ImportUse}
use Rattle.model_build.specs.Imports.{use_of, uses_from, uses_of, deemed_of, ids_of}

module _ (id_of : List ℕ → Option ℕ) (by_args : ℕ → Bool) (mode : Mode) where
  from_same : (f g : ℕ → Bool) (k : ℕ) (imports : List Import) → ((j : ℕ) → j < k + length imports → f j ≡ g j) → uses_from id_of by_args mode f k imports ≡ uses_from id_of by_args mode g k imports
  from_same f g k [] agree = refl
  from_same f g k (i ∷ more) agree =
      let here = agree k (omega arith) in
      let rest = from_same f g (suc k) more (λ j less. agree j (omega arith)) in
      λ e. use_of id_of by_args mode (here e) i ∷ rest e

  -- two tests that agree on the imports
  pub uses_same : (f g : ℕ → Bool) (imports : List Import) → ((j : ℕ) → j < length imports → f j ≡ g j) → uses_from id_of by_args mode f 0 imports ≡ uses_from id_of by_args mode g 0 imports
  uses_same f g imports agree = from_same f g 0 imports (λ j less. agree j (omega arith))

  pub uses_length : (called : ℕ → Bool) (k : ℕ) (imports : List Import) → length (uses_from id_of by_args mode called k imports) ≡ length imports
  uses_length called k [] = refl
  uses_length called k (i ∷ more) = let rest = uses_length called (suc k) more in omega arith

  uses_deemed : (called : ℕ → Bool) (k : ℕ) (imports : List Import) → map (λ (u : ImportUse). u.deemed) (uses_from id_of by_args mode called k imports) ≡ deemed_of mode imports
  uses_deemed called k [] = refl
  uses_deemed called k (i ∷ more) = ap (λ (xs : List Bool). is_deemed mode i.declared_pure ∷ xs) (uses_deemed called (suc k) more)

  uses_ids : (called : ℕ → Bool) (k : ℕ) (imports : List Import) → map (λ (u : ImportUse). unwrap_or u.id 0) (uses_from id_of by_args mode called k imports) ≡ ids_of id_of by_args imports
  uses_ids called k [] = refl
  uses_ids called k (i ∷ more) = ap (λ (xs : List ℕ). unwrap_or (id_of i.name) 0 ∷ xs) (uses_ids called (suc k) more)

  -- what is told of the uses of a design
  pub deemed_told : (design : Design) (uses told : List ImportUse) (list : List Bool) → list ≡ map (λ (u : ImportUse). u.deemed) told → told ≡ uses → uses ≡ uses_of id_of by_args mode design
      → list ≡ deemed_of mode design.imports
  deemed_told design uses told list is same are =
      is ∙ ap (λ (us : List ImportUse). map (λ (u : ImportUse). u.deemed) us) (same ∙ are) ∙ uses_deemed (is_called design.procs) 0 design.imports

  pub ids_told : (design : Design) (uses told : List ImportUse) (list : List ℕ) → list ≡ map (λ (u : ImportUse). unwrap_or u.id 0) told → told ≡ uses → uses ≡ uses_of id_of by_args mode design
      → list ≡ ids_of id_of by_args design.imports
  ids_told design uses told list is same are =
      is ∙ ap (λ (us : List ImportUse). map (λ (u : ImportUse). unwrap_or u.id 0) us) (same ∙ are) ∙ uses_ids (is_called design.procs) 0 design.imports

  pub deemed_count : (imports : List Import) (list : List Bool) → list ≡ deemed_of mode imports → length list ≡ length imports
  deemed_count imports list is = ap (λ (xs : List Bool). length xs) is ∙ length-map imports (λ (i : Import). is_deemed mode i.declared_pure)

  pub ids_count : (imports : List Import) (list : List ℕ) → list ≡ ids_of id_of by_args imports → length list ≡ length imports
  ids_count imports list is = ap (λ (xs : List ℕ). length xs) is ∙ length-map imports (λ (i : Import). unwrap_or (id_of i.name) 0)
