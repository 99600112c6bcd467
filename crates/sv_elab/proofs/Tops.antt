-- The one candidate for the top is the number of a module.
use Rattle.std.proofs.Common.{◌≡◌, ◌≤◌, ℕ, zero, suc, ◌-◌, ◌==◌, Bool, true, false, cond, List, [], ◌∷◌, Option, Some, None, get_or, sym, ap, ◌∙◌, subst, arith}
use Rattle.std.specs.Prelude.{not}
use Rattle.std.specs.Option.{option_to_list}
use Rattle.sv_tree.specs.declared.names.NameId.{NameId}
use Rattle.sv_tree.specs.declared.tree.source.Module.{Module}
use Rattle.sv_tree.specs.declared.tree.source.Description.{Description}
use Rattle.sv_tree.specs.declared.tree.source.Description.TheVariants as description
use Rattle.sv_names.specs.Candidates.{among, first_module, unused, candidates}
use Rattle.sv_elab.specs.Top.{name_at}

-- the number, counted from another, is that of a module
record Found (source : List Description) (at k : ℕ) : Type 0 where
  reached : at ≤ k
  name : ℕ
  is : name_at source (k - at) ≡ Some name

later : (x : Description) (more : List Description) (at k : ℕ) → Found more (suc at) k → Found (x ∷ more) at k
later x more at k f =
    let past : suc at ≤ k = f.reached in
    record {
      reached = omega arith;
      name = f.name;
      is = (let e : k - at ≡ suc (k - suc at) = omega arith in ap (name_at (x ∷ more)) e ∙ f.is);
    }

here : (m : Module) (more : List Description) (at : ℕ) → Found (description.Module m ∷ more) at at
here m more at = record {
  reached = omega arith;
  name = m.name.name.0;
  is = (let e : at - at ≡ zero = omega arith in ap (name_at (description.Module m ∷ more)) e);
}

unused_found : (used : List ℕ) (at : ℕ) (source : List Description) (k : ℕ) (rest : List ℕ) → unused used at source ≡ k ∷ rest → Found source at k
unused_found used at [] k rest e = absurd (let none : [] ≡ k ∷ rest = e in cc)
unused_found used at (description.Import x ∷ more) k rest e = later (description.Import x) more at k (unused_found used (suc at) more k rest e)
unused_found used at (description.Module m ∷ more) k rest e = by (not (among m.name.name.0 used)) (unused_found used (suc at) more k rest) e
  where
    by : (b : Bool) → (unused used (suc at) more ≡ k ∷ rest → Found more (suc at) k) → cond b (at ∷ unused used (suc at) more) (unused used (suc at) more) ≡ k ∷ rest → Found (description.Module m ∷ more) at k
    by true next h = (let same : at ≡ k = ap (λ (l : List ℕ). get_or l 0 0) h in subst (λ (j : ℕ). Found (description.Module m ∷ more) at j) same (here m more at))
    by false next h = later (description.Module m) more at k (next h)

first_found : (name at : ℕ) (source : List Description) (k : ℕ) → first_module name at source ≡ Some k → Found source at k
first_found name at [] k e = absurd (let none : None ≡ Some k = e in cc)
first_found name at (description.Import x ∷ more) k e = later (description.Import x) more at k (first_found name (suc at) more k e)
first_found name at (description.Module m ∷ more) k e = by (m.name.name.0 == name) (first_found name (suc at) more k) e
  where
    by : (b : Bool) → (first_module name (suc at) more ≡ Some k → Found more (suc at) k) → cond b (Some at) (first_module name (suc at) more) ≡ Some k → Found (description.Module m ∷ more) at k
    by true next h = (let same : at ≡ k = cc in subst (λ (j : ℕ). Found (description.Module m ∷ more) at j) same (here m more at))
    by false next h = later (description.Module m) more at k (next h)

of_first : (o : Option ℕ) (k : ℕ) → option_to_list o ≡ k ∷ [] → o ≡ Some k
of_first None k e = absurd (let none : [] ≡ k ∷ [] = e in cc)
of_first (Some n) k e = ap Some (ap (λ (l : List ℕ). get_or l 0 0) e)

found : (used : List ℕ) (source : List Description) (top : Option NameId) (k : ℕ) → candidates used source top ≡ k ∷ [] → Found source 0 k
found used source None k e = unused_found used 0 source k [] e
found used source (Some name) k e = first_found name.0 0 source k (of_first (first_module name.0 0 source) k e)

pub is_module : (used : List ℕ) (source : List Description) (top : Option NameId) (k : ℕ) → candidates used source top ≡ k ∷ [] → name_at source k ≡ None → ⊥
is_module used source top k e none =
    let f : Found source 0 k = found used source top k e in
    let same : k - 0 ≡ k = omega arith in
    let some : Some f.name ≡ None = sym f.is ∙ ap (name_at source) same ∙ none in
    cc
