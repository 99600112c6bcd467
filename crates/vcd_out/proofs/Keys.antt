-- The keys of a design's variables and scopes are below their bounds.
use Rattle.std.proofs.Common.{◌≡◌, ℕ, zero, suc, ◌+◌, ◌<◌, ◌≤◌, List, [], ◌∷◌, length, get_or, Option, Some, None, true, ◌&&◌, ◌∙◌, ap, arith, ltb}
use Rattle.std.specs.List.{list_all}
use Rattle.std.proofs.lemmas.Bool.{and_parts, ltb-true, le-leb}
use Rattle.rtl_ir.specs.declared.design.Var.{Var}
use Rattle.rtl_ir.specs.declared.design.FlatScope.{FlatScope}
use Rattle.rtl_ir.specs.WithinDesign.{var_fits, parent_is_below, parents_first}
use Rattle.vcd_out.specs.Places.{owners_of, outer_of, outers_of, are_first}

pub owners_below : (bound : ℕ) (vars : List Var) → list_all (var_fits bound) vars ≡ true → (k d : ℕ) → k < length (owners_of vars) → get_or (owners_of vars) k d < bound
owners_below bound [] fit k d h = absurd (omega arith)
owners_below bound (v ∷ vars) fit zero d h = ltb-true v.scope bound (and_parts (ltb v.scope bound) (list_all (var_fits bound) vars) fit).0
owners_below bound (v ∷ vars) fit (suc k) d h = owners_below bound vars (and_parts (ltb v.scope bound) (list_all (var_fits bound) vars) fit).1 k d (omega arith)

outer_low : (n : ℕ) (parent : Option ℕ) → parent_is_below n parent ≡ true → outer_of parent ≤ n
outer_low n None h = omega arith
outer_low n (Some parent) h = let low : parent < n = ltb-true parent n h in omega arith

pub outers_first : (n : ℕ) (scopes : List FlatScope) → parents_first n scopes ≡ true → are_first n (outers_of scopes) ≡ true
outers_first n [] h = h
outers_first n (s ∷ scopes) h =
    let parts = and_parts (parent_is_below n s.parent) (parents_first (suc n) scopes) h in
    ap (λ b. b && are_first (suc n) (outers_of scopes)) (le-leb (outer_of s.parent) n (outer_low n s.parent parts.0)) ∙ outers_first (suc n) scopes parts.1

outers_below : (n : ℕ) (scopes : List FlatScope) → parents_first n scopes ≡ true → (k d : ℕ) → k < length (outers_of scopes) → get_or (outers_of scopes) k d < n + (length scopes + 1)
outers_below n [] h k d within = absurd (omega arith)
outers_below n (s ∷ scopes) h zero d within =
    let low : outer_of s.parent ≤ n = outer_low n s.parent (and_parts (parent_is_below n s.parent) (parents_first (suc n) scopes) h).0 in
    omega arith
outers_below n (s ∷ scopes) h (suc k) d within =
    let less = outers_below (suc n) scopes (and_parts (parent_is_below n s.parent) (parents_first (suc n) scopes) h).1 k d (omega arith) in
    omega arith

pub all_outers_below : (scopes : List FlatScope) → parents_first 0 scopes ≡ true → (k d : ℕ) → k < length (outers_of scopes) → get_or (outers_of scopes) k d < length scopes + 1
all_outers_below scopes h k d within = let less = outers_below 0 scopes h k d within in omega arith
