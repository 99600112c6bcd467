-- Small examples of the definitions.
use Rattle.std.specs.Prelude.{◌≡◌, List, ℕ, [], ◌∷◌, slice_get, Some, None, codes}
use Rattle.std.proofs.Common.{refl, inl}
use Rattle.sv_tree.specs.Names.{Grows, Interns}

table : List (List ℕ)
table = codes "clk" ∷ codes "rst" ∷ []

places : (slice_get table 1 ≡ Some (codes "rst")) × (slice_get table 2 ≡ None)
unfolding table
places = (refl, refl)

-- a text that is there keeps its number, and the table stays
known : Interns table table (codes "rst") 1
unfolding table
known = inl (refl, refl)

-- a new one comes last
grown : Grows table (codes "clk" ∷ codes "rst" ∷ codes "data" ∷ [])
unfolding table
grown = (codes "data" ∷ [], refl)
