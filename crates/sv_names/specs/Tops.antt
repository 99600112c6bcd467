-- The modules that may be the top, in so far as one of them is.
use Rattle.std.specs.Prelude.{ℕ, List, [], ◌∷◌}
use Rattle.sv_names.specs.declared.top.Tops.{Tops}
use Rattle.sv_names.specs.declared.top.Tops.TheVariants as tops

-- whether there is none, one or several
abbrev pub summary : List ℕ → Tops
summary [] = tops.Nothing
summary (one ∷ []) = tops.One one
summary (one ∷ other ∷ more) = tops.Many

-- the same with further ones behind
abbrev pub with_more : Tops → List ℕ → Tops
with_more tops.Nothing more = summary more
with_more (tops.One one) more = summary (one ∷ more)
with_more tops.Many more = tops.Many
