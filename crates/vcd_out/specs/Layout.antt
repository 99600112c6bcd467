-- The lines of a waveform's header between its first and its last lines, in order (IEEE 1800-2017 21.7.2.1).
use Rattle.std.specs.Prelude.{ℕ, suc, ◌==◌, List, [], ◌∷◌, ◌++◌, map, if◌then◌else◌}
use Rattle.rtl_ir.specs.declared.design.Var.{Var}
use Rattle.rtl_ir.specs.declared.design.FlatScope.{FlatScope}
use Rattle.vcd_out.specs.declared.layout.Line.{Line}
use Rattle.vcd_out.specs.declared.layout.Line.TheVariants.{Opens, Declares, Closes}
use Rattle.vcd_out.specs.Places.{owners_of, outers_of, places_from}

abbrev pub declared_line : ℕ → Line
declared_line v = Declares v

-- of the scopes that stand directly in one; the first of these scopes has number n. A scope has its variables in order, and then the scopes that stand in it.
abbrev pub scope_lines : List ℕ → ℕ → List ℕ → ℕ → List Line
scope_lines owners n [] outer = []
scope_lines owners n (o ∷ more) outer =
    (if o == outer
    then Opens n ∷ map declared_line (places_from 0 owners n) ++ (scope_lines owners (suc n) more (suc n) ++ Closes ∷ [])
    else [])
    ++ scope_lines owners (suc n) more outer

-- of the scopes that stand in none
abbrev pub lines_of : List Var → List FlatScope → List Line
lines_of vars scopes = scope_lines (owners_of vars) 0 (outers_of scopes) 0

-- the variables in their order
abbrev pub order_in : List Line → List ℕ
order_in [] = []
order_in (Opens s ∷ more) = order_in more
order_in (Declares v ∷ more) = v ∷ order_in more
order_in (Closes ∷ more) = order_in more
