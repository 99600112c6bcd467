-- What a waveform tells of an eval (IEEE 1800-2017 21.7.2.2).
use Rattle.std.specs.Prelude.{ℕ, suc, ◌==◌, ◌+◌, List, [], ◌∷◌, ◌++◌, map, codes, decimal, Option, Some, None, slice_get, if◌then◌else◌}
use Rattle.vs_base.specs.Number.{Number}
use Rattle.rtl_ir.specs.declared.design.Var.{Var}
use Rattle.rtl_ir.specs.declared.design.FlatScope.{FlatScope}
use Rattle.vcd_out.specs.Layout.{lines_of, order_in}
use Rattle.vcd_out.specs.Values.{value_line}

abbrev pub widths_of : List Number → List ℕ
widths_of values = map (λ n. n.width) values

abbrev pub widths_of_vars : List Var → List ℕ
widths_of_vars vars = map (λ v. v.width) vars

-- a design's variables in the order of the text
abbrev pub order_of : List Var → List FlatScope → List ℕ
order_of vars scopes = order_in (lines_of vars scopes)

abbrev pub time_text : ℕ → List ℕ
time_text time = codes "#" ++ (decimal time ++ codes "\n")

-- the line of a variable whose value differs, where so many variables stand before it
abbrev pub change_line : ℕ → Option Number → Option Number → List ℕ
change_line k (Some was) (Some now) = if was.value == now.value then [] else value_line k now
change_line k (Some was) None = []
change_line k None new = []

-- the lines of variables, where so many stand before them
abbrev pub changes : List Number → List Number → ℕ → List ℕ → List ℕ
changes old new k [] = []
changes old new k (v ∷ more) = change_line k (slice_get old v) (slice_get new v) ++ changes old new (suc k) more

-- the text of a change
abbrev pub change_text : List Var → List FlatScope → List Number → List Number → ℕ → List ℕ
change_text vars scopes old new time = time_text time ++ changes old new 0 (order_of vars scopes)

-- ---- the room that it may take

-- of a line: the digits, three bytes round them, and a code of at most ten
abbrev pub room_at : Option ℕ → ℕ
room_at None = 0
room_at (Some width) = width + 3 + 10

abbrev pub rooms : List ℕ → List ℕ → ℕ
rooms widths [] = 0
rooms widths (v ∷ more) = room_at (slice_get widths v) + rooms widths more
