-- The inputs out of the values of the ports.
use Rattle.std.proofs.Common.{◌≡◌, ℕ, Bool, true, false, cond, List, [], ◌∷◌, ◌++◌, map, refl, ap}
use Rattle.vs_base.specs.Number.{Number}
use Rattle.rtl_ir.specs.declared.design.Var.{Var}
use Rattle.rtl_ir.specs.declared.design.Port.{Port}
use Rattle.plan_types.specs.Machine.{width_of, input_vars}
use Rattle.sim_session.specs.Inputs.{port_width, inputs_at}

-- the width of the first of a list, and the widths of the others
abbrev head_of : ℕ → List ℕ → ℕ
head_of d [] = d
head_of d (n ∷ ns) = n

abbrev tail_of : List ℕ → List ℕ
tail_of [] = []
tail_of (n ∷ ns) = ns

-- the inputs are as wide as their ports
pub inputs_width : (vars : List Var) (ports : List Port) (values : List Number) → map (λ (n : Number). n.width) values ≡ map (port_width vars) ports
    → map (λ (n : Number). n.width) (inputs_at ports values) ≡ map (width_of vars) (input_vars ports)
inputs_width vars [] values h = refl
inputs_width vars (port ∷ ports) [] h = cc
inputs_width vars (port ∷ ports) (v ∷ values) h = by port.input (ap (head_of 0) h) (inputs_width vars ports values (ap tail_of h))
  where
    by : (b : Bool) → v.width ≡ port_width vars port → map (λ (n : Number). n.width) (inputs_at ports values) ≡ map (width_of vars) (input_vars ports)
        → map (λ (n : Number). n.width) (cond b (v ∷ []) [] ++ inputs_at ports values) ≡ map (width_of vars) (cond b (port.var ∷ input_vars ports) (input_vars ports))
    by true first rest = (λ i. first i ∷ rest i)
    by false first rest = rest
