-- What the inputs are at each eval of a stimulus.
use Rattle.std.specs.Prelude.{ℕ, zero, suc, List, [], ◌∷◌, ◌++◌, map, if◌then◌else◌, slice_get, slice_set, Option, Some, None}
use Rattle.vs_base.specs.Number.{Number, kept}
use Rattle.vs_base.specs.declared.act.Act.{Act}
use Rattle.vs_base.specs.declared.act.Act.TheVariants.{Set, Eval, Clock}
use Rattle.rtl_ir.specs.declared.design.Var.{Var}
use Rattle.rtl_ir.specs.declared.design.Port.{Port}
use Rattle.rtl_ir.specs.declared.whole.Design.{Design}
use Rattle.plan_types.specs.Machine.{width_of}

-- the width of a port, and of that at a place
abbrev pub port_width : List Var → Port → ℕ
port_width vars port = width_of vars port.var

abbrev pub width_if : List Var → Option Port → ℕ
width_if vars (Some port) = port_width vars port
width_if vars None = 1

abbrev pub width_at : List Var → List Port → ℕ → ℕ
width_at vars ports place = width_if vars (slice_get ports place)

-- the value of an input
abbrev pub input_if : Port → Number → List Number
input_if port value = if port.input then value ∷ [] else []

-- of one value for each port, those of the inputs
abbrev pub inputs_at : List Port → List Number → List Number
inputs_at [] values = []
inputs_at (port ∷ ports) [] = []
inputs_at (port ∷ ports) (value ∷ values) = input_if port value ++ inputs_at ports values

-- at first each port is 0
abbrev pub opening_ports : List Var → List Port → List Number
opening_ports vars ports = map (λ (port : Port). kept (port_width vars port) 0) ports

-- the port at a place is given a small number
abbrev pub with_number : Design → ℕ → ℕ → List Number → List Number
with_number d place n values = slice_set values place (kept (width_at d.vars d.ports place) n)

-- the inputs at the eval that follows
abbrev pub number_inputs : Design → ℕ → ℕ → List Number → List (List Number)
number_inputs d place n values = inputs_at d.ports (with_number d place n values) ∷ []

-- a turn of a clock sets its port to 1 for an eval, and then to 0 for one
abbrev pub lowered : Design → ℕ → List Number → List Number
lowered d place values = with_number d place 0 (with_number d place 1 values)

abbrev pub turn_inputs : Design → ℕ → List Number → List (List Number)
turn_inputs d place values = number_inputs d place 1 values ++ number_inputs d place 0 (with_number d place 1 values)

-- the inputs at the evals of so many turns, and the ports after them
abbrev pub turns_inputs : Design → ℕ → ℕ → List Number → List (List Number)
turns_inputs d place zero values = []
turns_inputs d place (suc turns) values = turn_inputs d place values ++ turns_inputs d place turns (lowered d place values)

abbrev pub after_turns : Design → ℕ → ℕ → List Number → List Number
after_turns d place zero values = values
after_turns d place (suc turns) values = after_turns d place turns (lowered d place values)

-- the inputs at the evals of an act, and the ports after it
abbrev pub act_inputs : Design → Act → List Number → List (List Number)
act_inputs d (Set place value) values = []
act_inputs d Eval values = inputs_at d.ports values ∷ []
act_inputs d (Clock place turns) values = turns_inputs d place turns values

abbrev pub after_act : Design → Act → List Number → List Number
after_act d (Set place value) values = slice_set values place value
after_act d Eval values = values
after_act d (Clock place turns) values = after_turns d place turns values

-- those of the evals of acts
abbrev pub inputs_from : Design → List Act → List Number → List (List Number)
inputs_from d [] values = []
inputs_from d (act ∷ acts) values = act_inputs d act values ++ inputs_from d acts (after_act d act values)

-- the inputs at each eval of a run
abbrev pub inputs_of : Design → List Act → List (List Number)
inputs_of d acts = inputs_from d acts (opening_ports d.vars d.ports)
