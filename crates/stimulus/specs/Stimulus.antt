-- What a stimulus says to a design: its acts in their order, or its first faulty line with the first of that line's faults.
use Rattle.std.specs.Prelude.{ℕ, ◌+◌, ◌*◌, ◌^◌, List, [], ◌∷◌, ◌++◌, map, Option, Some, None, Result, Ok, Err, Bool, true, false, ◌&&◌, ◌==◌, if◌then◌else◌, nat_le, nat_lt, codes, slice_get}
use Rattle.std.specs.Option.{option_map_or}
use Rattle.std.specs.List.{position_from}
use Rattle.std.specs.Str.{bytes_eq}
use Rattle.vs_base.specs.Number.{kept}
use Rattle.vs_base.specs.declared.act.Act.{Act}
use Rattle.vs_base.specs.declared.act.Act.TheVariants.{Set, Eval, Clock}
use Rattle.vs_base.specs.declared.limits.TheConstants.{EVALS}
use Rattle.rtl_ir.specs.declared.design.Var.{Var}
use Rattle.rtl_ir.specs.declared.design.Port.{Port}
use Rattle.rtl_ir.specs.declared.whole.Design.{Design}
use Rattle.stimulus.specs.declared.fault.StimFault.{StimFault}
use Rattle.stimulus.specs.declared.fault.StimFault.TheVariants.{BadLine, UnknownInput, ValueTooWide, TooManyEvals}
use Rattle.stimulus.specs.StimulusText.{Text, without_returns, lines_of, words_of, begins_comment, is_hex, hex_value, is_count, count_value}

-- ---- ports

-- a port as a stimulus sees it
pub record StimPort : Type 0 where
  pub name : Text
  pub width : ℕ
  pub input : Bool

-- the ports with the names and widths of their variables
abbrev pub stim_port : List Var → Port → StimPort
stim_port vars p = record {
  name = option_map_or (λ v. v.name) (slice_get vars p.var) [];
  width = option_map_or (λ v. v.width) (slice_get vars p.var) 1;
  input = p.input;
}

abbrev pub stim_ports : List Var → List Port → List StimPort
stim_ports vars ports = map (stim_port vars) ports

-- the ports of a design
abbrev pub design_ports : Design → List StimPort
design_ports design = stim_ports design.vars design.ports

abbrev pub is_input : Text → StimPort → Bool
is_input name p = p.input && bytes_eq name p.name

-- the place of the first input of a name, from 0
abbrev pub place_of : List StimPort → Text → Option ℕ
place_of ports name = position_from (is_input name) 0 ports

-- the width of the port at a place
abbrev pub width_at : List StimPort → ℕ → ℕ
width_at ports place = option_map_or (λ p. p.width) (slice_get ports place) 1

-- ---- a line

-- set NAME HEX, on line n: a number, then an input, then a value below 2 ^ its width
abbrev pub set_input : List StimPort → ℕ → ℕ → Option ℕ → Result (Option Act) StimFault
set_input ports n value None = Err (UnknownInput n)
set_input ports n value (Some place) =
    if nat_lt value (2 ^ width_at ports place) then Ok (Some (Set place (kept (width_at ports place) value))) else Err (ValueTooWide n)

abbrev pub set_act : List StimPort → ℕ → Text → Text → Result (Option Act) StimFault
set_act ports n name hex = if is_hex hex then set_input ports n (hex_value hex) (place_of ports name) else Err (BadLine n)

-- clock NAME N, on line n: a number, then an input
abbrev pub clock_input : ℕ → ℕ → Option ℕ → Result (Option Act) StimFault
clock_input n turns None = Err (UnknownInput n)
clock_input n turns (Some place) = Ok (Some (Clock place turns))

abbrev pub clock_act : List StimPort → ℕ → Text → Text → Result (Option Act) StimFault
clock_act ports n name count = if is_count count then clock_input n (count_value count) (place_of ports name) else Err (BadLine n)

-- the act of a line of these words
abbrev pub act_of : List StimPort → ℕ → Text → List Text → Result (Option Act) StimFault
act_of ports n verb [] = if bytes_eq verb (codes "eval") then Ok (Some Eval) else Err (BadLine n)
act_of ports n verb (name ∷ []) = Err (BadLine n)
act_of ports n verb (name ∷ number ∷ []) =
    if bytes_eq verb (codes "set") then set_act ports n name number else (if bytes_eq verb (codes "clock") then clock_act ports n name number else Err (BadLine n))
act_of ports n verb (name ∷ number ∷ more ∷ rest) = Err (BadLine n)

-- no act where the line has no words, or where its first word begins with #
abbrev pub line_act : List StimPort → ℕ → List Text → Result (Option Act) StimFault
line_act ports n [] = Ok None
line_act ports n (verb ∷ words) = if begins_comment verb then Ok None else act_of ports n verb words

-- ---- the lines

-- how often an act evaluates the design
abbrev pub evals_of : Act → ℕ
evals_of (Set port value) = 0
evals_of Eval = 1
evals_of (Clock port turns) = 2 * turns

-- these acts, and then what is said behind them
abbrev pub followed_by : List Act → Result (List Act) StimFault → Result (List Act) StimFault
followed_by acts (Ok more) = Ok (acts ++ more)
followed_by acts (Err fault) = Err fault

-- line n, before which there are so many evals: its fault, or its act and then what the lines after it say
abbrev pub after_line : ℕ → ℕ → Result (Option Act) StimFault → (ℕ → Result (List Act) StimFault) → Result (List Act) StimFault
after_line n evals (Err fault) more = Err fault
after_line n evals (Ok None) more = more evals
after_line n evals (Ok (Some act)) more =
    if nat_le (evals + evals_of act) EVALS then followed_by (act ∷ []) (more (evals + evals_of act)) else Err (TooManyEvals n)

-- the lines from line n on
abbrev pub lines_acts : List StimPort → ℕ → ℕ → List Text → Result (List Act) StimFault
lines_acts ports n evals [] = Ok []
lines_acts ports n evals (l ∷ ls) = after_line n evals (line_act ports n (words_of l)) (λ sum. lines_acts ports (n + 1) sum ls)

-- how often these acts evaluate the design
abbrev pub evals_in : List Act → ℕ
evals_in [] = 0
evals_in (act ∷ acts) = evals_of act + evals_in acts

-- what the bytes of a stimulus say to a design with these ports
unfoldable pub stim_acts : List StimPort → Text → Result (List Act) StimFault
stim_acts ports bytes = lines_acts ports 1 0 (lines_of (without_returns bytes))

-- ---- what is set

-- the port at a place is an input
abbrev pub is_input_at : List StimPort → ℕ → Bool
is_input_at ports place = option_map_or (λ p. p.input) (slice_get ports place) false

-- a set is of an input, with a value as wide as it and below 2 ^ its width; a clock is of an input
abbrev pub act_fits : List StimPort → Act → Bool
act_fits ports (Set place value) = is_input_at ports place && (value.width == width_at ports place) && nat_lt value.value (2 ^ width_at ports place)
act_fits ports Eval = true
act_fits ports (Clock place turns) = is_input_at ports place
