-- What holds of a session between two evals.
use Rattle.std.specs.Prelude.{◌≡◌, ◌<◌, ◌≤◌, ◌+◌, ◌*◌, ◌^◌, List, map, length, true, Option, is_some, vec_capacity}
use Rattle.std.specs.List.{list_all}
use Rattle.vs_base.specs.Number.{Number}
use Rattle.vs_world.specs.declared.world.Stream.TheVariants.{Calls, Vcd}
use Rattle.vs_world.specs.Outside.{Made, IsOpen}
use Rattle.plan_types.specs.declared.built.Built.{Built}
use Rattle.plan_types.specs.Machine.{Machine, values_of}
use Rattle.vcd_out.specs.Changes.{widths_of_vars}
use Rattle.vcd_out.specs.Buffer.{Serves}
use Rattle.rtl_pieces.specs.declared.layout.Word.{Word}
use Rattle.sim_session.specs.Inputs.{port_width}
use Rattle.sim_session.specs.Values.{is_short}
use Rattle.sim_session.specs.Rooms.{line_room, log_room}
use Rattle.sim_session.specs.declared.session.Output.{Output}
use Rattle.sim_session.specs.declared.session.Session.{Session}
use Rattle.sim_session.specs.declared.texts.Texts.{Texts}

-- each port has a value of its width
abbrev pub IsSet : Built → List Number → Type 0
IsSet b values = map (λ (n : Number). n.width) values ≡ map (port_width b.design.vars) b.design.ports

-- the words are so few and so short that each has a number and is a part of a value
pub record IsOrdinary (words : List Word) : Type 0 where
  pub few : length words < 2 ^ 32
  pub short : list_all is_short words ≡ true

-- the files of the texts that are wanted were created
pub record IsOpened (texts : Texts) (made : Option Made) : Type 0 where
  pub calls : is_some texts.calls ≡ true → IsOpen made Calls
  pub vcd : is_some texts.vcd ≡ true → IsOpen made Vcd

-- there is room for the longest texts of an eval
pub record HasRoom (texts : Texts) (b : Built) (out : Output) : Type 0 where
  pub line : line_room b.design.vars (widths_of_vars b.design.vars) b.design.ports ≤ vec_capacity out.line
  pub log : is_some texts.calls ≡ true → log_room b ≤ vec_capacity out.log
  pub changes : Serves out.changes b.design

-- what is set and what the variables are, room for all that an eval needs, and so few entries that they can be counted
pub record IsReady (texts : Texts) (b : Built) (session : Session) (m : Machine) : Type 0 where
  pub set : IsSet b session.set.items
  pub before : session.before.items ≡ values_of b m
  pub inputs_room : length b.design.ports ≤ vec_capacity session.inputs
  pub before_room : length b.design.vars ≤ vec_capacity session.before
  pub after_room : length b.design.vars ≤ vec_capacity session.after
  pub out : HasRoom texts b session.out
  pub count : session.out.done ≤ 3 * session.number + 3
  pub words : length m.outside.words ≡ length b.layout.words.items
  pub ordinary : IsOrdinary b.layout.words.items

-- what is set may differ, and nothing else that lasts
pub record Keeps (session session' : Session) : Type 0 where
  pub inputs : session'.inputs ≡ session.inputs
  pub before : session'.before ≡ session.before
  pub after : session'.after ≡ session.after
  pub out : session'.out ≡ session.out
  pub number : session'.number ≡ session.number
