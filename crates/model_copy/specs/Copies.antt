-- That a model runs as another does.
use Rattle.std.specs.Prelude.{◌≡◌, ℕ, List}
use Rattle.vs_base.specs.Number.{Number}
use Rattle.dpi_host.specs.HostMachine.{Answer, After}
use Rattle.plan_types.specs.declared.built.Built.{Built}
use Rattle.plan_types.specs.Machine.{Machine, evaluated, converges, opening, values_of}
use Rattle.plan_types.specs.Room.{call_room}

-- On every host and from every state, one is the other.
pub record RunsAs (copy model : Built) : Type 0 where
  -- the state before the first eval
  pub opens : (fixed : List (List ℕ)) (state : List ℕ) → opening copy fixed state ≡ opening model fixed state
  -- one eval
  pub evals : (answer : Answer) (after : After) (inputs : List Number) (m : Machine) → evaluated answer after copy inputs m ≡ evaluated answer after model inputs m
  -- and whether it converges
  pub converges : (answer : Answer) (after : After) (inputs : List Number) (m : Machine) → converges answer after copy inputs m ≡ converges answer after model inputs m
  -- the calls that it can keep
  pub room : call_room copy ≡ call_room model
  -- what a reader sees of the variables
  pub shows : (m : Machine) → values_of copy m ≡ values_of model m
