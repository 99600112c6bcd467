-- One turn of a run on a bus.
use Rattle.std.specs.Prelude.{◌≡◌, ◌<◌, Bool, true, false, length}
use Rattle.dpi_host.specs.HostMachine.{Answer, After}
use Rattle.task_eval.specs.Codes.{Ops}
use Rattle.task_eval.specs.Frames.{Running, going, IsReady}
use Rattle.task_eval.specs.Buses.{Outside, run}

-- a load, a store or a call was made: the frame can go on with fewer ops, and the run from here ends as before
pub record GoesOn (answer : Answer) (after : After) (code : Ops) (f f' : Running) (b b' : Outside) : Type 0 where
  pub ready : IsReady code f'
  pub fewer : f'.left < f.left
  pub same : run answer after (going code f') b' ≡ run answer after (going code f) b
  pub words : length b'.words ≡ length b.words
  pub ids : b'.ids ≡ b.ids

-- whether there was one; where there was none, the run is at its end
abbrev pub Turned : Answer → After → Ops → Running → Running → Outside → Outside → Bool → Type 0
Turned answer after code f f' b b' true = GoesOn answer after code f f' b b'
Turned answer after code f f' b b' false = b' ≡ run answer after (going code f) b
