-- One turn of a run.
use Rattle.std.specs.Prelude.{◌≡◌, ◌<◌, Bool, true, false}
use Rattle.dpi_host.specs.HostMachine.{Answer, After}
use Rattle.task_eval.specs.Codes.{Ops}
use Rattle.task_eval.specs.Frames.{Running, going, IsReady}
use Rattle.plain_runner.specs.Seen.{Seen, Env, go}

-- a load, a store or a call was made: the frame can go on with fewer ops, and the run from here ends as before
pub record GoesOn (answer : Answer) (after : After) (env : Env) (code : Ops) (f f' : Running) (s s' : Seen) : Type 0 where
  pub ready : IsReady code f'
  pub fewer : f'.left < f.left
  pub same : go answer after env (going code f') s' ≡ go answer after env (going code f) s

-- whether there was one; where there was none, the run is at its end
abbrev pub Turned : Answer → After → Env → Ops → Running → Running → Seen → Seen → Bool → Type 0
Turned answer after env code f f' s s' true = GoesOn answer after env code f f' s s'
Turned answer after env code f f' s s' false = s' ≡ go answer after env (going code f) s
