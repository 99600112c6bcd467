-- How a run ends: with all of its entries done, or at an entry, or at an eval that does not converge, or before all.
use Rattle.std.specs.Prelude.{◌≡◌, ℕ, ◌+◌, List, length, Option, Some, None, Result, Ok, Err}
use Rattle.vs_base.specs.Number.{Number}
use Rattle.vs_world.specs.Outside.{Told}
use Rattle.vs_world.specs.Entries.{Entry, Did, Broke}
use Rattle.plan_types.specs.Machine.{Machine}
use Rattle.sim_session.specs.declared.fault.SessionFault.{SessionFault}
use Rattle.sim_session.specs.declared.fault.SessionFault.TheVariants.{NoMemory, World, NotConverged}
use Rattle.sim_session.specs.declared.session.Session.{Session}
use Rattle.sim_session.specs.Runs.{Setting, after_evals, run_entries, stops_from, session_writes, session_entries, stops_at}

-- ---- the whole run

-- for want of memory nothing was done; the world failed at the entry that is told; or all entries up to an eval were done that does not converge
abbrev pub RunStopped : List Entry → Option ℕ → SessionFault → Told → Told → Type 0
RunStopped entries stop NoMemory before now = now ≡ before
RunStopped entries stop (World stream pieces bytes) before now = Broke entries stream pieces bytes before now
RunStopped entries stop (NotConverged eval) before now = (stop ≡ Some eval) × Did entries before now

-- exactly its entries were done, and every eval converged; or it stopped
abbrev pub RunEnded : Setting → Machine → List (List Number) → Result ℕ SessionFault → Told → Told → Type 0
RunEnded s m inputs (Ok evals) before now = (evals ≡ length inputs) × (stops_at s m inputs ≡ None) × Did (session_entries s m inputs) before now
RunEnded s m inputs (Err fault) before now = RunStopped (session_entries s m inputs) (stops_at s m inputs) fault before now

-- ---- a part of a run

-- how many entries were done so far, and what the world tells
pub record Mark : Type 0 where
  pub done : ℕ
  pub told : Told

abbrev pub mark : ℕ → Told → Mark
mark done told = record { done = done; told = told }

-- exactly these entries were done, and counted
pub record Done (entries : List Entry) (before now : Mark) : Type 0 where
  pub did : Did entries before.told now.told
  pub count : now.done ≡ before.done + length entries

-- the world failed at the entry that is told, which is one of these; or these were done up to the eval that is told. There is no want of memory.
abbrev pub Stopped : List Entry → Option ℕ → SessionFault → Mark → Told → Type 0
Stopped entries stop NoMemory before now = ⊥
Stopped entries stop (World stream pieces bytes) before now = (k : ℕ) × (pieces ≡ before.done + k) × Broke entries stream k bytes before.told now
Stopped entries stop (NotConverged eval) before now = (stop ≡ Some eval) × Did entries before.told now

abbrev pub DoneOrStopped : List Entry → Option ℕ → Result (Unit {0}) SessionFault → Mark → Mark → Type 0
DoneOrStopped entries stop (Ok _) before now = (stop ≡ None) × Done entries before now
DoneOrStopped entries stop (Err fault) before now = Stopped entries stop fault before now.told

-- the texts of a run, and the whole of it
abbrev pub TextsDone : Setting → Machine → List (List Number) → Result (Unit {0}) SessionFault → Mark → Mark → Type 0
TextsDone s m inputs result before now = DoneOrStopped (session_writes s m inputs) (stops_at s m inputs) result before now

abbrev pub SessionDone : Setting → Machine → List (List Number) → Result (Unit {0}) SessionFault → Mark → Mark → Type 0
SessionDone s m inputs result before now = DoneOrStopped (session_entries s m inputs) (stops_at s m inputs) result before now

-- ---- evals

-- where a run stands between two evals: the number of the next one, the machine, and how far it came
pub record Stand : Type 0 where
  pub number : ℕ
  pub machine : Machine
  pub mark : Mark

abbrev pub stand : Session → Machine → Told → Stand
stand session m told = record { number = session.number; machine = m; mark = mark session.out.done told }

-- evals at these inputs were made, each converged, and no file was created
pub record Ran (s : Setting) (inputs : List (List Number)) (before now : Stand) : Type 0 where
  pub machine : now.machine ≡ after_evals s inputs before.machine
  pub number : now.number ≡ before.number + length inputs
  pub converged : stops_from s before.number before.machine inputs ≡ None
  pub done : Done (run_entries s before.number before.machine inputs) before.mark now.mark
  pub made : now.mark.told.made ≡ before.mark.told.made

-- it stopped among their entries
abbrev pub StoppedIn : Setting → List (List Number) → SessionFault → Stand → Told → Type 0
StoppedIn s inputs fault before now = Stopped (run_entries s before.number before.machine inputs) (stops_from s before.number before.machine inputs) fault before.mark now

abbrev pub RanOrStopped : Setting → List (List Number) → Result (Unit {0}) SessionFault → Stand → Stand → Type 0
RanOrStopped s inputs (Ok _) before now = Ran s inputs before now
RanOrStopped s inputs (Err fault) before now = StoppedIn s inputs fault before now.mark.told
