-- What elaboration has laid down, and the limits on it.
use Rattle.std.specs.Prelude.{ℕ, ◌+◌, ◌-◌, ◌^◌, min, nat_lt, if◌then◌else◌, Option, Some, None}
use Rattle.vs_base.specs.declared.limits.TheConstants.{INSTANCES, PROCESSES, TERMS, CALLS, LOOP_TURNS}
use Rattle.vs_base.specs.declared.origin.Origin.{Origin}
use Rattle.sv_walk.specs.Events.{Event, Named, Called, Written, Term}
use Rattle.elab_parts.specs.declared.counts.Counts.{Counts}
use Rattle.elab_parts.specs.declared.counts.Tally.{Tally}
use Rattle.elab_parts.specs.declared.stop.Counted.{Counted}
use Rattle.elab_parts.specs.declared.stop.Counted.TheVariants as counted
use Rattle.elab_parts.specs.declared.stop.Stop.{Stop}
use Rattle.elab_parts.specs.declared.stop.Stop.TheVariants as stop
use Rattle.elab_parts.specs.Stops.{◌or◌}

-- ---- an item or a statement

-- so many terms and calls
abbrev pub tally : ℕ → ℕ → Tally
tally terms calls = record { terms = terms; calls = calls }

-- one call more, up to the greatest number of 64 bits
abbrev pub one_call_more : Tally → Tally
one_call_more t = record t { calls = min (t.calls + 1) (2 ^ 64 - 1) }

abbrev pub one_term_more : Tally → Tally
one_term_more t = record t { terms = min (t.terms + 1) (2 ^ 64 - 1) }

-- what a walk over expressions and over what is written adds: each term, each call of an import; names nothing
abbrev pub after_event : Event → Tally → Tally
after_event Term t = one_term_more t
after_event (Called name args constant) t = one_call_more t
after_event (Named name selects constant) t = t
after_event (Written name selects) t = t

-- ---- a limit

-- the fault where so many would pass it
abbrev pub past : ℕ → ℕ → Counted → Option Stop
past limit sum what = if nat_lt limit sum then Some (stop.TooMany what) else None

-- a sum that would pass it is not taken
abbrev pub within : ℕ → ℕ → ℕ → ℕ
within limit count sum = if nat_lt limit sum then count else sum

-- ---- the whole design

abbrev pub nothing_laid : Counts
nothing_laid = record { instances = 0; processes = 0; terms = 0; calls = 0; turns = 0 }

abbrev pub instance_fault : Counts → Option Stop
instance_fault c = past INSTANCES (c.instances + 1) counted.Instances

abbrev pub with_instance : Counts → Counts
with_instance c = record c { instances = within INSTANCES c.instances (c.instances + 1) }

abbrev pub process_fault : Counts → Option Stop
process_fault c = past PROCESSES (c.processes + 1) counted.Processes

abbrev pub with_process : Counts → Counts
with_process c = record c { processes = within PROCESSES c.processes (c.processes + 1) }

-- terms come before calls, which are not counted where the terms are too many
abbrev pub tally_fault : Counts → Tally → Option Stop
tally_fault c t = past TERMS (c.terms + t.terms) counted.Terms or past CALLS (c.calls + t.calls) counted.Calls

abbrev pub with_tally : Counts → Tally → Counts
with_tally c t =
    record c {
      terms = within TERMS c.terms (c.terms + t.terms);
      calls = if nat_lt TERMS (c.terms + t.terms) then c.calls else within CALLS c.calls (c.calls + t.calls);
    }

-- the turns of all loops
abbrev pub turn_fault : Counts → Origin → Option Stop
turn_fault c at = if nat_lt LOOP_TURNS (c.turns + 1) then Some (stop.LoopTurns at) else None

abbrev pub with_turn : Counts → Counts
with_turn c = record c { turns = within LOOP_TURNS c.turns (c.turns + 1) }
