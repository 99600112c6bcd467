-- From how a run ended to how far its command came.
use Rattle.std.proofs.Common.{◌≡◌, ◌⊎◌, ◌≤◌, ◌<◌, ℕ, List, [], ◌∷◌, ◌++◌, length, Option, Some, None, cond, refl, sym, ap, ◌∙◌, subst, inl, inr, arith}
use Rattle.std.specs.Prelude.{◌≢◌, true, Result, Ok, Err}
use Rattle.std.specs.List.{list_all}
use Rattle.std.proofs.lemmas.Bool.{lt-ltb, le-ltb}
use Rattle.vs_base.specs.declared.act.Act.{Act}
use Rattle.vs_world.specs.declared.world.Stream.{Stream}
use Rattle.vs_world.specs.Outside.{Told}
use Rattle.vs_world.specs.Entries.{Entry, Creates, Writes, stream_of, Did, front, Broke}
use Rattle.plan_types.specs.declared.built.Built.{Built}
use Rattle.plan_types.specs.Machine.{Machine, opening}
use Rattle.sim_session.specs.declared.texts.Texts.{Texts}
use Rattle.sim_session.specs.declared.fault.SessionFault.{SessionFault}
use Rattle.sim_session.specs.declared.fault.SessionFault.TheVariants as session
use Rattle.sim_session.specs.Inputs.{inputs_of}
use Rattle.sim_session.specs.Runs.{setting, creations, session_writes}
use Rattle.sim_session.specs.Ends.{RunStopped, RunEnded}
use Rattle.sim_session.specs.SessionLaws.{is_written, writes_alone, session_quiet}
use Rattle.run_status.specs.Lines.{Text, not_created, not_written, entry_text}
use Rattle.run_status.specs.Answer.{Answer, Refused, entries_of, refusal_of, AreQuiet, Leaves}
use Rattle.run_status.specs.Stages.{CameToRefusal, FailedAtEntry, Came, Finished}
use Rattle.run_status.specs.StageLaws.{leaves_did, leaves_none, came_later, finished_later, refused_came}
use Rattle.run_input.specs.Input.{Bytes}
use Rattle.stimulus.specs.declared.fault.StimFault.{StimFault}
use Rattle.stimulus.specs.declared.fault.StimFault.TheVariants as stim
use Rattle.stimulus.specs.Stimulus.{stim_acts, design_ports}
use Rattle.fault_text.specs.FaultText.{not_converged}
use Rattle.fault_text.specs.Endings.{stimulus_end}
use Rattle.vsim_cli.specs.Case.{Command, HostView}
use Rattle.vsim_cli.specs.Run.{setting_of, run_entries, run_stop, whole_or_stopped, run_answer, acts_answer, bytes_answer, built_answer}
use Rattle.vsim_cli.specs.Refusals.{file_of, stop_text, ending_of}
use Rattle.vsim_cli.specs.RefusalLaws.{stimulus_refused}
use Rattle.vsim_cli.specs.declared.refusal.Refusal.TheVariants as refusal

-- ---- which entries create a file

abbrev Every : (Entry → Type 0) → List Entry → Type 0
Every P [] = Unit {0}
Every P (x ∷ xs) = P x × Every P xs

reached : (P : Entry → Type 0) (done rest : List Entry) (entry : Entry) → Every P (done ++ entry ∷ rest) → P entry
reached P [] rest entry every = every.0
reached P (d ∷ done) rest entry every = reached P done rest entry every.1

module _ (P Q : Entry → Type 0) where
  abbrev Either : List Entry → List Entry → Entry → Type 0
  Either xs done entry = ((length done < length xs) × P entry) ⊎ ((length xs ≤ length done) × Q entry)

  longer : (x d : Entry) (xs done : List Entry) (entry : Entry) → Either xs done entry → Either (x ∷ xs) (d ∷ done) entry
  longer x d xs done entry (inl e) = inl (let less = e.0 in omega (arith, less), e.1)
  longer x d xs done entry (inr e) = inr (let less = e.0 in omega (arith, less), e.1)

  -- an entry of two lists, one after the other, by how many stand before it
  within : (xs ys done rest : List Entry) (entry : Entry) → Every P xs → Every Q ys → xs ++ ys ≡ done ++ entry ∷ rest → Either xs done entry
  within [] ys done rest entry p q is = inr (omega arith, reached Q done rest entry (subst (Every Q) is q))
  within (x ∷ xs) ys [] rest entry p q is = inl (omega arith, let same : x ≡ entry = cc is in subst P same p.0)
  within (x ∷ xs) ys (d ∷ done) rest entry p q is = longer x d xs done entry (within xs ys done rest entry p.1 q (let tails : xs ++ ys ≡ done ++ entry ∷ rest = cc is in tails))

-- ---- the line of the entry at which the world failed

module _ (texts : Texts) (stream : Stream) (pieces : ℕ) where
  -- among the creations
  pub stop_created : pieces < length (creations texts) → stop_text texts stream pieces ≡ not_created (file_of texts stream)
  stop_created less = ap (λ b. cond b (not_created (file_of texts stream)) (not_written stream)) (lt-ltb pieces (length (creations texts)) less)

  -- after them
  pub stop_written : length (creations texts) ≤ pieces → stop_text texts stream pieces ≡ not_written stream
  stop_written past = ap (λ b. cond b (not_created (file_of texts stream)) (not_written stream)) (le-ltb pieces (length (creations texts)) past)

-- the creation of a stream's file, and a text on a stream besides standard error
abbrev IsCreation : Texts → Entry → Type 0
IsCreation texts entry = entry_text entry ≡ not_created (file_of texts (stream_of entry))

abbrev IsText : Entry → Type 0
IsText entry = entry_text entry ≡ not_written (stream_of entry)

creations_are : (calls vcd : Option Text) → Every (IsCreation (record { calls = calls; vcd = vcd })) (creations (record { calls = calls; vcd = vcd }))
creations_are None None = tt
creations_are None (Some v) = (refl, tt)
creations_are (Some c) None = (refl, tt)
creations_are (Some c) (Some v) = (refl, (refl, tt))

texts_are : (entries : List Entry) → list_all is_written entries ≡ true → Every IsText entries
texts_are [] written = tt
texts_are (Creates stream name ∷ entries) written = absurd (cc written)
texts_are (Writes stream bytes ∷ entries) written = (refl, texts_are entries written)

module _ (texts : Texts) (after : List Entry) (written : list_all is_written after ≡ true) (done rest : List Entry) (entry : Entry) (whole : creations texts ++ after ≡ done ++ entry ∷ rest) where
  line_by : Either (IsCreation texts) IsText (creations texts) done entry → entry_text entry ≡ stop_text texts (stream_of entry) (length done)
  line_by (inl e) = e.1 ∙ sym (stop_created texts (stream_of entry) (length done) e.0)
  line_by (inr e) = e.1 ∙ sym (stop_written texts (stream_of entry) (length done) e.0)

  pub entry_line : entry_text entry ≡ stop_text texts (stream_of entry) (length done)
  entry_line = line_by (within (IsCreation texts) IsText (creations texts) after done rest entry (creations_are texts.calls texts.vcd) (texts_are after written) whole)

-- ---- the ends of a run

module _ (c : Command) (h : HostView) (b : Built) (acts : List Act) (t0 t1 : Told) where
  abbrev machine : Machine
  machine = opening b h.fixed h.state

  abbrev entries : List Entry
  entries = run_entries c h b acts

  abbrev Run : Answer → Type 0
  Run a = a ≡ run_answer c h b acts

  same_entries : (o : Option ℕ) → entries_of (whole_or_stopped entries o) ≡ entries
  same_entries None = refl
  same_entries (Some eval) = refl

  quiet : AreQuiet entries
  quiet = session_quiet (setting_of c h b) machine (inputs_of b.design acts)

  quiet_answer : AreQuiet (entries_of (run_answer c h b acts))
  quiet_answer = subst AreQuiet (sym (same_entries (run_stop c h b acts))) quiet

  -- every eval converged, and all was done
  pub run_whole : run_stop c h b acts ≡ None → Did entries t0 t1 → Finished Run t0 t1
  run_whole stop did = record { entries = entries; allowed = sym (ap (whole_or_stopped entries) stop); quiet = quiet; left = leaves_did entries t0 t1 did }

  -- an eval did not
  stopped : (eval : ℕ) → run_stop c h b acts ≡ Some eval → Did entries t0 t1 → CameToRefusal Run (not_converged eval) t0 t1
  stopped eval stop did = record {
    answer = run_answer c h b acts;
    allowed = refl;
    quiet = quiet_answer;
    refusal = ap (λ o. refusal_of (whole_or_stopped entries o)) stop;
    left = subst (λ l. Leaves l t0 t1) (sym (same_entries (run_stop c h b acts))) (leaves_did entries t0 t1 did);
  }

  -- the world failed
  broke : (stream : Stream) (pieces bytes : ℕ) → Broke entries stream pieces bytes t0 t1 → FailedAtEntry Run (stop_text c.texts stream pieces) t0 t1
  broke stream pieces bytes e =
      let written = writes_alone (setting_of c h b) machine (inputs_of b.design acts) in
      let here = entry_line c.texts (session_writes (setting_of c h b) machine (inputs_of b.design acts)) written e.done e.rest e.entry (sym e.whole) in
      record {
        answer = run_answer c h b acts;
        allowed = refl;
        quiet = quiet_answer;
        done = e.done;
        entry = e.entry;
        rest = e.rest;
        bytes = bytes;
        whole = e.whole ∙ sym (same_entries (run_stop c h b acts));
        part = e.part;
        text = sym (subst (λ s. entry_text e.entry ≡ stop_text c.texts s pieces) e.on (subst (λ n. entry_text e.entry ≡ stop_text c.texts (stream_of e.entry) n) e.count here));
        rose = e.rose;
        left = leaves_did (e.done ++ front bytes e.entry) t0 t1 e.did;
      }

  -- it ended early
  pub run_came : (named table : List Text) (f : SessionFault) → RunStopped entries (run_stop c h b acts) f t0 t1 → Came Run named (ending_of c table (refusal.Run f)) t0 t1
  run_came named table session.NoMemory e = subst (Leaves [] t0) (sym e) (leaves_none t0)
  run_came named table (session.World stream pieces bytes) e = inr (broke stream pieces bytes e)
  run_came named table (session.NotConverged eval) e = stopped eval e.0 e.1

-- ---- the run of a stimulus whose acts these are

module _ (c : Command) (h : HostView) (b : Built) (bytes : Bytes) (acts : List Act) (is : stim_acts (design_ports b.design) bytes ≡ Ok acts) (m : Machine) (opened : m ≡ opening b h.fixed h.state) (t0 t1 : Told) where
  abbrev Stimulus : Answer → Type 0
  Stimulus a = a ≡ bytes_answer c h b bytes

  into : (a : Answer) → a ≡ run_answer c h b acts → Stimulus a
  into a e = e ∙ sym (ap (acts_answer c h b) is)

  at_opening : (r : Result ℕ SessionFault) → RunEnded (setting h.answer h.after b c.texts) m (inputs_of b.design acts) r t0 t1 → RunEnded (setting_of c h b) (opening b h.fixed h.state) (inputs_of b.design acts) r t0 t1
  at_opening r e = subst (λ (x : Machine). RunEnded (setting_of c h b) x (inputs_of b.design acts) r t0 t1) opened e

  pub acts_whole : (evals : ℕ) → RunEnded (setting h.answer h.after b c.texts) m (inputs_of b.design acts) (Ok evals) t0 t1 → Finished Stimulus t0 t1
  acts_whole evals e =
      let run = at_opening (Ok evals) e in finished_later (λ (a : Answer). a ≡ run_answer c h b acts) Stimulus [] into t0 t0 t1 (leaves_none t0) (run_whole c h b acts t0 t1 run.1 run.2)

  pub acts_came : (named table : List Text) (f : SessionFault) → RunEnded (setting h.answer h.after b c.texts) m (inputs_of b.design acts) (Err f) t0 t1 → Came Stimulus named (ending_of c table (refusal.Run f)) t0 t1
  acts_came named table f e =
      came_later (λ (a : Answer). a ≡ run_answer c h b acts) Stimulus named into t0 t0 t1 (leaves_none t0) (ending_of c table (refusal.Run f)) (run_came c h b acts t0 t1 named table f (at_opening (Err f) e))

-- a stimulus that is refused
pub stimulus_came : (c : Command) (h : HostView) (b : Built) (bytes : Bytes) (t : Told) (named : List Text) (f : StimFault) → (f ≢ stim.NoMemory → stim_acts (design_ports b.design) bytes ≡ Err f) → Came (λ a. a ≡ bytes_answer c h b bytes) named (stimulus_end f) t t
stimulus_came c h b bytes t named f is =
    refused_came (λ (a : Answer). a ≡ bytes_answer c h b bytes) named (λ line. Refused line ≡ bytes_answer c h b bytes) t t (λ line e. e) (leaves_none t) (stimulus_end f) (stimulus_refused c h b bytes f is)

-- no stimulus
pub check_finished : (c : Command) (h : HostView) (b : Built) (o : Option Bytes) → o ≡ None → (t : Told) → Finished (λ a. a ≡ built_answer c h b o) t t
check_finished c h b o is t = record { entries = []; allowed = sym (ap (built_answer c h b) is); quiet = refl; left = leaves_none t }
