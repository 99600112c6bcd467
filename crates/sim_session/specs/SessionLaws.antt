-- The entries of a run: the files are created, then only texts are written, and nothing on standard error.
use Rattle.std.proofs.Common.{◌≡◌, ℕ, ◌+◌, List, [], ◌∷◌, ◌++◌, Bool, true, false, cond, refl, ap, ◌∙◌}
use Rattle.std.specs.Prelude.{◌&&◌, is_some, Option, Some, None}
use Rattle.std.specs.List.{list_all}
use Rattle.std.proofs.lemmas.Bool.{and_parts}
use Rattle.vs_base.specs.Number.{Number}
use Rattle.vs_world.specs.declared.world.Stream.TheVariants.{Out, Calls, Vcd}
use Rattle.vs_world.specs.Entries.{Entry, Creates, Writes, is_quiet}
use Rattle.dpi_host.specs.Calls.{Call}
use Rattle.rtl_ir.specs.declared.whole.Design.{Design}
use Rattle.plan_types.specs.Machine.{Machine, kept_of, values_of}
use Rattle.vcd_out.specs.Header.{header_text}
use Rattle.vcd_out.specs.Changes.{change_text}
use Rattle.sim_session.specs.Lines.{out_line}
use Rattle.sim_session.specs.CallLines.{call_lines}
use Rattle.sim_session.specs.declared.texts.Texts.{Texts}
use Rattle.sim_session.specs.Runs.{Setting, after_eval, eval_converges, creation, creations, some_text, calls_entries, changes_entries, besides, all_texts, eval_entries, run_entries, header_entries, session_writes, session_entries}

-- it writes a text
abbrev pub is_written : Entry → Bool
is_written (Creates stream name) = false
is_written (Writes stream bytes) = true

both : (p : Entry → Bool) (a b : List Entry) → list_all p a ≡ true → list_all p b ≡ true → list_all p (a ++ b) ≡ true
both p [] b h k = k
both p (e ∷ a) b h k = let parts = and_parts (p e) (list_all p a) h in ap (λ (x : Bool). x && list_all p (a ++ b)) parts.0 ∙ both p a b parts.1 k

-- ---- a test that a text passes on standard output, the call log and the waveform, whatever its bytes are

module _ (p : Entry → Bool) (on_out : (bytes : List ℕ) → p (Writes Out bytes) ≡ true) (on_calls : (bytes : List ℕ) → p (Writes Calls bytes) ≡ true) (on_vcd : (bytes : List ℕ) → p (Writes Vcd bytes) ≡ true) where
  log_passes : (text : List ℕ) → list_all p (some_text Calls text) ≡ true
  log_passes [] = refl
  log_passes (byte ∷ bytes) = ap (λ (x : Bool). x && true) (on_calls (byte ∷ bytes))

  calls_pass : (logs : Bool) (d : Design) (k : ℕ) (calls : List Call) → list_all p (calls_entries logs d k calls) ≡ true
  calls_pass true d k calls = log_passes (call_lines d.imports k calls)
  calls_pass false d k calls = refl

  changes_pass : (waves : Bool) (d : Design) (k : ℕ) (was now : List Number) → list_all p (changes_entries waves d k was now) ≡ true
  changes_pass true d k was now = ap (λ (x : Bool). x && true) (on_vcd (change_text d.vars d.scopes was now (k + 1)))
  changes_pass false d k was now = refl

  header_passes : (waves : Bool) (d : Design) → list_all p (header_entries waves d) ≡ true
  header_passes true d = ap (λ (x : Bool). x && true) (on_vcd (header_text d.vars d.scopes))
  header_passes false d = refl

  texts_pass : (texts : Texts) (d : Design) (k : ℕ) (calls : List Call) (was now : List Number) → list_all p (all_texts texts d k calls was now) ≡ true
  texts_pass texts d k calls was now =
      ap (λ (x : Bool). x && list_all p (besides texts d k calls was now)) (on_out (out_line d.vars d.ports k now))
      ∙ both p (calls_entries (is_some texts.calls) d k calls) (changes_entries (is_some texts.vcd) d k was now) (calls_pass (is_some texts.calls) d k calls) (changes_pass (is_some texts.vcd) d k was now)

  eval_passes : (s : Setting) (k : ℕ) (was now : Machine) → list_all p (eval_entries s k was now) ≡ true
  unfolding eval_entries
  eval_passes s k was now = texts_pass s.texts s.built.design k (kept_of now) (values_of s.built was) (values_of s.built now)

  if_passes : (b : Bool) (entries : List Entry) → list_all p entries ≡ true → list_all p (cond b entries []) ≡ true
  if_passes true entries h = h
  if_passes false entries h = refl

  run_passes : (s : Setting) (k : ℕ) (m : Machine) (inputs : List (List Number)) → list_all p (run_entries s k m inputs) ≡ true
  unfolding run_entries
  run_passes s k m [] = refl
  run_passes s k m (x ∷ more) =
      let next = after_eval s m x in
      if_passes (eval_converges s m x) (eval_entries s k m next ++ run_entries s (k + 1) next more)
      (both p (eval_entries s k m next) (run_entries s (k + 1) next more) (eval_passes s k m next) (run_passes s (k + 1) next more))

  writes_pass : (s : Setting) (m : Machine) (inputs : List (List Number)) → list_all p (session_writes s m inputs) ≡ true
  writes_pass s m inputs = both p (header_entries (is_some s.texts.vcd) s.built.design) (run_entries s 0 m inputs) (header_passes (is_some s.texts.vcd) s.built.design) (run_passes s 0 m inputs)

-- after the creations come texts alone
pub writes_alone : (s : Setting) (m : Machine) (inputs : List (List Number)) → list_all is_written (session_writes s m inputs) ≡ true
writes_alone s m inputs = writes_pass is_written (λ bytes. refl) (λ bytes. refl) (λ bytes. refl) s m inputs

-- ---- nothing stands on standard error

calls_quiet : (name : Option (List ℕ)) → list_all is_quiet (creation Calls name) ≡ true
calls_quiet (Some name) = refl
calls_quiet None = refl

vcd_quiet : (name : Option (List ℕ)) → list_all is_quiet (creation Vcd name) ≡ true
vcd_quiet (Some name) = refl
vcd_quiet None = refl

pub session_quiet : (s : Setting) (m : Machine) (inputs : List (List Number)) → list_all is_quiet (session_entries s m inputs) ≡ true
session_quiet s m inputs =
    both is_quiet (creations s.texts) (session_writes s m inputs)
    (both is_quiet (creation Calls s.texts.calls) (creation Vcd s.texts.vcd) (calls_quiet s.texts.calls) (vcd_quiet s.texts.vcd))
    (writes_pass is_quiet (λ bytes. refl) (λ bytes. refl) (λ bytes. refl) s m inputs)
