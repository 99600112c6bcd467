-- The texts of an eval that are wanted.
use Rattle.std.proofs.Common.{◌≡◌, ◌<◌, ◌≤◌, ℕ, ◌+◌, List, [], ◌∷◌, Bool, true, false, cond, length, refl, sym, ap, ◌∙◌, arith}
use Rattle.vs_base.specs.Number.{Number}
use Rattle.vs_world.specs.declared.world.Stream.{Stream}
use Rattle.vs_world.specs.declared.world.Stream.TheVariants.{Calls, Vcd}
use Rattle.vs_world.specs.Entries.{Writes}
use Rattle.dpi_host.specs.Calls.{Call}
use Rattle.rtl_ir.specs.declared.whole.Design.{Design}
use Rattle.vcd_out.specs.Header.{header_text}
use Rattle.vcd_out.specs.Changes.{change_text}
use Rattle.sim_session.specs.CallLines.{call_lines}
use Rattle.sim_session.specs.Runs.{some_text, calls_entries, changes_entries, header_entries}

pub text_is : (stream : Stream) (text : List ℕ) → 0 < length text → Writes stream text ∷ [] ≡ some_text stream text
text_is stream [] h = let none : ⊥ = omega (arith, h) in absurd none
text_is stream (byte ∷ bytes) h = refl

pub no_text : (stream : Stream) (text : List ℕ) → length text ≤ 0 → some_text stream text ≡ []
no_text stream [] h = refl
no_text stream (byte ∷ bytes) h = let none : ⊥ = omega (arith, h) in absurd none

pub calls_are : (logs : Bool) (d : Design) (k : ℕ) (calls : List Call) (text : List ℕ) → logs ≡ true → text ≡ call_lines d.imports k calls → some_text Calls text ≡ calls_entries logs d k calls
calls_are logs d k calls text is same = ap (some_text Calls) same ∙ ap (λ (b : Bool). cond b (some_text Calls (call_lines d.imports k calls)) []) (sym is)

pub no_calls : (logs : Bool) (d : Design) (k : ℕ) (calls : List Call) → logs ≡ false → calls_entries logs d k calls ≡ []
no_calls logs d k calls is = ap (λ (b : Bool). cond b (some_text Calls (call_lines d.imports k calls)) []) is

pub changes_are : (waves : Bool) (d : Design) (k : ℕ) (was now : List Number) (text : List ℕ) → waves ≡ true → text ≡ change_text d.vars d.scopes was now (k + 1)
    → Writes Vcd text ∷ [] ≡ changes_entries waves d k was now
changes_are waves d k was now text is same =
    ap (λ (l : List ℕ). Writes Vcd l ∷ []) same ∙ ap (λ (b : Bool). cond b (Writes Vcd (change_text d.vars d.scopes was now (k + 1)) ∷ []) []) (sym is)

pub no_changes : (waves : Bool) (d : Design) (k : ℕ) (was now : List Number) → waves ≡ false → changes_entries waves d k was now ≡ []
no_changes waves d k was now is = ap (λ (b : Bool). cond b (Writes Vcd (change_text d.vars d.scopes was now (k + 1)) ∷ []) []) is

pub header_is : (waves : Bool) (d : Design) (text : List ℕ) → waves ≡ true → text ≡ header_text d.vars d.scopes → Writes Vcd text ∷ [] ≡ header_entries waves d
header_is waves d text is same = ap (λ (l : List ℕ). Writes Vcd l ∷ []) same ∙ ap (λ (b : Bool). cond b (Writes Vcd (header_text d.vars d.scopes) ∷ []) []) (sym is)

pub no_header : (waves : Bool) (d : Design) → waves ≡ false → header_entries waves d ≡ []
no_header waves d is = ap (λ (b : Bool). cond b (Writes Vcd (header_text d.vars d.scopes) ∷ []) []) is
