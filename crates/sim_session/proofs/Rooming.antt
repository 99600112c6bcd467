-- Texts within the room that is there.
use Rattle.std.proofs.Common.{◌≡◌, ◌≤◌, ℕ, zero, suc, ◌+◌, ◌*◌, ◌-◌, Bool, true, List, [], ◌∷◌, ◌++◌, length, take, drop, sym, ap, ◌∙◌, subst, append_assoc, arith, suc-mul}
use Rattle.std.specs.Prelude.{max, slice_get, slice_index_or, Option}
use Rattle.vs_base.specs.Number.{Number}
use Rattle.dpi_host.specs.Calls.{Call}
use Rattle.rtl_ir.specs.declared.design.Var.{Var}
use Rattle.rtl_ir.specs.declared.design.Port.{Port}
use Rattle.rtl_ir.specs.declared.design.Import.{Import}
use Rattle.sim_session.specs.Lines.{output_text, outputs_text}
use Rattle.sim_session.specs.Rooms.{output_room, outputs_room, import_room, import_room_if, longest, lines_room}
use Rattle.std.proofs.Math.Nat.{mul-le-mul_right, zero-mul}
use Rattle.sim_session.proofs.Steps.{tail_is}

-- ---- the calls

-- each call is among the longest
within : (imports : List Import) (n : ℕ) → import_room_if (slice_get imports n) ≤ longest imports
within [] n = omega arith
within (i ∷ more) zero = omega arith
within (i ∷ more) (suc n) = (let h = within more n in omega (arith, h))

pub call_is_within : (imports : List Import) (n : ℕ) (o : Option Import) → o ≡ slice_get imports n → import_room_if o ≤ longest imports
call_is_within imports n o is = subst (λ (x : Option Import). import_room_if x ≤ longest imports) (sym is) (within imports n)

-- so many lines
lines_are : (calls : List Call) (most : ℕ) → lines_room most calls ≡ length calls * most
lines_are [] most = sym (zero-mul most)
lines_are (c ∷ more) most = (let rest = lines_are more most in let step : length (c ∷ more) * most ≡ length more * most + most = suc-mul (length more) most in omega (arith, rest, step))

pub fewer_lines : (calls : List Call) (n most cap : ℕ) → length calls ≤ n → n * most ≤ cap → lines_room most calls ≤ cap
fewer_lines calls n most cap h room = (let is = lines_are calls most in let fewer : length calls * most ≤ n * most = mul-le-mul_right most h in omega (arith, is, fewer, room))

pub log_fits : (logs wanted : Bool) (calls room most cap : ℕ) → logs ≡ wanted → calls ≡ room → (logs ≡ true → calls * most ≤ cap) → wanted ≡ true → room * most ≤ cap
log_fits logs wanted calls room most cap same count fits is = subst (λ (n : ℕ). n * most ≤ cap) count (fits (same ∙ is))

-- the longest of some and of others
pub longest_step : (rest : List Import) (d : Import) (most new : ℕ) → 1 ≤ length rest → new ≡ max most (import_room (slice_index_or rest 0 d))
    → max new (longest (take (length rest - 1) (drop 1 rest))) ≡ max most (longest rest)
longest_step [] d most new h is = let none : ⊥ = omega (arith, h) in absurd none
longest_step (i ∷ more) d most new h is = (λ j. max (is j) (longest (tail_is i more j))) ∙ omega arith

-- ---- the outputs

pub outputs_step : (vars : List Var) (values : List Number) (rest : List Port) (d : Port) (out new : List ℕ) → 1 ≤ length rest → new ≡ out ++ output_text vars values (slice_index_or rest 0 d)
    → new ++ outputs_text vars values (take (length rest - 1) (drop 1 rest)) ≡ out ++ outputs_text vars values rest
outputs_step vars values [] d out new h put = let none : ⊥ = omega (arith, h) in absurd none
outputs_step vars values (port ∷ more) d out new h put =
    (λ i. put i ++ outputs_text vars values (tail_is port more i)) ∙ append_assoc out (output_text vars values port) (outputs_text vars values more)

pub outputs_left : (vars : List Var) (widths : List ℕ) (rest : List Port) (d : Port) → 1 ≤ length rest
    → outputs_room vars widths rest ≡ output_room vars widths (slice_index_or rest 0 d) + outputs_room vars widths (take (length rest - 1) (drop 1 rest))
outputs_left vars widths [] d h = let none : ⊥ = omega (arith, h) in absurd none
outputs_left vars widths (port ∷ more) d h = ap (λ (l : List Port). output_room vars widths port + outputs_room vars widths l) (sym (tail_is port more))
