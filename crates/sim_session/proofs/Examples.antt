-- A design with an input a and an output y, and an import, and what the terms say of it.
use Rattle.std.proofs.Common.{◌≡◌, ℕ, List, [], ◌∷◌, ◌++◌, Bool, true, false, cond, Some, None, refl, ap, ◌∙◌, lit≤}
use Rattle.std.specs.Prelude.{codes, decimal}
use Rattle.std.proofs.lemmas.List.{append-nil}
use Rattle.vs_base.specs.Number.{Number}
use Rattle.vs_base.specs.declared.types.ValueType.{ValueType}
use Rattle.vs_base.specs.declared.act.Act.TheVariants.{Set, Eval, Clock}
use Rattle.vs_world.specs.declared.world.Stream.TheVariants.{Out, Calls, Vcd}
use Rattle.vs_world.specs.Entries.{Entry, Creates, Writes}
use Rattle.rtl_ir.specs.declared.design.Var.{Var}
use Rattle.rtl_ir.specs.declared.design.Port.{Port}
use Rattle.rtl_ir.specs.declared.design.Import.{Import}
use Rattle.rtl_ir.specs.declared.whole.Design.{Design}
use Rattle.rtl_pieces.specs.declared.layout.Word.{Word}
use Rattle.plan_types.specs.Machine.{Machine}
use Rattle.sim_session.specs.declared.texts.Texts.{Texts}
use Rattle.sim_session.specs.Lines.{hex_text, outputs_text, out_line}
use Rattle.sim_session.specs.CallLines.{args_text, reply_text}
use Rattle.sim_session.specs.Inputs.{inputs_from, opening_ports}
use Rattle.sim_session.specs.Values.{put_words}
use Rattle.sim_session.specs.Rooms.{line_room, longest}
use Rattle.sim_session.specs.Runs.{Setting, after_eval, eval_converges, creations, some_text, all_texts, eval_entries, run_entries, stops_from, stops_at}

abbrev bits : ℕ → ℕ → Number
bits width value = record { width = width; value = value }

abbrev a : Var
a = record { path = codes "top"; name = codes "a"; width = 1; lsb = 0; signed = false; init = bits 1 0; scope = 0; some = lit≤ tt; most = lit≤ tt; init_width = refl }

abbrev y : Var
y = record { path = codes "top"; name = codes "y"; width = 9; lsb = 0; signed = false; init = bits 9 0; scope = 0; some = lit≤ tt; most = lit≤ tt; init_width = refl }

abbrev vars : List Var
vars = a ∷ y ∷ []

abbrev ports : List Port
ports = record { var = 0; input = true } ∷ record { var = 1; input = false } ∷ []

abbrev of : ℕ → ValueType
of width = record { width = width; signed = false }

abbrev f : Import
f = record { name = codes "f"; declared_pure = false; args = of 8 ∷ of 1 ∷ []; result = Some (of 4); at = record { file = 0; line = 1; col = 1 }; few = lit≤ tt; arg_types = refl; result_type = refl }

abbrev design : Design
design = record { vars = vars; mems = []; procs = []; imports = f ∷ []; ports = ports; scopes = record { path = codes "top"; parent = None; block = false } ∷ []; vars_fit = refl; mems_fit = refl; procs_fit = refl; ports_fit = refl; parents_first = refl }

-- ---- lines

two_digits : hex_text (bits 8 0xa5) ≡ codes "a5"
two_digits = refl

rounded_up : hex_text (bits 9 0xa5) ≡ codes "0a5"
rounded_up = refl

one_bit : hex_text (bits 1 1) ≡ codes "1"
one_bit = refl

outputs_alone : outputs_text vars (bits 1 1 ∷ bits 9 0x1f0 ∷ []) ports ≡ codes " y=1f0"
outputs_alone = refl

two_arguments : args_text [] (of 8 ∷ of 1 ∷ []) (5 ∷ 1 ∷ []) ≡ codes "05,1"
two_arguments = refl

no_argument : args_text [] [] [] ≡ []
no_argument = refl

reply : reply_text (Some (of 4)) 7 ≡ codes " = 7"
reply = refl

void : reply_text None 7 ≡ []
void = refl

-- ---- inputs: a, once with 1 and then in a turn of a clock

opens : opening_ports vars ports ≡ bits 1 0 ∷ bits 9 0 ∷ []
opens = refl

each_eval : inputs_from design (Eval ∷ Set 0 (bits 1 1) ∷ Eval ∷ Clock 0 1 ∷ []) (bits 1 0 ∷ bits 9 0 ∷ [])
    ≡ (bits 1 0 ∷ []) ∷ (bits 1 1 ∷ []) ∷ (bits 1 1 ∷ []) ∷ (bits 1 0 ∷ []) ∷ []
each_eval = refl

no_turn : inputs_from design (Clock 0 0 ∷ Set 0 (bits 1 1) ∷ []) (bits 1 0 ∷ bits 9 0 ∷ []) ≡ []
no_turn = refl

-- ---- values: y in two words, and its shadow

abbrev word : ℕ → ℕ → ℕ → Word
word item bit len = record { holds = record { mem = false; item = item; element = 0; bit = bit }; len = len; shadow = false }

abbrev shadow : ℕ → ℕ → Word
shadow item len = record { holds = record { mem = false; item = item; element = 0; bit = 0 }; len = len; shadow = true }

put_together : put_words (word 0 0 0 ∷ word 0 0 1 ∷ word 1 0 8 ∷ word 1 8 1 ∷ shadow 1 9 ∷ []) (7 ∷ 1 ∷ 0xf0 ∷ 1 ∷ 0 ∷ []) (bits 1 0 ∷ bits 9 0 ∷ []) ≡ bits 1 1 ∷ bits 9 0x1f0 ∷ []
put_together = refl

-- ---- room: a line of the number, one output of one letter and a line feed; a call of two arguments

line_of_one_output : line_room vars (1 ∷ 9 ∷ []) ports ≡ 27
line_of_one_output = refl

longest_of_two : longest (f ∷ record f { name = codes "longer" } ∷ []) ≡ 131
longest_of_two = refl

-- ---- the entries of eval 3, of values before and after it

abbrev with_log : Texts
with_log = record { calls = Some (codes "c.log"); vcd = None }

abbrev after_it : List Number
after_it = bits 1 1 ∷ bits 9 0x1f0 ∷ []

line_and_call : all_texts with_log design 3 (record { import = 0; args = 5 ∷ 1 ∷ []; reply = 7 } ∷ []) after_it after_it ≡ Writes Out (decimal 3 ++ codes " y=1f0\n") ∷ some_text Calls ((decimal 3 ++ codes " ") ++ codes "f(05,1) = 7\n")
unfolding out_line
line_and_call = ap (λ (l : List Entry). Writes Out (decimal 3 ++ codes " y=1f0\n") ∷ l) (append-nil (some_text Calls _) ∙ ap (some_text Calls) (append-nil ((decimal 3 ++ codes " ") ++ codes "f(05,1) = 7\n")))

one_piece : some_text Calls (codes "3 f()\n") ≡ Writes Calls (codes "3 f()\n") ∷ []
one_piece = refl

-- of a call log without lines there is no piece
without_calls : all_texts with_log design 3 [] after_it after_it ≡ Writes Out (decimal 3 ++ codes " y=1f0\n") ∷ []
unfolding out_line
without_calls = refl

without_log : all_texts (record { calls = None; vcd = None }) design 3 (record { import = 0; args = 5 ∷ 1 ∷ []; reply = 7 } ∷ []) after_it after_it ≡ Writes Out (decimal 3 ++ codes " y=1f0\n") ∷ []
unfolding out_line
without_log = refl

two_files : creations (record { calls = Some (codes "c.log"); vcd = Some (codes "w.vcd") }) ≡ Creates Calls (codes "c.log") ∷ Creates Vcd (codes "w.vcd") ∷ []
two_files = refl

waveform_alone : creations (record { calls = None; vcd = Some (codes "w.vcd") }) ≡ Creates Vcd (codes "w.vcd") ∷ []
waveform_alone = refl

-- ---- a run of three evals of which the second does not converge: it stops there, and has done the entries of the first alone

module _ (s : Setting) (m : Machine) (x1 x2 x3 : List Number) (first : eval_converges s m x1 ≡ true) (second : eval_converges s (after_eval s m x1) x2 ≡ false) where
  stops : stops_at s m (x1 ∷ x2 ∷ x3 ∷ []) ≡ Some 1
  unfolding stops_from
  stops =
      ap (λ (b : Bool). cond b (stops_from s 1 (after_eval s m x1) (x2 ∷ x3 ∷ [])) (Some 0)) first
      ∙ ap (λ (b : Bool). cond b (stops_from s 2 (after_eval s (after_eval s m x1) x2) (x3 ∷ [])) (Some 1)) second

  has_done : run_entries s 0 m (x1 ∷ x2 ∷ x3 ∷ []) ≡ eval_entries s 0 m (after_eval s m x1) ++ []
  unfolding run_entries
  has_done =
      ap (λ (b : Bool). cond b (eval_entries s 0 m (after_eval s m x1) ++ run_entries s 1 (after_eval s m x1) (x2 ∷ x3 ∷ [])) []) first
      ∙ ap (λ (b : Bool). eval_entries s 0 m (after_eval s m x1) ++ cond b (eval_entries s 1 (after_eval s m x1) (after_eval s (after_eval s m x1) x2) ++ run_entries s 2 (after_eval s (after_eval s m x1) x2) (x3 ∷ [])) []) second
