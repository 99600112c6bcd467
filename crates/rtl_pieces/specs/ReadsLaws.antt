-- The equations of what an expression reads, one for each form.
use Rattle.std.proofs.Common.{◌≡◌, ℕ, Bool, List, [], ◌∷◌, ◌++◌, map, Option, Some, None, refl, sym, ap, ◌∙◌}
use Rattle.std.specs.Option.{option_map}
use Rattle.vs_base.specs.Number.{Number}
use Rattle.rtl_ir.specs.declared.expr.Expr.{Expr}
use Rattle.rtl_ir.specs.declared.expr.ExprNode.{ExprNode}
use Rattle.rtl_ir.specs.declared.expr.Choice.{Choice}
use Rattle.rtl_ir.specs.declared.expr.Call.{Call, out-Call}
use Rattle.rtl_ir.specs.declared.expr.Target.{Target, out-Target}
use Rattle.rtl_ir.specs.declared.expr.Select.{Select, out-Select}
use Rattle.rtl_ir.specs.declared.operator.UnaryOp.{UnaryOp}
use Rattle.rtl_ir.specs.declared.operator.BinaryOp.{BinaryOp}
use Rattle.rtl_ir.specs.declared.expr.ExprNode.TheOpen.{ExprNode-F}
use Rattle.rtl_ir.specs.declared.expr.ExprNode.TheFolds.{map-Target, fold-roll-ExprNode, fold_out-Expr, fold_out-Choice, fold_out-Call, fold_out-Target, fold_out-Select}
use Rattle.rtl_ir.specs.declared.expr.ExprNode.TheVariants as node
use Rattle.rtl_pieces.specs.declared.range.BitRange.{BitRange}
use Rattle.rtl_pieces.specs.declared.item.Item.{Item}
use Rattle.rtl_pieces.specs.Reads.{Notes, Seen, Taken, Named, in_order, bits_by, constant_of, part_by, all_seen, call_layer, choice_layer, select_layer, target_layer, node_layer, expr_layer, node_seen, call_reads, choice_reads, expr_seen, select_taken, target_named, node_reads, node_constant, expr_reads, expr_constant, select_reads, select_part, target_indices, target_bits, exprs_read}

-- what is read where there is one
abbrev pub some_reads : Option Notes → Notes
some_reads (Some reads) found = reads found
some_reads None found = found

module _ (item : Bool → ℕ → Item) where
  all_seen_map : (exprs : List Expr) (found : List BitRange) → all_seen (map (expr_seen item) exprs) found ≡ exprs_read item exprs found
  unfolding expr_reads
  all_seen_map [] found = refl
  all_seen_map (e ∷ more) found = all_seen_map more ((expr_seen item e).reads found)

  pub reads_is : (e : Expr) (found : List BitRange) → expr_reads item e found ≡ node_reads item e.node e.signed found
  unfolding expr_seen node_seen expr_reads node_reads
  reads_is e found = ap (λ (s : Seen). s.reads found) (fold_out-Expr (Bool → Seen) Notes Notes Seen Taken Named (node_layer item) (call_layer item) (choice_layer item) (expr_layer item) (select_layer item) (target_layer item) e)

  pub constant_is : (e : Expr) → expr_constant item e ≡ node_constant item e.node e.signed
  unfolding expr_seen node_seen expr_constant node_constant
  constant_is e = ap (λ (s : Seen). s.constant) (fold_out-Expr (Bool → Seen) Notes Notes Seen Taken Named (node_layer item) (call_layer item) (choice_layer item) (expr_layer item) (select_layer item) (target_layer item) e)

  pub choice_is : (c : Choice) (found : List BitRange) → choice_reads item c found ≡ expr_reads item c.value (expr_reads item c.test found)
  unfolding expr_seen choice_reads expr_reads
  choice_is c found = ap (λ (f : Notes). f found) (fold_out-Choice (Bool → Seen) Notes Notes Seen Taken Named (node_layer item) (call_layer item) (choice_layer item) (expr_layer item) (select_layer item) (target_layer item) c)

  pub call_is : (c : Call) (found : List BitRange) → call_reads item c found ≡ exprs_read item (out-Call c).args found
  unfolding expr_seen call_reads
  call_is c found = ap (λ (f : Notes). f found) (fold_out-Call (Bool → Seen) Notes Notes Seen Taken Named (node_layer item) (call_layer item) (choice_layer item) (expr_layer item) (select_layer item) (target_layer item) c) ∙ all_seen_map (out-Call c).args found

  pub part_is : (s : Select) → select_part item s ≡ part_by (expr_constant item (out-Select s).at) (out-Select s).width (out-Select s).down
  unfolding expr_seen select_taken expr_constant select_part
  part_is s = ap (λ (t : Taken). t.part) (fold_out-Select (Bool → Seen) Notes Notes Seen Taken Named (node_layer item) (call_layer item) (choice_layer item) (expr_layer item) (select_layer item) (target_layer item) s)

  pub select_is : (s : Select) (found : List BitRange) → select_reads item s found ≡ expr_reads item (out-Select s).at found
  unfolding expr_seen select_taken expr_reads select_reads
  select_is s found = ap (λ (t : Taken). t.reads found) (fold_out-Select (Bool → Seen) Notes Notes Seen Taken Named (node_layer item) (call_layer item) (choice_layer item) (expr_layer item) (select_layer item) (target_layer item) s)

  bits_of : (mem : Bool) (k : ℕ) (element : Option Expr) (select : Option Select) (whole : Bool) → (target_layer item (map-Target ExprNode Call Choice Expr Select Target (Bool → Seen) Notes Notes Seen Taken Named (node_seen item) (call_reads item) (choice_reads item) (expr_seen item) (select_taken item) (target_named item) (record { mem = mem; item = k; element = element; select = select; whole = whole }))).bits ≡ bits_by (item mem k) whole (option_map (expr_constant item) element) (option_map (select_part item) select)
  unfolding expr_constant select_part
  bits_of mem k None None whole = refl
  bits_of mem k None (Some s) whole = refl
  bits_of mem k (Some e) None whole = refl
  bits_of mem k (Some e) (Some s) whole = refl

  indices_of : (mem : Bool) (k : ℕ) (element : Option Expr) (select : Option Select) (whole : Bool) (found : List BitRange) → (target_layer item (map-Target ExprNode Call Choice Expr Select Target (Bool → Seen) Notes Notes Seen Taken Named (node_seen item) (call_reads item) (choice_reads item) (expr_seen item) (select_taken item) (target_named item) (record { mem = mem; item = k; element = element; select = select; whole = whole }))).indices found ≡ some_reads (option_map (select_reads item) select) (some_reads (option_map (expr_reads item) element) found)
  unfolding expr_reads select_reads
  indices_of mem k None None whole found = refl
  indices_of mem k None (Some s) whole found = refl
  indices_of mem k (Some e) None whole found = refl
  indices_of mem k (Some e) (Some s) whole found = refl

  pub bits_is : (t : Target) → target_bits item t ≡ bits_by (item (out-Target t).mem (out-Target t).item) (out-Target t).whole (option_map (expr_constant item) (out-Target t).element) (option_map (select_part item) (out-Target t).select)
  unfolding node_seen call_reads choice_reads expr_seen select_taken target_named target_bits
  bits_is t = ap (λ (n : Named). n.bits) (fold_out-Target (Bool → Seen) Notes Notes Seen Taken Named (node_layer item) (call_layer item) (choice_layer item) (expr_layer item) (select_layer item) (target_layer item) t) ∙ bits_of (out-Target t).mem (out-Target t).item (out-Target t).element (out-Target t).select (out-Target t).whole

  pub indices_is : (t : Target) (found : List BitRange) → target_indices item t found ≡ some_reads (option_map (select_reads item) (out-Target t).select) (some_reads (option_map (expr_reads item) (out-Target t).element) found)
  unfolding node_seen call_reads choice_reads expr_seen select_taken target_named target_indices
  indices_is t found = ap (λ (n : Named). n.indices found) (fold_out-Target (Bool → Seen) Notes Notes Seen Taken Named (node_layer item) (call_layer item) (choice_layer item) (expr_layer item) (select_layer item) (target_layer item) t) ∙ indices_of (out-Target t).mem (out-Target t).item (out-Target t).element (out-Target t).select (out-Target t).whole found

  pub reads-Const : (value : Number) (signed : Bool) (found : List BitRange) → node_reads item (node.Const value) signed found ≡ found
  unfolding node_seen node_reads
  reads-Const value signed found = ap (λ (f : Bool → Seen). (f signed).reads found) (ap (node_seen item) (sym (node.rolls-Const value)) ∙ fold-roll-ExprNode (Bool → Seen) Notes Notes Seen Taken Named (node_layer item) (call_layer item) (choice_layer item) (expr_layer item) (select_layer item) (target_layer item) (ExprNode-F.Const value))

  pub constant-Const : (value : Number) (signed : Bool) → node_constant item (node.Const value) signed ≡ constant_of signed value
  unfolding node_seen node_constant
  constant-Const value signed = ap (λ (f : Bool → Seen). (f signed).constant) (ap (node_seen item) (sym (node.rolls-Const value)) ∙ fold-roll-ExprNode (Bool → Seen) Notes Notes Seen Taken Named (node_layer item) (call_layer item) (choice_layer item) (expr_layer item) (select_layer item) (target_layer item) (ExprNode-F.Const value))

  pub reads-Read : (target : Target) (signed : Bool) (found : List BitRange) → node_reads item (node.Read target) signed found ≡ target_indices item target found ++ target_bits item target ∷ []
  unfolding node_seen node_reads target_named target_indices target_bits
  reads-Read target signed found = ap (λ (f : Bool → Seen). (f signed).reads found) (ap (node_seen item) (sym (node.rolls-Read target)) ∙ fold-roll-ExprNode (Bool → Seen) Notes Notes Seen Taken Named (node_layer item) (call_layer item) (choice_layer item) (expr_layer item) (select_layer item) (target_layer item) (ExprNode-F.Read target))

  pub constant-Read : (target : Target) (signed : Bool) → node_constant item (node.Read target) signed ≡ None
  unfolding node_seen node_constant
  constant-Read target signed = ap (λ (f : Bool → Seen). (f signed).constant) (ap (node_seen item) (sym (node.rolls-Read target)) ∙ fold-roll-ExprNode (Bool → Seen) Notes Notes Seen Taken Named (node_layer item) (call_layer item) (choice_layer item) (expr_layer item) (select_layer item) (target_layer item) (ExprNode-F.Read target))

  pub reads-Prefix : (operators : List UnaryOp) (operand : Expr) (signed : Bool) (found : List BitRange) → node_reads item (node.Prefix operators operand) signed found ≡ expr_reads item operand found
  unfolding node_seen node_reads expr_seen expr_reads
  reads-Prefix operators operand signed found = ap (λ (f : Bool → Seen). (f signed).reads found) (ap (node_seen item) (sym (node.rolls-Prefix operators operand)) ∙ fold-roll-ExprNode (Bool → Seen) Notes Notes Seen Taken Named (node_layer item) (call_layer item) (choice_layer item) (expr_layer item) (select_layer item) (target_layer item) (ExprNode-F.Prefix operators operand))

  pub constant-Prefix : (operators : List UnaryOp) (operand : Expr) (signed : Bool) → node_constant item (node.Prefix operators operand) signed ≡ None
  unfolding node_seen node_constant
  constant-Prefix operators operand signed = ap (λ (f : Bool → Seen). (f signed).constant) (ap (node_seen item) (sym (node.rolls-Prefix operators operand)) ∙ fold-roll-ExprNode (Bool → Seen) Notes Notes Seen Taken Named (node_layer item) (call_layer item) (choice_layer item) (expr_layer item) (select_layer item) (target_layer item) (ExprNode-F.Prefix operators operand))

  pub reads-Level : (operands : List Expr) (operators : List BinaryOp) (signed : Bool) (found : List BitRange) → node_reads item (node.Level operands operators) signed found ≡ exprs_read item operands found
  unfolding node_seen node_reads expr_seen
  reads-Level operands operators signed found = ap (λ (f : Bool → Seen). (f signed).reads found) (ap (node_seen item) (sym (node.rolls-Level operands operators)) ∙ fold-roll-ExprNode (Bool → Seen) Notes Notes Seen Taken Named (node_layer item) (call_layer item) (choice_layer item) (expr_layer item) (select_layer item) (target_layer item) (ExprNode-F.Level operands operators)) ∙ all_seen_map operands found

  pub constant-Level : (operands : List Expr) (operators : List BinaryOp) (signed : Bool) → node_constant item (node.Level operands operators) signed ≡ None
  unfolding node_seen node_constant
  constant-Level operands operators signed = ap (λ (f : Bool → Seen). (f signed).constant) (ap (node_seen item) (sym (node.rolls-Level operands operators)) ∙ fold-roll-ExprNode (Bool → Seen) Notes Notes Seen Taken Named (node_layer item) (call_layer item) (choice_layer item) (expr_layer item) (select_layer item) (target_layer item) (ExprNode-F.Level operands operators))

  pub reads-Choose : (choices : List Choice) (last : Expr) (signed : Bool) (found : List BitRange) → node_reads item (node.Choose choices last) signed found ≡ expr_reads item last (in_order (map (choice_reads item) choices) found)
  unfolding node_seen node_reads expr_seen expr_reads choice_reads
  reads-Choose choices last signed found = ap (λ (f : Bool → Seen). (f signed).reads found) (ap (node_seen item) (sym (node.rolls-Choose choices last)) ∙ fold-roll-ExprNode (Bool → Seen) Notes Notes Seen Taken Named (node_layer item) (call_layer item) (choice_layer item) (expr_layer item) (select_layer item) (target_layer item) (ExprNode-F.Choose choices last))

  pub constant-Choose : (choices : List Choice) (last : Expr) (signed : Bool) → node_constant item (node.Choose choices last) signed ≡ None
  unfolding node_seen node_constant
  constant-Choose choices last signed = ap (λ (f : Bool → Seen). (f signed).constant) (ap (node_seen item) (sym (node.rolls-Choose choices last)) ∙ fold-roll-ExprNode (Bool → Seen) Notes Notes Seen Taken Named (node_layer item) (call_layer item) (choice_layer item) (expr_layer item) (select_layer item) (target_layer item) (ExprNode-F.Choose choices last))

  pub reads-Concat : (parts : List Expr) (signed : Bool) (found : List BitRange) → node_reads item (node.Concat parts) signed found ≡ exprs_read item parts found
  unfolding node_seen node_reads expr_seen
  reads-Concat parts signed found = ap (λ (f : Bool → Seen). (f signed).reads found) (ap (node_seen item) (sym (node.rolls-Concat parts)) ∙ fold-roll-ExprNode (Bool → Seen) Notes Notes Seen Taken Named (node_layer item) (call_layer item) (choice_layer item) (expr_layer item) (select_layer item) (target_layer item) (ExprNode-F.Concat parts)) ∙ all_seen_map parts found

  pub constant-Concat : (parts : List Expr) (signed : Bool) → node_constant item (node.Concat parts) signed ≡ None
  unfolding node_seen node_constant
  constant-Concat parts signed = ap (λ (f : Bool → Seen). (f signed).constant) (ap (node_seen item) (sym (node.rolls-Concat parts)) ∙ fold-roll-ExprNode (Bool → Seen) Notes Notes Seen Taken Named (node_layer item) (call_layer item) (choice_layer item) (expr_layer item) (select_layer item) (target_layer item) (ExprNode-F.Concat parts))

  pub reads-Repeat : (count : ℕ) (parts : List Expr) (signed : Bool) (found : List BitRange) → node_reads item (node.Repeat count parts) signed found ≡ exprs_read item parts found
  unfolding node_seen node_reads expr_seen
  reads-Repeat count parts signed found = ap (λ (f : Bool → Seen). (f signed).reads found) (ap (node_seen item) (sym (node.rolls-Repeat count parts)) ∙ fold-roll-ExprNode (Bool → Seen) Notes Notes Seen Taken Named (node_layer item) (call_layer item) (choice_layer item) (expr_layer item) (select_layer item) (target_layer item) (ExprNode-F.Repeat count parts)) ∙ all_seen_map parts found

  pub constant-Repeat : (count : ℕ) (parts : List Expr) (signed : Bool) → node_constant item (node.Repeat count parts) signed ≡ None
  unfolding node_seen node_constant
  constant-Repeat count parts signed = ap (λ (f : Bool → Seen). (f signed).constant) (ap (node_seen item) (sym (node.rolls-Repeat count parts)) ∙ fold-roll-ExprNode (Bool → Seen) Notes Notes Seen Taken Named (node_layer item) (call_layer item) (choice_layer item) (expr_layer item) (select_layer item) (target_layer item) (ExprNode-F.Repeat count parts))

  pub reads-Call : (call : Call) (signed : Bool) (found : List BitRange) → node_reads item (node.Call call) signed found ≡ call_reads item call found
  unfolding node_seen node_reads call_reads
  reads-Call call signed found = ap (λ (f : Bool → Seen). (f signed).reads found) (ap (node_seen item) (sym (node.rolls-Call call)) ∙ fold-roll-ExprNode (Bool → Seen) Notes Notes Seen Taken Named (node_layer item) (call_layer item) (choice_layer item) (expr_layer item) (select_layer item) (target_layer item) (ExprNode-F.Call call))

  pub constant-Call : (call : Call) (signed : Bool) → node_constant item (node.Call call) signed ≡ None
  unfolding node_seen node_constant
  constant-Call call signed = ap (λ (f : Bool → Seen). (f signed).constant) (ap (node_seen item) (sym (node.rolls-Call call)) ∙ fold-roll-ExprNode (Bool → Seen) Notes Notes Seen Taken Named (node_layer item) (call_layer item) (choice_layer item) (expr_layer item) (select_layer item) (target_layer item) (ExprNode-F.Call call))

  pub reads-Sign : (operand : Expr) (signed : Bool) (found : List BitRange) → node_reads item (node.Sign operand) signed found ≡ expr_reads item operand found
  unfolding node_seen node_reads expr_seen expr_reads
  reads-Sign operand signed found = ap (λ (f : Bool → Seen). (f signed).reads found) (ap (node_seen item) (sym (node.rolls-Sign operand)) ∙ fold-roll-ExprNode (Bool → Seen) Notes Notes Seen Taken Named (node_layer item) (call_layer item) (choice_layer item) (expr_layer item) (select_layer item) (target_layer item) (ExprNode-F.Sign operand))

  pub constant-Sign : (operand : Expr) (signed : Bool) → node_constant item (node.Sign operand) signed ≡ None
  unfolding node_seen node_constant
  constant-Sign operand signed = ap (λ (f : Bool → Seen). (f signed).constant) (ap (node_seen item) (sym (node.rolls-Sign operand)) ∙ fold-roll-ExprNode (Bool → Seen) Notes Notes Seen Taken Named (node_layer item) (call_layer item) (choice_layer item) (expr_layer item) (select_layer item) (target_layer item) (ExprNode-F.Sign operand))

pub ruleset laws = (reads_is, constant_is, choice_is, call_is, part_is, select_is, bits_is, indices_is, reads-Const, reads-Read, reads-Prefix, reads-Level, reads-Choose, reads-Concat, reads-Repeat, reads-Call, reads-Sign, constant-Const, constant-Read, constant-Prefix, constant-Level, constant-Choose, constant-Concat, constant-Repeat, constant-Call, constant-Sign)
