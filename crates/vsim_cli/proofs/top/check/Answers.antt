use Rattle.std.proofs.Common.{ℕ, List, map, sym, subst, arith, ap}
use Rattle.std.specs.Prelude.{Vec, length}
use Rattle.std.specs.declared.alloc.Global.{Global}
use Rattle.sv_tree.specs.Tokens.{AreNamed}
use Rattle.run_status.specs.Lines.{Text}
use Rattle.run_status.specs.StageLaws.{refused_weaker}
use Rattle.vsim_cli.specs.Case.{command_by, host_view}
use Rattle.vsim_cli.specs.Refusals.{ending_of}
use Rattle.vsim_cli.specs.Front.{BytesRefused, AreActive, TokensRefused, DesignRefused}
use Rattle.vsim_cli.specs.Model.{ModelRefused}
use Rattle.vsim_cli.specs.Answers.{CheckRefused, BadBytes, BadTokens, BadDesign, BadModel}
use Rattle.vsim_cli.proofs.top.check.Goals as goal

abbrev texts : List (Vec ℕ Global) → List (List ℕ)
texts l = map (λ (f : Vec ℕ Global). f.items) l

pub tree_of-requires : goal.tree_of-requires
tree_of-requires g c =
    let r = c.in-Ok.ensures in
    record {
      named = subst (AreNamed c.active_tokens.new.names) (sym c.deref.ensures.value) r.named;
      few = omega (arith, ap length c.deref.ensures.value, r.few);
    }

pub returns-in-Err-clause-refusal : goal.returns-in-Err-clause-refusal
returns-in-Err-clause-refusal g c =
    let h = host_view (g.H.Host.id_of (g.H.Host.fixed c.args.host.now)) (g.H.Host.by_args (g.H.Host.fixed c.args.host.now)) g.H.Host.answer g.H.Host.after (g.H.Host.fixed c.args.host.now) (g.H.Host.state c.args.host.now) in
    let command = command_by c.args.command.now in
    let contents = texts c.args.files.now in
    refused_weaker (BytesRefused command.files contents) (CheckRefused command h contents) (λ (line : Text) is. BadBytes is) (ending_of command c.active_tokens.new.names c.in-Err.refusal) (c.in-Err.ensures.refusal command)

pub returns-in-Err-tree_of-clause-refusal : goal.returns-in-Err-tree_of-clause-refusal
returns-in-Err-tree_of-clause-refusal g c =
    let h = host_view (g.H.Host.id_of (g.H.Host.fixed c.args.host.now)) (g.H.Host.by_args (g.H.Host.fixed c.args.host.now)) g.H.Host.answer g.H.Host.after (g.H.Host.fixed c.args.host.now) (g.H.Host.state c.args.host.now) in
    let command = command_by c.args.command.now in
    let contents = texts c.args.files.now in
    let names = c.active_tokens.new.names in
    let tokens = c.deref.result.now in
    let active = subst (AreActive contents names) (sym c.deref.ensures.value) c.in-Ok.ensures.active in
    refused_weaker (TokensRefused command.files names tokens) (CheckRefused command h contents) (λ (line : Text) is. BadTokens names tokens active is) (ending_of command names c.in-Err-tree_of.refusal) (c.in-Err-tree_of.ensures.refusal command)

pub returns-in-Err-lay_out-clause-refusal : goal.returns-in-Err-lay_out-clause-refusal
returns-in-Err-lay_out-clause-refusal g c =
    let h = host_view (g.H.Host.id_of (g.H.Host.fixed c.args.host.now)) (g.H.Host.by_args (g.H.Host.fixed c.args.host.now)) g.H.Host.answer g.H.Host.after (g.H.Host.fixed c.args.host.now) (g.H.Host.state c.args.host.now) in
    let command = command_by c.args.command.now in
    let contents = texts c.args.files.now in
    let names = c.active_tokens.new.names in
    let tokens = c.deref.result.now in
    let tree = c.in-Ok-tree_of.tree in
    let active = subst (AreActive contents names) (sym c.deref.ensures.value) c.in-Ok.ensures.active in
    refused_weaker (DesignRefused command.files command.top names tree) (CheckRefused command h contents) (λ (line : Text) is. BadDesign names tokens tree active c.in-Ok-tree_of.ensures.tree is)
    (ending_of command names c.in-Err-lay_out.refusal) (c.in-Err-lay_out.ensures.refusal command)

pub returns-in-Ok-model_of-clause-checked : goal.returns-in-Ok-model_of-clause-checked
returns-in-Ok-model_of-clause-checked g c =
    let contents = texts c.args.files.now in
    let names = c.active_tokens.new.names in
    let active = subst (AreActive contents names) (sym c.deref.ensures.value) c.in-Ok.ensures.active in
    record {
      table = names;
      tokens = c.deref.result.now;
      tree = c.in-Ok-tree_of.tree;
      scopes = c.in-Ok-lay_out.scopes.scopes.items;
      active = active;
      parsed = c.in-Ok-tree_of.ensures.tree;
      laid = c.in-Ok-lay_out.ensures.laid;
      model = c.in-Ok-model_of.ensures.model;
    }

pub returns-clause-refusal : goal.returns-clause-refusal
returns-clause-refusal g c =
    let h = host_view (g.H.Host.id_of (g.H.Host.fixed c.args.host.now)) (g.H.Host.by_args (g.H.Host.fixed c.args.host.now)) g.H.Host.answer g.H.Host.after (g.H.Host.fixed c.args.host.now) (g.H.Host.state c.args.host.now) in
    let command = command_by c.args.command.now in
    let contents = texts c.args.files.now in
    let names = c.active_tokens.new.names in
    let tokens = c.deref.result.now in
    let tree = c.in-Ok-tree_of.tree in
    let scopes = c.in-Ok-lay_out.scopes.scopes.items in
    let active = subst (AreActive contents names) (sym c.deref.ensures.value) c.in-Ok.ensures.active in
    refused_weaker (ModelRefused command.files command.mode h names tree scopes) (CheckRefused command h contents) (λ (line : Text) is. BadModel names tokens tree scopes active c.in-Ok-tree_of.ensures.tree c.in-Ok-lay_out.ensures.laid is)
    (ending_of command names c.in-Err-model_of.refusal) (c.in-Err-model_of.ensures.refusal command)
