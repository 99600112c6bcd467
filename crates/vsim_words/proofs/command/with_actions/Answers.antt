use Rattle.std.proofs.Common.{◌∙◌, ap, codes}
use Rattle.std.proofs.lemmas.Result.{IfOk-weaker}
use Rattle.clap.specs.Words.{App, with_rule}
use Rattle.vsim_words.specs.Command.{option_rule}
use Rattle.vsim_words.proofs.command.with_actions.Goals as goal

pub returns : goal.returns
returns c =
    let two = c.in_ok-command-2.ensures ∙ ap (λ (a : App). with_rule a (option_rule (codes "stim"))) c.in_ok-command.ensures in
    IfOk-weaker c.with_option-2.result _ _ (λ m h. h ∙ ap (λ (a : App). with_rule a (option_rule (codes "top-module"))) two) c.with_option-2.ensures
