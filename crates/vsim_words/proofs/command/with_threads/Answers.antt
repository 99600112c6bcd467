use Rattle.std.proofs.Common.{◌∙◌, ap, codes}
use Rattle.std.proofs.lemmas.Result.{IfOk-weaker}
use Rattle.clap.specs.Words.{App, with_rule}
use Rattle.vsim_words.specs.Command.{option_rule}
use Rattle.vsim_words.proofs.command.with_threads.Goals as goal

pub returns : goal.returns
returns c =
    IfOk-weaker c.with_option-2.result _ _ (λ m h. h ∙ ap (λ (a : App). with_rule a (option_rule (codes "threads-dpi"))) c.in_ok-command.ensures) c.with_option-2.ensures
