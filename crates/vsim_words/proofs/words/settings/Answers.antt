use Rattle.std.proofs.lemmas.Result.{IfOk-weaker}
use Rattle.vsim_words.specs.SettingsLaws.{files_of_given}
use Rattle.vsim_words.specs.Views.{given_by, settings_by_options}
use Rattle.vsim_words.proofs.words.settings.Goals as goal

pub returns-clause-files : goal.returns-clause-files
returns-clause-files c = IfOk-weaker c.accepted.result _ _ (λ o h. files_of_given (given_by c.of-given.result) (settings_by_options o) h) c.accepted.ensures.ok
