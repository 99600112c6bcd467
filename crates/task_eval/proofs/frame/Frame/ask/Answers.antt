use Rattle.std.proofs.Common.{rules}
use Rattle.task_eval.specs.declared.frame.Ask.TheVariants as ask
use Rattle.task_eval.proofs.Asking.{asked_there}
use Rattle.task_eval.proofs.frame.Frame.ask.Goals as goal

pub returns-in-Loads-clause-within : goal.returns-in-Loads-clause-within
returns-in-Loads-clause-within c = λ words imports h. asked_there words imports c.args.code.now c.args.self.now (ask.Load c.in-Loads.word) (search rules) h

pub returns-in-Stores-clause-within : goal.returns-in-Stores-clause-within
returns-in-Stores-clause-within c = λ words imports h. asked_there words imports c.args.code.now c.args.self.now (ask.Store c.in-Stores.word c.in-Stores.value) (search rules) h

pub returns-in-Calls-clause-within : goal.returns-in-Calls-clause-within
returns-in-Calls-clause-within c = λ words imports h. asked_there words imports c.args.code.now c.args.self.now (ask.Call c.in-Calls.import) (search rules) h
