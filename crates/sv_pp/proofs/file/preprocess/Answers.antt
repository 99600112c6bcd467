use Rattle.std.proofs.Common.{map}
use Rattle.std.specs.Prelude.{Vec}
use Rattle.std.specs.declared.alloc.Global.{Global}
use Rattle.sv_tree.specs.declared.token.Token.{Token}
use Rattle.sv_pp.proofs.Answers.{answered_spelled}
use Rattle.sv_pp.proofs.file.preprocess.Goals as goal

pub returns-in-Err-clause-spelled : goal.returns-in-Err-clause-spelled
returns-in-Err-clause-spelled c = answered_spelled 1000000 c.args.names.now (map (λ (file : Vec Token Global). file.items) c.args.files.now) c.requires.named c.in-Err.fault c.in-Err.ensures.fault
