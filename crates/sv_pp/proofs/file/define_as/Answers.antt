use Rattle.std.proofs.Common.{refl}
use Rattle.sv_pp.proofs.Places.{defined}
use Rattle.sv_pp.proofs.file.define_as.Goals as goal

pub returns : goal.returns
returns c names inside named s shows =
    let a = c.args in
    defined names a.place.now _ a.going.now c.read.new.self s a.name.now a.line a.rest.now c.line_length-more.result shows inside named c.line_length-more.ensures.value c.in_default-define.ensures.kept refl c.in_default.ensures.went
