use Rattle.std.proofs.Common.{refl}
use Rattle.sv_pp.proofs.Places.{undefined, is_a_name}
use Rattle.sv_pp.proofs.file.undef.Goals as goal

pub returns : goal.returns
returns c names named s shows =
    let a = c.args in
    undefined names a.place.now _ a.going.now c.read.new.self s a.token.now a.rest.now _ c.in-len1-up.len_at_least (is_a_name _ c.ne.result c.ne.ensures c.if-ne.false) shows named c.forget.ensures refl c.in_default-read.ensures.went
