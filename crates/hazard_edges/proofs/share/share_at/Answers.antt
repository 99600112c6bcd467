use Rattle.std.proofs.Common.{◌∙◌}
use Rattle.hazard_edges.proofs.SpanLemmas.{share_there}
use Rattle.hazard_edges.proofs.share.share_at.Goals as goal

pub returns : goal.returns
returns c =
    c.share.ensures
    ∙ share_there c.args.touched.now c.args.i c.args.j c.index-touched-i.result c.index-touched-j.result c.requires.first c.requires.second c.index-touched-i.is c.index-touched-j.is
