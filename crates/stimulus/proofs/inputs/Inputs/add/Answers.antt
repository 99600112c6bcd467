use Rattle.std.proofs.Common.{◌≡◌, false}
use Rattle.std.specs.Prelude.{is_some}
use Rattle.stimulus.specs.Inputs.{place_in}
use Rattle.stimulus.proofs.Names.{put_in}
use Rattle.stimulus.proofs.inputs.Inputs.add.Goals as goal

pub returns : goal.returns
returns c =
    let none : is_some (place_in c.args.self.now c.args.name.now) ≡ false = cc in
    put_in (λ t. t.items) c.in-Ok.key c.args.name.now c.args.place c.self.inside.places.entries c.insert.new.self.entries c.args.self.now
    c.self.view_is c.in-Ok.ensures.items none c.in-Ok-insert.ensures.entries
