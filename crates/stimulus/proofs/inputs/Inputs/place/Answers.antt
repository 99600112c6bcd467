use Rattle.std.proofs.Common.{sym, ap, ◌∙◌}
use Rattle.stimulus.specs.Inputs.{place_in}
use Rattle.stimulus.proofs.Names.{looked_up}
use Rattle.stimulus.proofs.inputs.Inputs.place.Goals as goal

pub returns : goal.returns
returns c =
    c.copied.ensures ∙ c.get.ensures.value ∙ sym (looked_up (λ t. t.items) c.args.name.now c.self.inside.places.entries)
    ∙ ap (λ t. place_in t c.args.name.now) c.self.view_is
