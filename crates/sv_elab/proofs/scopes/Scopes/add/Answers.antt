use Rattle.std.proofs.Common.{◌<◌, ◌≡◌, length, refl, arith}
use Rattle.sv_elab.proofs.Rooteds.{rooted_pushed, rooted_some}
use Rattle.sv_elab.proofs.scopes.Scopes.add.Goals as goal
use Rattle.sv_elab.proofs.scopes.Scopes.add.Goals.{then-outer-number, else-outer-number}

pub invariant_of-self : goal.invariant_of-self
invariant_of-self c =
    let some : 0 < length c.args.self.now.scopes.items = rooted_some c.args.self.now.scopes.items c.args.self.now.rooted in
    let size : c.in-Ok.number ≡ c.len.result = c.in-Ok.ensures.1 in
    let less : c.if-outer-number.outer < length c.args.self.now.scopes.items =
    elim c.if-outer-number.branch [
      | then-outer-number w ↦ omega (arith, w.outer-is, w.if-outer-number.true, size, c.len.ensures, c.args.self.now.scopes.ok.0)
      | else-outer-number w ↦ omega (arith, w.outer-is, some)
    ]
    in
    record { rooted = rooted_pushed _ c.push.new.self.items c.args.self.now.scopes.items _ c.if-outer-number.outer c.push.ensures.items refl less c.args.self.now.rooted }
