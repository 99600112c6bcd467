use Rattle.std.proofs.Common.{◌+◌, Some, refl}
use Rattle.vcd_out.specs.Layout.{scope_lines}
use Rattle.vcd_out.proofs.Declared.{first_known, next_known}
use Rattle.vcd_out.proofs.Walks.{walk_starts, steps_in_less, steps_in, steps_out}
use Rattle.vcd_out.proofs.layout.walk.Goals as goal

pub walk-init : goal.walk-init
walk-init c = record {
  written = walk_starts c.args.vars.now.keys.items c.args.scopes.now.keys.items c.args.scopes.now.first.items c.args.scopes.now.next.items c.requires.scopes c.requires.outers
      c.new-lines.result.items c.first_of-next.result c.new-open.result.items c.new-lines.ensures.items c.first_of-next.ensures c.new-open.ensures.items;
  known = first_known c.args.scopes.now.keys.items c.args.scopes.now.first.items c.args.scopes.now.next.items c.requires.scopes 0 c.first_of-next.result c.first_of-next.ensures;
}

pub walk-smaller-in-Some : goal.walk-smaller-in-Some
walk-smaller-in-Some c =
    steps_in_less c.args.vars.now.keys.items c.args.scopes.now.keys.items c.args.scopes.now.first.items c.args.scopes.now.next.items c.requires.scopes c.requires.outers c.requires.outers_first
    c.in-Some.scope c.walk.next c.first_of-next-in-Some.result c.walk.open.items c.push.new.self.items c.in-Some.is c.walk.invariant.known c.in_ok-push-in-Some.ensures.items c.first_of-next-in-Some.ensures

pub walk-preserved-in-Some : goal.walk-preserved-in-Some
walk-preserved-in-Some c = record {
  written = steps_in c.args.vars.now.keys.items c.args.scopes.now.keys.items c.args.scopes.now.first.items c.args.scopes.now.next.items c.requires.scopes c.requires.outers c.requires.outers_first
      c.in-Some.scope c.walk.next c.first_of-next-in-Some.result c.walk.open.items c.push.new.self.items c.in-Some.is c.walk.invariant.known c.in_ok-push-in-Some.ensures.items c.first_of-next-in-Some.ensures
      c.walk.lines.items c.enter.new.lines.items (scope_lines c.args.vars.now.keys.items 0 c.args.scopes.now.keys.items 0) c.in_ok-enter-in-Some.ensures c.walk.invariant.written;
  known = first_known c.args.scopes.now.keys.items c.args.scopes.now.first.items c.args.scopes.now.next.items c.requires.scopes (c.in-Some.scope + 1) c.first_of-next-in-Some.result c.first_of-next-in-Some.ensures;
}

pub walk-preserved : goal.walk-preserved
walk-preserved c = record {
  written = steps_out c.args.vars.now.keys.items c.args.scopes.now.keys.items c.args.scopes.now.first.items c.args.scopes.now.next.items
      c.walk.lines.items c.push-in-None.new.self.items (scope_lines c.args.vars.now.keys.items 0 c.args.scopes.now.keys.items 0) c.in-Some-pop.scope c.walk.next c.after-next.result c.walk.open.items c.pop.new.self.items
      c.in-None.is c.in-Some-pop.ensures.items c.in_ok-push-in-None.ensures.items c.after-next.ensures c.walk.invariant.written;
  known = next_known c.args.scopes.now.keys.items c.args.scopes.now.first.items c.args.scopes.now.next.items c.requires.scopes c.in-Some-pop.scope (Some c.in-Some-pop.scope) c.after-next.result refl c.after-next.ensures;
}
