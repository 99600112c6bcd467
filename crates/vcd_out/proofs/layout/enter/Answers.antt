use Rattle.std.proofs.Common.{◌++◌, ◌∷◌, map}
use Rattle.vcd_out.specs.declared.layout.Line.TheVariants.{Opens}
use Rattle.vcd_out.specs.Places.{places_from}
use Rattle.vcd_out.specs.Layout.{declared_line}
use Rattle.vcd_out.proofs.Declared.{first_known, first_declared, next_known, next_less, next_declared}
use Rattle.vcd_out.proofs.layout.enter.Goals as goal

pub vars-init : goal.vars-init
vars-init c = record {
  written = first_declared c.args.vars.now.keys.items c.args.vars.now.first.items c.args.vars.now.next.items c.requires.linked c.args.scope c.first_of-next.result c.first_of-next.ensures
      c.args.lines.now.items c.push.new.self.items c.requires.known c.in_ok-push.ensures.items;
  known = first_known c.args.vars.now.keys.items c.args.vars.now.first.items c.args.vars.now.next.items c.requires.linked c.args.scope c.first_of-next.result c.first_of-next.ensures;
}

pub vars-smaller : goal.vars-smaller
vars-smaller c =
    next_less c.args.vars.now.keys.items c.args.vars.now.first.items c.args.vars.now.next.items c.requires.linked c.in-Some.var c.vars.next c.after-next.result c.in-Some.is c.after-next.ensures
    c.vars.invariant.known

pub vars-preserved : goal.vars-preserved
vars-preserved c = record {
  written = next_declared c.args.vars.now.keys.items c.args.vars.now.first.items c.args.vars.now.next.items c.requires.linked c.in-Some.var c.vars.next c.after-next.result c.in-Some.is c.after-next.ensures
      c.vars.lines.items c.push-in-Some.new.self.items (c.args.lines.now.items ++ Opens c.args.scope ∷ map declared_line (places_from 0 c.args.vars.now.keys.items c.args.scope))
      c.vars.invariant.known c.in_ok-push-2.ensures.items c.vars.invariant.written;
  known = next_known c.args.vars.now.keys.items c.args.vars.now.first.items c.args.vars.now.next.items c.requires.linked c.in-Some.var c.vars.next c.after-next.result c.in-Some.is c.after-next.ensures;
}
