use Rattle.std.proofs.Common.{◌-◌, length, take, drop, ap, ◌∙◌, arith, length-drop}
use Rattle.std.specs.Option.{option_map}
use Rattle.vs_world.specs.Outside.{appended}
use Rattle.vs_world.specs.CountLaws.{writes_again}
use Rattle.vs_world.proofs.Pieces.{told-more}
use Rattle.vs_world.proofs.whole.write_all.Goals as goal

pub pieces-preserved : goal.pieces-preserved
pieces-preserved g c =
    let i = c.pieces.invariant in
    let e = c.in-Ok.ensures in
    let s = c.args.stream in
    let bytes = c.args.bytes.now in
    let n = c.in-Ok.n in
    let piece = take n (take (length bytes - c.pieces.at) (drop c.pieces.at bytes)) in
    record {
      unmoved = λ none. absurd (omega (arith, none, e.bound.0));
      within = omega (arith, e.bound.1, length-drop c.pieces.at bytes);
      written = e.ok ∙ ap (option_map (appended s piece)) i.written ∙ told-more s bytes c.pieces.at n (g.W.World.told c.args.world.now).written (omega (arith, e.bound.1));
      rest = writes_again _ _ _ i.rest e.rest;
    }

pub returns-clause-no_call : goal.returns-clause-no_call
returns-clause-no_call g c =
    let i = c.pieces.invariant in
    λ none. i.unmoved (omega (arith, none, i.within))
