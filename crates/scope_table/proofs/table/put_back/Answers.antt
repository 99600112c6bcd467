use Rattle.std.proofs.Common.{arith}
use Rattle.scope_table.proofs.Calls.{turn-slots, turn-slots_past, turn-kept, turn-more}
use Rattle.scope_table.proofs.table.put_back.Goals as goal

pub loop-replaced-preserved-then-last-slots : goal.loop-replaced-preserved-then-last-slots
loop-replaced-preserved-then-last-slots g c =
    let h = c.loop-replaced.invariant in
    let items = c.in-Some.ensures.items in
    record {
      slots = turn-slots c.args.kept _ _ c.in-Some.last c.loop-replaced.slots _ items (omega arith) h.slots;
      kept = turn-kept c.args.kept _ _ _ c.in-Some.last items (omega arith) h.kept;
      more = turn-more c.args.kept _ _ c.in-Some.last items (omega arith);
    }

pub loop-replaced-preserved : goal.loop-replaced-preserved
loop-replaced-preserved g c =
    let h = c.loop-replaced.invariant in
    let items = c.in-Some.ensures.items in
    record {
      slots = turn-slots_past c.args.kept _ _ c.in-Some.last c.loop-replaced.slots _ items (omega arith) c.if-last-slots.false h.slots;
      kept = turn-kept c.args.kept _ _ _ c.in-Some.last items (omega arith) h.kept;
      more = turn-more c.args.kept _ _ c.in-Some.last items (omega arith);
    }
