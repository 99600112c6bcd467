use Rattle.std.proofs.Common.{arith, sym, subst, reverse, length, ◌∙◌, ◌<◌, ◌≡◌, slice_index}
use Rattle.std.proofs.lemmas.List.{length-reverse}
use Rattle.task_code.proofs.Tailing.{put_skip, named_lands, named_depth, length_marks}
use Rattle.task_code.proofs.tail.Tail.skip_to.Goals as goal

pub distance-requires : goal.distance-requires
distance-requires c =
    let there = subst (λ t. c.args.number < length t.held.marks) (sym c.self.view_is) c.requires.there in
    let same = length_marks c.self.inside.marks.items in
    let h : c.args.number < length c.self.inside.marks.items = omega (arith, there, same) in
    let lands = named_lands c.self.inside.room (reverse c.self.inside.ops.items) c.self.inside.marks.items c.args.number c.len.result c.index-mark.result.now h (c.len.ensures ∙ c.self.inside.marks.ok.0) c.index-mark.ensures c.self.invariant.lands in
    let l = lands.0 in let r = length-reverse c.self.inside.ops.items in let e = c.len-2.ensures ∙ c.self.inside.ops.ok.0 in omega (arith, l, r, e)

pub invariant_of-self-2 : goal.invariant_of-self-2
invariant_of-self-2 c =
    let there = subst (λ t. c.args.number < length t.held.marks) (sym c.self.view_is) c.requires.there in
    let same = length_marks c.self.inside.marks.items in
    let h : c.args.number < length c.self.inside.marks.items = omega (arith, there, same) in
    let lands = named_lands c.self.inside.room (reverse c.self.inside.ops.items) c.self.inside.marks.items c.args.number c.len.result c.index-mark.result.now h (c.len.ensures ∙ c.self.inside.marks.ok.0) c.index-mark.ensures c.self.invariant.lands in
    let r = length-reverse c.self.inside.ops.items in let e = c.len-2.ensures ∙ c.self.inside.ops.ok.0 in let d = c.in_ok-distance.ensures in
    put_skip c.self.inside.room c.self.inside.depth c.in_ok-distance.distance c.self.inside.ops.items c.push.new.self.items (reverse c.self.inside.marks.items) c.self.inside.limits c.index-mark.result.now
    c.self.invariant c.in_ok-push.ensures.items lands (omega (arith, r, e, d))

pub returns-clause-depth : goal.returns-clause-depth
returns-clause-depth c =
    let there = subst (λ t. c.args.number < length t.held.marks) (sym c.self.view_is) c.requires.there in
    let same = length_marks c.self.inside.marks.items in
    let h : c.args.number < length c.self.inside.marks.items = omega (arith, there, same) in
    subst (λ t. c.index-mark.result.now.depth ≡ slice_index t.held.marks c.args.number) c.self.view_is
    (named_depth c.self.inside.marks.items c.args.number c.len.result c.index-mark.result.now h (c.len.ensures ∙ c.self.inside.marks.ok.0) c.index-mark.ensures)
