use Rattle.std.proofs.Common.{◌+◌, List, subst, arith}
use Rattle.std.proofs.lemmas.List.{take_all}
use Rattle.logic_graph.specs.declared.ranges.Touched.{Touched}
use Rattle.logic_graph.specs.Noting.{HasNoted}
use Rattle.logic_graph.proofs.NoteLemmas.{noted_on}
use Rattle.logic_graph.proofs.EdgeLemmas.{too_many_edges, as_many_as_edges}
use Rattle.logic_graph.proofs.noted.note_readers.Goals as goal

pub returns-then-noted-gt-EDGES-clause-readers : goal.returns-then-noted-gt-EDGES-clause-readers
returns-then-noted-gt-EDGES-clause-readers c =
    let procs = c.args.procs.now in
    let w = c.args.writers.now in
    let j = c.loop-j.j in
    let u = c.note_ranges.new.noted in
    let done = c.in_ok-note_ranges.ensures in
    let more = noted_on procs w.of_word.items w.run_end.items c.loop-j.noted.readers.items u.readers.items c.as_slice.result.now j c.index-procs-j.result c.requires.few c.requires.one_writer c.requires.writers c.loop-j-test.true c.as_slice.ensures done.readers c.loop-j.invariant.noted in
    too_many_edges procs (j + 1) u.count u.readers.items more done.counted c.if-noted-gt-EDGES.true

pub returns-then-noted-gt-EDGES-clause-within : goal.returns-then-noted-gt-EDGES-clause-within
returns-then-noted-gt-EDGES-clause-within c =
    let procs = c.args.procs.now in
    let w = c.args.writers.now in
    let j = c.loop-j.j in
    let u = c.note_ranges.new.noted in
    let done = c.in_ok-note_ranges.ensures in
    let more = noted_on procs w.of_word.items w.run_end.items c.loop-j.noted.readers.items u.readers.items c.as_slice.result.now j c.index-procs-j.result c.requires.few c.requires.one_writer c.requires.writers c.loop-j-test.true c.as_slice.ensures done.readers c.loop-j.invariant.noted in
    too_many_edges procs (j + 1) u.count u.readers.items more done.counted c.if-noted-gt-EDGES.true

pub loop-j-preserved : goal.loop-j-preserved
loop-j-preserved c =
    let procs = c.args.procs.now in
    let w = c.args.writers.now in
    let done = c.in_ok-note_ranges.ensures in
    record {
      noted = noted_on procs w.of_word.items w.run_end.items c.loop-j.noted.readers.items c.note_ranges.new.noted.readers.items c.as_slice.result.now c.loop-j.j c.index-procs-j.result c.requires.few c.requires.one_writer c.requires.writers c.loop-j-test.true c.as_slice.ensures done.readers c.loop-j.invariant.noted;
      counted = done.counted;
      few = c.if-noted-gt-EDGES.false;
    }

pub returns-clause-within : goal.returns-clause-within
returns-clause-within c =
    let procs = c.args.procs.now in
    let noted = subst (λ (ps : List Touched). HasNoted procs ps c.loop-j.noted.readers.items) (take_all c.loop-j.j procs c.loop-j-test.false) c.loop-j.invariant.noted in
    let many = as_many_as_edges procs c.loop-j.noted.readers.items noted in
    let counted = c.loop-j.invariant.counted in
    let few = c.loop-j.invariant.few in
    omega arith
