-- Laws of what calls leave as it was, for several calls in a row.
use Rattle.std.proofs.Common.{ℕ, ◌≤◌, arith, ◌∙◌}
use Rattle.vs_world.specs.Outside.{Told, Rose, OnlyWrites}

-- it rose in a later part
pub rose_between : (f0 f1 f2 : ℕ) → f0 ≤ f1 → Rose f1 f2 → Rose f0 f2
rose_between f0 f1 f2 h r = omega arith

-- it rose in an earlier part
pub rose_before : (f0 f1 f2 : ℕ) → Rose f0 f1 → f1 ≤ f2 → Rose f0 f2
rose_before f0 f1 f2 r h = omega arith

pub writes_again : (a b c : Told) → OnlyWrites a b → OnlyWrites b c → OnlyWrites a c
writes_again a b c x y = record {
  later = let u = x.later in let v = y.later in omega arith;
  absent_same = y.absent_same ∙ x.absent_same;
  files_same = y.files_same ∙ x.files_same;
  made_same = y.made_same ∙ x.made_same;
}
