-- Laws of entries: one list after another, and what single calls do.
use Rattle.std.proofs.Common.{◌≡◌, ℕ, ◌+◌, ◌<◌, List, [], ◌∷◌, ◌++◌, length, take, Option, Some, None, refl, sym, ap, ◌∙◌, subst, append_assoc, length-append, arith}
use Rattle.std.specs.Option.{option_map}
use Rattle.vs_world.specs.declared.world.Stream.{Stream}
use Rattle.vs_world.specs.Outside.{Written, Made, Told, appended, Rose, OnlyWrites, OnlyCreates}
use Rattle.vs_world.specs.CountLaws.{rose_between}
use Rattle.vs_world.specs.Entries.{Entry, Creates, Writes, written_by, made_by, Did, front, Broke}

written_then : (a b : List Entry) (w : Written) → written_by b (written_by a w) ≡ written_by (a ++ b) w
written_then [] b w = refl
written_then (Creates s n ∷ a) b w = written_then a b w
written_then (Writes s t ∷ a) b w = written_then a b (appended s t w)

made_then : (a b : List Entry) (m : Made) → made_by b (made_by a m) ≡ made_by (a ++ b) m
made_then [] b m = refl
made_then (Creates s n ∷ a) b m = made_then a b (m ++ (s, n) ∷ [])
made_then (Writes s t ∷ a) b m = made_then a b m

told_then : (a b : List Entry) (told : Option Written) → option_map (written_by b) (option_map (written_by a) told) ≡ option_map (written_by (a ++ b)) told
told_then a b None = refl
told_then a b (Some w) = ap Some (written_then a b w)

told_made_then : (a b : List Entry) (told : Option Made) → option_map (made_by b) (option_map (made_by a) told) ≡ option_map (made_by (a ++ b)) told
told_made_then a b None = refl
told_made_then a b (Some m) = ap Some (made_then a b m)

told_none : (told : Option Written) → told ≡ option_map (written_by []) told
told_none None = refl
told_none (Some w) = refl

told_made_none : (told : Option Made) → told ≡ option_map (made_by []) told
told_made_none None = refl
told_made_none (Some m) = refl

told_creates : (s : Stream) (name : List ℕ) (told : Option Written) → told ≡ option_map (written_by (Creates s name ∷ [])) told
told_creates s name None = refl
told_creates s name (Some w) = refl

told_made_writes : (s : Stream) (bytes : List ℕ) (told : Option Made) → told ≡ option_map (made_by (Writes s bytes ∷ [])) told
told_made_writes s bytes None = refl
told_made_writes s bytes (Some m) = refl

told_writes : (s : Stream) (bytes : List ℕ) (told : Option Written) → option_map (appended s bytes) told ≡ option_map (written_by (Writes s bytes ∷ [])) told
told_writes s bytes None = refl
told_writes s bytes (Some w) = refl

told_made_creates : (s : Stream) (name : List ℕ) (told : Option Made) → option_map (λ made. made ++ (s, name) ∷ []) told ≡ option_map (made_by (Creates s name ∷ [])) told
told_made_creates s name None = refl
told_made_creates s name (Some m) = refl

-- nothing was done
pub did_none : (a : Told) → Did [] a a
did_none a = record { written = told_none a.written; made = told_made_none a.made; files = refl; absent = refl; later = omega arith }

-- some, and then more
pub did_then : (xs ys : List Entry) (a b c : Told) → Did xs a b → Did ys b c → Did (xs ++ ys) a c
did_then xs ys a b c u v = record {
  written = v.written ∙ ap (option_map (written_by ys)) u.written ∙ told_then xs ys a.written;
  made = v.made ∙ ap (option_map (made_by ys)) u.made ∙ told_made_then xs ys a.made;
  files = v.files ∙ u.files;
  absent = v.absent ∙ u.absent;
  later = let x = u.later in let y = v.later in omega arith;
}

-- it broke at these, and at more too
pub broke_more : (xs ys : List Entry) (s : Stream) (pieces bytes : ℕ) (a b : Told) → Broke xs s pieces bytes a b → Broke (xs ++ ys) s pieces bytes a b
broke_more xs ys s pieces bytes a b e = record {
  done = e.done;
  entry = e.entry;
  rest = e.rest ++ ys;
  whole = sym (append_assoc e.done (e.entry ∷ e.rest) ys) ∙ ap (λ (l : List Entry). l ++ ys) e.whole;
  count = e.count;
  on = e.on;
  part = e.part;
  did = e.did;
  rose = e.rose;
}

-- some were done, and then it broke
pub broke_then : (xs ys : List Entry) (s : Stream) (pieces bytes : ℕ) (a b c : Told) → Did xs a b → Broke ys s pieces bytes b c → Broke (xs ++ ys) s (length xs + pieces) bytes a c
broke_then xs ys s pieces bytes a b c u e = record {
  done = xs ++ e.done;
  entry = e.entry;
  rest = e.rest;
  whole = append_assoc xs e.done (e.entry ∷ e.rest) ∙ ap (λ (l : List Entry). xs ++ l) e.whole;
  count = length-append xs e.done ∙ ap (λ (n : ℕ). length xs + n) e.count;
  on = e.on;
  part = e.part;
  did = subst (λ (l : List Entry). Did l a c) (sym (append_assoc xs e.done (front bytes e.entry))) (did_then xs (e.done ++ front bytes e.entry) a b c u e.did);
  rose = rose_between a.faults b.faults c.faults u.later e.rose;
}

-- the entry at which it broke is there
pub broke_within : (xs : List Entry) (s : Stream) (pieces bytes : ℕ) (a b : Told) → Broke xs s pieces bytes a b → pieces < length xs
broke_within xs s pieces bytes a b e =
    let n = length-append e.done (e.entry ∷ e.rest) in let k = e.count in let w : length (e.done ++ e.entry ∷ e.rest) ≡ length xs = ap length e.whole in omega (arith, n, k, w)

-- ---- single calls

-- bytes were written
pub did_write : (s : Stream) (bytes : List ℕ) (a b : Told) → b.written ≡ option_map (appended s bytes) a.written → OnlyWrites a b → Did (Writes s bytes ∷ []) a b
did_write s bytes a b w o = record {
  written = w ∙ told_writes s bytes a.written;
  made = o.made_same ∙ told_made_writes s bytes a.made;
  files = o.files_same;
  absent = o.absent_same;
  later = o.later;
}

-- a write broke
pub broke_write : (s : Stream) (text : List ℕ) (bytes : ℕ) (a b : Told) → bytes < length text → b.written ≡ option_map (appended s (take bytes text)) a.written → OnlyWrites a b → Rose a.faults b.faults
    → Broke (Writes s text ∷ []) s 0 bytes a b
broke_write s text bytes a b h w o rose = record {
  done = [];
  entry = Writes s text;
  rest = [];
  whole = refl;
  count = refl;
  on = refl;
  part = h;
  did = did_write s (take bytes text) a b w o;
  rose = rose;
}

-- a file was created
pub did_create : (s : Stream) (name : List ℕ) (a b : Told) → b.made ≡ option_map (λ made. made ++ (s, name) ∷ []) a.made → OnlyCreates a b → Did (Creates s name ∷ []) a b
did_create s name a b m o = record {
  written = o.written_same ∙ told_creates s name a.written;
  made = m ∙ told_made_creates s name a.made;
  files = o.files_same;
  absent = o.absent_same;
  later = o.later;
}

-- a file was not created
pub broke_create : (s : Stream) (name : List ℕ) (a b : Told) → b.made ≡ a.made → OnlyCreates a b → Rose a.faults b.faults → Broke (Creates s name ∷ []) s 0 0 a b
broke_create s name a b m o rose = record {
  done = [];
  entry = Creates s name;
  rest = [];
  whole = refl;
  count = refl;
  on = refl;
  part = refl;
  did = record { written = o.written_same ∙ told_none a.written; made = m ∙ told_made_none a.made; files = o.files_same; absent = o.absent_same; later = o.later };
  rose = rose;
}
