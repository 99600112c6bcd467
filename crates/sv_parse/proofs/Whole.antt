-- What is parsed as a whole source.
use Rattle.std.proofs.Common.{◌≡◌, ◌≤◌, ℕ, List, [], length, sym, ap, ◌∙◌, arith}
use Rattle.std.proofs.Math.Seq.{drop-length}
use Rattle.sv_tree.specs.declared.tree.source.SourceTree.{SourceTree}
use Rattle.sv_tree.specs.TreeRead.{Tokens, each}
use Rattle.sv_tree.specs.Tree.{read_description, source_read, tokens, laid_of, depth, IsShaped, Reads}
use Rattle.parse_expr.specs.Input.{Input}
use Rattle.parse_expr.specs.Parsed.{Parsed, IsWithin}
use Rattle.parse_expr.specs.declared.fault.ParseFault.{ParseFault}
use Rattle.parse_expr.specs.declared.fault.ParseFault.TheVariants.{Construct, Syntax, TooDeep, NoMemory}
use Rattle.sv_parse.specs.Faults.{NoneOutside, FaultIs}

abbrev input : List (List ℕ) → Tokens → Input
input names ts = record { names = names; tokens = ts }

abbrev IsWhole : Input → SourceTree → Type 0
IsWhole x t = Parsed x 0 0 (length x.tokens) (each read_description t.descriptions)

reads_given : (names : List (List ℕ)) (ts : Tokens) (t : SourceTree) → IsWhole (input names ts) t → Reads names t ts
unfolding tokens IsShaped source_read
reads_given names ts t h = record { printed = sym (h.prints ∙ ap (each read_description t.descriptions).print (drop-length ts)); shaped = h.shaped }

shallow_given : (names : List (List ℕ)) (ts : Tokens) (t : SourceTree) → IsWhole (input names ts) t → depth t ≤ 128
unfolding depth laid_of source_read
shallow_given names ts t h = h.shallow [] (omega arith)

-- the tree reads the tokens
pub whole_reads : (x : Input) (names : List (List ℕ)) (ts : Tokens) (t : SourceTree) → x ≡ record { names = names; tokens = ts } → IsWhole x t → Reads names t ts
whole_reads x names ts t is h = reads_given names ts t (rw is at h)

pub whole_shallow : (x : Input) (names : List (List ℕ)) (ts : Tokens) (t : SourceTree) → x ≡ record { names = names; tokens = ts } → IsWhole x t → depth t ≤ 128
whole_shallow x names ts t is h = shallow_given names ts t (rw is at h)

-- the faults of the descent, where no token is outside of the subset
fault_given : (names : List (List ℕ)) (ts : Tokens) (f : ParseFault) → NoneOutside names ts → IsWithin (input names ts) f → FaultIs names ts f
fault_given names ts (Construct k) inside h = absurd h
fault_given names ts (Syntax k) inside h = (inside, h)
fault_given names ts (TooDeep k) inside h = (inside, h)
fault_given names ts NoMemory inside h = tt

pub whole_fault : (x : Input) (names : List (List ℕ)) (ts : Tokens) (f : ParseFault) → x ≡ record { names = names; tokens = ts } → NoneOutside names ts → IsWithin x f → FaultIs names ts f
whole_fault x names ts f is inside h = fault_given names ts f inside (rw is at h)
