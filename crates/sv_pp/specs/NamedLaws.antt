-- Laws of files over a table of names that grows, for the crates above.
use Rattle.std.specs.Prelude.{List, [], ◌∷◌, ◌++◌}
use Rattle.std.proofs.Common.{arith}
use Rattle.sv_tree.specs.declared.token.Token.{Token}
use Rattle.sv_tree.specs.Names.{Grows}
use Rattle.sv_tree.specs.NameLaws.{length-grown}
use Rattle.sv_tree.specs.Tokens.{AreNamed}
use Rattle.sv_pp.specs.Directive.{Text}
use Rattle.sv_pp.specs.Answer.{AllNamed}

-- tokens keep their spellings
pub named_grown : (old new : List Text) → Grows old new → (ts : List Token) → AreNamed old ts → AreNamed new ts
named_grown old new grows [] named = tt
named_grown old new grows (t ∷ ts) named = (omega (arith, named.0, length-grown old new grows), named_grown old new grows ts named.1)

-- and so do files
pub files_grown : (old new : List Text) → Grows old new → (files : List (List Token)) → AllNamed old files → AllNamed new files
files_grown old new grows [] named = tt
files_grown old new grows (ts ∷ files) named = (named_grown old new grows ts named.0, files_grown old new grows files named.1)

-- a file more, at the end
pub file_more : (names : List Text) (files : List (List Token)) (ts : List Token) → AllNamed names files → AreNamed names ts → AllNamed names (files ++ ts ∷ [])
file_more names [] ts named more = (more, tt)
file_more names (f ∷ files) ts named more = (named.0, file_more names files ts named.1 more)
