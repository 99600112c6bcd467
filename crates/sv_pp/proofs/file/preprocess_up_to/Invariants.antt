use Rattle.std.proofs.Common.{length, map}
use Rattle.sv_pp.specs.Answer.{AllNamed}
use Rattle.sv_pp.proofs.Files.{FilesLeft}
use Rattle.sv_pp.proofs.file.preprocess_up_to.Given as goal

abbrev pub invariant-loop-rest : goal.invariant-loop-rest
invariant-loop-rest l = AllNamed l.names (map (λ file. file.items) l.rest) × FilesLeft l.names l.most l.going l.place (map (λ file. file.items) l.rest) (map (λ file. file.items) l.files)

abbrev pub decreases-loop-rest : goal.decreases-loop-rest
decreases-loop-rest l = length l.rest
