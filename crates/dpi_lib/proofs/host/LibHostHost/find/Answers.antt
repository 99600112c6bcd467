use Rattle.dpi_lib.specs.Library.{imports, library_id}
use Rattle.dpi_lib.proofs.host.LibHostHost.find.Goals as goal

pub returns-in-Some : goal.returns-in-Some
unfolding imports library_id
returns-in-Some c = c.in-Some.ensures

pub returns-in-None : goal.returns-in-None
unfolding imports library_id
returns-in-None c = c.in-None.ensures
