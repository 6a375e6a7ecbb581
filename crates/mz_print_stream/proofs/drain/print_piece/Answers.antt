use Rattle.soln_reader.specs.Reader.{fed}
use Rattle.soln_reader.specs.Views.{state}
use Rattle.mz_print_stream.proofs.Drains.{nothing_drained}
use Rattle.mz_print_stream.proofs.drain.print_piece.Goals as goal

pub returns-then-is_err-clause-drains : goal.returns-then-is_err-clause-drains
returns-then-is_err-clause-drains g c = nothing_drained _ _ (fed (state c.args.reader.now) c.args.piece.now) _ _
