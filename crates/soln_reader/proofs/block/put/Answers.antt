use Rattle.fz_items.specs.Forms.{forms}
use Rattle.fz_items.specs.Views.{elements}
use Rattle.soln_reader.specs.Views.{block_of}
use Rattle.soln_reader.proofs.UndoLemmas.{put_undoes}
use Rattle.soln_reader.proofs.block.put.Goals as goal

pub returns-clause-undo : goal.returns-clause-undo
returns-clause-undo c = put_undoes (forms c.args.shapes.now) c.args.slot (elements c.args.e) (block_of c.args.block.now) _ c.put_in_block.result c.put_in_block.ensures
