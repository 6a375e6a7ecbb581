use Rattle.glob_nodes.proofs.Saying.{ok_so}
use Rattle.glob_graph.proofs.Letterwise.{row_is}
use Rattle.glob_graph.proofs.automata.row_of.Goals as goal

pub returns-clause-is : goal.returns-clause-is
returns-clause-is c = ok_so c.product.result c.product.ensures.is (λ id t. row_is c.args.run.now c.constant.new.run c.plus.new.run c.last_letter.new.run c.product.new.run c.args.m.now c.args.q c.in_ok-back.back c.in_ok-rows.rows c.in_ok-letters.letters id _ _ _ c.in_ok-back.ensures.is c.in_ok-rows.ensures.goes c.in_ok-rows.ensures.is c.in_ok-letters.ensures.goes c.in_ok-letters.ensures.is c.product.ensures.goes t)
