use Rattle.std.proofs.Common.{◌∙◌, sym}
use Rattle.mz_symbol_arrays.proofs.SureLaws.{card_sure, kind_sure}
use Rattle.mz_symbol_arrays.proofs.sure.is_sure_node.Goals as goal

pub returns-in-Card : goal.returns-in-Card
returns-in-Card c q t r = card_sure c.args.nodes.now c.args.id c.in-Some.n c.in-Some.ensures c.in-Card.is (c.is_set.ensures q) t r

pub returns-in_default-kind : goal.returns-in_default-kind
returns-in_default-kind c q t r = kind_sure c.args.nodes.now c.args.id c.in-Some.n c.in-Some.ensures (sym c.is_sure_kind.ensures ∙ q) t r
