use Rattle.std.proofs.Common.{◌∙◌}
use Rattle.mz_symbol.proofs.ConstantLaws.{out_value, out_state}
use Rattle.mz_symbol_rows.proofs.WholeLaws.{whole_made}
use Rattle.mz_symbol_rows.proofs.options.making.whole_option.Goals as goal

pub returns-clause-same : goal.returns-clause-same
returns-clause-same c r h = c.draw.ensures.same r ∙ out_state (c.in-Ok.ensures.means r h)

pub returns-clause-whole : goal.returns-clause-whole
returns-clause-whole c = whole_made c.whole_node.new.run c.args.a c.symbol.result c.in-Ok.term c.symbol.ensures (λ r h. out_value (c.in-Ok.ensures.means r h))
