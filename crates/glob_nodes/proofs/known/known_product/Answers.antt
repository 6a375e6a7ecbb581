use Rattle.glob_nodes.proofs.KnownLaws.{product_first, product_second}
use Rattle.glob_nodes.proofs.known.known_product.Goals as goal

pub returns-then-is_beside : goal.returns-then-is_beside
returns-then-is_beside c r h = product_first (r.term c.args.a) (r.term c.args.b) (c.is_beside.ensures.sure c.if-is_beside.true r.term h) (c.is_beside.ensures.number c.if-is_beside.true r.term h)

pub returns-then-is_beside-2 : goal.returns-then-is_beside-2
returns-then-is_beside-2 c r h = product_second (r.term c.args.a) (r.term c.args.b) (c.is_beside-2.ensures.sure c.if-is_beside-2.true r.term h) (c.is_beside-2.ensures.number c.if-is_beside-2.true r.term h)
