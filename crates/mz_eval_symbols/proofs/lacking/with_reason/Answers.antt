use Rattle.std.proofs.Common.{refl}
use Rattle.mz_eval_symbols.proofs.LackingLaws.{one_all, sure_all, two_all}
use Rattle.mz_eval_symbols.proofs.lacking.with_reason.Goals as goal

pub returns-in-Sure : goal.returns-in-Sure
returns-in-Sure c = sure_all c.args.nodes.now c.args.claims.items c.args.claims.items c.args.c c.reason_of.result c.reason_of.ensures c.in-Sure.is refl

pub returns-in_ok-more-in-One : goal.returns-in_ok-more-in-One
returns-in_ok-more-in-One c = one_all c.args.nodes.now c.args.claims.items c.in_ok-more-in-One.more.items c.args.c c.in-One.d c.reason_of.result c.reason_of.ensures c.in-One.is c.in_ok-more-in-One.ensures

pub returns-in_ok-more-in-Two : goal.returns-in_ok-more-in-Two
returns-in_ok-more-in-Two c = two_all c.args.nodes.now c.args.claims.items c.in_ok-more-in-Two.more.items c.args.c c.in-Two.d c.in-Two.e c.reason_of.result c.reason_of.ensures c.in-Two.is c.in_ok-more-in-Two.ensures
