use Rattle.std.proofs.Common.{◌∙◌, sym}
use Rattle.glob_nodes.proofs.KnownLaws.{same_known}
use Rattle.glob_nodes.proofs.known.same_compared.Goals as goal

pub returns : goal.returns
returns c r h = same_known r c.args.nodes.now c.args.op c.args.a (c.is_sure.ensures c.if-not-is_sure.false) h ∙ sym c.to_itself.ensures
