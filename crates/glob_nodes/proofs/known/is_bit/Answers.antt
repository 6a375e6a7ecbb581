use Rattle.std.proofs.Common.{◌∙◌, sym}
use Rattle.glob_nodes.proofs.KnownLaws.{bit_read}
use Rattle.glob_nodes.proofs.known.is_bit.Goals as goal

pub returns-in-Some : goal.returns-in-Some
returns-in-Some c q t h = bit_read c.args.nodes.now c.args.id c.in-Some.n c.in-Some.ensures (sym c.is_bit_kind.ensures ∙ q) t h
