use Rattle.std.proofs.Common.{◌∙◌, Some, ap, rules, sym, w64}
use Rattle.std.proofs.lemmas.Int.{to_z-of_z}
use Rattle.mz_arena.specs.Values.{number}
use Rattle.glob_nodes.proofs.KnownLaws.{integer_read}
use Rattle.glob_nodes.proofs.known.integer_at.Goals as goal

pub returns-in-Int : goal.returns-in-Int
returns-in-Int c t h = integer_read c.args.nodes.now c.args.id c.in-Some.n c.in-Some.ensures c.in-Int.is t h ∙ ap (λ i. Some (number i)) (sym (to_z-of_z w64 c.in-Some.n.number (search rules)))
