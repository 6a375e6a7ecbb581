use Rattle.std.proofs.Common.{◌<◌, ◌+◌, ◌^◌, length, sym, subst, arith}
use Rattle.soln_reader.specs.Holding.{Holding}
use Rattle.soln_reader.proofs.Soundness.{feed_sound}
use Rattle.soln_reader.proofs.reader.SolnReader.feed.Goals as goal

pub invariant_of-self : goal.invariant_of-self
invariant_of-self c =
    let P : Holding → Type 0 = λ h. h.lines + length h.bytes + length c.args.piece.now < 2 ^ 32 in
    feed_sound c.append.result c.self.inside.shapes.items c.self.inside.table c.self.inside.bytes.items c.append.new.bytes.items c.args.piece.now c.self.inside.start c.append.new.start c.self.inside.seen c.self.inside.lines c.self.invariant c.append.ensures.ok c.append.ensures.err
    (omega (arith, c.append.ensures.within, c.append.new.bytes.ok.0)) (subst P (sym c.self.view_is) c.requires)
