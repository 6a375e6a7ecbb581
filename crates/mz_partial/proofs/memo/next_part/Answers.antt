use Rattle.std.proofs.Common.{◌≡◌, length, subst, arith}
use Rattle.mz_partial.specs.Totals.{Parted}
use Rattle.mz_partial.proofs.Filling.{filled_next}
use Rattle.mz_partial.proofs.memo.next_part.Goals as goal

pub returns-clause-filled : goal.returns-clause-filled
returns-clause-filled c =
    let same : c.len-next.result ≡ length c.args.parts.now.items = omega (arith, c.len-next.ensures, c.args.parts.now.ok.0) in
    filled_next c.args.arena.now c.part_of.new.arena c.args.parts.now.items c.push.new.self.items c.in_ok-p.p c.requires.arena c.requires.memo c.requires.place (subst (λ i. Parted c.args.arena.now c.part_of.new.arena i c.in_ok-p.p) same c.in_ok-p.ensures) c.in_ok-push.ensures.items
