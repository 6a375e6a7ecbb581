use Rattle.std.proofs.Common.{refl, ap, ◌∙◌, arith}
use Rattle.mz_graph.specs.Graph.{number_of}
use Rattle.mz_graph.proofs.Membership.{in_at, place_of}
use Rattle.mz_graph.specs.StepsLayers.{LeadsWithin}
use Rattle.mz_graph.proofs.cycle.leads_within.Goals as goal

pub offset_bounds-of-y : goal.offset_bounds-of-y
offset_bounds-of-y c = let h = c.requires _ (in_at c.args.heads.now c.loop-y.y-index 0 c.loop-y-test.true) in omega (arith, h)

pub bounds-of-y : goal.bounds-of-y
bounds-of-y c = c.requires _ (in_at c.args.heads.now c.loop-y.y-index 0 c.loop-y-test.true)

pub returns-then-of-y : goal.returns-then-of-y
returns-then-of-y c = (λ e. record { to = number_of c.args.heads.now c.loop-y.y-index; listed = in_at c.args.heads.now c.loop-y.y-index 0 c.loop-y-test.true; is = c.if-of-y.true }, λ s. refl)

pub returns : goal.returns
returns c = (
  λ e. absurd (cc),
  λ (s : LeadsWithin c.args.heads.now c.args.of.now c.args.number).
      let p = place_of s.to c.args.heads.now s.listed in
      absurd (c.loop-y.invariant p.at (let b = p.within in omega (arith, b)) (ap (λ z. number_of c.args.of.now z) (p.is 0) ∙ s.is)),
)
