use Rattle.std.proofs.Common.{◌≡◌, ◌-◌, ◌+◌, List, length, map, ap, sym, subst, ◌∙◌}
use Rattle.std.proofs.lemmas.List.{map_push}
use Rattle.fz_text_read.specs.Lines.{every_at, lines_at}
use Rattle.fz_items.proofs.IntLists.{fails_along}
use Rattle.fz_text_read.proofs.PartLoops.{with_prefix}
use Rattle.fz_text_read.proofs.LineLoops.{begins_at, stops, fails, goes_on, runs_out}
use Rattle.fz_text_read.proofs.parts.lines.Goals as goal

pub loop-turn-init : goal.loop-turn-init
loop-turn-init g c = begins_at c.args.head.now (g.P.Part.read_at c.args.part.now) c.args.bytes.now (map g.P.Part.seen c.new-items.result.items) (ap (map g.P.Part.seen) c.new-items.ensures.items)

pub returns-in-None : goal.returns-in-None
returns-in-None g c = stops c.args.head.now (g.P.Part.read_at c.args.part.now) (map g.P.Part.seen c.loop-turn.items.items) (length c.args.bytes.now) c.loop-turn._turn c.loop-turn.rest.now _ c.loop-turn.invariant (sym c.in-None.ensures)

pub returns-in-Err : goal.returns-in-Err
returns-in-Err g c =
    fails_along c.in-Err.miss _ _ c.in-Err.ensures (fails c.args.head.now (g.P.Part.read_at c.args.part.now) (map g.P.Part.seen c.loop-turn.items.items) (length c.args.bytes.now) c.loop-turn._turn c.loop-turn.rest.now c.in-Some.inside.now _ c.loop-turn-test.true c.loop-turn.invariant (sym c.in-Some.ensures))

pub loop-turn-preserved : goal.loop-turn-preserved
loop-turn-preserved g c =
    let P : List g.P.Part.Seen → Type 0 = λ xs. with_prefix xs (lines_at c.args.head.now (g.P.Part.read_at c.args.part.now) (length c.args.bytes.now - (c.loop-turn._turn + 1)) (c.in-Ok.read.1).now) ≡ every_at c.args.head.now (g.P.Part.read_at c.args.part.now) c.args.bytes.now in
    subst P (sym (ap (map g.P.Part.seen) c.in_ok-push.ensures.items ∙ map_push g.P.Part.seen c.loop-turn.items.items c.in-Ok.read.0))
    (goes_on c.args.head.now (g.P.Part.read_at c.args.part.now) (map g.P.Part.seen c.loop-turn.items.items) (length c.args.bytes.now) c.loop-turn._turn c.loop-turn.rest.now c.in-Some.inside.now (c.in-Ok.read.1).now (g.P.Part.seen c.in-Ok.read.0) _ c.loop-turn-test.true c.loop-turn.invariant (sym c.in-Some.ensures) c.in-Ok.ensures)

pub returns : goal.returns
returns g c = runs_out c.args.head.now (g.P.Part.read_at c.args.part.now) (map g.P.Part.seen c.loop-turn.items.items) (length c.args.bytes.now) c.loop-turn._turn c.loop-turn.rest.now _ c.loop-turn-test.false c.loop-turn.invariant
