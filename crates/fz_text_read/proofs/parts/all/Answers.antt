use Rattle.std.proofs.Common.{◌≡◌, ◌-◌, ◌+◌, List, length, map, ap, sym, subst, ◌∙◌, Some}
use Rattle.std.proofs.lemmas.List.{map_push}
use Rattle.fz_text_read.specs.Lists.{all_at, parts_at}
use Rattle.fz_items.proofs.IntLists.{fails_along}
use Rattle.fz_text_read.proofs.PartLoops.{with_prefix, begins_at, fails, ends, goes_on, runs_out}
use Rattle.fz_text_read.proofs.parts.all.Goals as goal

pub loop-turn-init : goal.loop-turn-init
loop-turn-init g c = begins_at (g.P.Part.read_at c.args.part.now) c.args.bytes.now (map g.P.Part.seen c.new-items.result.items) (ap (map g.P.Part.seen) c.new-items.ensures.items)

pub returns-in-Err : goal.returns-in-Err
returns-in-Err g c =
    fails_along c.in-Err.miss _ _ c.in-Err.ensures (fails (g.P.Part.read_at c.args.part.now) (map g.P.Part.seen c.loop-turn.items.items) (length c.args.bytes.now) c.loop-turn._turn c.loop-turn.rest.now _ c.loop-turn.invariant)

pub loop-turn-preserved : goal.loop-turn-preserved
loop-turn-preserved g c =
    let P : List g.P.Part.Seen → Type 0 = λ xs. with_prefix xs (parts_at (g.P.Part.read_at c.args.part.now) (length c.args.bytes.now - (c.loop-turn._turn + 1)) c.in-Some.more.now) ≡ all_at (g.P.Part.read_at c.args.part.now) c.args.bytes.now in
    subst P (sym (ap (map g.P.Part.seen) c.in_ok-push.ensures.items ∙ map_push g.P.Part.seen c.loop-turn.items.items c.in-Ok.read.0))
    (goes_on (g.P.Part.read_at c.args.part.now) (map g.P.Part.seen c.loop-turn.items.items) (length c.args.bytes.now) c.loop-turn._turn c.loop-turn.rest.now (c.in-Ok.read.1).now c.in-Some.more.now (g.P.Part.seen c.in-Ok.read.0) _ c.loop-turn-test.true c.loop-turn.invariant c.in-Ok.ensures (sym c.in-Some.ensures))

pub returns-in-None : goal.returns-in-None
returns-in-None g c =
    ends (g.P.Part.read_at c.args.part.now) (map g.P.Part.seen c.loop-turn.items.items) (length c.args.bytes.now) c.loop-turn._turn c.loop-turn.rest.now (c.in-Ok.read.1).now (g.P.Part.seen c.in-Ok.read.0) _ c.loop-turn-test.true c.loop-turn.invariant c.in-Ok.ensures (sym c.in-None.ensures)
    ∙ ap (λ (xs : List g.P.Part.Seen). Some (xs, (c.in-Ok.read.1).now)) (sym (ap (map g.P.Part.seen) c.in_ok-push.ensures.items ∙ map_push g.P.Part.seen c.loop-turn.items.items c.in-Ok.read.0))

pub returns : goal.returns
returns g c = runs_out (g.P.Part.read_at c.args.part.now) (map g.P.Part.seen c.loop-turn.items.items) (length c.args.bytes.now) c.loop-turn._turn c.loop-turn.rest.now _ c.loop-turn-test.false c.loop-turn.invariant
