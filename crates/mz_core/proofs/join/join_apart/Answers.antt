use Rattle.std.proofs.Common.{◌∙◌, ap}
use Rattle.mz_core.specs.Types.{plain_type}
use Rattle.mz_core.specs.Join.{join_apart}
use Rattle.mz_core.proofs.join.join_apart.Goals as goal

pub returns-in-Some : goal.returns-in-Some
unfolding plain_type
returns-in-Some c =
    let t = plain_type c.args.t.now in
    let u = plain_type c.args.u.now in
    let e = rw c.in-Some.is at c.in_ok-dims.ensures in
    let f = rw (c.deref.ensures.value, c.deref-2.ensures.value) at e in
    c.plain_join.ensures ∙ ap (join_apart t u) f
