use Rattle.std.proofs.Common.{◌∙◌, ◌+◌, ◌<◌, map, length, sym, subst, arith}
use Rattle.std.proofs.lemmas.List.{length-map}
use Rattle.mz_core.specs.TreeViews.{tree, decl}
use Rattle.mz_check_data.proofs.Slots.{one_given, none_given, blank}
use Rattle.mz_check_data.proofs.valued.give_to.Goals as goal

pub returns-then-slot-len : goal.returns-then-slot-len
returns-then-slot-len c =
    let ds = map decl c.args.decls.now.items in
    let low : c.args.slot < length c.args.decls.now.items = omega (arith, c.if-slot-len.true, c.len.ensures, c.args.decls.now.ok.0) in
    c.give_at.ensures blank ∙ sym (one_given (tree c.args.value) c.args.slot ds blank c.requires (subst (λ n. c.args.slot < n) (sym (length-map c.args.decls.now.items decl)) low))

pub returns-else-slot-len : goal.returns-else-slot-len
returns-else-slot-len c =
    let ds = map decl c.args.decls.now.items in
    let high : length c.args.decls.now.items < c.args.slot + 1 = omega (arith, c.if-slot-len.false, c.len.ensures, c.args.decls.now.ok.0) in
    sym (none_given (tree c.args.value) c.args.slot ds c.requires (subst (λ n. n < c.args.slot + 1) (sym (length-map c.args.decls.now.items decl)) high))
