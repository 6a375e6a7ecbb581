use Rattle.std.proofs.Common.{[], ap, sym, ◌∙◌, string_bytes}
use Rattle.fz_program.proofs.Labels.{label_or_is}
use Rattle.fz_text.proofs.Appends.{same_on_ok}
use Rattle.fz_text.proofs.spell.push_label.Goals as goal

pub returns-in-Some : goal.returns-in-Some
returns-in-Some c =
    let v = c.in-Some.v.now in
    let found = c.in-Some.ensures.lookup in
    let label = label_or_is c.args.vars.now c.args.k [] v found.3.0 in
    same_on_ok c.push_text.result c.args.out.now.items _ _ c.push_text.new.out.items (c.as_bytes.ensures.value ∙ ap (λ w. string_bytes w.label.text) found.1 ∙ sym label) c.push_text.ensures
