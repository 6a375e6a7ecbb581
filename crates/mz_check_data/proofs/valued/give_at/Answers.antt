use Rattle.std.proofs.Common.{◌∙◌, map, set, ap, sym}
use Rattle.std.proofs.lemmas.List.{map-set, get_or-map}
use Rattle.mz_core.specs.Tree.{Decl}
use Rattle.mz_core.specs.TreeViews.{tree, decl}
use Rattle.mz_check_data.specs.StepsValued.{given_to}
use Rattle.mz_check_data.proofs.valued.give_at.Goals as goal

pub returns : goal.returns
returns c = λ d.
    map-set decl c.args.decls.now.items c.args.place c.give.new.d
    ∙ ap (set (map decl c.args.decls.now.items) c.args.place)
    (c.give.ensures ∙ ap (λ (x : Decl). given_to x (tree c.args.value)) (ap decl c.index_mut.ensures.value ∙ sym (get_or-map decl c.args.decls.now.items c.args.place _ d c.requires)))
