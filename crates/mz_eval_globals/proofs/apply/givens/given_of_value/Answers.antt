use Rattle.std.proofs.Common.{◌≡◌, map, refl}
use Rattle.mz_value.specs.declared.value.Value.{the_lemmas}
use Rattle.mz_value.specs.Contents.{content, contents, array}
use Rattle.mz_eval_globals.proofs.Arrays.{if_array}
use Rattle.mz_eval_globals.proofs.apply.givens.given_of_value.Goals as goal

pub returns-in-Array : goal.returns-in-Array
returns-in-Array c =
    let opened : content c.args.v.now ≡ array c.in-Array.a.index.items (contents (map content c.in-Array.a.items.items)) = rw c.in-Array.is (simp the_lemmas refl) in
    if_array c.given_of_array.result c.in-Array.a.index.items (map content c.in-Array.a.items.items) (content c.args.v.now) opened c.given_of_array.ensures
