use Rattle.std.proofs.Common.{◌≡◌, List, refl, map, subst, sym}
use Rattle.std.specs.List.{AllByRecursion}
use Rattle.mz_value.specs.declared.value.Value.{Value, the_lemmas}
use Rattle.mz_value.specs.Contents.{Content, array, content, contents}
use Rattle.mz_print.specs.Printable.{HasSoundSets, IsSoundSet}
use Rattle.mz_print.proofs.ItemLists.{items_in_contents}
use Rattle.mz_print.proofs.sound.sets_are_sound.Goals as goal

pub returns-in-Array : goal.returns-in-Array
returns-in-Array c =
    let opened : content c.args.v.now ≡ array c.in-Array.a.index.items (contents (map content c.in-Array.a.items.items)) = rw c.in-Array.is (simp the_lemmas refl) in
    let P : Content → Type 0 = λ x. HasSoundSets x in
    let Q : List Content → Type 0 = λ xs. AllByRecursion IsSoundSet xs in
    let R : List Value → Type 0 = λ vs. AllByRecursion IsSoundSet (map content vs) in
    subst P (sym opened) (subst Q (sym (items_in_contents (map content c.in-Array.a.items.items))) (subst R c.deref.ensures.value c.are_sound.ensures))
