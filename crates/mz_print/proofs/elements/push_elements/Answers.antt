use Rattle.std.proofs.Common.{◌≡◌, ◌++◌, List, refl, ap, map, subst, sym}
use Rattle.std.specs.Prelude.{OnOk}
use Rattle.std.specs.List.{flat_map}
use Rattle.mz_value.specs.declared.value.Value.{Value, the_lemmas}
use Rattle.mz_value.specs.Contents.{Content, array, content, contents}
use Rattle.mz_value.specs.Shown.{bytes_of}
use Rattle.mz_print.specs.Output.{joined_elements}
use Rattle.mz_print.proofs.ItemLists.{items_in_contents}
use Rattle.mz_print.proofs.elements.push_elements.Goals as goal

pub returns-in-Array : goal.returns-in-Array
returns-in-Array c =
    let opened : content c.args.v.now ≡ array c.in-Array.a.index.items (contents (map content c.in-Array.a.items.items)) = rw c.in-Array.is (simp the_lemmas refl) in
    let P : Content → Type 0 = λ x. OnOk c.push_texts.result (c.push_texts.new.out.items ≡ c.args.out.now.items ++ joined_elements x) in
    let Q : List Content → Type 0 = λ xs. OnOk c.push_texts.result (c.push_texts.new.out.items ≡ c.args.out.now.items ++ flat_map bytes_of xs) in
    let R : List Value → Type 0 = λ vs. OnOk c.push_texts.result (c.push_texts.new.out.items ≡ c.args.out.now.items ++ flat_map bytes_of (map content vs)) in
    subst P (sym opened) (subst Q (sym (items_in_contents (map content c.in-Array.a.items.items))) (subst R c.deref.ensures.value c.push_texts.ensures))
