-- The parts of a value are the lists that it was made from.
use Rattle.std.proofs.Common.{◌≡◌, ◌∙◌, Bool, false, List, [], ◌∷◌, Vec, Global, map, length, refl, ap, sym}
use Rattle.mz_base.specs.declared.fault.Span.{Span}
use Rattle.mz_core.specs.Types.{PlainType}
use Rattle.mz_tree.specs.declared.data.Datum.{Datum, the_lemmas as datum_lemmas}
use Rattle.mz_tree.specs.declared.data.Datum.TheVariants as forms
use Rattle.mz_tree.specs.Data as pure
use Rattle.mz_tree.specs.Data.{Value, Values, value, values, lines}
use Rattle.mz_tree.proofs.DataLooks.{value_is}
use Rattle.mz_check_data.specs.Datum.{Meanings, list_in, lines_in, set_tree, list_tree, rows_tree, shaped_tree, are_nothing, value_tree}
use Rattle.mz_check_data.specs.StepsArrays.{set_of, list_with, rows_of, shaped_by}

list_made : (vs : List Value) → list_in (values vs) ≡ vs
list_made [] = refl
list_made (v ∷ vs) = ap (λ ws. v ∷ ws) (list_made vs)

lines_made : (ls : List (List Value)) → lines_in (lines ls) ≡ ls
lines_made [] = refl
lines_made (l ∷ ls) = rw (list_made l, lines_made ls) refl

pub set_read : (ms : Meanings) (at : Span) (vs : List Value) → set_tree ms at (values vs) ≡ set_of ms at vs
unfolding set_tree
set_read ms at vs = ap (set_of ms at) (list_made vs)

pub list_read : (ms : Meanings) (at : Span) (vs : List Value) → list_tree ms at (values vs) ≡ list_with ms at vs
unfolding list_tree
list_read ms at vs = ap (list_with ms at) (list_made vs)

pub rows_read : (ms : Meanings) (at : Span) (ls : List (List Value)) → rows_tree ms at (lines ls) ≡ rows_of ms at ls
unfolding rows_tree
rows_read ms at ls = ap (rows_of ms at) (lines_made ls)

pub shaped_read : (ms : Meanings) (at : Span) (u : PlainType) (ss : List Value) (vs : Values) → shaped_tree ms at u (values ss) vs ≡ shaped_by ms at u ss vs
unfolding shaped_tree
shaped_read ms at u ss vs = ap (λ ws. shaped_by ms at u ws vs) (list_made ss)

-- index sets and elements that are something, by their numbers
pub other_sets : (ss es : List Datum) → (length ss ≡ 1 → ⊥) → false ≡ are_nothing (values (map value ss)) (values (map value es))
other_sets [] es h = refl
other_sets (s ∷ []) es h = absurd (h refl)
other_sets (s ∷ t ∷ ss) [] h = refl
other_sets (s ∷ t ∷ ss) (e ∷ es) h = refl

pub some_elements : (ss es : List Datum) → (length es ≡ 0 → ⊥) → false ≡ are_nothing (values (map value ss)) (values (map value es))
some_elements ss [] h = absurd (h refl)
some_elements [] (e ∷ es) h = refl
some_elements (s ∷ []) (e ∷ es) h = refl
some_elements (s ∷ t ∷ ss) (e ∷ es) h = refl

-- what the code's rows stand for
rows_value : (d : Datum) (v : Vec (Vec Datum Global) Global) (ls : List (Vec Datum Global)) → d ≡ forms.Rows v → ls ≡ v.items → value d ≡ pure.rows (lines (map (λ l. map value l.items) ls))
rows_value d v ls h p = ap value h ∙ value_is (forms.Rows v) ∙ simp datum_lemmas (ap (λ (z : List (Vec Datum Global)). pure.rows (lines (map (λ l. map value l.items) z))) (sym p))

pub rows_seen : (ms : Meanings) (at : Span) (u : PlainType) (d : Datum) (v : Vec (Vec Datum Global) Global) (ls : List (Vec Datum Global)) → d ≡ forms.Rows v → ls ≡ v.items → value_tree ms at u (value d) ≡ rows_tree ms at (lines (map (λ l. map value l.items) ls))
unfolding value_tree
rows_seen ms at u d v ls h p = ap (value_tree ms at u) (rows_value d v ls h p)
