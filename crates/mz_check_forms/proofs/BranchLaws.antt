-- The join of branches, and the tests of those without an `else`.
use Rattle.std.proofs.Common.{◌≡◌, ◌≤◌, Bool, List, [], ◌∷◌, ◌++◌, Option, None, Ok, Err, refl, ap, sym, ◌∙◌, map, take, drop, length, get_or, ◌-◌, arith}
use Rattle.std.proofs.lemmas.List.{take_rest}
use Rattle.mz_core.specs.declared.tree.Core.{Core}
use Rattle.mz_core.specs.Types.{PlainType}
use Rattle.mz_core.specs.Tree.{Tree, type_of}
use Rattle.mz_core.specs.TreeViews.{tree}
use Rattle.mz_check_meaning.specs.Tests.{Test, ◌>>=◌, loop, one_more, each}
use Rattle.mz_check_meaning.specs.Coerced.{condition, bool_type, made_var}
use Rattle.mz_check_meaning.specs.Arrays.{join_next}
use Rattle.mz_check_meaning.specs.Branches.{branches_join, whole_type}
use Rattle.mz_check_forms.specs.StepsBranches.{passed, all_pass, join_both, bool_whole}
use Rattle.mz_check_forms.proofs.Loops.{loop_append}

after_one : {A B C : Type 0} (go : A → Test B) (t : Test C) (r : Test B) (ys : List B) (xs : List A) → ((zs : List B) → (loop (one_more go) zs xs >>= λ _. t) ≡ (all_pass go xs >>= λ _. t)) → ((r >>= λ y. Ok (ys ++ y ∷ [])) >>= λ zs. loop (one_more go) zs xs) >>= (λ _. t) ≡ ((passed r >>= λ _. all_pass go xs) >>= λ _. t)
after_one go t (Ok y) ys xs rest = rest (ys ++ y ∷ [])
after_one go t (Err f) ys xs rest = refl

one_passes : {A B C : Type 0} (go : A → Test B) (t : Test C) (ys : List B) (xs : List A) → (loop (one_more go) ys xs >>= λ _. t) ≡ (all_pass go xs >>= λ _. t)
one_passes go t ys [] = refl
one_passes go t ys (x ∷ xs) = after_one go t (go x) ys xs (λ zs. one_passes go t zs xs)

-- what follows on the tests of each doesn't need their values
pub each_passes : {A B C : Type 0} (go : A → Test B) (t : Test C) (xs : List A) → (each go xs >>= λ _. t) ≡ (all_pass go xs >>= λ _. t)
each_passes go t xs = one_passes go t [] xs

pub whole_is : (v : Bool) (es : List Tree) (o : Option Tree) (t : PlainType) → v ≡ t.var → o ≡ None → bool_whole v es ≡ whole_type es o t
whole_is v es o t p q = rw (p, q) (sym (each_passes condition (Ok (made_var t.var bool_type)) es))

join_drops : (first : Core) (thens : List Core) (fs : List Tree) (t : PlainType) → 1 ≤ length thens → first ≡ get_or thens 0 first → t ≡ type_of (tree first) → join_both t (map tree (drop 1 thens)) fs ≡ branches_join (map tree thens ++ fs)
unfolding branches_join
join_drops first [] fs t h p q = absurd (omega (arith, h))
join_drops first (x ∷ xs) fs t h p q = ap (λ u. join_both u (map tree xs) fs) (q ∙ ap (λ e. type_of (tree e)) p) ∙ sym (loop_append join_next (type_of (tree x)) (map tree xs) fs)

pub join_is : (first : Core) (thens : List Core) (fs : List Tree) (t : PlainType) → 1 ≤ length thens → first ≡ get_or thens 0 first → t ≡ type_of (tree first) → join_both t (map tree (take (length thens - 1) (drop 1 thens))) fs ≡ branches_join (map tree thens ++ fs)
join_is first thens fs t h p q = ap (λ es. join_both t (map tree es) fs) (take_rest thens 1) ∙ join_drops first thens fs t h p q
