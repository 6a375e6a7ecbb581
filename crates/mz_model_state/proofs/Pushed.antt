-- The ids of a symbol's nodes, one after the other.
use Rattle.std.proofs.Common.{◌≡◌, ◌∙◌, ℕ, List, [], ◌∷◌, ◌++◌, Option, Some, None, refl, sym, ap}
use Rattle.std.proofs.lemmas.List.{append-nil, append_assoc}
use Rattle.mz_arena.specs.Instances.{VarCell}
use Rattle.mz_instance.specs.Parts.{cell_ids}
use Rattle.mz_symbol.specs.declared.types.Symbol.{Symbol}
use Rattle.mz_symbol.specs.Symbols.{with_id, symbol_ids}
use Rattle.mz_model_state.specs.StepsIds.{if_there}

both : (o : Option ℕ) (is : List ℕ) → if_there o ++ is ≡ with_id o is
both None is = refl
both (Some o) is = refl

pub symbol_pushed : (xs ys zs : List ℕ) (s : Symbol) → ys ≡ xs ++ if_there s.occurs → zs ≡ ys ++ s.term ∷ [] → zs ≡ xs ++ symbol_ids s
symbol_pushed xs ys zs s first second = second ∙ ap (λ ys. ys ++ s.term ∷ []) first ∙ append_assoc xs (if_there s.occurs) (s.term ∷ []) ∙ ap (λ is. xs ++ is) (both s.occurs (s.term ∷ []))

both_of : (o : Option ℕ) (i : ℕ) (u : VarCell) → u.occurs ≡ o → u.term ≡ i → if_there o ++ i ∷ [] ≡ cell_ids u
both_of o i u occurs term = ap (λ i. if_there o ++ i ∷ []) (sym term) ∙ by o u.occurs (sym occurs)
  where
    by : (o p : Option ℕ) → o ≡ p → if_there o ++ u.term ∷ [] ≡ cell_ids (record { occurs = p; term = u.term; domain = u.domain })
    by None None e = refl
    by (Some x) (Some y) e = let same : x ≡ y = cc in ap (λ x. x ∷ u.term ∷ []) same
    by None (Some y) e = absurd (cc)
    by (Some x) None e = absurd (cc)

pub cell_pushed : (xs ys zs : List ℕ) (u : VarCell) → ys ≡ xs ++ if_there u.occurs → zs ≡ ys ++ u.term ∷ [] → zs ≡ xs ++ cell_ids u
cell_pushed xs ys zs u first second = second ∙ ap (λ ys. ys ++ u.term ∷ []) first ∙ append_assoc xs (if_there u.occurs) (u.term ∷ []) ∙ ap (λ is. xs ++ is) (both_of u.occurs u.term u refl refl)
