-- Two values that agree on the variables and the choices give the same terms.
use Rattle.std.proofs.Common.{◌≡◌, ◌∙◌, ℕ, suc, List, [], ◌∷◌, ◌++◌, map, true, Some, refl, ap}
use Rattle.mz_arena.specs.declared.node.NodeKind.{NodeKind}
use Rattle.mz_arena.specs.declared.node.NodeKind.TheVariants.{Var, Local, SetVar, SetLocal}
use Rattle.mz_arena.specs.Entries.{Entry, at, children, folded, is_free}
use Rattle.mz_arena.specs.Values.{Values, Term, number, set}
use Rattle.mz_arena.specs.Terms.{kind_term, node_term, terms, term, own_id}
use Rattle.mz_arena.specs.FreeNodes.{is_set_kind, AgreeOn, AgreeOnFree}

same_kind_term : (k : NodeKind) (v w : Values) (e : Entry) (below : List Term) → (is_free k ≡ true → AgreeOn (is_set_kind k) (own_id e.node) v w) → kind_term v e k below ≡ kind_term w e k below
same_kind_term Var v w e below agree = ap (λ n. Some (number n)) (agree refl)
same_kind_term Local v w e below agree = ap (λ n. Some (number n)) (agree refl)
same_kind_term SetVar v w e below agree = ap (λ s. Some (set s)) (agree refl)
same_kind_term SetLocal v w e below agree = ap (λ s. Some (set s)) (agree refl)
same_kind_term k v w e below agree = refl

same_fold : (es : List Entry) (v w : Values) (before : List Term) → AgreeOnFree es v w → folded (node_term v) before es ≡ folded (node_term w) before es
unfolding folded
same_fold [] v w before agree = refl
same_fold (e ∷ es) v w before agree =
    let below = map (at before) (children e.node) in
    let first : node_term v e below ≡ node_term w e below = same_kind_term e.node.kind v w e below (agree 0 e refl) in
    ap (λ t. folded (node_term v) (before ++ t ∷ []) es) first ∙ same_fold es v w (before ++ node_term w e below ∷ []) (λ id d stands free. agree (suc id) d stands free)

pub same_terms : (es : List Entry) (v w : Values) → AgreeOnFree es v w → (id : ℕ) → term v es id ≡ term w es id
unfolding terms
same_terms es v w agree id = ap (λ ts. at ts id) (same_fold es v w [] agree)
