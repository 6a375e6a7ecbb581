-- What comes before in an order.
use Rattle.std.proofs.Common.{◌≡◌, ℕ, List, [], ◌∷◌, ◌++◌, sym, subst, append_assoc, append-nil}
use Rattle.mz_graph.specs.Graph.{IsIn}
use Rattle.mz_graph.specs.Order.{Continues, turn}

before_it : {Needs : ℕ → ℕ → Type 0} {count : ℕ} (done before after : List ℕ) (d e : ℕ) → Continues Needs count done (before ++ d ∷ after) → Needs d e → IsIn e (done ++ before)
before_it done [] after d e (turn next more) n = subst (λ z. IsIn e z) (sym (append-nil done)) (next.ready.served e n)
before_it done (x ∷ before) after d e (turn next more) n = subst (λ z. IsIn e z) (append_assoc done (x ∷ []) before) (before_it (done ++ x ∷ []) before after d e more n)

pub needed_before : {Needs : ℕ → ℕ → Type 0} {count : ℕ} (before after : List ℕ) (d e : ℕ) → Continues Needs count [] (before ++ d ∷ after) → Needs d e → IsIn e before
needed_before before after d e o n = before_it [] before after d e o n
