-- Edges within a component are on cycles, and no others.
use Rattle.std.proofs.Common.{◌≡◌, ℕ, ◌+◌, ◌<◌, inl, inr, List, ap, sym, ◌∙◌, subst, arith, length}
use Rattle.mz_graph.specs.Graph.{Graph, heads, IsIn, IsGraph, arrived, onward, AreComponents, number_of}
use Rattle.mz_graph.proofs.Membership.{below_or_not}
use Rattle.mz_graph.proofs.Classes.{together}
use Rattle.mz_graph.specs.Depends.{IsOnCycle, NoneOnCycle}
use Rattle.mz_graph.specs.StepsLayers.{LeadsWithin}

pub cycle_found : (g : Graph) (of hs ofs : List ℕ) (count x number : ℕ) → IsGraph g → AreComponents g count of → x < length g → hs ≡ heads g x → ofs ≡ of → number ≡ number_of of x → LeadsWithin hs ofs number → IsOnCycle g x
cycle_found g of hs ofs count x number closed c h p q r s =
    let listed : IsIn s.to (heads g x) = subst (λ z. IsIn s.to z) p s.listed in
    let is : number_of of s.to ≡ number_of of x = ap (λ z. number_of z s.to) (sym q) ∙ s.is ∙ r in
    record { next = s.to; edge = record { listed = listed }; back = c.connected s.to x (closed x s.to listed) h is }

pub no_cycle : (g : Graph) (of hs ofs : List ℕ) (count x number : ℕ) → IsGraph g → AreComponents g count of → x < length g → hs ≡ heads g x → ofs ≡ of → number ≡ number_of of x → (LeadsWithin hs ofs number → ⊥) → IsOnCycle g x → ⊥
no_cycle g of hs ofs count x number closed c h p q r n o =
    let same : number_of of o.next ≡ number_of of x = sym (together g count of x o.next closed c h (onward o.edge arrived) o.back) in
    n (record { to = o.next; listed = subst (λ z. IsIn o.next z) (sym p) o.edge.listed; is = ap (λ z. number_of z o.next) q ∙ same ∙ sym r })

pub none_yet : (g : Graph) (from x : ℕ) → NoneOnCycle g from x → (IsOnCycle g x → ⊥) → NoneOnCycle g from (x + 1)
none_yet g from x k n y l h c = elim (below_or_not y x) [
  | inl b ↦ k y l b c
  | inr b ↦ let e : y ≡ x = omega (arith, b, h) in n (subst (λ z. IsOnCycle g z) e c)
]
