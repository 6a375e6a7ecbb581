-- What the numbers of components say of paths.
use Rattle.std.proofs.Common.{◌≡◌, ℕ, ◌<◌, ◌≤◌, inl, inr, List, length, arith}
use Rattle.mz_graph.specs.Graph.{Graph, IsGraph, Edge, Path, arrived, onward, AreComponents, number_of}
use Rattle.mz_graph.proofs.Membership.{below_or_not}

reaches_node : (g : Graph) (x y : ℕ) → IsGraph g → x < length g → Path g x y → y < length g
reaches_node g x _ closed h arrived = h
reaches_node g x z closed h (onward {y = y} e p) = reaches_node g y z closed (closed x y e.listed) p

falls_along : (g : Graph) (count : ℕ) (of : List ℕ) (x y : ℕ) → IsGraph g → AreComponents g count of → x < length g → Path g x y → number_of of y ≤ number_of of x
falls_along g count of x _ closed c h arrived = omega arith
falls_along g count of x z closed c h (onward {y = y} e p) =
    let a = c.falls x y h e in
    let b = falls_along g count of y z closed c (closed x y e.listed) p in
    omega (arith, a, b)

pub together : (g : Graph) (count : ℕ) (of : List ℕ) (x y : ℕ) → IsGraph g → AreComponents g count of → x < length g → Path g x y → Path g y x → number_of of x ≡ number_of of y
together g count of x y closed c h p q =
    let a = falls_along g count of x y closed c h p in
    let b = falls_along g count of y x closed c (reaches_node g x y closed h p) q in
    omega (arith, a, b)

pub falls_strictly : (g : Graph) (count : ℕ) (of : List ℕ) (x y : ℕ) → IsGraph g → AreComponents g count of → x < length g → Edge g x y → (Path g y x → ⊥) → number_of of y < number_of of x
falls_strictly g count of x y closed c h e n =
    let a = c.falls x y h e in
    elim (below_or_not (number_of of y) (number_of of x)) [
      | inl b ↦ b
      | inr b ↦ absurd (n (c.connected y x (closed x y e.listed) h (omega (arith, a, b))))
    ]
