-- The operators of a chain, with its innermost first operand, are placed where the chain is.
use Rattle.std.proofs.Common.{ℕ, Bool, true, false, List, [], ◌∷◌, ◌++◌, Option, Some, None, if◌then◌else◌}
use Rattle.std.specs.Option.{option_map}
use Rattle.std.specs.List.{AllByRecursion as AllBy}
use Rattle.mz_base.specs.declared.fault.Span.{Span}
use Rattle.mz_core.specs.Types.{PlainType}
use Rattle.mz_core.specs.Coercions.{PathLink}
use Rattle.mz_core.specs.Tree.{Tree, Shape, Step, Steps, steps, all_steps}
use Rattle.mz_core.specs.Tree as tree
use Rattle.mz_core.specs.Nodes.{nodes_in, in_form, in_steps}
use Rattle.mz_meaning.specs.Chains.{Operator, Innermost, operators_at, with_left, with_innermost, coerced_innermost, innermost_of, innermost_in, last_backed, a_step_of, back_of, back_in, backed, chained, chain_level, same_level}
use Rattle.mz_meaning_laws.specs.Places.{step_places, local_places}
use Rattle.mz_meaning_laws.proofs.Parts.{OfSome, left_all, right_all, both_all, OwnPlaces, IsPlaced, IsPlacedStep, placed_steps}

module _ (P : Span → Type 0) where
  abbrev pub IsPlacedOperator : Operator → Type 0
  IsPlacedOperator o = P o.at × IsPlaced P o.step.operand

  pub record IsPlacedInnermost (f : Innermost) : Type 0 where
    pub first : IsPlaced P f.first
    pub operators : AllBy IsPlacedOperator f.operators

  steps_placed : (ss : List Step) → AllBy (IsPlacedStep P) ss → AllBy (OwnPlaces P) (in_steps (steps ss))
  unfolding nodes_in
  steps_placed [] h = tt
  steps_placed (s ∷ ss) h = both_all (OwnPlaces P) (nodes_in s.operand) (in_steps (steps ss)) h.0.1 (steps_placed ss h.1)

  starts_placed : (ss : List Step) → AllBy (IsPlacedStep P) ss → AllBy P (step_places (steps ss))
  unfolding step_places
  starts_placed [] h = tt
  starts_placed (s ∷ ss) h = (h.0.0, starts_placed ss h.1)

  at_placed : (at : Span) (ss : List Step) → P at → AllBy (IsPlacedStep P) ss → AllBy IsPlacedOperator (operators_at at ss)
  at_placed at [] p h = tt
  at_placed at (s ∷ ss) p h = ((p, h.0.1), at_placed at ss p h.1)

  with_left_placed : (ls : List PathLink) (ss : List Step) → AllBy (IsPlacedStep P) ss → AllBy (IsPlacedStep P) (with_left ls ss)
  with_left_placed ls [] h = tt
  with_left_placed ls (s ∷ ss) h = h

  with_innermost_placed : (at : Span) (ss : List Step) (e : Tree) (f : Option Innermost) → P at → AllBy (IsPlacedStep P) ss → IsPlaced P e → OfSome IsPlacedInnermost f → IsPlacedInnermost (with_innermost at ss e f)
  with_innermost_placed at ss e None p h k i = record { first = k; operators = at_placed at ss p h }
  with_innermost_placed at ss e (Some f) p h k i = record { first = i.first; operators = both_all IsPlacedOperator f.operators (operators_at at (with_left f.links ss)) i.operators (at_placed at (with_left f.links ss) p (with_left_placed f.links ss h)) }

  coerced_placed : (l : PathLink) (f : Option Innermost) → OfSome IsPlacedInnermost f → OfSome IsPlacedInnermost (option_map (coerced_innermost l) f)
  coerced_placed l None h = tt
  coerced_placed l (Some f) h = record { first = h.first; operators = h.operators }

  some_if : (b : Bool) (f : Innermost) → IsPlacedInnermost f → OfSome IsPlacedInnermost (if b then Some f else None)
  some_if true f h = h
  some_if false f h = tt

  mutual
    unfolding innermost_of nodes_in

    innermost_placed : (l : ℕ) (e : Tree) → IsPlaced P e → OfSome IsPlacedInnermost (innermost_of l e)
    innermost_placed l (tree.node at t form) h = innermost_in_placed l at t form h.0.0 h.0.1 h.1

    innermost_in_placed : (l : ℕ) (at : Span) (t : PlainType) (form : Shape) → P at → AllBy P (local_places form) → AllBy (OwnPlaces P) (in_form form) → OfSome IsPlacedInnermost (innermost_in l at t form)
    innermost_in_placed l at t (tree.chain e ss) p q h =
        let mine : IsPlaced P e = left_all (OwnPlaces P) (nodes_in e) (in_steps ss) h in
        some_if (same_level l (all_steps ss)) (with_innermost at (all_steps ss) e (innermost_of l e))
        (with_innermost_placed at (all_steps ss) e (innermost_of l e) p (placed_steps P ss q (right_all (OwnPlaces P) (nodes_in e) (in_steps ss) h)) mine (innermost_placed l e mine))
    innermost_in_placed l at t (tree.coerce c e) p q h = coerced_placed (c, t) (innermost_of l e) (innermost_placed l e h)
    innermost_in_placed l at t form p q h = tt

  last_placed : (at : Span) (s : Step) (f : Option Innermost) → P at → IsPlaced P s.operand → OfSome IsPlacedInnermost f → AllBy IsPlacedOperator (last_backed at s f)
  last_placed at s None p h i = ((p, h), tt)
  last_placed at s (Some f) p h i = ((p, i.first), i.operators)

  mutual
    unfolding back_of nodes_in step_places

    back_placed : (e : Tree) → IsPlaced P e → OfSome IsPlacedInnermost (back_of e)
    back_placed (tree.node at t form) h = back_in_placed at t form h.0.0 h.0.1 h.1

    back_in_placed : (at : Span) (t : PlainType) (form : Shape) → P at → AllBy P (local_places form) → AllBy (OwnPlaces P) (in_form form) → OfSome IsPlacedInnermost (back_in at t form)
    back_in_placed at t (tree.chain e ss) p q h =
        some_if (same_level 12 (all_steps ss)) (record { first = e; operators = backed at ss; links = [] })
        (record { first = left_all (OwnPlaces P) (nodes_in e) (in_steps ss) h; operators = backed_placed at ss p q (right_all (OwnPlaces P) (nodes_in e) (in_steps ss) h) })
    back_in_placed at t (tree.coerce c e) p q h = coerced_placed (c, t) (back_of e) (back_placed e h)
    back_in_placed at t form p q h = tt

    backed_placed : (at : Span) (ss : Steps) → P at → AllBy P (step_places ss) → AllBy (OwnPlaces P) (in_steps ss) → AllBy IsPlacedOperator (backed at ss)
    backed_placed at tree.no_steps p q h = tt
    backed_placed at (tree.a_step sp r t l m e tree.no_steps) p q h = last_placed at (a_step_of sp r t l m e) (back_of e) p (left_all (OwnPlaces P) (nodes_in e) [] h) (back_placed e (left_all (OwnPlaces P) (nodes_in e) [] h))
    backed_placed at (tree.a_step sp r t l m e (tree.a_step sp2 r2 t2 l2 m2 e2 ss)) p q h =
        let mine : IsPlaced P e = left_all (OwnPlaces P) (nodes_in e) (in_steps (tree.a_step sp2 r2 t2 l2 m2 e2 ss)) h in
        ((p, mine), backed_placed sp (tree.a_step sp2 r2 t2 l2 m2 e2 ss) q.0 q.1 (right_all (OwnPlaces P) (nodes_in e) (in_steps (tree.a_step sp2 r2 t2 l2 m2 e2 ss)) h))

  chained_if : (b : Bool) (f g : Innermost) → IsPlacedInnermost f → IsPlacedInnermost g → IsPlacedInnermost (if b then f else g)
  chained_if true f g h k = h
  chained_if false f g h k = k

  pub chained_placed : (at : Span) (e : Tree) (ss : List Step) → P at → IsPlaced P e → AllBy (IsPlacedStep P) ss → IsPlacedInnermost (chained at e ss)
  chained_placed at e ss p h k =
      chained_if (same_level 12 ss) (record { first = e; operators = backed at (steps ss); links = [] }) (with_innermost at ss e (innermost_of (chain_level ss) e))
      (record { first = h; operators = backed_placed at (steps ss) p (starts_placed ss k) (steps_placed ss k) })
      (with_innermost_placed at ss e (innermost_of (chain_level ss) e) p k h (innermost_placed (chain_level ss) e h))
