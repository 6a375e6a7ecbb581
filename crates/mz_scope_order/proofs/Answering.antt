-- What the order and the cycles of the graphs say of the declarations and functions.
use Rattle.std.proofs.Common.{◌≡◌, ◌∙◌, ℕ, ◌+◌, ◌-◌, ◌<◌, ◌≤◌, List, length, map, sym, ap, subst, arith}
use Rattle.mz_graph.specs.Graph.{Graph, number_of}
use Rattle.mz_graph.specs.Order.{IsOrder, IsComplete, IsFirstLeft}
use Rattle.mz_graph.specs.Depends.{DependsOn, IsWholeOrder, IsCyclicAt, NoneOnCycle, IsFirstOnCycle, HaveComponents}
use Rattle.mz_scope_names.specs.Sketches.{Sketch}
use Rattle.mz_scope_order.specs.Answer.{AreOrders}
use Rattle.mz_scope_order.specs.Dependencies.{sketch_at, Depends, LeadsBack, AreDeclarations, IsSequence, IsStuckAt, IsBackAt}
use Rattle.mz_scope_order.specs.StepsGraphs.{node_of, base_of, AreGraphs}
use Rattle.mz_scope_order.specs.StepsSubjects.{StandOnce, subjects_in, AreSubjects}
use Rattle.mz_scope_order.specs.Subjects.{Subject, IsTypeSequence}
use Rattle.mz_scope_order.proofs.Apart.{in_order_counted, order_apart}
use Rattle.mz_scope_order.proofs.Following as following
use Rattle.mz_scope_order.proofs.Building as building
use Rattle.mz_scope_order.proofs.Closing as closing
use Rattle.mz_scope_order.proofs.Ranking as ranking
use Rattle.mz_scope_order.proofs.Renumbering as renumbering
use Rattle.mz_scope_order.proofs.Sorting as sorting
use Rattle.mz_scope_order.proofs.Sorting.{node_subjects}

module _ (decls functions : List Sketch) (calls mentions decl_calls decl_mentions types : Graph) (d : AreDeclarations decls) (k : AreGraphs decls functions calls mentions decl_calls decl_mentions types) where
  sized : length decl_mentions ≡ length decls
  sized = closing.decl_mentions_sized decls functions calls mentions decl_calls decl_mentions types d k

  ordered : (order : List ℕ) → IsOrder (DependsOn calls mentions decl_calls decl_mentions) (length decl_mentions) order → IsOrder (Depends decls functions) (length decls) order
  ordered order o =
      following.order_by_uses decls functions (node_of functions) calls mentions decl_calls decl_mentions (building.faithful decls functions calls mentions decl_calls decl_mentions types d k) order
      (subst (λ z. IsOrder (DependsOn calls mentions decl_calls decl_mentions) z order) sized o)

  pub in_sequence : (order : List ℕ) → IsWholeOrder (DependsOn calls mentions decl_calls decl_mentions) (length decl_mentions) order → NoneOnCycle types 0 (length functions) → HaveComponents types → IsSequence decls functions order
  in_sequence order w none parts =
      let whole = subst (λ z. IsComplete z order) sized w.complete in
      let faithful = building.faithful_types decls functions calls mentions decl_calls decl_mentions types d k in
      let acyclic : (f : ℕ) → f < length functions → LeadsBack decls functions f → ⊥ = λ f h l. none f (omega arith) h (following.uses_by_cycle decls functions (node_of functions) (base_of functions) types faithful f h l) in
      record {
        is = ordered order w.is;
        complete = whole;
        acyclic = acyclic;
        ranked = record {
          of_decl = λ e. number_of parts.number (base_of functions + e);
          of_function = λ f. number_of parts.number f;
          are = ranking.ranked decls functions (node_of functions) (base_of functions) types parts.count parts.number order faithful
              (closing.types_closed decls functions calls mentions decl_calls decl_mentions types d k)
              (building.types_sized decls functions calls mentions decl_calls decl_mentions types d k)
              parts.are (ordered order w.is) whole acyclic;
        };
      }

  pub counted : length decls ≤ length types
  counted = let e = building.types_sized decls functions calls mentions decl_calls decl_mentions types d k in omega (arith, e)

  pub apart : (order : List ℕ) → IsWholeOrder (DependsOn calls mentions decl_calls decl_mentions) (length decl_mentions) order → StandOnce (length decls) order
  apart order w = order_apart (length decls) order (ordered order w.is)

  pub stuck : (c : ℕ) → IsCyclicAt (DependsOn calls mentions decl_calls decl_mentions) (length decl_mentions) c → IsStuckAt decls functions c
  stuck c s = record {
    order = s.order;
    is = ordered s.order s.is;
    first = subst (λ z. IsFirstLeft z s.order c) sized s.first;
  }

  pub back : (order : List ℕ) (f : ℕ) → IsWholeOrder (DependsOn calls mentions decl_calls decl_mentions) (length decl_mentions) order → IsFirstOnCycle types 0 (length functions) f → IsBackAt decls functions f
  back order f w c = record {
    order = order;
    is = ordered order w.is;
    complete = subst (λ z. IsComplete z order) sized w.complete;
    counted = c.within;
    back = following.cycle_by_uses decls functions (node_of functions) (base_of functions) types (building.faithful_types decls functions calls mentions decl_calls decl_mentions types d k) f c.within c.cycle;
    before = λ h l b. let t = c.within in c.before h (omega arith) l (following.uses_by_cycle decls functions (node_of functions) (base_of functions) types (building.faithful_types decls functions calls mentions decl_calls decl_mentions types d k) h (omega (arith, l, t)) b);
  }

  pub orders : (order : List ℕ) (all : List Subject) → IsSequence decls functions order → AreSubjects types (length functions) (length types - length decls) (length decls) order all → AreOrders decls functions order all
  orders order all s a =
      let sized = building.types_sized decls functions calls mentions decl_calls decl_mentions types d k in
      let base : length types - length decls ≡ base_of functions = omega (arith, sized) in
      let found = sorting.sequence_is decls functions (node_of functions) (base_of functions) types (building.faithful_types decls functions calls mentions decl_calls decl_mentions types d k) sized a.nodes s.ranked a.is in
      record {
        sequence = s;
        types = subst (λ z. IsTypeSequence (map (sketch_at decls) order) functions z)
            (sym (a.are ∙ ap (λ z. subjects_in (length functions) z a.at a.nodes) base ∙ renumbering.subjects_are (length functions) (base_of functions) a.at a.nodes))
            (renumbering.sequence_renumbered decls functions order a.at (λ x i. in_order_counted (length decls) order x s.is i) s.complete a.places (node_subjects (length functions) (base_of functions) a.nodes) found);
      }
