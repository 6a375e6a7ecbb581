-- The graphs of dependencies lead only to what there is.
use Rattle.std.proofs.Common.{◌≡◌, ℕ, ◌+◌, ◌-◌, ◌<◌, ◌≤◌, inl, inr, List, [], ◌++◌, length, map, replicate, refl, ap, sym, ◌∙◌, subst}
use Rattle.std.proofs.lemmas.List.{length-map, length-replicate, get_or_past}
use Rattle.mz_graph.specs.Graph.{Graph, heads, IsIn, IsGraph}
use Rattle.mz_graph.proofs.Membership.{below_or_not, in_either}
use Rattle.mz_graph.specs.Depends.{AreUses}
use Rattle.mz_graph.proofs.Joining.{both_sized, in_second}
use Rattle.mz_scope_names.specs.Sketches.{Sketch, all_of}
use Rattle.mz_scope_order.specs.Dependencies.{sketch_at, AreDeclarations}
use Rattle.mz_scope_order.specs.StepsFaithful.{of_function, of_decl}
use Rattle.mz_scope_order.specs.StepsGraphs.{name_count, base_of, called_by, mentioned_by, AreGraphs}
use Rattle.mz_scope_order.proofs.Counts.{both_are, below_same, past_same, below_first, below_front, below_second, rest_added, rest_behind, rest_below}
use Rattle.mz_scope_order.proofs.Declaring.{mention_down}
use Rattle.mz_scope_order.proofs.Building.{row_at, nothing_there, called_before, mentioned_down}
use Rattle.mz_scope_order.proofs.Building as building

nothing_past : (g : Graph) (x y : ℕ) → length g ≤ x → IsIn y (heads g x) → ⊥
nothing_past g x y l a = subst (λ z. IsIn y z) (get_or_past g x [] l) a

module _ (decls functions : List Sketch) (calls mentions decl_calls decl_mentions types : Graph) (d : AreDeclarations decls) (k : AreGraphs decls functions calls mentions decl_calls decl_mentions types) where
  calls_sized : length calls ≡ base_of functions
  calls_sized =
      let a = ap (λ z. length z) k.calls_are ∙ both_sized (map (λ s. called_by functions (all_of s)) functions) k.members in
      let b = length-map functions (λ s. called_by functions (all_of s)) in
      both_are (length calls) (length (map (λ s. called_by functions (all_of s)) functions)) (length k.members) (length functions) (name_count functions) a b k.sorted.sized

  mentions_sized : length mentions ≡ base_of functions
  mentions_sized =
      let a = ap (λ z. length z) k.mentions_are ∙ both_sized (map (λ s. mentioned_by decls 0 (all_of s)) functions) (replicate (name_count functions) []) in
      let b = length-map functions (λ s. mentioned_by decls 0 (all_of s)) in
      both_are (length mentions) (length (map (λ s. mentioned_by decls 0 (all_of s)) functions)) (length (replicate (name_count functions) (let o : List ℕ = [] in o))) (length functions) (name_count functions) a b (length-replicate (name_count functions) (let o : List ℕ = [] in o))

  decl_calls_sized : length decl_calls ≡ length decls
  decl_calls_sized = ap (λ z. length z) k.decl_calls_are ∙ length-map decls (λ s. called_by functions (all_of s))

  pub decl_mentions_sized : length decl_mentions ≡ length decls
  decl_mentions_sized = ap (λ z. length z) k.decl_mentions_are ∙ length-map decls (λ s. mentioned_by decls 0 (all_of s))

  -- a name leads to functions
  from_name : (x y : ℕ) → length functions ≤ x → IsIn y (heads calls x) → y < length functions
  from_name x y l a =
      let i = rest_added (length functions) x l in
      (k.sorted.down (x - length functions) y (subst (λ z. IsIn y z) (ap (λ z. heads calls z) (sym i) ∙ building.on_name decls functions calls mentions decl_calls decl_mentions types d k (x - length functions)) a)).counted

  called_below : (x y : ℕ) → IsIn y (heads calls x) → y < length calls
  called_below x y a =
      elim (below_or_not x (length functions)) [
        | inl h ↦ below_same y (base_of functions) (length calls) (called_before functions y (all_of (sketch_at functions x)) (subst (λ z. IsIn y z) (building.on_function decls functions calls mentions decl_calls decl_mentions types d k x h) a)) calls_sized
        | inr h ↦ below_first y (length functions) (name_count functions) (length calls) (from_name x y h a) calls_sized
      ]

  mentioned_below : (x y : ℕ) → IsIn y (heads mentions x) → y < length decl_mentions
  mentioned_below x y a = elim (below_or_not x (length functions)) [
    | inl h ↦
        below_same y (length decls) (length decl_mentions)
        (mentioned_down decls y (all_of (sketch_at functions x)) d (subst (λ z. IsIn y z) (building.mentions_on decls functions calls mentions decl_calls decl_mentions types d k x h) a)).counted
        decl_mentions_sized
    | inr h ↦
        let i = rest_behind x (length functions) (length (map (λ s. mentioned_by decls 0 (all_of s)) functions)) (length-map functions (λ s. mentioned_by decls 0 (all_of s))) h in
        absurd (nothing_there (name_count functions) (x - length functions) y (subst (λ z. IsIn y z) (ap (λ z. heads z x) k.mentions_are ∙ in_second (map (λ s. mentioned_by decls 0 (all_of s)) functions) (replicate (name_count functions) []) x (x - length functions) i) a))
  ]

  decl_called_below : (x y : ℕ) → IsIn y (heads decl_calls x) → y < length calls
  decl_called_below x y a = elim (below_or_not x (length decls)) [
    | inl h ↦ below_same y (base_of functions) (length calls) (called_before functions y (all_of (sketch_at decls x)) (subst (λ z. IsIn y z) (ap (λ z. heads z x) k.decl_calls_are ∙ row_at (λ s. called_by functions (all_of s)) decls x h) a)) calls_sized
    | inr h ↦ absurd (nothing_past decl_calls x y (past_same x (length decls) (length decl_calls) h decl_calls_sized) a)
  ]

  decl_mentioned_below : (x y : ℕ) → IsIn y (heads decl_mentions x) → y < length decl_mentions
  decl_mentioned_below x y a = elim (below_or_not x (length decls)) [
    | inl h ↦
        below_same y (length decls) (length decl_mentions)
        (mentioned_down decls y (all_of (sketch_at decls x)) d (subst (λ z. IsIn y z) (ap (λ z. heads z x) k.decl_mentions_are ∙ row_at (λ s. mentioned_by decls 0 (all_of s)) decls x h) a)).counted
        decl_mentions_sized
    | inr h ↦ absurd (nothing_past decl_mentions x y (past_same x (length decls) (length decl_mentions) h decl_mentions_sized) a)
  ]

  pub uses : AreUses calls mentions decl_calls decl_mentions
  uses = record {
    functions = mentions_sized ∙ sym calls_sized;
    decls = decl_calls_sized ∙ sym decl_mentions_sized;
    called = record { below = called_below };
    mentioned = record { below = mentioned_below };
    called_by_decls = record { below = decl_called_below };
    mentioned_by_decls = record { below = decl_mentioned_below };
  }

  types_below : (x y : ℕ) → IsIn y (called_by functions (sketch_at functions x).types ++ mentioned_by decls (base_of functions) (sketch_at functions x).types) → y < length types
  types_below x y a =
      let s = building.types_sized decls functions calls mentions decl_calls decl_mentions types d k in
      elim (in_either y (called_by functions (sketch_at functions x).types) (mentioned_by decls (base_of functions) (sketch_at functions x).types) a) [
        | inl b ↦ below_first y (base_of functions) (length decls) (length types) (called_before functions y (sketch_at functions x).types b) s
        | inr b ↦ let m = mention_down decls (base_of functions) y (sketch_at functions x).types d b in below_second y (base_of functions) m.decl (length decls) (length types) m.is m.refers.counted s
      ]

  decl_types_below : (x y : ℕ) → IsIn y (called_by functions (sketch_at decls x).types ++ mentioned_by decls (base_of functions) (sketch_at decls x).types) → y < length types
  decl_types_below x y a =
      let s = building.types_sized decls functions calls mentions decl_calls decl_mentions types d k in
      elim (in_either y (called_by functions (sketch_at decls x).types) (mentioned_by decls (base_of functions) (sketch_at decls x).types) a) [
        | inl b ↦ below_first y (base_of functions) (length decls) (length types) (called_before functions y (sketch_at decls x).types b) s
        | inr b ↦ let m = mention_down decls (base_of functions) y (sketch_at decls x).types d b in below_second y (base_of functions) m.decl (length decls) (length types) m.is m.refers.counted s
      ]

  pub types_closed : IsGraph types
  types_closed x y a =
      let s = building.types_sized decls functions calls mentions decl_calls decl_mentions types d k in
      elim (below_or_not x (length functions)) [
        | inl h ↦ types_below x y (subst (λ z. IsIn y z) (building.types_on decls functions calls mentions decl_calls decl_mentions types d k x (sketch_at functions x).types (of_function x h)) a)
        | inr h ↦ elim (below_or_not x (base_of functions)) [
          | inl l ↦
              let i = rest_added (length functions) x h in
              let e = ap (λ z. heads types z) (sym i) ∙ building.types_on_name decls functions calls mentions decl_calls decl_mentions types d k (x - length functions) (rest_below x (length functions) (name_count functions) (base_of functions) h l refl) in
              below_front y (length functions) (name_count functions) (length decls) (length types) (k.sorted_again.down (x - length functions) y (subst (λ z. IsIn y z) e a)).counted s
          | inr l ↦ elim (below_or_not x (length types)) [
            | inl t ↦
                let i = rest_added (base_of functions) x l in
                decl_types_below (x - base_of functions) y
                (subst (λ z. IsIn y z) (ap (λ z. heads types z) (sym i) ∙ building.types_on decls functions calls mentions decl_calls decl_mentions types d k (base_of functions + (x - base_of functions)) (sketch_at decls (x - base_of functions)).types (of_decl (x - base_of functions) (rest_below x (base_of functions) (length decls) (length types) l t s))) a)
            | inr t ↦ absurd (nothing_past types x y t a)
          ]
        ]
      ]
