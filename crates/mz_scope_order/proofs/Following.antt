-- What declarations depend on, by the graphs and by the uses that they are made from.
use Rattle.std.proofs.Common.{◌≡◌, ℕ, zero, suc, ◌+◌, ◌<◌, List, [], length, refl, subst, arith}
use Rattle.mz_graph.specs.Graph.{Graph, Edge, Path, arrived, onward}
use Rattle.mz_graph.specs.Order.{IsOrder}
use Rattle.mz_graph.specs.Depends.{DependsOn, directly, by_call, IsOnCycle}
use Rattle.mz_graph.specs.Depends as graph
use Rattle.mz_scope_names.specs.declared.name_use.NameUse.{NameUse}
use Rattle.mz_scope_names.specs.Sketches.{Sketch, all_of}
use Rattle.mz_scope_order.specs.Dependencies.{sketch_at, RefersTo, LeadsTo, itself, through, Depends, TypesLeadTo, called, by_decl, by_function, LeadsBack}
use Rattle.mz_scope_order.specs.StepsFaithful.{AreFaithful, HasTypes, of_function, of_decl, to_name, to_decl, AreTypes}
use Rattle.mz_scope_order.proofs.Turns.{same_turns}

module _ (decls functions : List Sketch) (node : ℕ → ℕ) (calls mentions decl_calls decl_mentions : Graph) (k : AreFaithful decls functions node calls mentions decl_calls decl_mentions) where
  up_from : (f e : ℕ) (us : List NameUse) → f < length functions → LeadsTo decls functions us e → us ≡ all_of (sketch_at functions f) → graph.LeadsTo calls mentions f e
  up_from f e us h (itself r) i = graph.itself (k.mention_up f e h (subst (λ z. RefersTo z decls e) i r))
  up_from f e us h (through g r l) i =
      graph.through (k.call_up f g h (subst (λ z. RefersTo z functions g) i r))
      (graph.through (k.names.leads g r.counted) (up_from g e (all_of (sketch_at functions g)) r.counted l refl))

  up_function : (f e : ℕ) → f < length functions → LeadsTo decls functions (all_of (sketch_at functions f)) e → graph.LeadsTo calls mentions f e
  up_function f e h l = up_from f e (all_of (sketch_at functions f)) h l refl

  up_decl : (d e : ℕ) → d < length decls → Depends decls functions d e → DependsOn calls mentions decl_calls decl_mentions d e
  up_decl d e h (itself r) = directly (k.decl_mention_up d e h r)
  up_decl d e h (through g r l) = by_call (node g) (k.decl_call_up d g h r) (graph.through (k.names.leads g r.counted) (up_function g e r.counted l))

  down_function : (f e : ℕ) → f < length functions → graph.LeadsTo calls mentions f e → LeadsTo decls functions (all_of (sketch_at functions f)) e
  down_function f e h (graph.itself u) = itself (k.mention_down f e h u)
  down_function f e h (graph.through {h = y} u (graph.itself v)) = absurd (k.blank y e (k.call_down f y h u).later v)
  down_function f e h (graph.through {h = y} u (graph.through {h = g} v l)) =
      let r = (k.call_down f y h u).meant g v in
      through g r (down_function g e r.counted l)

  down_decl : (d e : ℕ) → d < length decls → DependsOn calls mentions decl_calls decl_mentions d e → Depends decls functions d e
  down_decl d e h (directly u) = itself (k.decl_mention_down d e h u)
  down_decl d e h (by_call y u (graph.itself v)) = absurd (k.blank y e (k.decl_call_down d y h u).later v)
  down_decl d e h (by_call y u (graph.through {h = g} v l)) =
      let r = (k.decl_call_down d y h u).meant g v in
      through g r (down_function g e r.counted l)

  pub order_by_uses : (order : List ℕ) → IsOrder (DependsOn calls mentions decl_calls decl_mentions) (length decls) order → IsOrder (Depends decls functions) (length decls) order
  order_by_uses order o = same_turns {R = DependsOn calls mentions decl_calls decl_mentions} {S = Depends decls functions} {count = length decls} [] order down_decl up_decl o

-- one edge, and then a path
pub record Goes (types : Graph) (x y : ℕ) : Type 0 where
  pub next : ℕ
  pub edge : Edge types x next
  pub rest : Path types next y

-- how many edges a path has
abbrev pub steps : {g : Graph} {x y : ℕ} → Path g x y → ℕ
steps arrived = 0
steps (onward e p) = suc (steps p)

module _ (decls functions : List Sketch) (node : ℕ → ℕ) (base : ℕ) (types : Graph) (k : AreTypes decls functions node base types) where
  goes : (x f : ℕ) (us : List NameUse) → HasTypes decls functions base x us → TypesLeadTo decls functions us f → Goes types x f
  goes x f us t (called r) = record { next = node f; edge = k.up_name x f us t r; rest = onward (k.names.leads f r.counted) arrived }
  goes x f us t (by_decl d r l) =
      let g = goes (base + d) f (sketch_at decls d).types (of_decl d r.counted) l in
      record { next = base + d; edge = k.up_decl x d us t r; rest = onward g.edge g.rest }
  goes x f us t (by_function h r l) =
      let g = goes h f (sketch_at functions h).types (of_function h r.counted) l in
      record { next = node h; edge = k.up_name x h us t r; rest = onward (k.names.leads h r.counted) (onward g.edge g.rest) }

  after_name : (limit f z : ℕ) (us : List NameUse) (p : Path types z f) → RefersTo us functions z → steps p < limit → ((w : ℕ) → Edge types z w → (q : Path types w f) → steps q < limit → TypesLeadTo decls functions (sketch_at functions z).types f) → TypesLeadTo decls functions us f
  after_name limit _ z us arrived r l on = called r
  after_name limit f z us (onward {y = w} e q) r l on = by_function z r (on w e q (omega (arith, l)))

  pub leads : (limit x y f : ℕ) (us : List NameUse) (p : Path types y f) → steps p < limit → f < length functions → HasTypes decls functions base x us → Edge types x y → TypesLeadTo decls functions us f
  leads zero x y f us p l h t u = absurd (omega (arith, l))
  leads (suc limit) x y _ us arrived l h t u = elim (k.down x y us t u) [
    | to_name b n ↦ absurd (let o = n.later in omega (arith, o, h))
    | to_decl e r i ↦ absurd (let o = k.later in omega (arith, o, h, i))
  ]
  leads (suc limit) x y f us (onward {y = z} v p) l h t u = elim (k.down x y us t u) [
    | to_name b n ↦ let r = n.meant z v in after_name limit f z us p r (omega (arith, l)) (λ w e q b. leads limit z w f (sketch_at functions z).types q b h (of_function z r.counted) e)
    | to_decl e r i ↦ by_decl e r (leads limit (base + e) z f (sketch_at decls e).types p (omega (arith, l)) h (of_decl e r.counted) (subst (λ w. Edge types w z) i v))
  ]

  pub cycle_by_uses : (f : ℕ) → f < length functions → IsOnCycle types f → LeadsBack decls functions f
  cycle_by_uses f h c = leads (suc (steps c.back)) f c.next f (sketch_at functions f).types c.back (omega arith) h (of_function f h) c.edge

  pub uses_by_cycle : (f : ℕ) → f < length functions → LeadsBack decls functions f → IsOnCycle types f
  uses_by_cycle f h l = let g = goes f f (sketch_at functions f).types (of_function f h) l in record { next = g.next; edge = g.edge; back = g.rest }
