-- A variable for a variable or a choice of the arena.
use Rattle.std.proofs.Common.{◌≡◌, ℕ, ◌≤◌, true, List, [], ◌∷◌, ◌++◌, length, take, Some, None, slice_get, inl, inr, refl, sym, ap, subst, ◌∙◌, arith}
use Rattle.mz_arena.specs.declared.node.NodeKind.{NodeKind}
use Rattle.mz_arena.specs.declared.node.NodeKind.TheVariants as kinds
use Rattle.mz_arena.specs.Entries.{Entry, at, is_free}
use Rattle.mz_arena.specs.Values as terms
use Rattle.mz_arena.specs.Values.{Term}
use Rattle.mz_arena.specs.Terms.{term, kind_term}
use Rattle.mz_arena.specs.Extents.{extent}
use Rattle.mz_arena.specs.InBounds.{AreInDomains}
use Rattle.fz_program.specs.Arguments.{Plain, one}
use Rattle.fz_program.specs.Values.{Value, Values}
use Rattle.fz_program.specs.Flat.{Program, IsInDomain, plain_value}
use Rattle.fz_build.specs.Build.{IsOver}
use Rattle.fz_build.specs.Growth.{Declares}
use Rattle.fz_build.specs.History.{Made}
use Rattle.fz_build.proofs.Values.{domains_length}
use Rattle.mz_arena.proofs.Folds.{get-below}
use Rattle.flat_reif_rows.specs.Standing.{seen, Suits}
use Rattle.flat_reif_rows.proofs.Chains.{plain_taken, over_more}
use Rattle.flat_reif_rows.proofs.Keeping.{suits_kept}
use Rattle.flat_reif.specs.States.{State, put_at, given_choices, own_value, free_domain, Meets, IsState, MeetsOn, Spreads, Always, Flattened}
use Rattle.flat_reif.proofs.Longer.{plain_before}
use Rattle.flat_reif.proofs.Puts.{put_here, put_keeps, put_was}
use Rattle.flat_reif.proofs.Steps.{with_arg, same_entry}
use Rattle.flat_reif.proofs.Nodes.{term_here}

own_term : (v : terms.Values) (e : Entry) (k : NodeKind) (xs : List Term) → is_free k ≡ true → kind_term v e k xs ≡ Some (seen (own_value v e.node k))
own_term v e kinds.Var xs h = refl
own_term v e kinds.Local xs h = refl
own_term v e kinds.SetVar xs h = refl
own_term v e kinds.SetLocal xs h = refl
own_term v e _ xs h = absurd (cc)

same_const : (x y : Entry) → Some x ≡ Some y → x ≡ y
same_const x y h = cc

-- the program with a variable for this entry, which has all values that the entry may have
pub record IsOwn (s : State) (q : Program) (id : ℕ) (out : Plain) : Type 0 where
  pub entry : Entry
  pub is : slice_get s.es id ≡ Some entry
  pub free : is_free entry.node.kind ≡ true
  pub const : Entry
  pub stands : slice_get s.es entry.node.a ≡ Some const
  pub none : at s.args id ≡ None
  pub declares : Declares s.prog q (free_domain entry.node.kind entry.node.c const.set) (one out)
  pub suits : Suits q.vars out (extent s.es id)
  pub may : (v : terms.Values) → AreInDomains s.es v → IsInDomain (free_domain entry.node.kind entry.node.c const.set) (own_value v entry.node entry.node.kind)

-- the variable is a choice's
abbrev pub IsMade : State → Program → ℕ → Plain → Type 0
IsMade s q id out = (front : Program) → Made front s.prog (given_choices s.es s.args) → Made front q (given_choices s.es (put_at s.args id out))

module _ (s : State) (q : Program) (id : ℕ) (out : Plain) (g : IsState s) (h : IsOwn s q id out) where
  abbrev n : ℕ
  n = length s.prog.vars

  abbrev t : State
  t = with_arg s q id out

  abbrev e : Entry
  e = h.entry

  longer : n ≤ length q.vars
  longer = omega (arith, h.declares.count)

  before : (v : terms.Values) (f : Values) → Meets t v f → Meets s v (take n f)
  before v f m = record {
    solves = h.declares.down f m.solves;
    linked = λ j d p k free l. m.linked j d p k free (put_keeps s.args id out j p h.none l) ∙ sym (plain_taken n f p (g.places j p l));
  }

  here : (v : terms.Values) (f : Values) → Meets t v f → own_value v e.node e.node.kind ≡ plain_value f out
  here v f m = m.linked id e out h.is h.free (put_here s.args id out)

  after : (v : terms.Values) (f : Values) → AreInDomains s.es v → Meets s v f → MeetsOn t v f
  after v f d m =
      let x : Value = own_value v e.node e.node.kind in
      record {
        rest = x ∷ [];
        meets = record {
          solves = h.declares.up f x m.solves (h.may v d);
          linked = λ j y p k free l. elim (put_was s.args id out j p l) [
            | inl old ↦ m.linked j y p k free old ∙ sym (plain_before f (x ∷ []) n (domains_length s.prog.vars f m.solves.domains) p (g.places j p old))
            | inr new ↦ ap (λ (z : Entry). own_value v z.node z.node.kind) (same_entry s.es id j y e new.place h.is k) ∙ sym (h.declares.last f x m.solves) ∙ ap (plain_value (f ++ x ∷ [])) new.same
          ];
        };
      }

  spreads : IsMade s q id out → Spreads s t Always
  spreads made = record {
    same = refl;
    longer = longer;
    keeps = λ j p k. put_keeps s.args id out j p h.none k;
    down = before;
    holds = λ v f d m. tt;
    up = λ v f d c m. after v f d m;
    one = λ v f k m w a. h.declares.one f k m.solves w.solves a (sym (here v f m) ∙ here v k w);
    made = made;
  }

  pub own_state : IsState t
  own_state = record {
    arena = g.arena;
    places = λ j p l. elim (put_was s.args id out j p l) [
      | inl old ↦ over_more n (length q.vars) p longer (g.places j p old)
      | inr new ↦ subst (IsOver (length q.vars)) (sym h.declares.typed.is ∙ new.same) (get-below q.vars h.declares.typed.place h.declares.typed.found h.declares.typed.stands)
    ];
    suits = λ j p l. elim (put_was s.args id out j p l) [
      | inl old ↦ suits_kept s.prog.vars q.vars h.declares.kept p (extent s.es j) (g.suits j p old)
      | inr new ↦ subst (λ i. Suits q.vars p (extent s.es i)) (sym new.place) (subst (λ r. Suits q.vars r (extent s.es id)) new.same h.suits)
    ];
    ranged = λ v f m j y d p k free a l. elim (put_was s.args id out j p l) [
      | inl old ↦ g.ranged v (take n f) (before v f m) j y d p k free a old
      | inr new ↦
          let same : e ≡ y = sym (same_entry s.es id j y e new.place h.is k) in
          let const : h.const ≡ d = same_const h.const d (sym h.stands ∙ ap (λ (z : Entry). slice_get s.es z.node.a) same ∙ a) in
          subst (λ (z : Entry). IsInDomain (free_domain z.node.kind z.node.c d.set) (own_value v z.node z.node.kind)) same
          (subst (λ (w : Entry). IsInDomain (free_domain e.node.kind e.node.c w.set) (own_value v e.node e.node.kind)) const
          (subst (IsInDomain (free_domain e.node.kind e.node.c h.const.set)) (sym (here v f m)) (h.declares.inside f m.solves)))
    ];
    right = λ v f d m j p l. elim (put_was s.args id out j p l) [
      | inl old ↦ g.right v (take n f) d (before v f m) j p old ∙ ap (λ x. Some (seen x)) (plain_taken n f p (g.places j p old))
      | inr new ↦ ap (term v s.es) new.place ∙ term_here s id e v g h.is ∙ own_term v e e.node.kind _ h.free ∙ ap (λ x. Some (seen x)) (here v f m) ∙ ap (λ r. Some (seen (plain_value f r))) new.same
    ];
  }

  pub own_step : IsMade s q id out → Flattened s t
  own_step made = record { spreads = spreads made; state = own_state }
