-- A step of the flattening: one argument more.
use Rattle.std.proofs.Common.{◌≡◌, ℕ, ◌≤◌, pos, Bool, true, false, List, [], ◌++◌, length, take, Some, None, slice_get, inl, inr, refl, sym, ap, subst, ◌∙◌, arith}
use Rattle.mz_arena.specs.declared.node.NodeKind.{NodeKind}
use Rattle.mz_arena.specs.declared.node.NodeKind.TheVariants as kinds
use Rattle.mz_arena.specs.Entries.{Entry, at, is_free, is_local}
use Rattle.mz_arena.specs.Values as terms
use Rattle.mz_arena.specs.Terms.{term}
use Rattle.mz_arena.specs.Extents.{extent}
use Rattle.mz_arena.specs.InBounds.{AreInDomains}
use Rattle.fz_program.specs.Arguments.{Plain}
use Rattle.fz_program.specs.Values.{Values}
use Rattle.fz_program.specs.Flat.{Program, FlatSolves, plain_value}
use Rattle.fz_build.specs.Build.{IsOver}
use Rattle.fz_build.specs.Growth.{Grows}
use Rattle.fz_build.specs.History.{Made}
use Rattle.fz_build.proofs.Values.{domains_length}
use Rattle.flat_reif_rows.specs.Standing.{seen, Suits}
use Rattle.flat_reif_rows.specs.Making.{GoesOnMade}
use Rattle.flat_reif_rows.proofs.Chains.{plain_taken, over_more, all_in_turn}
use Rattle.flat_reif_rows.proofs.Keeping.{suits_kept}
use Rattle.flat_reif.specs.States.{State, put_at, given_choices, Meets, IsState, MeetsOn, Spreads, Always, Flattened}
use Rattle.flat_reif.proofs.Longer.{nothing_more, whole_taken, fewer_taken, plain_before}
use Rattle.flat_reif.proofs.Puts.{put_keeps, put_was, no_choice_put}

abbrev pub with_arg : State → Program → ℕ → Plain → State
with_arg s q id p = record { es = s.es; prog = q; args = put_at s.args id p }

-- ---- no step, and two

pub spreads_same : (s : State) → Spreads s s Always
spreads_same s = record {
  same = refl;
  longer = omega arith;
  keeps = λ id p k. k;
  down = λ v f m. subst (Meets s v) (sym (whole_taken f (length s.prog.vars) (domains_length s.prog.vars f m.solves.domains))) m;
  holds = λ v f d m. tt;
  up = λ v f d c m. record { rest = []; meets = subst (Meets s v) (sym (nothing_more f)) m };
  one = λ v f g m k e. sym (whole_taken f (length s.prog.vars) (domains_length s.prog.vars f m.solves.domains)) ∙ e ∙ whole_taken g (length s.prog.vars) (domains_length s.prog.vars g k.solves.domains);
  made = λ front made. made;
}

pub spreads_twice : (p q r : State) (C D : terms.Values → Type 0) → Spreads p q C → Spreads q r D → Spreads p r (λ v. C v × D v)
spreads_twice p q r C D g h =
    let m = length p.prog.vars in
    let n = length q.prog.vars in
    record {
      same = h.same ∙ g.same;
      longer = omega (arith, g.longer, h.longer);
      keeps = λ id a k. h.keeps id a (g.keeps id a k);
      down = λ v f w. subst (Meets p v) (fewer_taken f m n g.longer) (g.down v (take n f) (h.down v f w));
      holds = λ v f d w. (g.holds v (take n f) (subst (λ es. AreInDomains es v) h.same d) (h.down v f w), h.holds v f d w);
      up = λ v f d c w.
          let x = g.up v f (subst (λ es. AreInDomains es v) h.same d) c.0 w in
          let y = h.up v (f ++ x.rest) d c.1 x.meets in
          record { rest = x.rest ++ y.rest; meets = subst (Meets r v) (all_in_turn f x.rest y.rest) y.meets };
      one = λ v f k w z e. h.one v f k w z (g.one v (take n f) (take n k) (h.down v f w) (h.down v k z) (fewer_taken f m n g.longer ∙ e ∙ sym (fewer_taken k m n g.longer)));
      made = λ front made. h.made front (g.made front made);
    }

-- the same condition in other words
pub spreads_where : (p q : State) (C D : terms.Values → Type 0) → Spreads p q C → ((v : terms.Values) → C v → D v) → ((v : terms.Values) → D v → C v) → Spreads p q D
spreads_where p q C D g to from = record {
  same = g.same;
  longer = g.longer;
  keeps = g.keeps;
  down = g.down;
  holds = λ v f d m. to v (g.holds v f d m);
  up = λ v f d c m. g.up v f d (from v c) m;
  one = g.one;
  made = g.made;
}

pub flattened_same : (s : State) → IsState s → Flattened s s
flattened_same s g = record { spreads = spreads_same s; state = g }

pub flattened_twice : (p q r : State) → Flattened p q → Flattened q r → Flattened p r
flattened_twice p q r g h = record {
  spreads = spreads_where p r (λ v. Always v × Always v) Always (spreads_twice p q r Always Always g.spreads h.spreads) (λ v c. tt) (λ v c. (tt, tt));
  state = h.state;
}

-- ---- an argument for a node that is no variable and no choice

-- the program grew, and `out` is the node in each of its solutions
pub record Stands (s : State) (q : Program) (id : ℕ) (out : Plain) : Type 1 where
  pub entry : Entry
  pub is : slice_get s.es id ≡ Some entry
  pub bound : is_free entry.node.kind ≡ false
  pub none : at s.args id ≡ None
  pub Can : terms.Values → Values → Type 0
  pub grows : (v : terms.Values) → Grows s.prog q (Can v)
  pub can : (v : terms.Values) (f : Values) → AreInDomains s.es v → Meets s v f → Can v f
  pub place : IsOver (length q.vars) out
  pub suits : Suits q.vars out (extent s.es id)
  pub value : (v : terms.Values) (f : Values) → AreInDomains s.es v → Meets s v (take (length s.prog.vars) f) → FlatSolves q f → term v s.es id ≡ Some (seen (plain_value f out))
  pub made : GoesOnMade s.prog q

no_values : terms.Values
no_values = record { number = λ i. pos 0; set = λ i. [] }

not_local : (k : NodeKind) → is_free k ≡ false → is_local k ≡ false
not_local kinds.Local h = absurd (cc)
not_local kinds.SetLocal h = absurd (cc)
not_local _ h = refl

pub same_entry : (es : List Entry) (i j : ℕ) (d e : Entry) → j ≡ i → slice_get es i ≡ Some e → slice_get es j ≡ Some d → d ≡ e
same_entry es i j d e p h k = let q : slice_get es j ≡ slice_get es i = ap (slice_get es) p in cc

not_both : {A : Type 0} (b : Bool) → b ≡ true → b ≡ false → A
not_both b h k = cc

module _ (s : State) (q : Program) (id : ℕ) (out : Plain) (g : IsState s) (h : Stands s q id out) where
  abbrev n : ℕ
  n = length s.prog.vars

  abbrev t : State
  t = with_arg s q id out

  longer : n ≤ length q.vars
  longer = (h.grows no_values).longer

  before : (v : terms.Values) (f : Values) → Meets t v f → Meets s v (take n f)
  before v f m = record {
    solves = (h.grows v).down f m.solves;
    linked = λ j d p k free l. m.linked j d p k free (put_keeps s.args id out j p h.none l) ∙ sym (plain_taken n f p (g.places j p l));
  }

  clash : {A : Type 0} (j : ℕ) (d : Entry) → j ≡ id → slice_get s.es j ≡ Some d → is_free d.node.kind ≡ true → A
  clash j d p k free = not_both (is_free h.entry.node.kind) (subst (λ (z : Entry). is_free z.node.kind ≡ true) (same_entry s.es id j d h.entry p h.is k) free) h.bound

  after : (v : terms.Values) (f : Values) → AreInDomains s.es v → Meets s v f → MeetsOn t v f
  after v f d m =
      let x = (h.grows v).up f m.solves (h.can v f d m) in
      record {
        rest = x.rest;
        meets = record {
          solves = x.solves;
          linked = λ j e p k free l. elim (put_was s.args id out j p l) [
            | inl old ↦ m.linked j e p k free old ∙ sym (plain_before f x.rest n (domains_length s.prog.vars f m.solves.domains) p (g.places j p old))
            | inr new ↦ clash j e new.place k free
          ];
        };
      }

  choices : given_choices s.es (put_at s.args id out) ≡ given_choices s.es s.args
  choices = no_choice_put s.es s.args id h.entry out h.is (not_local h.entry.node.kind h.bound)

  spreads : Spreads s t Always
  spreads = record {
    same = refl;
    longer = longer;
    keeps = λ j p k. put_keeps s.args id out j p h.none k;
    down = before;
    holds = λ v f d m. tt;
    up = λ v f d c m. after v f d m;
    one = λ v f k m w e. (h.grows v).one f k m.solves w.solves e;
    made = λ front made. subst (Made front q) (sym choices) (h.made front (given_choices s.es s.args) made);
  }

  state : IsState t
  state = record {
    arena = g.arena;
    places = λ j p l. elim (put_was s.args id out j p l) [
      | inl old ↦ over_more n (length q.vars) p longer (g.places j p old)
      | inr new ↦ subst (IsOver (length q.vars)) new.same h.place
    ];
    suits = λ j p l. elim (put_was s.args id out j p l) [
      | inl old ↦ suits_kept s.prog.vars q.vars (h.grows no_values).kept p (extent s.es j) (g.suits j p old)
      | inr new ↦ subst (λ i. Suits q.vars p (extent s.es i)) (sym new.place) (subst (λ r. Suits q.vars r (extent s.es id)) new.same h.suits)
    ];
    ranged = λ v f m j e d p k free a l. elim (put_was s.args id out j p l) [
      | inl old ↦ g.ranged v (take n f) (before v f m) j e d p k free a old
      | inr new ↦ clash j e new.place k free
    ];
    right = λ v f d m j p l. elim (put_was s.args id out j p l) [
      | inl old ↦ g.right v (take n f) d (before v f m) j p old ∙ ap (λ x. Some (seen x)) (plain_taken n f p (g.places j p old))
      | inr new ↦ ap (term v s.es) new.place ∙ h.value v f d (before v f m) m.solves ∙ ap (λ r. Some (seen (plain_value f r))) new.same
    ];
  }

  pub put_step : Flattened s t
  put_step = record { spreads = spreads; state = state }
