-- One more variable, of which no row speaks, and one more row.
use Rattle.std.proofs.Common.{◌≡◌, ℕ, [], ◌∷◌, ◌++◌, length, take, slice_index_or, refl, sym, ap, ap₂, subst, ◌∙◌}
use Rattle.std.specs.Prelude.{pos}
use Rattle.std.specs.List.{AllByRecursion}
use Rattle.std.proofs.lemmas.List.{take_at, length_push}
use Rattle.fz_program.specs.Arguments.{var, one}
use Rattle.fz_program.specs.Values.{Value, Values, number}
use Rattle.fz_program.specs.Flat.{Variable, Row, Program, RowHolds, IsInDomain, FlatSolves, IsWellFormedRow}
use Rattle.fz_build.specs.Build.{with_variable, with_row}
use Rattle.fz_build.specs.Growth.{Declares, Posts, value_of}
use Rattle.fz_build.proofs.Lists.{get_last, get_more, at_last, each_push, each_before, each_last}
use Rattle.fz_build.proofs.Values.{split, rows_before, rows_after, domains_length, domains_push}

-- ---- a variable

-- the value of the variable that stands after n others
pub value_after : (f : Values) (x : Value) (n : ℕ) → length f ≡ n → value_of (f ++ x ∷ []) (one (var n)) ≡ x
value_after f x n l = ap (λ k. slice_index_or (f ++ x ∷ []) k (number (pos 0))) (sym l) ∙ at_last f x (number (pos 0))

-- a solution is one of the old program, and a value for the variable
pub record IsWithLast (p : Program) (v : Variable) (f : Values) : Type 0 where
  pub prefix : Values
  pub last : Value
  pub is : prefix ++ last ∷ [] ≡ f
  pub as_many : length prefix ≡ length p.vars
  pub solves : FlatSolves p prefix
  pub inside : IsInDomain v.domain last

module _ (p : Program) (v : Variable) (w : AllByRecursion (IsWellFormedRow p.vars) p.rows) where
  pub with_last : (f : Values) → FlatSolves (with_variable p v) f → IsWithLast p v f
  with_last f s =
      let t = split p.vars v f s.domains in
      let l = domains_length p.vars t.prefix t.domains in
      let rows = subst (λ g. AllByRecursion (RowHolds g) p.rows) (sym t.is) s.rows in
      record {
        prefix = t.prefix;
        last = t.last;
        is = t.is;
        as_many = l;
        solves = record { domains = t.domains; rows = rows_before p.vars t.prefix (t.last ∷ []) l p.rows w rows };
        inside = t.inside;
      }

  pub prefix_is : (f : Values) (q : IsWithLast p v f) → take (length p.vars) f ≡ q.prefix
  prefix_is f q = ap (take (length p.vars)) (sym q.is) ∙ take_at q.prefix (q.last ∷ []) (length p.vars) q.as_many

  last_is : (f : Values) (q : IsWithLast p v f) → value_of f (one (var (length p.vars))) ≡ q.last
  last_is f q = ap (λ g. value_of g (one (var (length p.vars)))) (sym q.is) ∙ value_after q.prefix q.last (length p.vars) q.as_many

  down : (f : Values) → FlatSolves (with_variable p v) f → FlatSolves p (take (length p.vars) f)
  down f s = let q = with_last f s in subst (FlatSolves p) (sym (prefix_is f q)) q.solves

  inside : (f : Values) → FlatSolves (with_variable p v) f → IsInDomain v.domain (value_of f (one (var (length p.vars))))
  inside f s = let q = with_last f s in subst (IsInDomain v.domain) (sym (last_is f q)) q.inside

  up : (f : Values) (x : Value) → FlatSolves p f → IsInDomain v.domain x → FlatSolves (with_variable p v) (f ++ x ∷ [])
  up f x s i = record {
    domains = domains_push p.vars v f x s.domains i;
    rows = rows_after p.vars f (x ∷ []) (domains_length p.vars f s.domains) p.rows w s.rows;
  }

  only : (f g : Values) → FlatSolves (with_variable p v) f → FlatSolves (with_variable p v) g → take (length p.vars) f ≡ take (length p.vars) g → value_of f (one (var (length p.vars))) ≡ value_of g (one (var (length p.vars))) → f ≡ g
  only f g s t e h =
      let q = with_last f s in
      let r = with_last g t in
      let same : q.prefix ≡ r.prefix = sym (prefix_is f q) ∙ e ∙ prefix_is g r in
      let last : q.last ≡ r.last = sym (last_is f q) ∙ h ∙ last_is g r in
      sym q.is ∙ ap₂ (λ h x. h ++ x ∷ []) same last ∙ r.is

  pub declared : Declares p (with_variable p v) v.domain (one (var (length p.vars)))
  declared = record {
    count = length_push p.vars v;
    kept = get_more p.vars (v ∷ []);
    typed = record { place = length p.vars; found = v; is = refl; stands = get_last p.vars v; same = refl };
    down = down;
    inside = inside;
    up = up;
    last = λ f x s. value_after f x (length p.vars) (domains_length p.vars f s.domains);
    one = only;
  }

-- ---- a row

pub posted : (p : Program) (r : Row) → Posts p (with_row p r) r
posted p r = record {
  same = refl;
  down = λ f s. record { domains = s.domains; rows = each_before (RowHolds f) p.rows r s.rows };
  holds = λ f s. each_last (RowHolds f) p.rows r s.rows;
  up = λ f s h. record { domains = s.domains; rows = each_push (RowHolds f) p.rows r s.rows h };
}
