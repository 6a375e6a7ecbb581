-- What a row gives, and a node that it stands for.
use Rattle.std.proofs.Common.{◌≡◌, ℕ, List, length, map, Option, Some, None, IsSome, inl, inr, refl, sym, ap, subst, ◌∙◌}
use Rattle.std.specs.Prelude.{Result, Ok, Err, IfOk, OnOk}
use Rattle.mz_arena.specs.declared.node.NodeKind.{NodeKind}
use Rattle.mz_arena.specs.Values as terms
use Rattle.mz_arena.specs.Extents.{Known}
use Rattle.fz_program.specs.declared.program.Domain.{Domain}
use Rattle.fz_program.specs.declared.row_name.RowName.{RowName}
use Rattle.fz_program.specs.Arguments.{Plain, Argument, one, array, plain_of}
use Rattle.fz_program.specs.Values.{Value, Values}
use Rattle.fz_program.specs.Flat.{Variable, Program, FlatSolves, AreInDomains, IsSome as HasSome, argument_value}
use Rattle.fz_build.specs.Results.{result_given}
use Rattle.fz_build.specs.Bounds.{result_domain, HoldsResults}
use Rattle.fz_build.specs.Build.{IsOver, IsArgumentOver}
use Rattle.fz_build.specs.Asked.{MayDefine}
use Rattle.fz_build.specs.Growth.{Grows, HasDomain, HasResult, Defines, IsAdded}
use Rattle.fz_build.specs.History.{Made, adds_defined}
use Rattle.fz_build.proofs.Definable.{may_define}
use Rattle.flat_reif_rows.specs.Standing.{seen_maybe, Suits, AllSuit, extent_over, term_over}
use Rattle.flat_reif_rows.specs.Making.{MayGive, GivesSome, GoesOnMade, Gives, AreOperands, HasValue, Makes}
use Rattle.flat_reif_rows.proofs.Keeping.{all_kept}

-- ---- one row

same_domain : (d e : Domain) → Some d ≡ Some e → d ≡ e
same_domain d e h = cc

pub may_define_by : (p : Program) (name : RowName) (inputs : List Argument) (d : Domain) → MayGive p name inputs → result_domain p.vars name inputs ≡ Some d → HasSome d → MayDefine p name inputs d
may_define_by p name inputs d m is some =
    let e : m.domain ≡ d = same_domain m.domain d (sym m.is ∙ is) in
    subst (MayDefine p name inputs) e (may_define p name inputs m.domain m.are m.is (subst HasSome (sym e) some) m.within)

-- a condition that implies another
pub grows_where : (old new : Program) (C D : Values → Type 0) → Grows old new C → ((f : Values) → FlatSolves old f → D f → C f) → Grows old new D
grows_where old new C D g h = record { longer = g.longer; kept = g.kept; down = g.down; up = λ f s d. g.up f s (h f s d); one = g.one }

made_on : (old new : Program) (name : RowName) (inputs : List Argument) (d : Domain) → MayDefine old name inputs d → IsAdded old new name inputs d → GoesOnMade old new
made_on old new name inputs d m a front n made = elim a [
  | inl same ↦ subst (λ p. Made front p n) (sym same) made
  | inr more ↦ subst (λ p. Made front p n) (sym more) (adds_defined old n name inputs d made m)
]

over : (n : ℕ) (a : Argument) → IsArgumentOver n a → IsOver n (plain_of a)
over n (one p) h = h
over n (array ps) h = tt

pub gives_by : (old new : Program) (name : RowName) (inputs : List Argument) (d : Domain) (out : Argument) → MayDefine old name inputs d → result_domain old.vars name inputs ≡ Some d → HasSome d → HoldsResults old.vars name inputs d → IsAdded old new name inputs d → Defines old new name inputs d out → Gives old new name inputs (plain_of out)
gives_by old new name inputs d out m is some holds added g = record {
  domain = d;
  is = is;
  some = some;
  typed = g.typed;
  grows = grows_where old new (HasResult name inputs d) (GivesSome name inputs) g.grows (λ f s h. record { result = h.result; is = h.is; inside = holds f h.result s.domains h.is });
  place = over (length new.vars) out g.place;
  value = g.value;
  made = made_on old new name inputs d m added;
}

-- ---- a row that fits a node

-- what a row gives of the children's arguments is the node over them, where `Can` holds of the variables
pub record RowFits (k : NodeKind) (name : RowName) (ps : List Plain) (inputs : List Argument) (Can : List Variable → Type 0) : Type 0 where
  pub may : (p : Program) → Can p.vars → (xs : List Known) → AllSuit p.vars ps xs → IsSome (extent_over k xs) → MayGive p name inputs
  pub suits : (vs ws : List Variable) → Can vs → (xs : List Known) (d : Domain) (out : Plain) → AllSuit vs ps xs → IsSome (extent_over k xs) → result_domain vs name inputs ≡ Some d → HasSome d → HasDomain ws out d → Suits ws out (extent_over k xs)
  pub same : (vs : List Variable) (xs : List Known) → AllSuit vs ps xs → IsSome (extent_over k xs) → (v : terms.Values) (f : Values) → AreInDomains vs f → term_over v k ps f ≡ seen_maybe (result_given name (map (argument_value f) inputs))

abbrev pub Always : List Variable → Type 0
Always vs = Unit {0}

pub result_there : (name : RowName) (inputs : List Argument) (f : Values) (o : Option Value) (r : terms.Val) → result_given name (map (argument_value f) inputs) ≡ o → seen_maybe o ≡ Some r → GivesSome name inputs f
result_there name inputs f None r e h = absurd (cc)
result_there name inputs f (Some x) r e h = record { result = x; is = e }

pub makes_by : (old new : Program) (k : NodeKind) (name : RowName) (ps : List Plain) (inputs : List Argument) (out : Plain) (Can : List Variable → Type 0) → RowFits k name ps inputs Can → Can old.vars → AreOperands old.vars k ps → Gives old new name inputs out → Makes old new k ps out
makes_by old new k name ps inputs out Can fits can are g = record {
  grows = λ v. grows_where old new (GivesSome name inputs) (HasValue v k ps) g.grows
      (λ f s h. result_there name inputs f (result_given name (map (argument_value f) inputs)) h.result refl (sym (fits.same old.vars are.bounds are.suit are.known v f s.domains) ∙ h.is));
  place = g.place;
  suits = λ bounds suit known. fits.suits old.vars new.vars can bounds g.domain out suit known g.is g.some g.typed;
  value = λ v f s. fits.same new.vars are.bounds (all_kept old.vars new.vars g.grows.kept ps are.bounds are.suit) are.known v f s.domains ∙ ap seen_maybe (g.value f s);
  made = g.made;
}

-- what two clauses of one result give together
pub if_ok_both : {X Y : Type 0} (r : Result X Y) (Q : Type 0) (P R : X → Type 0) → (Q → (x : X) → P x → R x) → OnOk r Q → IfOk r P → IfOk r R
if_ok_both (Ok x) Q P R f q p = f q x p
if_ok_both (Err e) Q P R f q p = tt
