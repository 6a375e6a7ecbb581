-- What the builder asks of each step.
use Rattle.std.proofs.Common.{◌≡◌, List, zero, suc, pos, [], ◌∷◌, Some, refl, sym, ap, subst, ◌∙◌, arith, codes}
use Rattle.std.specs.List.{Contains}
use Rattle.std.specs.Prelude.{IsSome as IsThere, is_some}
use Rattle.std.proofs.lemmas.Int.{ints}
use Rattle.mz_base.specs.Words.{is_keyword}
use Rattle.fz_program.specs.declared.program.Domain.{Domain}
use Rattle.fz_program.specs.declared.program.Domain.TheVariants.{Ints as Integers}
use Rattle.fz_program.specs.declared.row_name.RowName.TheVariants.{IntLe, IntTimes}
use Rattle.fz_program.specs.Arguments.{Argument}
use Rattle.fz_program.specs.Table.{line}
use Rattle.fz_program.specs.Flat.{are_arguments, is_argument, is_plain, is_constant, same_kind, kind_of_domain, place_count, is_within, IsSome, IsWellFormedRow, Variable, ArrayItem, Program}
use Rattle.fz_build.specs.Inputs.{is_sum}
use Rattle.fz_build.specs.Bounds.{AreInputs, result_domain, domain_by, form_of}
use Rattle.fz_build.specs.Build.{MayDeclare, MayAdd, constraint, empty}
use Rattle.fz_build.specs.Asked.{MayDefine}
use Rattle.mz_operations.specs.Bounds.{arith_ends}
use Rattle.mz_operations.specs.Sets.{end_of}
use Rattle.cases_flatten.specs.Steps.{factors, operands, with_order, with_x, with_xs, x, xs}

nothing_new : Contains [] (codes "x") → ⊥
nothing_new (k, p, q) = absurd (omega (arith, p))

other_name : Contains (codes "x" ∷ []) (codes "xs") → ⊥
other_name (zero, p, q) = absurd (cc)
other_name (suc k, p, q) = absurd (omega (arith, p))

x_fits : MayDeclare empty x
unfolding is_keyword
x_fits = record {
  variable = record { label = refl; marks = (λ o. (refl, refl), λ d. absurd (cc)); some = λ e. absurd (cc); of_set = ((omega (arith, ints), tt, tt), ((omega (arith, ints), omega (arith, ints)), (omega (arith, ints), omega (arith, ints)), tt)) };
  new = nothing_new;
  named = λ k e. absurd (cc);
}

pub may_declare : (p : Program) (v : Variable) → p ≡ empty → v ≡ x → MayDeclare p v
may_declare p v h e = subst (λ q. MayDeclare q v) (sym h) (subst (λ w. MayDeclare empty w) (sym e) x_fits)

xs_fit : MayAdd with_x xs
unfolding place_count kind_of_domain same_kind is_keyword
xs_fit = record {
  array = record { label = refl; index = refl; count = refl; alike = refl };
  new = other_name;
  named = λ k e. absurd (cc);
}

pub may_add : (p : Program) (a : ArrayItem) → p ≡ with_x → a ≡ xs → MayAdd p a
may_add p a h e = subst (λ q. MayAdd q a) (sym h) (subst (λ b. MayAdd with_x b) (sym e) xs_fit)

order_fits : IsWellFormedRow with_xs.vars (constraint IntLe operands)
unfolding are_arguments is_argument is_plain is_constant same_kind kind_of_domain line is_within
order_fits = record { args = refl; defines = refl; within = refl }

pub may_post : (p : Program) (args : List Argument) → p ≡ with_xs → args ≡ operands → IsWellFormedRow p.vars (constraint IntLe args)
may_post p args h e = subst (λ (q : Program). IsWellFormedRow q.vars (constraint IntLe args)) (sym h) (subst (λ a. IsWellFormedRow with_xs.vars (constraint IntLe a)) (sym e) order_fits)

factors_fit : AreInputs with_order.vars IntTimes factors
unfolding are_arguments is_argument is_plain is_constant same_kind kind_of_domain line is_sum
factors_fit = refl

pub may_ask : (p : Program) (args : List Argument) → p ≡ with_order → args ≡ factors → AreInputs p.vars IntTimes args
may_ask p args h e = subst (λ (q : Program). AreInputs q.vars IntTimes args) (sym h) (subst (λ a. AreInputs with_order.vars IntTimes a) (sym e) factors_fit)

square_is : result_domain with_order.vars IntTimes factors ≡ Some (Integers ((pos 1, pos 9) ∷ []))
unfolding domain_by form_of arith_ends end_of
square_is = refl

domain_is : (p : Program) (args : List Argument) → p ≡ with_order → args ≡ factors → result_domain p.vars IntTimes args ≡ Some (Integers ((pos 1, pos 9) ∷ []))
domain_is p args h e = ap (λ (q : Program). result_domain q.vars IntTimes args) h ∙ ap (λ a. result_domain with_order.vars IntTimes a) e ∙ square_is

pub has_domain : (p : Program) (args : List Argument) → p ≡ with_order → args ≡ factors → IsThere (result_domain p.vars IntTimes args)
has_domain p args h e = ap is_some (domain_is p args h e)

same_some : {a b : Domain} → Some a ≡ Some b → a ≡ b
same_some e = cc

square_fits : (d : Domain) → Integers ((pos 1, pos 9) ∷ []) ≡ d → IsSome d → MayDefine with_order IntTimes factors d
unfolding are_arguments is_argument is_plain is_constant same_kind kind_of_domain line is_sum is_within
square_fits d same s = subst (λ e. IsSome e → MayDefine with_order IntTimes factors e) same (λ i. record {
  result = refl;
  over = (omega arith, (omega arith, tt));
  some = i;
  row = record { args = refl; defines = refl; within = refl };
}) s

pub may_define : (p : Program) (args : List Argument) (d : Domain) → p ≡ with_order → args ≡ factors → IsSome d → result_domain p.vars IntTimes args ≡ Some d → MayDefine p IntTimes args d
may_define p args d h e s k =
    let fits : MayDefine with_order IntTimes factors d = square_fits d (same_some (sym (domain_is p args h e) ∙ k)) s in
    subst (λ q. MayDefine q IntTimes args d) (sym h) (subst (λ a. MayDefine with_order IntTimes a d) (sym e) fits)
