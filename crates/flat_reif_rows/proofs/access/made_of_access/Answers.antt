use Rattle.std.proofs.Common.{◌≡◌, Bool, ap, map, subst, sym, ◌∙◌}
use Rattle.std.specs.List.{list_all}
use Rattle.fz_program.specs.Arguments.{argument, plain, plains}
use Rattle.fz_build.proofs.Lists.{if_ok_weaker}
use Rattle.flat_reif_rows.specs.Elements.{element_inputs, is_fixed, chosen_row}
use Rattle.flat_reif_rows.specs.Making.{MayGive, Gives}
use Rattle.flat_reif_rows.proofs.FixedRows.{same_test}
use Rattle.flat_reif_rows.proofs.Accessed.{access_may, access_makes}
use Rattle.flat_reif_rows.proofs.access.made_of_access.Goals as goal

pub defined-requires : goal.defined-requires
defined-requires c =
    let items = c.args.items.items in
    let fixed : Bool = list_all (λ a. is_fixed (plain a)) items in
    let row : c.chosen_row-row.result ≡ chosen_row fixed c.args.name = c.chosen_row-row.ensures ∙ ap (λ xs. chosen_row (list_all (λ a. is_fixed (plain a)) xs) c.args.name) c.as_slice.ensures.value in
    let same : map argument c.deref.result.now ≡ element_inputs (argument c.args.index) (plains items) = ap (map argument) c.deref.ensures.value ∙ c.in-Ok.ensures in
    subst (λ r. MayGive c.args.build.now r (map argument c.deref.result.now)) (sym row)
    (subst (MayGive c.args.build.now (chosen_row fixed c.args.name)) (sym same)
    (access_may c.args.name (argument c.args.index) (plains items) fixed c.args.build.now (sym (same_test items)) c.requires))

pub returns-clause-makes : goal.returns-clause-makes
returns-clause-makes c =
    let items = c.args.items.items in
    let fixed : Bool = list_all (λ a. is_fixed (plain a)) items in
    let row : c.chosen_row-row.result ≡ chosen_row fixed c.args.name = c.chosen_row-row.ensures ∙ ap (λ xs. chosen_row (list_all (λ a. is_fixed (plain a)) xs) c.args.name) c.as_slice.ensures.value in
    let same : map argument c.deref.result.now ≡ element_inputs (argument c.args.index) (plains items) = ap (map argument) c.deref.ensures.value ∙ c.in-Ok.ensures in
    if_ok_weaker c.defined.result _ _ (λ out g. access_makes c.args.name (argument c.args.index) (plains items) fixed c.args.build.now c.defined.new.build (argument out) c.requires
    (subst (λ is. Gives c.args.build.now c.defined.new.build (chosen_row fixed c.args.name) is (plain out)) same
    (subst (λ r. Gives c.args.build.now c.defined.new.build r (map argument c.deref.result.now) (plain out)) row g))) c.defined.ensures.gives
