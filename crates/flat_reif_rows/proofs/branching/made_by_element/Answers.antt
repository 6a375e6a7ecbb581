use Rattle.std.proofs.Common.{◌∷◌, [], ap, pos, subst, sym}
use Rattle.mz_arena.specs.declared.node.NodeKind.TheVariants.{Add}
use Rattle.mz_arena.specs.Values as terms
use Rattle.fz_program.specs.Arguments.{int, plain, plain_of}
use Rattle.fz_build.proofs.Lists.{if_ok_weaker}
use Rattle.flat_reif_rows.specs.Making.{AreOperands, Makes}
use Rattle.flat_reif_rows.specs.Elements.{AreAccessed, MakesAccess}
use Rattle.flat_reif_rows.proofs.BranchRows.{condition_operands, place_operands, accessed, branch_made}
use Rattle.flat_reif_rows.proofs.branching.made_by_element.Goals as goal

-- no term here reads a variable of the arena
abbrev any : terms.Values
any = record { number = λ i. pos 0; set = λ i. [] }

pub made_of_one-requires-clause-operands : goal.made_of_one-requires-clause-operands
made_of_one-requires-clause-operands c =
    let p = c.args.build.now in
    condition_operands p p p (plain c.args.c) (plain c.args.y) (plain c.args.z) (plain c.args.c) (plain c.args.c) c.args.name c.requires

pub made_of_sum-requires : goal.made_of_sum-requires
made_of_sum-requires c =
    let q = c.made_of_one.new.build in
    let t = plain c.in-Ok.x in
    subst (λ k. AreOperands q.vars Add (t ∷ k ∷ [])) (sym (ap plain_of c.one_argument.ensures)) (place_operands c.args.build.now q q (plain c.args.c) (plain c.args.y) (plain c.args.z) t t c.args.name c.requires c.in-Ok.ensures.makes)

pub made_of_access-requires : goal.made_of_access-requires
made_of_access-requires c =
    let q = c.made_of_one.new.build in
    let r = c.made_of_sum.new.build in
    let t = plain c.in-Ok.x in
    let i = plain c.in-Ok-made_of_sum.x in
    let n : Makes q r Add (t ∷ int (pos 1) ∷ []) i = subst (λ k. Makes q r Add (t ∷ k ∷ []) i) (ap plain_of c.one_argument.ensures) c.in-Ok-made_of_sum.ensures.makes in
    subst (AreAccessed r.vars c.args.name i) (sym c.in-Ok-listed.ensures) (accessed c.args.build.now q r (plain c.args.c) (plain c.args.y) (plain c.args.z) t i c.args.name c.requires c.in-Ok.ensures.makes n any)

pub returns : goal.returns
returns c =
    let q = c.made_of_one.new.build in
    let r = c.made_of_sum.new.build in
    let new = c.made_of_access.new.build in
    let t = plain c.in-Ok.x in
    let i = plain c.in-Ok-made_of_sum.x in
    let n : Makes q r Add (t ∷ int (pos 1) ∷ []) i = subst (λ k. Makes q r Add (t ∷ k ∷ []) i) (ap plain_of c.one_argument.ensures) c.in-Ok-made_of_sum.ensures.makes in
    record {
      makes = if_ok_weaker c.made_of_access.result _ _ (λ out a.
          branch_made c.args.build.now q r (plain c.args.c) (plain c.args.y) (plain c.args.z) t i c.args.name c.requires c.in-Ok.ensures.makes n any new (plain out)
          (subst (λ items. MakesAccess r new c.args.name i items (plain out)) c.in-Ok-listed.ensures a)) c.made_of_access.ensures.makes;
    }
