-- The code's arguments as an index and the elements of a list.
use Rattle.std.specs.List.{list_all}
use Rattle.std.proofs.Common.{◌≡◌, Bool, List, map, Some, refl, sym, ap, subst, ◌∙◌}
use Rattle.mz_arena.specs.Extents.{whole}
use Rattle.fz_program.specs.declared.row_name.RowName.{RowName}
use Rattle.fz_program.specs.Arguments.{Plain, Argument, one, plain_of}
use Rattle.fz_program.specs.Flat.{Program, argument_value}
use Rattle.fz_build.specs.Results.{result_given}
use Rattle.flat_reif_rows.specs.Standing.{seen_maybe}
use Rattle.flat_reif_rows.specs.Elements.{AreAccessed, element_inputs, HasElement, MakesAccess, is_fixed, chosen_row}
use Rattle.flat_reif_rows.specs.Making.{MayGive, GivesSome, Gives}
use Rattle.flat_reif_rows.proofs.Given.{grows_where, result_there}
use Rattle.flat_reif_rows.proofs.Operands.{single}
use Rattle.flat_reif_rows.proofs.FixedRows.{chosen_may, chosen_gives}
use Rattle.flat_reif_rows.proofs.AccessRows.{AccessFits, access_fits}

module _ (name : RowName) (x : Argument) (ps : List Plain) where
  fits : (p : Program) → AreAccessed p.vars name (plain_of x) ps → AccessFits p name (plain_of x) ps
  fits p a = access_fits p (plain_of x) ps a.reaches a.index a.inside name a.list a.elements a.row

  alone : (p : Program) → AreAccessed p.vars name (plain_of x) ps → x ≡ one (plain_of x)
  alone p a = single p.vars x (Some (whole a.index)) a.inside

  pub access_may : (b : Bool) (p : Program) → list_all is_fixed ps ≡ b → AreAccessed p.vars name (plain_of x) ps → MayGive p (chosen_row b name) (element_inputs x ps)
  access_may b p h a = subst (λ z. MayGive p (chosen_row b name) (element_inputs z ps)) (sym (alone p a)) (chosen_may b p (plain_of x) ps a.index a.list name a.inside h a.elements a.row (fits p a).may)

  pub access_makes : (b : Bool) (old new : Program) (out : Argument) → AreAccessed old.vars name (plain_of x) ps → Gives old new (chosen_row b name) (element_inputs x ps) (plain_of out) → MakesAccess old new name (plain_of x) ps (plain_of out)
  access_makes b old new out a g =
      let fit = fits old a in
      let inputs = element_inputs (one (plain_of x)) ps in
      let given = subst (λ z. Gives old new name (element_inputs z ps) (plain_of out)) (alone old a) (chosen_gives b old new name (element_inputs x ps) (plain_of out) g) in
      record {
        grows = λ v. grows_where old new (GivesSome name inputs) (HasElement v (plain_of x) ps) given.grows
            (λ f s h. result_there name inputs f (result_given name (map (argument_value f) inputs)) h.result refl (sym (fit.same old.vars (λ k w z. z) v f s.domains) ∙ h.is));
        place = given.place;
        suits = λ e list l elements row. fit.suits new.vars e list l elements row given.domain (plain_of out) given.is given.some given.typed;
        value = λ v f s. fit.same new.vars given.grows.kept v f s.domains ∙ ap seen_maybe (given.value f s);
        made = given.made;
      }
