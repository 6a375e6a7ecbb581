-- Arguments stay what they are where more variables stand behind the old ones.
use Rattle.std.proofs.Common.{◌≡◌, ◌≤ℤ◌, ℕ, List, [], ◌∷◌, true, Option, Some, None, slice_get, refl, sym, ap, subst, ◌∙◌}
use Rattle.mz_value.specs.Ranges.{Range}
use Rattle.mz_interval.specs.Ends.{Ends, if_interval}
use Rattle.mz_operations.specs.Laws.{IsSet, IsPart}
use Rattle.mz_arena.specs.Extents.{Known, whole, truth, subset, wholes, truths, subsets, empty}
use Rattle.fz_program.specs.declared.row_name.Kind.{Kind}
use Rattle.fz_program.specs.declared.row_name.Kind.TheVariants.{Int, Bool as Truth, Set}
use Rattle.fz_program.specs.Arguments.{Plain, bool, int, set, var, nested}
use Rattle.fz_program.specs.Flat.{Variable, is_kind, is_plain}
use Rattle.fz_build.specs.Bounds.{ends_of, upper_of, variable_ends, variable_upper}
use Rattle.fz_build.specs.Growth.{AreKept}
use Rattle.flat_reif_rows.specs.Standing.{LiesWithin, IsPartOf, Suits, AllSuit}

module _ (vs ws : List Variable) (kept : AreKept vs ws) where
  found : (k : ℕ) (kind : Kind) (o : Option Variable) → slice_get vs k ≡ o → is_kind o kind ≡ true → slice_get ws k ≡ o
  found k kind None e h = absurd (cc)
  found k kind (Some v) e h = kept k v e

  same_place : (k : ℕ) (kind : Kind) → is_kind (slice_get vs k) kind ≡ true → slice_get ws k ≡ slice_get vs k
  same_place k kind h = found k kind (slice_get vs k) refl h

  pub plain_kept : (kind : Kind) (p : Plain) → is_plain vs kind p ≡ true → is_plain ws kind p ≡ true
  unfolding is_plain
  plain_kept kind (var k) h = ap (λ o. is_kind o kind) (same_place k kind h) ∙ h
  plain_kept kind (bool b) h = h
  plain_kept kind (int n) h = h
  plain_kept kind (set s) h = h
  plain_kept kind nested h = h

  pub ends_kept : (kind : Kind) (p : Plain) → is_plain vs kind p ≡ true → ends_of ws p ≡ ends_of vs p
  unfolding is_plain
  ends_kept kind (var k) h = ap variable_ends (same_place k kind h)
  ends_kept kind (bool b) h = refl
  ends_kept kind (int n) h = refl
  ends_kept kind (set s) h = refl
  ends_kept kind nested h = refl

  pub upper_kept : (kind : Kind) (p : Plain) → is_plain vs kind p ≡ true → upper_of ws p ≡ upper_of vs p
  unfolding is_plain
  upper_kept kind (var k) h = ap variable_upper (same_place k kind h)
  upper_kept kind (bool b) h = refl
  upper_kept kind (int n) h = refl
  upper_kept kind (set s) h = refl
  upper_kept kind nested h = refl

  within_kept : (kind : Kind) (p : Plain) (e : Ends) → LiesWithin kind vs p e → LiesWithin kind ws p e
  within_kept kind p e l =
      let same = sym (ends_kept kind p l.sort) in
      record {
        sort = plain_kept kind p l.sort;
        interval = subst (λ (g : Ends). if_interval g ≡ Some g) same l.interval;
        from = subst (λ (g : Ends). e.0 ≤ℤ g.0) same l.from;
        to = subst (λ (g : Ends). g.1 ≤ℤ e.1) same l.to;
      }

  part_kept : (p : Plain) (u : List Range) → IsPartOf vs p u → IsPartOf ws p u
  part_kept p u l =
      let same = sym (upper_kept Set p l.sort) in
      record { sort = plain_kept Set p l.sort; own = subst IsSet same l.own; upper = l.upper; part = subst (λ g. IsPart g u) same l.part }

  pub suits_kept : (p : Plain) (x : Known) → Suits vs p x → Suits ws p x
  suits_kept p None h = h
  suits_kept p (Some (whole e)) h = within_kept Int p e h
  suits_kept p (Some (truth e)) h = within_kept Truth p e h
  suits_kept p (Some (subset u)) h = part_kept p u h
  suits_kept p (Some (wholes es)) h = h
  suits_kept p (Some truths) h = h
  suits_kept p (Some (subsets us)) h = h
  suits_kept p (Some empty) h = h

  pub all_kept : (ps : List Plain) (xs : List Known) → AllSuit vs ps xs → AllSuit ws ps xs
  all_kept [] [] h = tt
  all_kept [] (x ∷ xs) h = h
  all_kept (p ∷ ps) [] h = h
  all_kept (p ∷ ps) (x ∷ xs) h = (suits_kept p x h.0, all_kept ps xs h.1)
