use Rattle.std.proofs.Common.{◌≡◌, Some, length, ◌<◌, sym, ap, subst, ◌∙◌}
use Rattle.std.specs.String.{string_bytes}
use Rattle.mz_base.specs.Names.{AreDistinct, text_of}
use Rattle.mz_base.proofs.Tables.{Stands, found, lacks}
use Rattle.mz_base.proofs.names.Names.find.Goals as goal

pub returns-in_err-index-clause-every : goal.returns-in_err-index-clause-every
returns-in_err-index-clause-every c n below there = absurd (lacks string_bytes c.self.inside.texts.keys c.args.text.now n (sym c.in_err-index.ensures.found)
    (subst (λ ts. n < length ts) (sym c.self.view_is) below) (subst (λ ts. text_of ts n ≡ c.args.text.now) (sym c.self.view_is) there))

stands : (c : goal.In_ok-index) → Stands c.args.self.now c.in_ok-index.index c.args.text.now
stands c = subst (λ ts. Stands ts c.in_ok-index.index c.args.text.now) c.self.view_is (found string_bytes c.self.inside.texts.keys c.args.text.now c.in_ok-index.index (sym c.in_ok-index.ensures.index))

pub returns-clause-named : goal.returns-clause-named
returns-clause-named c = ((stands c).below, (stands c).there)

pub returns-clause-every : goal.returns-clause-every
returns-clause-every c n below there = let s = stands c in
    let same : c.in_ok-index.index ≡ n = subst AreDistinct c.self.view_is c.self.invariant c.in_ok-index.index n s.below below (s.there ∙ sym there) in
    ap Some same
