use Rattle.std.proofs.Common.{◌≡◌, ◌++◌, ◌∷◌, [], not, ◌∙◌, sym, ap, Bor, List, ℕ, Bool, true, false, map, cond, refl}
use Rattle.std.specs.List.{list_any}
use Rattle.std.specs.Str.{bytes_eq}
use Rattle.std.proofs.lemmas.List.{map_push}
use Rattle.fz_text_read.proofs.Mapped.{list_any-map}
use Rattle.fz_text_read.proofs.name_table.NameTable.declare.Goals as goal

chosen : (b : Bool) (xs : List (Bor (List ℕ))) (x : Bor (List ℕ)) → map (λ (y : Bor (List ℕ)). y.now) (cond b xs (xs ++ x ∷ [])) ≡ cond b (map (λ (y : Bor (List ℕ)). y.now) xs) (map (λ (y : Bor (List ℕ)). y.now) xs ++ x.now ∷ [])
chosen true xs x = refl
chosen false xs x = map_push _ xs x

pub returns-clause-new : goal.returns-clause-new
returns-clause-new c = c.in_ok-new.ensures.added ∙ ap not (sym (list_any-map (bytes_eq c.args.name.now) (λ (b : Bor (List ℕ)). b.now) c.self.inside.names.keys) ∙ ap (list_any (bytes_eq c.args.name.now)) c.self.view_is)

pub returns-clause-names : goal.returns-clause-names
returns-clause-names c =
    let old = c.self.inside.names.keys in
    let found : list_any (bytes_eq c.args.name.now) (map (λ (b : Bor (List ℕ)). b.now) old) ≡ list_any (λ (b : Bor (List ℕ)). bytes_eq c.args.name.now b.now) old = list_any-map (bytes_eq c.args.name.now) (λ (b : Bor (List ℕ)). b.now) old in
    rw (c.in_ok-new.ensures.keys, ← c.self.view_is) (rw found (chosen (list_any (λ (b : Bor (List ℕ)). bytes_eq c.args.name.now b.now) old) old c.args.name))
