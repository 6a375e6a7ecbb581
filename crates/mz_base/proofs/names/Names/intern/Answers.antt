use Rattle.std.proofs.Common.{◌≡◌, map, length, ◌<◌, sym, ap, subst, ◌∙◌}
use Rattle.std.specs.String.{string_bytes}
use Rattle.std.proofs.lemmas.Slice.Eq.{bytes_eq-Decides}
use Rattle.mz_base.specs.Names.{text_of, with_text, AreDistinct, Grows}
use Rattle.mz_base.proofs.Tables.{Stands, found, kept, put, distinct_with, grows_with, seen_at}
use Rattle.mz_base.proofs.names.Names.intern.Goals as goal

stands : (c : goal.In-Some) → Stands c.args.self.now c.in-Some.index c.args.text.now
stands c = subst (λ ts. Stands ts c.in-Some.index c.args.text.now) c.self.view_is (found string_bytes c.self.inside.texts.keys c.args.text.now c.in-Some.index (sym c.in-Some.ensures.index))

pub returns-in-Some-clause-named : goal.returns-in-Some-clause-named
returns-in-Some-clause-named c = (stands c).there

pub returns-in-Some-clause-within : goal.returns-in-Some-clause-within
returns-in-Some-clause-within c = (stands c).below

pub returns-in-Some-clause-texts : goal.returns-in-Some-clause-texts
returns-in-Some-clause-texts c = kept c.args.self.now c.in-Some.index c.args.text.now (stands c)

pub invariant_of-self-2 : goal.invariant_of-self-2
invariant_of-self-2 c =
    let own : string_bytes c.in_ok-own.own ≡ c.args.text.now = c.in_ok-own.ensures.ok in
    subst AreDistinct (sym (ap (map string_bytes) c.in_ok-index.ensures.keys ∙ put string_bytes c.self.inside.texts.keys c.in_ok-own.own))
    (distinct_with _ _ c.self.invariant)

placed : (c : goal.In_ok-index) → (c.in_ok-index.index < length (map string_bytes c.insert_full.new.self.keys)) × (text_of (map string_bytes c.insert_full.new.self.keys) c.in_ok-index.index ≡ c.args.text.now)
placed c =
    let own : string_bytes c.in_ok-own.own ≡ c.args.text.now = c.in_ok-own.ensures.ok in
    let s = c.in_ok-index.ensures.stored in
    let same : string_bytes c.in_ok-own.own ≡ string_bytes s.0 = (bytes_eq-Decides (string_bytes c.in_ok-own.own) (string_bytes s.0)).0 s.2 in
    seen_at string_bytes c.insert_full.new.self.keys c.in_ok-index.index s.0 c.args.text.now s.1 (sym own ∙ same)

pub returns-clause-named : goal.returns-clause-named
returns-clause-named c = (placed c).1

pub returns-clause-within : goal.returns-clause-within
returns-clause-within c = (placed c).0

next_texts : (c : goal.In_ok-index) → map string_bytes c.insert_full.new.self.keys ≡ with_text c.args.self.now c.args.text.now
next_texts c =
    let own : string_bytes c.in_ok-own.own ≡ c.args.text.now = c.in_ok-own.ensures.ok in
    ap (map string_bytes) c.in_ok-index.ensures.keys ∙ put string_bytes c.self.inside.texts.keys c.in_ok-own.own
    ∙ ap (λ ts. with_text ts (string_bytes c.in_ok-own.own)) c.self.view_is ∙ ap (with_text c.args.self.now) own

pub returns-clause-texts : goal.returns-clause-texts
returns-clause-texts c = next_texts c

pub returns-clause-distinct : goal.returns-clause-distinct
returns-clause-distinct c =
    subst AreDistinct (sym (ap (map string_bytes) c.in_ok-index.ensures.keys ∙ put string_bytes c.self.inside.texts.keys c.in_ok-own.own))
    (distinct_with _ _ c.self.invariant)

pub returns-clause-grows : goal.returns-clause-grows
returns-clause-grows c = subst (Grows c.args.self.now) (sym (next_texts c)) (grows_with c.args.self.now c.args.text.now)
