use Rattle.std.proofs.Common.{◌≡◌, ◌∷◌, [], ◌∙◌, ap, sym, subst, map, List, ℕ}
use Rattle.std.specs.Prelude.{All}
use Rattle.mz_base.specs.declared.fault.Span.{Span}
use Rattle.mz_include.specs.declared.queue.Mention.{Mention as CodeMention}
use Rattle.mz_include.specs.Naming.{Mention}
use Rattle.mz_include.specs.Views.{with_code_mention, mention, IsKnown}
use Rattle.mz_include.proofs.Noting.{known_with}
use Rattle.std.proofs.lemmas.List.Elements.{All-nil}
use Rattle.mz_include.proofs.gathering.begin.Goals as goal

alone : (m : CodeMention) (q : List CodeMention) (qs : List CodeMention) → q ≡ [] → qs ≡ with_code_mention q m → qs ≡ m ∷ []
unfolding with_code_mention
alone m q qs none put = put ∙ ap (λ p. with_code_mention p m) none

pub returns-clause-named : goal.returns-clause-named
returns-clause-named c =
    let new = c.intern.new.self in
    let m : CodeMention = record { name = c.in_ok-name.name; span = c.start.result; owner = c.in_ok-name.name } in
    ap (map (mention new)) (alone m c.new-queue.result c.add.new.self c.new-queue.ensures c.in_ok-add.ensures.added)
    ∙ ap (λ (t : List ℕ). let v : Mention = record { name = t; span = c.start.result; owner = t } in v ∷ []) c.in_ok-name.ensures.named
    ∙ ap (λ (s : Span). let v : Mention = record { name = c.args.first.now; span = s; owner = c.args.first.now } in v ∷ []) c.start.ensures

pub returns-clause-known : goal.returns-clause-known
returns-clause-known c =
    let new = c.intern.new.self in
    let m : CodeMention = record { name = c.in_ok-name.name; span = c.start.result; owner = c.in_ok-name.name } in
    subst (λ q. All (IsKnown new) q) (sym (c.in_ok-add.ensures.added ∙ ap (λ q. with_code_mention q m) c.new-queue.ensures))
    (known_with new [] m (All-nil (IsKnown new)) (record { name = c.in_ok-name.ensures.within; owner = c.in_ok-name.ensures.within }))
