use Rattle.std.proofs.Common.{◌≡◌, ◌∙◌, sym, ap, false}
use Rattle.mz_base.specs.Names.{text_of}
use Rattle.mz_include.specs.declared.queue.Mention.{Mention as CodeMention}
use Rattle.mz_include.specs.Joining.{joined}
use Rattle.mz_include.specs.Library.{is_library}
use Rattle.std.proofs.lemmas.Result.{on_ok_weaker}
use Rattle.mz_include.proofs.Noting.{noted, known_put}
use Rattle.mz_include.proofs.included.note_name.Goals as goal

pub returns-clause-noted : goal.returns-clause-noted
returns-clause-noted c =
    let old = c.args.names.now in
    let m : CodeMention = record { name = c.in_ok-name.name; span = c.args.span; owner = c.args.owner } in
    let fetched : is_library (text_of old c.args.written) ≡ false = ap is_library (sym c.text.ensures) ∙ sym c.is_library.ensures ∙ c.if-is_library.false in
    let named : text_of c.intern.new.self c.in_ok-name.name ≡ joined (text_of old c.args.owner) (text_of old c.args.written) =
    c.in_ok-name.ensures.named ∙ c.as_str.ensures.value ∙ c.in_ok-path.ensures ∙ ap (λ t. joined t c.text-3.result.now) c.text-2.ensures ∙ ap (joined (text_of old c.args.owner)) c.text-3.ensures in
    rw fetched (on_ok_weaker c.add.result (noted old c.intern.new.self c.args.queue.now c.add.new.self m _ c.in_ok-name.ensures.grows c.in_ok-name.ensures.distinct c.requires.known c.in_ok-name.ensures.within c.requires.owner named) c.add.ensures.added)

pub returns-clause-known : goal.returns-clause-known
returns-clause-known c =
    let m : CodeMention = record { name = c.in_ok-name.name; span = c.args.span; owner = c.args.owner } in
    on_ok_weaker c.add.result (known_put c.args.names.now c.intern.new.self c.args.queue.now c.add.new.self m c.in_ok-name.ensures.grows c.requires.known c.in_ok-name.ensures.within c.requires.owner) c.add.ensures.added
