use Rattle.std.proofs.Common.{ap, ◌∙◌, []}
use Rattle.std.specs.Prelude.{unwrap_or}
use Rattle.std.proofs.lemmas.Result.{IfOk-weaker}
use Rattle.clap.specs.Matches.{found_of}
use Rattle.clap.proofs.WalkLemmas.{raw_values-rows}
use Rattle.mz_words.proofs.command.reading.texts_of.Goals as goal

pub returns-in-Some : goal.returns-in-Some
returns-in-Some c =
    let read = c.in-Some.ensures ∙ raw_values-rows (found_of c.args.matches.now) c.args.name.now in
    IfOk-weaker c.copied.result _ _ (λ list same. rw same (ap (λ o. unwrap_or o []) read)) c.copied.ensures

pub returns-in-None : goal.returns-in-None
returns-in-None c =
    let read = c.in-None.ensures ∙ raw_values-rows (found_of c.args.matches.now) c.args.name.now in
    rw c.new.ensures.items (ap (λ o. unwrap_or o []) read)
