use Rattle.std.proofs.Common.{◌≡◌, Some, refl, subst}
use Rattle.mz_words.specs.Found.{text_of}
use Rattle.mz_words.specs.Requests.{asked, request_of}
use Rattle.mz_tool.proofs.Endings.{failed_fetch, failed_put, failed_take, nothing_counted, nothing_printed, on_check, on_make, read_fault, unless_any}
use Rattle.mz_tool.proofs.top_call.run.Goals as goal

pub returns-in-Ok-clause-headline : goal.returns-in-Ok-clause-headline
returns-in-Ok-clause-headline g c =
    let word : asked (text_of c.args.words.now.items) ≡ Some (request_of c.in-Ok.request) = subst (λ ws. asked (text_of ws) ≡ Some (request_of c.in-Ok.request)) c.as_slice.ensures.value c.in-Ok.ensures.value in
    rw word c.answer.ensures.headline

pub returns-in-Ok-clause-printed : goal.returns-in-Ok-clause-printed
returns-in-Ok-clause-printed g c =
    let word : asked (text_of c.args.words.now.items) ≡ Some (request_of c.in-Ok.request) = subst (λ ws. asked (text_of ws) ≡ Some (request_of c.in-Ok.request)) c.as_slice.ensures.value c.in-Ok.ensures.value in
    rw word c.answer.ensures.printed

pub returns-in-Ok-clause-usage : goal.returns-in-Ok-clause-usage
returns-in-Ok-clause-usage g c =
    let word : asked (text_of c.args.words.now.items) ≡ Some (request_of c.in-Ok.request) = subst (λ ws. asked (text_of ws) ≡ Some (request_of c.in-Ok.request)) c.as_slice.ensures.value c.in-Ok.ensures.value in
    rw word c.answer.ensures.usage

pub returns-in-Ok-clause-refused : goal.returns-in-Ok-clause-refused
returns-in-Ok-clause-refused g c =
    let word : asked (text_of c.args.words.now.items) ≡ Some (request_of c.in-Ok.request) = subst (λ ws. asked (text_of ws) ≡ Some (request_of c.in-Ok.request)) c.as_slice.ensures.value c.in-Ok.ensures.value in
    rw word c.answer.ensures.refused

pub returns-in-Ok-clause-counted : goal.returns-in-Ok-clause-counted
returns-in-Ok-clause-counted g c =
    let word : asked (text_of c.args.words.now.items) ≡ Some (request_of c.in-Ok.request) = subst (λ ws. asked (text_of ws) ≡ Some (request_of c.in-Ok.request)) c.as_slice.ensures.value c.in-Ok.ensures.value in
    rw word c.answer.ensures.counted

pub returns-in-Ok-clause-complete : goal.returns-in-Ok-clause-complete
returns-in-Ok-clause-complete g c =
    let word : asked (text_of c.args.words.now.items) ≡ Some (request_of c.in-Ok.request) = subst (λ ws. asked (text_of ws) ≡ Some (request_of c.in-Ok.request)) c.as_slice.ensures.value c.in-Ok.ensures.value in
    rw word c.answer.ensures.complete

pub returns-in-Ok-clause-cut_short : goal.returns-in-Ok-clause-cut_short
returns-in-Ok-clause-cut_short g c =
    let word : asked (text_of c.args.words.now.items) ≡ Some (request_of c.in-Ok.request) = subst (λ ws. asked (text_of ws) ≡ Some (request_of c.in-Ok.request)) c.as_slice.ensures.value c.in-Ok.ensures.value in
    rw word c.answer.ensures.cut_short

pub returns-in-Ok-clause-untouched : goal.returns-in-Ok-clause-untouched
returns-in-Ok-clause-untouched g c =
    let word : asked (text_of c.args.words.now.items) ≡ Some (request_of c.in-Ok.request) = subst (λ ws. asked (text_of ws) ≡ Some (request_of c.in-Ok.request)) c.as_slice.ensures.value c.in-Ok.ensures.value in
    rw word c.answer.ensures.untouched

pub returns-in-Ok-clause-silent : goal.returns-in-Ok-clause-silent
returns-in-Ok-clause-silent g c =
    let word : asked (text_of c.args.words.now.items) ≡ Some (request_of c.in-Ok.request) = subst (λ ws. asked (text_of ws) ≡ Some (request_of c.in-Ok.request)) c.as_slice.ensures.value c.in-Ok.ensures.value in
    rw word c.answer.ensures.silent

pub returns-in-Ok-clause-input : goal.returns-in-Ok-clause-input
returns-in-Ok-clause-input g c =
    let word : asked (text_of c.args.words.now.items) ≡ Some (request_of c.in-Ok.request) = subst (λ ws. asked (text_of ws) ≡ Some (request_of c.in-Ok.request)) c.as_slice.ensures.value c.in-Ok.ensures.value in
    rw word c.answer.ensures.input

pub returns-in-Ok-clause-quiet : goal.returns-in-Ok-clause-quiet
returns-in-Ok-clause-quiet g c =
    let word : asked (text_of c.args.words.now.items) ≡ Some (request_of c.in-Ok.request) = subst (λ ws. asked (text_of ws) ≡ Some (request_of c.in-Ok.request)) c.as_slice.ensures.value c.in-Ok.ensures.value in
    rw word c.answer.ensures.quiet

pub returns-in-Ok-clause-notes : goal.returns-in-Ok-clause-notes
returns-in-Ok-clause-notes g c =
    let word : asked (text_of c.args.words.now.items) ≡ Some (request_of c.in-Ok.request) = subst (λ ws. asked (text_of ws) ≡ Some (request_of c.in-Ok.request)) c.as_slice.ensures.value c.in-Ok.ensures.value in
    rw word c.answer.ensures.notes

pub returns-in-Ok-clause-failed_fetch : goal.returns-in-Ok-clause-failed_fetch
returns-in-Ok-clause-failed_fetch g c = failed_fetch (Some (request_of c.in-Ok.request)) _ _ _ _ c.answer.result c.answer.ensures.counted

pub returns-in-Ok-clause-failed_take : goal.returns-in-Ok-clause-failed_take
returns-in-Ok-clause-failed_take g c = failed_take (Some (request_of c.in-Ok.request)) _ _ _ _ c.answer.result c.answer.ensures.counted

pub returns-in-Ok-clause-read_fault : goal.returns-in-Ok-clause-read_fault
returns-in-Ok-clause-read_fault g c = read_fault (Some (request_of c.in-Ok.request)) _ _ _ _ c.answer.result c.answer.ensures.counted

pub returns-in-Ok-clause-failed_put : goal.returns-in-Ok-clause-failed_put
returns-in-Ok-clause-failed_put g c = failed_put _ _ c.answer.result c.answer.ensures.counted_out

pub returns-in-Err-Memory-clause-headline : goal.returns-in-Err-Memory-clause-headline
returns-in-Err-Memory-clause-headline g c = unless_any (asked (text_of c.args.words.now.items)) tt

pub returns-in-Err-Memory-clause-printed : goal.returns-in-Err-Memory-clause-printed
returns-in-Err-Memory-clause-printed g c = nothing_printed (asked (text_of c.args.words.now.items)) _ _ _

pub returns-in-Err-Memory-clause-counted : goal.returns-in-Err-Memory-clause-counted
returns-in-Err-Memory-clause-counted g c = nothing_counted (asked (text_of c.args.words.now.items)) _ _

pub returns-in-Err-Memory-clause-cut_short : goal.returns-in-Err-Memory-clause-cut_short
returns-in-Err-Memory-clause-cut_short g c = unless_any (asked (text_of c.args.words.now.items)) tt

pub returns-in-Err-Memory-clause-untouched : goal.returns-in-Err-Memory-clause-untouched
returns-in-Err-Memory-clause-untouched g c = unless_any (asked (text_of c.args.words.now.items)) refl

pub returns-in-Err-Memory-clause-input : goal.returns-in-Err-Memory-clause-input
returns-in-Err-Memory-clause-input g c = unless_any (asked (text_of c.args.words.now.items)) refl

pub returns-in-Err-Memory-clause-silent : goal.returns-in-Err-Memory-clause-silent
returns-in-Err-Memory-clause-silent g c = on_check (asked (text_of c.args.words.now.items)) refl

pub returns-in-Err-Memory-clause-quiet : goal.returns-in-Err-Memory-clause-quiet
returns-in-Err-Memory-clause-quiet g c = on_make (asked (text_of c.args.words.now.items)) refl
