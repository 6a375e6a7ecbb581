use Rattle.std.proofs.Common.{subst}
use Rattle.mz_base.specs.Names.{text_of}
use Rattle.mz_include.proofs.FaultKinds.{text_counted}
use Rattle.mz_include.proofs.Fetches.{text_fetched, is_missing, is_long}
use Rattle.mz_include.specs.DataTexts.{IsUnfitText}
use Rattle.mz_include.specs.DataFiles.{missing, too_long, unfit}
use Rattle.mz_include.proofs.Refusals.{unfit_kind}
use Rattle.mz_include.proofs.with_data.read.read_data_file.Goals as goal

pub returns-in-Err-Refused-clause-refused : goal.returns-in-Err-Refused-clause-refused
returns-in-Err-Refused-clause-refused g c =
    let texts = g.F.Files.texts c.args.files.now in
    unfit c.in-Bytes.text.items (text_fetched texts (text_of c.args.names.now c.args.name) c.text.result.now c.in-Bytes.text c.text.ensures c.in-Bytes.ensures.told c.in-Bytes.ensures.within)
    (subst (λ t. IsUnfitText c.parse.new.names c.args.turn t c.in-Err-Refused.fault) c.as_slice.ensures.value (rw c.in-Err-Refused.field-0-is at c.in-Err-Refused.ensures.refused))

pub returns-in-Err-Refused-clause-counted : goal.returns-in-Err-Refused-clause-counted
returns-in-Err-Refused-clause-counted g c =
    text_counted c.in-Err-Refused.fault.kind _ _ (unfit_kind c.parse.new.names c.args.turn c.as_slice.result.now c.in-Err-Refused.fault (rw c.in-Err-Refused.field-0-is at c.in-Err-Refused.ensures.refused)) c.in-Bytes.ensures.counted

pub returns-in-Missing-clause-refused : goal.returns-in-Missing-clause-refused
returns-in-Missing-clause-refused g c =
    let texts = g.F.Files.texts c.args.files.now in
    rw c.refused.ensures (missing (is_missing texts (text_of c.args.names.now c.args.name) c.text.result.now c.text.ensures c.in-Missing.ensures.told))

pub returns-in-TooLong-clause-refused : goal.returns-in-TooLong-clause-refused
returns-in-TooLong-clause-refused g c =
    let texts = g.F.Files.texts c.args.files.now in
    rw c.refused-in-TooLong.ensures (too_long (is_long texts (text_of c.args.names.now c.args.name) c.text.result.now c.text.ensures c.in-TooLong.ensures.told))
