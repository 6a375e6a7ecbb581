use Rattle.std.proofs.Common.{sym, subst}
use Rattle.mz_include.specs.Parsing.{IsUnparsed}
use Rattle.mz_include.specs.Sources.{Fails, missing, too_long, unparsed}
use Rattle.mz_include.specs.Views.{mention}
use Rattle.mz_include.proofs.FaultKinds.{unparsed_kind, text_counted}
use Rattle.mz_include.proofs.Fetches.{text_fetched, is_missing, is_long}
use Rattle.mz_include.proofs.read.read_file.Goals as goal

pub returns-in-Err-Refused-clause-refused : goal.returns-in-Err-Refused-clause-refused
returns-in-Err-Refused-clause-refused g c =
    let texts = g.F.Files.texts c.args.files.now in
    let m = mention c.args.names.now c.args.named in
    subst (Fails c.parse.new.names texts c.args.turn m c.in-Err-Refused.fault) (sym (c.in-Err-Refused.ensures.grows c.args.named.name c.requires.name).1)
    (unparsed c.in-Bytes.text.items (text_fetched texts m.name c.text.result.now c.in-Bytes.text c.text.ensures c.in-Bytes.ensures.told c.in-Bytes.ensures.within) (subst (λ t. IsUnparsed c.parse.new.names c.args.turn t c.in-Err-Refused.fault) c.as_slice.ensures.value (rw c.in-Err-Refused.field-0-is at c.in-Err-Refused.ensures.refused)))

pub returns-in-Err-Refused-clause-counted : goal.returns-in-Err-Refused-clause-counted
returns-in-Err-Refused-clause-counted g c = text_counted c.in-Err-Refused.fault.kind _ _ (unparsed_kind (rw c.in-Err-Refused.field-0-is at c.in-Err-Refused.ensures.refused)) c.in-Bytes.ensures.counted

pub returns-in-Missing-clause-refused : goal.returns-in-Missing-clause-refused
returns-in-Missing-clause-refused g c =
    let texts = g.F.Files.texts c.args.files.now in
    let m = mention c.args.names.now c.args.named in
    rw c.refused.ensures (missing (is_missing texts m.name c.text.result.now c.text.ensures c.in-Missing.ensures.told))

pub returns-in-TooLong-clause-refused : goal.returns-in-TooLong-clause-refused
returns-in-TooLong-clause-refused g c =
    let texts = g.F.Files.texts c.args.files.now in
    let m = mention c.args.names.now c.args.named in
    rw c.refused-in-TooLong.ensures (too_long (is_long texts m.name c.text.result.now c.text.ensures c.in-TooLong.ensures.told))
