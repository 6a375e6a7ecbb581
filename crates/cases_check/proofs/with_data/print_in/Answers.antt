use Rattle.mz_include.proofs.KnownFiles.{files_known_later}
use Rattle.cases_check.proofs.with_data.print_in.Goals as goal

pub print_model-requires : goal.print_model-requires
print_model-requires c = record {
  known = files_known_later c.args.names.now c.all_data.new.names c.all_data.ensures.grows c.args.sources.now.files.items c.requires;
  within = c.in-Ok.ensures.named;
}
