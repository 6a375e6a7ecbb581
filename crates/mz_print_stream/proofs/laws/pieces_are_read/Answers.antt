use Rattle.mz_print_stream.proofs.Feeding.{begun, piece_fed, end_told, one_given, more_needed, cut_there, complete_there, bad_there_read}
use Rattle.mz_print_stream.proofs.laws.pieces_are_read.Goals as goal

pub returns : goal.returns
returns c = record {
  begun = begun;
  fed = piece_fed;
  last = end_told;
  given = one_given;
  needed = more_needed;
  cut = cut_there;
  complete = complete_there;
  bad = bad_there_read;
}
