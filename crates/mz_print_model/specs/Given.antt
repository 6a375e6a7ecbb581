-- What walks over a model and what prints texts, given on beside what prints the model's solutions.
pub use Rattle.mz_model.specs.Ending.{ModelEnds}
pub use Rattle.mz_model.specs.Walks.{Ends}
pub use Rattle.mz_print.specs.Items.{text_of}
pub use Rattle.mz_print.specs.Output.{OutputItem, OutputName, joined_items, output_item, text_by, variable_slots}
unfoldable pub use Rattle.mz_print.specs.Output.{assigned, output_env, output_text}
pub use Rattle.mz_print.specs.Printers.{IsTaken, limits_of, solution_texts, texts_of}
