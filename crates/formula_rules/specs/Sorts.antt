-- The types of terms.
use Rattle.std.specs.Prelude.{Option, option_map}
use Rattle.schema_plans.specs.Formulas as types
use Rattle.formula_rules.specs.declared.types.Sort.{Sort}

abbrev pub shows : Sort → types.Sort
shows Sort.Number = types.number
shows Sort.Text = types.text
shows Sort.Truth = types.truth
shows Sort.Id = types.id
shows Sort.Day = types.day
shows Sort.Moment = types.moment

abbrev pub all_shows : Option Sort → Option types.Sort
all_shows sort = option_map shows sort
