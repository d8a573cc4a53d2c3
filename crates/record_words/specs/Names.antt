-- The names of a schema's objects and of their fields, without case.
use Rattle.std.specs.Prelude.{ℕ, List, map}
use Rattle.schema_names.specs.declared.places.Places.{Places}
use Rattle.apex_schema.specs.declared.schema.Object.{Object}
use Rattle.apex_text.specs.Fold.{folded}
use Rattle.formula_rules.specs.Grammar.{field_names}

abbrev pub object_names : List Object → List (List ℕ)
object_names objects = map (λ (o : Object). folded o.name) objects

abbrev pub all_field_names : List Object → List (List (List ℕ))
all_field_names objects = map (λ (o : Object). field_names o.fields) objects

abbrev pub names_in : Places → List (List ℕ)
names_in p = p.names.items
