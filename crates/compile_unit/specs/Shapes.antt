-- The code of a class in two halves: what its ancestors and interfaces make of it, and its bodies.
use Rattle.std.specs.Prelude.{ℕ, ◌+◌, ◌*◌, map}
use Rattle.apex_meaning.specs.Classes.{chain, instance_fields, width}
use Rattle.stack_code.specs.Code.{constructor_code, fields_code, statics_code}
use Rattle.stack_code.specs.Images.{body_code, code, fits_of, row_for}
use Rattle.compile_unit.specs.declared.classes.Bodies.{Bodies}
use Rattle.compile_unit.specs.declared.classes.Shape.{Shape}
use Rattle.typed_program.specs.declared.program.Program.{Program}
use Rattle.typed_program.specs.declared.unit.TypedClass.{TypedClass}
use Rattle.typed_program.specs.declared.unit.TypedConstructor.{TypedConstructor}

module _ (program : Program) where
  abbrev pub shape_of : ℕ → Shape
  shape_of c = record {
    chain = chain program c;
    fits = fits_of program (chain program c);
    width = width program (chain program c);
    units = 32 + 16 * instance_fields program (chain program c);
    table = map (row_for program (chain program c)) (fits_of program (chain program c));
  }

  abbrev pub bodies_of : ℕ → TypedClass → Bodies
  bodies_of c k = record {
    field_values = code (fields_code program c 0 k.fields);
    static_values = code (statics_code program c 0 k.fields);
    methods = map (body_code program) k.methods;
    constructors = map (λ (m : TypedConstructor). code (constructor_code program c m)) k.constructors;
  }
