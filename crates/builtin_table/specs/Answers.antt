-- Answers of methods, and the exceptions that they throw (docs/language.md, "Built-in methods").
use Rattle.std.specs.Prelude.{◌≡◌, List, [], ◌++◌, ℕ, codes, Result, Ok, Err, ⊤}
use Rattle.apex_num.specs.declared.cell.Cell.{Cell}
use Rattle.builtin_table.specs.declared.exception.ExceptionClass.{ExceptionClass}
use Rattle.builtin_table.specs.declared.exception.ExceptionClass.TheVariants as Class
use Rattle.builtin_table.specs.declared.exception.BuiltinEnd.{BuiltinEnd}
use Rattle.builtin_table.specs.declared.exception.BuiltinEnd.TheVariants as End

abbrev pub class_name : ExceptionClass → List ℕ
class_name Class.Math = codes "MathException"
class_name Class.NullPointer = codes "NullPointerException"
class_name Class.List = codes "ListException"
class_name Class.Query = codes "QueryException"
class_name Class.SObject = codes "SObjectException"
class_name Class.Final = codes "FinalException"
class_name Class.String = codes "StringException"
class_name Class.Type = codes "TypeException"
class_name Class.Dml = codes "DmlException"
class_name Class.Limit = codes "LimitException"
class_name Class.Assert = codes "AssertException"

-- what a method gives, or the exception that it throws
pub data Answer : Type 0 where
  Gives : Cell → Answer
  Throws : ExceptionClass → List ℕ → Answer

-- the end of a call that answers so; want of memory is free
abbrev pub Fails : Answer → BuiltinEnd → Type 0
Fails a (End.Throw class message) = a ≡ Throws class message
Fails a End.NoMemory = ⊤

-- a call answers so
abbrev pub Answers : Answer → Result Cell BuiltinEnd → Type 0
Answers a (Ok c) = a ≡ Gives c
Answers a (Err end) = Fails a end

-- the message of what is thrown
abbrev pub message_of : Answer → List ℕ
message_of (Throws class message) = message
message_of (Gives c) = []

-- ---- what is thrown

abbrev pub divide_by_zero : Answer
divide_by_zero = Throws Class.Math (codes "Divide by 0")

abbrev pub out_of_range : Answer
out_of_range = Throws Class.Math (codes "Out of range")

abbrev pub null_object : Answer
null_object = Throws Class.NullPointer (codes "Attempt to de-reference a null object")

abbrev pub out_of_bounds : Answer
out_of_bounds = Throws Class.String (codes "Position out of bounds")

abbrev pub invalid_id : List ℕ → Answer
invalid_id text = Throws Class.String (codes "Invalid id: " ++ text)

abbrev pub invalid_number : List ℕ → Answer
invalid_number text = Throws Class.Type (codes "Invalid number: " ++ text)

abbrev pub invalid_date : Answer
invalid_date = Throws Class.Type (codes "Invalid date")

-- arguments that aren't of the method's types; checked code hands in none
abbrev pub invalid_conversion : Answer
invalid_conversion = Throws Class.Type (codes "Invalid conversion")
