-- Classes, codes and messages of what the platform throws and of what it finds wrong with a record (docs/language.md, "Exceptions"; docs/platform.md, "Errors of records").
use Rattle.std.specs.Prelude.{ℕ, ℤ, List, ◌++◌, codes}
use Rattle.std.specs.Fmt.{signed_decimal}
use Rattle.apex_num.specs.Ids.{long_id}
use Rattle.apex_requests.specs.declared.request.Op.{Op}
use Rattle.apex_requests.specs.declared.request.Op.TheVariants as Op'
use Rattle.builtin_table.specs.Answers.{message_of, divide_by_zero, out_of_range, null_object, out_of_bounds, invalid_id, invalid_number, invalid_date, invalid_conversion}
use Rattle.builtin_table.specs.declared.exception.ExceptionClass.{ExceptionClass}
use Rattle.builtin_table.specs.declared.exception.ExceptionClass.TheVariants as Class
use Rattle.platform_errors.specs.declared.record.RecordError.{RecordError}
use Rattle.platform_errors.specs.declared.record.RecordError.TheVariants as Error
use Rattle.platform_errors.specs.declared.thrown.Thrown.{Thrown}
use Rattle.platform_errors.specs.declared.thrown.Thrown.TheVariants as Throws

-- ---- errors of records

abbrev pub code : RecordError → List ℕ
code Error.IdInInsert = codes "INVALID_FIELD_FOR_INSERT_UPDATE"
code Error.NoId = codes "MISSING_ARGUMENT"
code Error.NoSuchRow = codes "ENTITY_IS_DELETED"
code Error.NoAccess = codes "INSUFFICIENT_ACCESS_OR_READONLY"
code (Error.NoReference field) = codes "INVALID_CROSS_REFERENCE_KEY"
code (Error.CannotChange field) = codes "FIELD_INTEGRITY_EXCEPTION"
code (Error.RollupOutOfRange field) = codes "FIELD_INTEGRITY_EXCEPTION"
code (Error.Required field) = codes "REQUIRED_FIELD_MISSING"
code (Error.TooLong field) = codes "STRING_TOO_LONG"
code Error.BadLevel = codes "INVALID_OR_NULL_FOR_RESTRICTED_PICKLIST"
code (Error.Custom message) = codes "FIELD_CUSTOM_VALIDATION_EXCEPTION"
code Error.Referenced = codes "DELETE_FAILED"
code (Error.InTrigger trigger class message) = codes "CANNOT_INSERT_UPDATE_ACTIVATE_ENTITY"
code Error.TooManyRetries = codes "TOO_MANY_RETRIES"

abbrev pub error_message : RecordError → List ℕ
error_message Error.IdInInsert = codes "cannot specify Id in an insert"
error_message Error.NoId = codes "Id not specified"
error_message Error.NoSuchRow = codes "no such row"
error_message Error.NoAccess = codes "insufficient access"
error_message (Error.NoReference field) = codes "no such row: " ++ field
error_message (Error.CannotChange field) = codes "cannot change: " ++ field
error_message (Error.RollupOutOfRange field) = codes "out of range: " ++ field
error_message (Error.Required field) = codes "required: " ++ field
error_message (Error.TooLong field) = codes "too long: " ++ field
error_message Error.BadLevel = codes "bad value: Level"
error_message (Error.Custom message) = message
error_message Error.Referenced = codes "row is referenced"
error_message (Error.InTrigger trigger class message) = trigger ++ (codes ": " ++ (class ++ (codes ": " ++ message)))
error_message Error.TooManyRetries = codes "too many retries"

-- ---- exceptions

abbrev pub class : Thrown → ExceptionClass
class Throws.DivideByZero = Class.Math
class Throws.OutOfRange = Class.Math
class Throws.NullObject = Class.NullPointer
class (Throws.OutOfBounds n) = Class.List
class (Throws.DuplicateId id) = Class.List
class Throws.DuplicateRecord = Class.List
class Throws.NoRows = Class.Query
class Throws.ManyRows = Class.Query
class Throws.InvalidLimit = Class.Query
class (Throws.NotQueried object field) = Class.SObject
class Throws.ReadOnly = Class.Final
class Throws.NoErrors = Class.Final
class (Throws.InvalidId text) = Class.String
class Throws.Position = Class.String
class (Throws.InvalidNumber text) = Class.Type
class Throws.InvalidDate = Class.Type
class Throws.InvalidConversion = Class.Type
class Throws.InvalidSavepoint = Class.Type
class (Throws.Dml op row error) = Class.Dml
class (Throws.Builtin kind text) = kind

abbrev pub op_name : Op → List ℕ
op_name Op'.Insert = codes "Insert"
op_name Op'.Update = codes "Update"
op_name Op'.Delete = codes "Delete"
op_name Op'.Upsert = codes "Upsert"

abbrev pub not_queried : List ℕ → List ℕ → List ℕ
not_queried object field = codes "SObject row was retrieved via SOQL without querying the requested field: " ++ (object ++ (codes "." ++ field))

-- the first record that failed, by its place from 0, and its error
abbrev pub at_row : ℤ → RecordError → List ℕ
at_row row error = signed_decimal row ++ (codes "; first error: " ++ (code error ++ (codes ", " ++ error_message error)))

abbrev pub failed : Op → ℤ → RecordError → List ℕ
failed op row error = op_name op ++ (codes " failed. First exception on row " ++ at_row row error)

abbrev pub message : Thrown → List ℕ
message Throws.DivideByZero = message_of divide_by_zero
message Throws.OutOfRange = message_of out_of_range
message Throws.NullObject = message_of null_object
message (Throws.OutOfBounds n) = codes "List index out of bounds: " ++ signed_decimal n
message (Throws.DuplicateId id) = codes "Duplicate id in list: " ++ long_id id
message Throws.DuplicateRecord = codes "Duplicate record in list"
message Throws.NoRows = codes "List has no rows for assignment to SObject"
message Throws.ManyRows = codes "List has more than 1 row for assignment to SObject"
message Throws.InvalidLimit = codes "Invalid limit"
message (Throws.NotQueried object field) = not_queried object field
message Throws.ReadOnly = codes "Record is read-only"
message Throws.NoErrors = codes "SObject row does not allow errors"
message (Throws.InvalidId text) = message_of (invalid_id text)
message Throws.Position = message_of out_of_bounds
message (Throws.InvalidNumber text) = message_of (invalid_number text)
message Throws.InvalidDate = message_of invalid_date
message Throws.InvalidConversion = message_of invalid_conversion
message Throws.InvalidSavepoint = codes "Invalid savepoint"
message (Throws.Dml op row error) = failed op row error
message (Throws.Builtin kind text) = text
