-- The values of binds as code has them.
use Rattle.std.specs.Prelude.{◌≡◌, Result, Ok, Err}
use Rattle.platform_errors.specs.declared.thrown.Thrown.{Thrown}
use Rattle.apex_meaning.specs.Queries.{Bound, Has, Throws}

-- they are given, or something is thrown in their place
abbrev pub bound_of : {A : Type 0} → Result A Thrown → Bound A
bound_of (Ok a) = Has a
bound_of (Err t) = Throws t
