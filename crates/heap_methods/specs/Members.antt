-- Whether a test comes out as asked. Only private functions cite this word.
use Rattle.std.specs.Prelude.{Bool, true, false, not}

abbrev pub agrees : Bool → Bool → Bool
agrees true b = b
agrees false b = not b
