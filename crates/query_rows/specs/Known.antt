-- Rows that are known, by their Ids (docs/platform.md, "Queries").
use Rattle.std.specs.Prelude.{◌≡◌, ℕ, List, [], ◌∷◌}
use Rattle.apex_rows.specs.declared.row.Row.{Row}

-- each row stands under its own Id
abbrev pub AllFit : List (List ℕ × Row) → Type 0
AllFit [] = Unit {0}
AllFit (e ∷ es) = (e.1.id ≡ e.0) × AllFit es
